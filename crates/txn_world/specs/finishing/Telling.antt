-- What an event told, where it told an answer.
use Rattle.std.specs.Prelude.{Option, Some, None}
use Rattle.txn_history.specs.declared.event.Answer.{Answer}
use Rattle.txn_history.specs.declared.event.ToldOf.TheVariants as told
use Rattle.txn_history.specs.Trace.{Told}

module _ {T : Type 0} where
  abbrev pub answer_told : Told T → Option (Answer T)
  answer_told (told.Answered op answer) = Some answer
  answer_told (told.Began op) = None
  answer_told (told.Went op) = None
  answer_told (told.GaveUp op) = None
  answer_told (told.Landed k changed) = None
  answer_told (told.Crashed client) = None
