-- What follows of one history of plain calls.
use Rattle.std.specs.Prelude.{ℕ, Option, Some, None}
use Rattle.txn_history.specs.declared.event.PlainCall.{PlainCall}
use Rattle.txn_history.specs.declared.event.PlainCall.TheVariants as calls
use Rattle.txn_history.specs.declared.event.PlainAnswer.{PlainAnswer}
use Rattle.txn_history.specs.declared.event.PlainAnswer.TheVariants as answers

-- the id that a checked write answers as its own
abbrev pub id_entered : {T : Type 0} → PlainCall T → PlainAnswer T → Option ℕ
id_entered (calls.Write base value) (answers.Wrote id) = Some id
id_entered call answer = None
