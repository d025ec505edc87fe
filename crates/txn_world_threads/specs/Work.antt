-- What a worker hears of its events.
use Rattle.std.specs.Prelude.{ℕ, Option, Some, None}
use Rattle.txn_history.specs.declared.event.PlainAnswer.TheVariants as plain
use Rattle.txn_history.specs.declared.event.Answer.{Answer}
use Rattle.txn_history.specs.declared.event.Answer.TheVariants as answers
use Rattle.txn_history.specs.Trace.{Told}
use Rattle.txn_history.specs.declared.event.ToldOf.TheVariants as told
use Rattle.txn_world_threads.specs.declared.caller.Heard.{Heard}
use Rattle.txn_world_threads.specs.declared.caller.Heard.TheVariants.{Goes, Ended}

module _ {T : Type 0} where
  -- The base that a call's answer gives for a write: the id that a read found, or that it found none.
  -- Another answer gives none.
  abbrev pub base_read : Answer T → Option (Option ℕ)
  base_read (answers.Plain (plain.Read None)) = Some None
  base_read (answers.Plain (plain.Read (Some found))) = Some (Some found.0)
  base_read (answers.Plain (plain.Wrote id)) = None
  base_read (answers.Plain (plain.Value found)) = None
  base_read (answers.Plain (plain.Ids ids)) = None
  base_read (answers.Plain plain.Done) = None
  base_read (answers.Plain (plain.Refused number)) = None
  base_read (answers.View view id value) = None
  base_read (answers.Held view id value epoch) = None

  -- Whether the operation goes on or has ended, and with which base. What is told of no answer gives none: a worker makes no event that tells it.
  abbrev pub heard_of : Told T → Heard
  heard_of (told.Began op) = Goes op
  heard_of (told.Went op) = Goes op
  heard_of (told.Answered op answer) = Ended (base_read answer)
  heard_of (told.GaveUp op) = Ended None
  heard_of (told.Landed k changed) = Ended None
  heard_of (told.Crashed client) = Ended None
