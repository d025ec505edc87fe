-- What an answer gives, by the kind of its call.
use Rattle.std.specs.Prelude.{◌≡◌, ℕ, List, Option, Some, None, Result, Ok, Err}
use Rattle.txn_history.specs.declared.event.PlainAnswer.TheVariants as plain
use Rattle.txn_history.specs.declared.event.Answer.{Answer}
use Rattle.txn_history.specs.declared.event.Answer.TheVariants as answers
use Rattle.txnobj.specs.declared.answers.Viewed.{Viewed}
use Rattle.txnobj.specs.declared.answers.Held.{Held}

module _ {T : Type 0} where
  -- the newest version, or that there is none
  abbrev pub read_in : Answer T → Option (Option (ℕ × T))
  read_in (answers.Plain (plain.Read found)) = Some found
  read_in _ = None

  -- the id of what was written
  abbrev pub wrote_in : Answer T → Option ℕ
  wrote_in (answers.Plain (plain.Wrote id)) = Some id
  wrote_in _ = None

  -- the value of a version, or that there is none
  abbrev pub value_in : Answer T → Option (Option T)
  value_in (answers.Plain (plain.Value value)) = Some value
  value_in _ = None

  abbrev pub ids_in : Answer T → Option (List ℕ)
  ids_in (answers.Plain (plain.Ids ids)) = Some ids
  ids_in _ = None

  -- that it is done
  abbrev pub done_in : Answer T → Option (Unit {0})
  done_in (answers.Plain plain.Done) = Some tt
  done_in _ = None

  -- a view
  abbrev pub view_in : Answer T → Option (Viewed T)
  view_in (answers.View view id value) = Some (record { view = view; id = id; value = value })
  view_in _ = None

  -- a holder's view
  abbrev pub held_in : Answer T → Option (Held T)
  held_in (answers.Held view id value epoch) = Some (record { view = view; id = id; value = value; epoch = epoch })
  held_in _ = None

-- an answer gives this, or it is told again
abbrev pub Sorts : {T X : Type 0} → (Answer T → Option X) → Answer T → Result X (Answer T) → Type 0
Sorts gives answer (Ok given) = gives answer ≡ Some given
Sorts gives answer (Err told) = (told ≡ answer) × (gives answer ≡ None)
