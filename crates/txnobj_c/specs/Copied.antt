-- What is copied out to C.
use Rattle.std.specs.Prelude.{ℕ, List, length, Bool, true, false, Option, Some, None, if◌then◌else◌, ◌==◌}
use Rattle.txn_store.specs.declared.request.Request.TheVariants as requests
use Rattle.txn_history.specs.Seen.{Ask, Store}
use Rattle.txn_history.specs.declared.event.Answer.{Answer}
use Rattle.txn_history.specs.declared.event.Answer.TheVariants as answers
use Rattle.txn_history.specs.declared.event.PlainAnswer.{PlainAnswer}
use Rattle.txn_history.specs.declared.event.PlainAnswer.TheVariants as plain
use Rattle.txn_history.specs.Views.{View}
use Rattle.txn_script_lines.specs.declared.values.entry.Entry.{Entry}

-- these are copied where there are as many as there is room for, else what stood there stays
abbrev pub copied_into : {X : Type 0} → Option (List X) → List X → Bool × List X
copied_into None old = (false, old)
copied_into (Some items) old = if length items == length old then (true, items) else (false, old)

-- the bytes that a put is to write
abbrev pub bytes_asked : Option Ask → Option (List ℕ)
bytes_asked (Some (Store (requests.Put path bytes mode))) = Some bytes
bytes_asked _ = None

-- the bytes of the value that was answered
abbrev pub plain_bytes : PlainAnswer Entry → Option (List ℕ)
plain_bytes (plain.Read (Some found)) = Some found.1.payload
plain_bytes (plain.Value (Some value)) = Some value.payload
plain_bytes _ = None

abbrev pub bytes_answered : Option (Answer Entry) → Option (List ℕ)
bytes_answered None = None
bytes_answered (Some (answers.Plain answer)) = plain_bytes answer
bytes_answered (Some (answers.View view id value)) = Some value.payload
bytes_answered (Some (answers.Held view id value epoch)) = Some value.payload

-- the ids that were answered
abbrev pub ids_answered : Option (Answer Entry) → Option (List ℕ)
ids_answered (Some (answers.Plain (plain.Ids ids))) = Some ids
ids_answered _ = None

-- the bytes of a view
abbrev pub bytes_viewed : Option (View Entry) → Option (List ℕ)
bytes_viewed None = None
bytes_viewed (Some view) = Some view.object.payload
