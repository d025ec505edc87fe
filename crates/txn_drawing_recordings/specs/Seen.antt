-- What calls did or saw by their replies.
use Rattle.std.specs.Prelude.{◌≡◌, ℕ, Bool, true, false, Option, None, Some, Ok, is_ok}
use Rattle.std.specs.Ordering.{nat_cmp}
use Rattle.std.specs.BTreeSet.{BTreeSet, contains}
use Rattle.txn_store.specs.declared.request.Reply.{Reply}
use Rattle.txn_store.specs.declared.request.Reply.TheVariants as replies
use Rattle.txn_drawing_moments.specs.declared.moment.Touch.{Touch}
use Rattle.txn_drawing_moments.specs.declared.moment.Touch.TheVariants as touches
use Rattle.txn_drawing_moments.specs.declared.touches.asked.Asked.{Asked}
use Rattle.txn_drawing_moments.specs.declared.touches.asked.Asked.TheVariants as asked

-- A put or a delete that was served changed something.
abbrev pub changed_by : Reply → Bool
changed_by (replies.Put answer) = is_ok answer
changed_by (replies.Delete answer) = is_ok answer
changed_by _ = false

-- A removal changes something where its version stands, and another call where its reply says so, or where it landed.
abbrev pub change_of : BTreeSet ℕ → Asked → Option Reply → Bool
change_of standing (asked.Remove id) reply = contains nat_cmp standing id
change_of standing _ None = true
change_of standing _ (Some reply) = changed_by reply

-- a file was found
abbrev pub found_by : Reply → Bool
found_by (replies.Get (Ok got)) = true
found_by _ = false

-- A read of a version saw what its reply says, and so did a listing. Any other call is told as it was.
abbrev pub IsSeenBy : Reply → Touch → Touch → Type 0
IsSeenBy reply (touches.Gets id is_there) (touches.Gets it was_there) = (it ≡ id) × (was_there ≡ found_by reply)
IsSeenBy reply (touches.Lists ids) (touches.Lists told) = Unit {0}
IsSeenBy reply touch seen = seen ≡ touch
