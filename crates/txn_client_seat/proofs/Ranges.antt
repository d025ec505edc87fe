-- Operations stay in range.
use Rattle.std.proofs.Common.{◌≡◌, ◌==◌, ℕ, Bool, true, false, not, List, [], ◌∷◌, ◌++◌, Option, Some, None, ap, subst, sym}
use Rattle.std.proofs.lemmas.List.Elements.{All-nil, All-filter, All-append, All-push}
use Rattle.txn_store.specs.declared.request.Reply.{Reply}
use Rattle.txn_history.specs.Names.{world_names}
use Rattle.txn_history.specs.declared.event.PlainAnswer.{PlainAnswer}
use Rattle.txn_steps.specs.declared.boundary.caches.Cached.{Cached}
use Rattle.txn_steps.specs.declared.boundary.turned.Turned.{Turned}
use Rattle.txn_steps.specs.boundary.Steps.{lacks_memory}
use Rattle.txn_steps.specs.boundary.Asking.{unless_lacking}
use Rattle.txn_steps.specs.declared.latest.LatestOp.{LatestOp}
use Rattle.txn_steps.specs.Latest.{ReadAnswer, latest_turned, InRange}
use Rattle.txn_steps.proofs.RangeLemmas.{latest_stays}
use Rattle.txn_script_lines.specs.declared.values.entry.Entry.{Entry}
use Rattle.txn_script_lines.specs.values.Entry.{entry_read}
use Rattle.txn_client_seat.specs.declared.unchecked_op.UncheckedOp.{UncheckedOp}
use Rattle.txn_client_seat.specs.UncheckedOps.{IsInRange, IsUncheckedReply}
use Rattle.txn_client_seat.specs.UncheckedCalls.{AreInRange, Suits, goes_on}
use Rattle.txn_client_seat.specs.Numbered.{waits_at, without}
use Rattle.txn_client_seat.proofs.Places.{holds_of_found}

either_stays : (lacks : Bool) (read : LatestOp Entry) (next : LatestOp Entry × Turned (ReadAnswer Entry)) → InRange read → InRange next.0 → InRange (unless_lacking lacks read next).0
either_stays true read next before after = before
either_stays false read next before after = after

-- what a step leaves of a read in range is in range
pub next_in_range : (page : _) (read next : LatestOp Entry) (told : Turned (ReadAnswer Entry)) (cached : List Cached) (reply : Option Reply) → (next, told) ≡ unless_lacking (lacks_memory told) read (latest_turned world_names page entry_read read cached reply) → InRange read → InRange next
next_in_range page read next told cached reply is range = subst InRange (sym (ap (λ x. x.0) is)) (either_stays (lacks_memory told) read (latest_turned world_names page entry_read read cached reply) range (latest_stays world_names page entry_read read cached reply range))

-- an operation that is found is in range
pub found_in_range : (op : ℕ) (running : List (ℕ × UncheckedOp)) (operation : UncheckedOp) → AreInRange running → waits_at op running ≡ Some operation → IsInRange operation
found_in_range op running operation all is = holds_of_found op IsInRange running operation all is

-- so are those that are left, with this one where it goes on
pub left_in_range : (op : ℕ) (running : List (ℕ × UncheckedOp)) (next : UncheckedOp) (answer : Option (PlainAnswer Entry)) → AreInRange running → IsInRange next → AreInRange (without op running ++ goes_on op next answer)
left_in_range op running next None all range = All-push (λ one. IsInRange one.1) (without op running) (op, next) (All-filter (λ one. not (one.0 == op)) (λ one. IsInRange one.1) running all) range
left_in_range op running next (Some answer) all range = All-append (λ one. IsInRange one.1) (without op running) [] (All-filter (λ one. not (one.0 == op)) (λ one. IsInRange one.1) running all) (All-nil (λ one. IsInRange one.1))

pub suits_so : (operation : Option UncheckedOp) (reply : Option Reply) (found : UncheckedOp) → Suits operation reply → operation ≡ Some found → IsUncheckedReply found reply
suits_so operation reply found suits is = subst (λ o. Suits o reply) is suits
