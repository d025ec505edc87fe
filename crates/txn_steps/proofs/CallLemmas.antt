-- Each step of a write, a delete and a read of one id takes one of the looks or calls that are left.
use Rattle.std.proofs.Common.{◌≡◌, ℕ, ◌<◌, ◌≤◌, ◌==◌, Bool, true, false, List, if◌then◌else◌, Option, Some, None, Result, Ok, Err, refl, arith}
use Rattle.txn_store.specs.VersionName.{Names}
use Rattle.txn_store.specs.declared.store.Got.{Got}
use Rattle.txn_store.specs.declared.store.StoreError.{StoreError}
use Rattle.txn_store.specs.declared.store.StoreError.TheVariants as errors
use Rattle.txn_store.specs.declared.request.Reply.{Reply}
use Rattle.txn_store.specs.declared.request.Reply.TheVariants as replies
use Rattle.txn_steps.specs.declared.boundary.caches.Cached.{Cached}
use Rattle.txn_steps.specs.declared.boundary.caches.Caches.{Caches}
use Rattle.txn_steps.specs.declared.boundary.check.CheckOp.{CheckOp}
use Rattle.txn_steps.specs.declared.boundary.turned.Turned.{Turned}
use Rattle.txn_steps.specs.declared.boundary.turned.Turned.TheVariants.{Goes, Done}
use Rattle.txn_steps.specs.boundary.Windows.{held}
use Rattle.txn_steps.specs.boundary.Checks.{check_turned}
use Rattle.txn_steps.specs.boundary.Counts.{Budget, no_budget, both_budgets, budget_after, SpendsOne, check_budget}
use Rattle.txn_steps.proofs.boundary.CountLemmas.{after, check_spends}
use Rattle.txn_steps.specs.declared.write.WriteUncheckedOp.{WriteUncheckedOp}
use Rattle.txn_steps.specs.declared.write.WriteUncheckedOp.TheVariants as unchecked
use Rattle.txn_steps.specs.declared.write.WriteStep.{WriteStep}
use Rattle.txn_steps.specs.declared.write.WriteStep.TheVariants as writes
use Rattle.txn_steps.specs.declared.write.WriteOp.{WriteOp}
use Rattle.txn_steps.specs.declared.delete.RemovalStep.{RemovalStep}
use Rattle.txn_steps.specs.declared.delete.RemovalStep.TheVariants as removals
use Rattle.txn_steps.specs.declared.delete.DeleteUncheckedOp.{DeleteUncheckedOp}
use Rattle.txn_steps.specs.declared.delete.DeleteStep.{DeleteStep}
use Rattle.txn_steps.specs.declared.delete.DeleteStep.TheVariants as deletes
use Rattle.txn_steps.specs.declared.delete.DeleteOp.{DeleteOp}
use Rattle.txn_steps.specs.declared.seen.ReadSeenOp.{ReadSeenOp}
use Rattle.txn_steps.specs.declared.seen.ReadSeenOp.TheVariants as seen
use Rattle.txn_steps.specs.Writes.{put_answered, unchecked_turned, IsUncheckedReply, written_turned, checked_turned, write_turned_at, write_turned, IsWriteReplyAt, IsWriteReply}
use Rattle.txn_steps.specs.Deletes.{removed, removal_turned_at, removal_turned, IsRemovalReplyAt, IsRemovalReply, checks_turned, removes_turned, delete_turned_at, delete_turned, IsDeleteReplyAt, IsDeleteReply}
use Rattle.txn_steps.specs.SeenSteps.{seen_looked, seen_keeping, seen_got, seen_turned, IsSeenReply}
use Rattle.txn_steps.specs.CallsLeft.{one_of_each, unchecked_budget, write_budget_at, write_budget, removal_budget_at, removal_budget, delete_budget_at, delete_budget, seen_budget}

abbrev after_unchecked : WriteUncheckedOp × Turned (Result ℕ ℕ) → Budget
after_unchecked x = budget_after x.1 (unchecked_budget x.0)

put_spends : (version : Cached) (request : _) (answer : Result ℕ StoreError) → SpendsOne (Some (replies.Put answer)) one_of_each (after_unchecked (put_answered (unchecked.Puts version request) answer))
put_spends version request (Ok token) = (omega arith, omega arith)
put_spends version request (Err errors.AlreadyExists) = (omega arith, omega arith)
put_spends version request (Err error) = (omega arith, omega arith)

pub unchecked_spends : (op : WriteUncheckedOp) (reply : Option Reply) → IsUncheckedReply op reply → SpendsOne reply (unchecked_budget op) (after_unchecked (unchecked_turned op reply))
unchecked_spends (unchecked.Puts version request) (Some (replies.Put answer)) is = put_spends version request answer
unchecked_spends (unchecked.Puts version request) (Some reply) is = absurd is
unchecked_spends (unchecked.Puts version request) None is = absurd is
unchecked_spends (unchecked.Keeps version) None is = (omega arith, omega arith)
unchecked_spends (unchecked.Keeps version) (Some reply) is = absurd is
unchecked_spends unchecked.Ended reply is = absurd is

abbrev after_write : WriteOp × Turned (Result ℕ ℕ) → Budget
after_write x = budget_after x.1 (write_budget x.0)

written_spends : (op : WriteOp) (reply : Option Reply) (x : WriteUncheckedOp × Turned (Result ℕ ℕ)) → op.step ≡ writes.Writes → SpendsOne reply (unchecked_budget op.write) (after_unchecked x)
    → SpendsOne reply (both_budgets (unchecked_budget op.write) (check_budget op.check)) (after_write (written_turned op x))
written_spends op None (w, Goes) e h = rw e (omega (arith, h.0), omega (arith, h.1))
written_spends op (Some reply) (w, Goes) e h = rw e (omega (arith, h.0), omega (arith, h.1))
written_spends op None (w, Done (Ok id)) e h = (omega (arith, h.0), omega (arith, h.1))
written_spends op (Some reply) (w, Done (Ok id)) e h = (omega (arith, h.0), omega (arith, h.1))
written_spends op None (w, Done (Err number)) e h = (omega (arith, h.0), omega (arith, h.1))
written_spends op (Some reply) (w, Done (Err number)) e h = (omega (arith, h.0), omega (arith, h.1))

checked_spends : (op : WriteOp) (reply : Option Reply) (x : CheckOp × Turned (Result (Unit {0}) ℕ)) → op.step ≡ writes.Checks → SpendsOne reply (check_budget op.check) (after x)
    → SpendsOne reply (check_budget op.check) (after_write (checked_turned op x))
checked_spends op reply (c, Goes) e h = rw e h
checked_spends op reply (c, Done (Ok accepted)) e h = h
checked_spends op reply (c, Done (Err number)) e h = h

write_spends_at : (s : WriteStep) (op : WriteOp) → op.step ≡ s → (caches : Caches) (reply : Option Reply) → IsWriteReplyAt s op reply → SpendsOne reply (write_budget_at s op) (after_write (write_turned_at s op caches reply))
write_spends_at writes.Writes op e caches reply is = written_spends op reply (unchecked_turned op.write reply) e (unchecked_spends op.write reply is)
write_spends_at writes.Checks op e caches reply is = checked_spends op reply (check_turned op.check caches reply) e (check_spends op.check caches reply is)

pub write_spends : (op : WriteOp) (caches : Caches) (reply : Option Reply) → IsWriteReply op reply → SpendsOne reply (write_budget op) (after_write (write_turned op caches reply))
write_spends op caches reply is = write_spends_at op.step op refl caches reply is

abbrev after_removal : DeleteUncheckedOp × Turned (Result (Unit {0}) ℕ) → Budget
after_removal x = budget_after x.1 (removal_budget x.0)

removed_spends : (op : DeleteUncheckedOp) (answer : Result (Unit {0}) StoreError) → SpendsOne (Some (replies.Delete answer)) one_of_each (after_removal (removed op answer))
removed_spends op (Ok done) = (omega arith, omega arith)
removed_spends op (Err error) = (omega arith, omega arith)

removal_spends_at : (s : RemovalStep) (op : DeleteUncheckedOp) (reply : Option Reply) → IsRemovalReplyAt s reply → SpendsOne reply (removal_budget_at s) (after_removal (removal_turned_at s op reply))
removal_spends_at removals.Removes op (Some (replies.Delete answer)) is = removed_spends op answer
removal_spends_at removals.Removes op (Some reply) is = absurd is
removal_spends_at removals.Removes op None is = absurd is
removal_spends_at removals.Drops op None is = (omega arith, omega arith)
removal_spends_at removals.Drops op (Some reply) is = absurd is

pub removal_spends : (op : DeleteUncheckedOp) (reply : Option Reply) → IsRemovalReply op reply → SpendsOne reply (removal_budget op) (after_removal (removal_turned op reply))
removal_spends op reply is = removal_spends_at op.step op reply is

abbrev after_delete : DeleteOp × Turned (Result (Unit {0}) ℕ) → Budget
after_delete x = budget_after x.1 (delete_budget x.0)

refused_spends : (b : Bool) (op : DeleteOp) (c : CheckOp) (number : ℕ) (reply : Option Reply) → SpendsOne reply (check_budget op.check) no_budget
    → SpendsOne reply (both_budgets (check_budget op.check) (removal_budget op.removal)) (after_delete (if b then (record { step = deletes.Removes; check = c; removal = op.removal }, Goes) else (record { step = op.step; check = c; removal = op.removal }, Done (Err number))))
refused_spends true op c number None h = (omega (arith, h.0), omega (arith, h.1))
refused_spends true op c number (Some reply) h = (omega (arith, h.0), omega (arith, h.1))
refused_spends false op c number None h = (omega (arith, h.0), omega (arith, h.1))
refused_spends false op c number (Some reply) h = (omega (arith, h.0), omega (arith, h.1))

checks_spend : (op : DeleteOp) (reply : Option Reply) (x : CheckOp × Turned (Result (Unit {0}) ℕ)) → op.step ≡ deletes.Checks → SpendsOne reply (check_budget op.check) (after x)
    → SpendsOne reply (both_budgets (check_budget op.check) (removal_budget op.removal)) (after_delete (checks_turned op x))
checks_spend op None (c, Goes) e h = rw e (omega (arith, h.0), omega (arith, h.1))
checks_spend op (Some reply) (c, Goes) e h = rw e (omega (arith, h.0), omega (arith, h.1))
checks_spend op None (c, Done (Ok accepted)) e h = (omega (arith, h.0), omega (arith, h.1))
checks_spend op (Some reply) (c, Done (Ok accepted)) e h = (omega (arith, h.0), omega (arith, h.1))
checks_spend op reply (c, Done (Err number)) e h = refused_spends (number == 5) op c number reply h

removes_spend : (op : DeleteOp) (reply : Option Reply) (x : DeleteUncheckedOp × Turned (Result (Unit {0}) ℕ)) → op.step ≡ deletes.Removes → SpendsOne reply (removal_budget op.removal) (after_removal x)
    → SpendsOne reply (removal_budget op.removal) (after_delete (removes_turned op x))
removes_spend op reply (r, Goes) e h = rw e h
removes_spend op reply (r, Done answer) e h = h

delete_spends_at : (s : DeleteStep) (op : DeleteOp) → op.step ≡ s → (caches : Caches) (reply : Option Reply) → IsDeleteReplyAt s op reply → SpendsOne reply (delete_budget_at s op) (after_delete (delete_turned_at s op caches reply))
delete_spends_at deletes.Checks op e caches reply is = checks_spend op reply (check_turned op.check caches reply) e (check_spends op.check caches reply is)
delete_spends_at deletes.Removes op e caches reply is = removes_spend op reply (removal_turned op.removal reply) e (removal_spends op.removal reply is)

pub delete_spends : (op : DeleteOp) (caches : Caches) (reply : Option Reply) → IsDeleteReply op reply → SpendsOne reply (delete_budget op) (after_delete (delete_turned op caches reply))
delete_spends op caches reply is = delete_spends_at op.step op refl caches reply is

module _ {T : Type 0} (names : Names) (decode : List ℕ → Option T) where
  abbrev after_seen : ReadSeenOp T × Turned (Result (Option T) ℕ) → Budget
  after_seen x = budget_after x.1 (seen_budget x.0)

  looked_spends : (id : ℕ) (version : Option Cached) → SpendsOne None (record { looks = 2; calls = 1 }) (after_seen (seen_looked names decode (seen.Looks id) id version))
  looked_spends id None = (omega arith, omega arith)
  looked_spends id (Some cached) = (omega arith, omega arith)

  keeping_looks : (id : ℕ) (request : _) (version : Cached) (value : Option T) → (after_seen (seen_keeping names decode (seen.Gets id request) version value)).looks ≤ 1
  keeping_looks id request version None = omega arith
  keeping_looks id request version (Some value) = omega arith

  keeping_calls : (id : ℕ) (request : _) (version : Cached) (value : Option T) → (after_seen (seen_keeping names decode (seen.Gets id request) version value)).calls < 1
  keeping_calls id request version None = omega arith
  keeping_calls id request version (Some value) = omega arith

  got_spends : (id : ℕ) (request : _) (answer : Result Got StoreError) → SpendsOne (Some (replies.Get answer)) one_of_each (after_seen (seen_got names decode (seen.Gets id request) id answer))
  got_spends id request (Ok got) = (keeping_looks id request (record { id = id; bytes = got.bytes }) (decode got.bytes), keeping_calls id request (record { id = id; bytes = got.bytes }) (decode got.bytes))
  got_spends id request (Err errors.NotFound) = (omega arith, omega arith)
  got_spends id request (Err error) = (omega arith, omega arith)

  pub seen_spends : (op : ReadSeenOp T) (latest : List Cached) (reply : Option Reply) → IsSeenReply op reply → SpendsOne reply (seen_budget op) (after_seen (seen_turned names decode op latest reply))
  seen_spends (seen.Looks id) latest None is = looked_spends id (held id latest)
  seen_spends (seen.Looks id) latest (Some reply) is = absurd is
  seen_spends (seen.Gets id request) latest (Some (replies.Get answer)) is = got_spends id request answer
  seen_spends (seen.Gets id request) latest (Some reply) is = absurd is
  seen_spends (seen.Gets id request) latest None is = absurd is
  seen_spends (seen.Keeps version value) latest None is = (omega arith, omega arith)
  seen_spends (seen.Keeps version value) latest (Some reply) is = absurd is
  seen_spends seen.Ended latest reply is = absurd is
