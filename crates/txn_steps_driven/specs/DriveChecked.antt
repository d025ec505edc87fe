-- A check, an advance, a write and a delete that go on ask again for what a store can serve.
use Rattle.std.specs.Prelude.{◌≡◌, ℕ, ◌==◌, nat_lt, Bool, true, false, if◌then◌else◌, Option, Some, None, Result, Ok, Err}
use Rattle.std.proofs.Common.{refl, sym, subst}
use Rattle.txn_store.specs.Paths.{Segments}
use Rattle.txn_store.specs.declared.store.Got.{Got}
use Rattle.txn_store.specs.declared.store.StoreError.{StoreError}
use Rattle.txn_store.specs.declared.store.StoreError.TheVariants as errors
use Rattle.txn_store.specs.declared.request.Reply.{Reply}
use Rattle.txn_store.specs.declared.request.Reply.TheVariants as replies
use Rattle.txn_store.specs.types.BoundaryText.{boundary_read}
use Rattle.txn_steps.specs.boundary.Boundaries.{Known, known_pair, refused_by}
use Rattle.txn_steps.specs.declared.boundary.advance.AdvanceOp.{AdvanceOp}
use Rattle.txn_steps.specs.declared.boundary.advance.AdvanceOp.TheVariants as advances
use Rattle.txn_steps.specs.declared.boundary.advance.BoundaryAdvance.{BoundaryAdvance}
use Rattle.txn_steps.specs.declared.boundary.advance.BoundaryAdvance.TheVariants as raises
use Rattle.txn_steps.specs.declared.boundary.boundary_read.BoundaryRead.{BoundaryRead}
use Rattle.txn_steps.specs.declared.boundary.boundary_read.BoundaryRead.TheVariants as boundary
use Rattle.txn_steps.specs.declared.boundary.caches.CachedBoundary.{CachedBoundary}
use Rattle.txn_steps.specs.declared.boundary.caches.Caches.{Caches}
use Rattle.txn_steps.specs.declared.boundary.check.BoundaryCheck.{BoundaryCheck}
use Rattle.txn_steps.specs.declared.boundary.check.BoundaryStep.{BoundaryStep}
use Rattle.txn_steps.specs.declared.boundary.check.BoundaryStep.TheVariants as steps
use Rattle.txn_steps.specs.declared.boundary.check.CheckOp.{CheckOp}
use Rattle.txn_steps.specs.declared.boundary.check.CheckOp.TheVariants as checks
use Rattle.txn_steps.specs.declared.boundary.turned.Turned.{Turned}
use Rattle.txn_steps.specs.declared.boundary.turned.Turned.TheVariants.{Goes, Done}
use Rattle.txn_steps.specs.boundary.Advances.{raises_turned, advance_turned}
use Rattle.txn_steps.specs.boundary.BoundaryAdvances.{raise_known, advance_looked, put_answered, known_after, advance_read, boundary_advance_turned}
use Rattle.txn_steps.specs.boundary.BoundaryChecks.{reads_turned, turned_at, boundary_check_turned}
use Rattle.txn_steps.specs.boundary.BoundaryReads.{text_read, boundary_got, boundary_held, boundary_turned}
use Rattle.txn_steps.specs.boundary.Checks.{checks_turned, check_turned}
use Rattle.txn_steps.specs.declared.delete.DeleteOp.{DeleteOp}
use Rattle.txn_steps.specs.declared.delete.DeleteStep.{DeleteStep}
use Rattle.txn_steps.specs.declared.delete.DeleteStep.TheVariants as deletes
use Rattle.txn_steps.specs.declared.write.WriteOp.{WriteOp}
use Rattle.txn_steps.specs.declared.write.WriteStep.{WriteStep}
use Rattle.txn_steps.specs.declared.write.WriteStep.TheVariants as writes
use Rattle.txn_steps.specs.declared.write.WriteUncheckedOp.{WriteUncheckedOp}
use Rattle.txn_steps.specs.Deletes as deletes_of
use Rattle.txn_steps.specs.Writes.{unchecked_turned, written_turned, checked_turned, write_turned_at}
use Rattle.txn_steps_driven.specs.DriveRuns.{Scene}
use Rattle.txn_steps_driven.specs.DriveSteps.{CanReadBoundary, CanCheck, CanRaise, CanAdvance, CanWriteAt, CanWriteChecked, CanDelete, CheckSteps, AdvanceSteps, WriteSteps, DeleteSteps}
use Rattle.txn_steps_driven.specs.DriveLaws.{asks_by, write_next, removal_next}
use Rattle.txn_steps_driven.specs.RemovalRuns.{CanRemove}
use Rattle.txn_steps_driven.specs.WriteRuns.{CanWrite}

-- whichever of two is taken
pub either_next : {O N : Type 0} (Can : O → Type 0) (test : Bool) (x y : O × N) → Can x.0 → Can y.0 → Can (if◌then◌else◌ {A = O × N} test x y).0
either_next Can true x y can other = can
either_next Can false x y can other = other

-- a read of the boundary

text_next : (op : BoundaryRead) (token : ℕ) (number : Option ℕ) → CanReadBoundary op → CanReadBoundary (text_read op token number).0
text_next op token None can = can
text_next op token (Some number) can = tt

got_next : (op : BoundaryRead) (answer : Result Got StoreError) → CanReadBoundary op → CanReadBoundary (boundary_got op answer).0
got_next op (Ok got) can = text_next op got.token (boundary_read got.bytes) can
got_next op (Err errors.NotModified) can = tt
got_next op (Err error) can = can

held_next : (op : BoundaryRead) (known cached : Option CachedBoundary) → CanReadBoundary op → CanReadBoundary (boundary_held op known cached).0
held_next op (Some known) cached can = can
held_next op None (Some cached) can = can
held_next op None None can = can

pub read_next : (op : BoundaryRead) (cached : Option CachedBoundary) (reply : Option Reply) → CanReadBoundary op → CanReadBoundary (boundary_turned op cached reply).0
read_next (boundary.Looks path) cached reply can = tt
read_next (boundary.Gets request) cached (Some (replies.Get answer)) can = got_next (boundary.Gets request) answer can
read_next (boundary.Gets request) cached (Some reply) can = can
read_next (boundary.Gets request) cached None can = can
read_next (boundary.Holds known) cached reply can = held_next (boundary.Holds known) known cached can

-- a check

reads_next : (op : BoundaryCheck) (next : BoundaryRead × Turned (Result Known ℕ)) → CanReadBoundary next.0 → CanReadBoundary (reads_turned op next).0.read
reads_next op (read, Goes) can = can
reads_next op (read, Done answer) can = can

boundary_check_next : (step : BoundaryStep) (op : BoundaryCheck) (cached : Option CachedBoundary) (reply : Option Reply) → CanReadBoundary op.read → CanReadBoundary (turned_at step op cached reply).0.read
boundary_check_next steps.Looks op cached reply can = either_next (λ (next : BoundaryCheck). CanReadBoundary next.read) (refused_by op.id cached) _ _ can can
boundary_check_next steps.Reads op cached reply can = reads_next op (boundary_turned op.read cached reply) (read_next op.read cached reply can)

checks_next : (id : ℕ) (next : BoundaryCheck × Turned (Result (Unit {0}) ℕ)) → CanReadBoundary next.0.read → CanCheck (checks_turned id next).0
checks_next id (check, Goes) can = can
checks_next id (check, Done (Ok accepted)) can = can
checks_next id (check, Done (Err number)) can = either_next CanCheck (number == 5) _ _ tt can

pub check_next : (op : CheckOp) (caches : Caches) (reply : Option Reply) → CanCheck op → CanCheck (check_turned op caches reply).0
check_next (checks.Checks check) caches reply can = checks_next check.id (boundary_check_turned check caches.boundary reply) (boundary_check_next check.step check caches.boundary reply can)
check_next (checks.Drops id) caches reply can = tt

pub check_asks : (a b : Scene CheckOp) → CanCheck a.op → CheckSteps a Goes b → CanCheck b.op
check_asks = asks_by _ _ _ _ CanCheck (λ op caches reply can goes. check_next op caches reply can)

-- an advance

known_next : (path : Segments) (op : BoundaryAdvance) (target : ℕ) (known : Known) → CanRaise op → CanRaise (raise_known path op target known).0
known_next path op target known can = either_next CanRaise (nat_lt known.0 target) _ _ tt can

looks_next : (path : Segments) (target : ℕ) (cached : Option CachedBoundary) → CanRaise (advance_looked path (raises.Looks target) target cached).0
looks_next path target (Some known) = known_next path (raises.Looks target) target (known_pair known) tt
looks_next path target None = tt

again_next : (again : Bool) (path : Segments) (op : BoundaryAdvance) (target : ℕ) (known : Known) → CanRaise op → CanRaise (known_after again path op target known).0
again_next true path op target known can = tt
again_next false path op target known can = known_next path op target known can

after_next : (path : Segments) (target : ℕ) (again : Bool) (next : BoundaryRead × Turned (Result Known ℕ)) → CanReadBoundary next.0 → CanRaise (advance_read path target again next).0
after_next path target again (read, Goes) can = can
after_next path target again (read, Done (Ok known)) can = again_next again path (raises.Reads target again read) target known can
after_next path target again (read, Done (Err number)) can = can

answered_next : (path : Segments) (op : BoundaryAdvance) (target : ℕ) (answer : Result ℕ StoreError) → CanRaise op → CanRaise (put_answered path op target answer).0
answered_next path op target (Ok token) can = tt
answered_next path op target (Err errors.AlreadyExists) can = tt
answered_next path op target (Err errors.Precondition) can = tt
answered_next path op target (Err error) can = can

pub raise_next : (path : Segments) (op : BoundaryAdvance) (cached : Option CachedBoundary) (reply : Option Reply) → CanRaise op → CanRaise (boundary_advance_turned path op cached reply).0
raise_next path (raises.Looks target) cached reply can = looks_next path target cached
raise_next path (raises.Reads target again read) cached reply can = after_next path target again (boundary_turned read cached reply) (read_next read cached reply can)
raise_next path (raises.Puts target request) cached (Some (replies.Put answer)) can = answered_next path (raises.Puts target request) target answer can
raise_next path (raises.Puts target request) cached (Some reply) can = can
raise_next path (raises.Puts target request) cached None can = can
raise_next path (raises.Keeps target token) cached reply can = tt

raises_next : (target : ℕ) (next : BoundaryAdvance × Turned (Result (Unit {0}) ℕ)) → CanRaise next.0 → CanAdvance (raises_turned target next).0
raises_next target (raise, Goes) can = can
raises_next target (raise, Done (Ok done)) can = tt
raises_next target (raise, Done (Err number)) can = can

pub advance_next : (path : Segments) (op : AdvanceOp) (caches : Caches) (reply : Option Reply) → CanAdvance op → CanAdvance (advance_turned path op caches reply).0
advance_next path (advances.Raises target raise) caches reply can = raises_next target (boundary_advance_turned path raise caches.boundary reply) (raise_next path raise caches.boundary reply can)
advance_next path (advances.Drops target) caches reply can = tt

pub advance_asks : (path : Segments) (a b : Scene AdvanceOp) → CanAdvance a.op → AdvanceSteps path a Goes b → CanAdvance b.op
advance_asks path = asks_by _ _ _ _ CanAdvance (λ op caches reply can goes. advance_next path op caches reply can)

-- a write

written_next : (op : WriteOp) (next : WriteUncheckedOp × Turned (Result ℕ ℕ)) → op.step ≡ writes.Writes → (Goes ≡ next.1 → CanWrite next.0) → CanCheck op.check → Goes ≡ (written_turned op next).1 → CanWriteChecked (written_turned op next).0
written_next op (write, Goes) is can check goes = (subst (λ (step : WriteStep). CanWriteAt step write) (sym is) (can refl), check)
written_next op (write, Done (Ok id)) is can check goes = (tt, check)
written_next op (write, Done (Err number)) is can check goes = absurd (cc)

checked_next : (op : WriteOp) (next : CheckOp × Turned (Result (Unit {0}) ℕ)) → CanWriteAt op.step op.write → CanCheck next.0 → CanWriteChecked (checked_turned op next).0
checked_next op (check, Goes) write can = (write, can)
checked_next op (check, Done (Ok accepted)) write can = (write, can)
checked_next op (check, Done (Err number)) write can = (write, can)

pub write_at_next : (step : WriteStep) (op : WriteOp) (caches : Caches) (reply : Option Reply) → op.step ≡ step → CanWriteAt step op.write → CanWriteAt op.step op.write → CanCheck op.check → Goes ≡ (write_turned_at step op caches reply).1 → CanWriteChecked (write_turned_at step op caches reply).0
write_at_next writes.Writes op caches reply is can same check goes = written_next op (unchecked_turned op.write reply) is (λ on. write_next op.write reply can on) check goes
write_at_next writes.Checks op caches reply is can same check goes = checked_next op (check_turned op.check caches reply) same (check_next op.check caches reply check)

pub write_asks : (a b : Scene WriteOp) → CanWriteChecked a.op → WriteSteps a Goes b → CanWriteChecked b.op
write_asks = asks_by _ _ _ _ CanWriteChecked (λ op caches reply can goes. write_at_next op.step op caches reply refl can.0 can.0 can.1 goes)

-- a delete

delete_checks_next : (op : DeleteOp) (next : CheckOp × Turned (Result (Unit {0}) ℕ)) → CanCheck next.0 → CanRemove op.removal.step op.removal.request → CanDelete (deletes_of.checks_turned op next).0
delete_checks_next op (check, Goes) can removal = (can, removal)
delete_checks_next op (check, Done (Ok accepted)) can removal = (can, removal)
delete_checks_next op (check, Done (Err number)) can removal = either_next CanDelete (number == 5) _ _ (can, removal) (can, removal)

pub delete_at_next : (step : DeleteStep) (op : DeleteOp) (caches : Caches) (reply : Option Reply) → CanDelete op → Goes ≡ (deletes_of.delete_turned_at step op caches reply).1 → CanDelete (deletes_of.delete_turned_at step op caches reply).0
delete_at_next deletes.Checks op caches reply can goes = delete_checks_next op (check_turned op.check caches reply) (check_next op.check caches reply can.0) can.1
delete_at_next deletes.Removes op caches reply can goes = (can.0, removal_next op.removal.step op.removal reply refl can.1 goes)

pub delete_asks : (a b : Scene DeleteOp) → CanDelete a.op → DeleteSteps a Goes b → CanDelete b.op
delete_asks = asks_by _ _ _ _ CanDelete (λ op caches reply can goes. delete_at_next op.step op caches reply can goes)
