-- How many steps an operation that runs alone takes at most.
use Rattle.std.proofs.Common.{◌≡◌, ℕ, zero, suc, ◌+◌, ◌<◌, ◌≤◌, Bool, List, Option, Some, None, Result, sym, ap, subst, arith}
use Rattle.txn_store.specs.Paths.{Segments}
use Rattle.txn_store.specs.VersionName.{Names}
use Rattle.txn_store.specs.Store.{State}
use Rattle.txn_store.specs.declared.request.Request.{Request}
use Rattle.txn_store.specs.declared.request.Request.TheVariants as requests
use Rattle.txn_store.specs.declared.request.Reply.{Reply}
use Rattle.txn_store.specs.declared.request.Reply.TheVariants as replies
use Rattle.txn_store.specs.declared.types.error.TransactionalObjectError.{TransactionalObjectError}
use Rattle.txn_steps.specs.boundary.Asking.{IsLook, IsGot, IsDeleted}
use Rattle.txn_steps.specs.boundary.BoundaryChecks.{asked_at, IsReplyAt}
use Rattle.txn_steps.specs.boundary.BoundaryReads.{boundary_read_asked, IsBoundaryReply}
use Rattle.txn_steps.specs.boundary.Checks.{check_started, check_asked, IsCheckReply}
use Rattle.txn_steps.specs.boundary.Counts.{Budget, budget_after, SpendsOne, check_budget}
use Rattle.txn_steps.specs.declared.boundary.boundary_read.BoundaryRead.{BoundaryRead}
use Rattle.txn_steps.specs.declared.boundary.boundary_read.BoundaryRead.TheVariants as boundary
use Rattle.txn_steps.specs.declared.boundary.caches.Caches.{Caches}
use Rattle.txn_steps.specs.declared.boundary.check.BoundaryStep.{BoundaryStep}
use Rattle.txn_steps.specs.declared.boundary.check.BoundaryStep.TheVariants as steps
use Rattle.txn_steps.specs.declared.boundary.check.CheckOp.{CheckOp}
use Rattle.txn_steps.specs.declared.boundary.check.CheckOp.TheVariants as checks
use Rattle.txn_steps.specs.declared.boundary.turned.Turned.{Turned}
use Rattle.txn_steps.specs.declared.boundary.turned.Turned.TheVariants.{Goes}
use Rattle.txn_steps.proofs.boundary.CountLemmas.{check_spends}
use Rattle.txn_steps.specs.CallsLeft.{write_budget_at, write_budget, removal_budget_at, delete_budget_at, delete_budget, seen_budget}
use Rattle.txn_steps.specs.Deletes.{delete_started, removal_asked_at, IsRemovalReplyAt, delete_asked_at, IsDeleteReplyAt}
use Rattle.txn_steps.specs.SeenSteps.{seen_asked, IsSeenReply}
use Rattle.txn_steps.specs.Writes.{write_started, unchecked_asked, IsUncheckedReply, write_asked_at, IsWriteReplyAt}
use Rattle.txn_steps.specs.declared.delete.DeleteOp.{DeleteOp}
use Rattle.txn_steps.specs.declared.delete.DeleteStep.{DeleteStep}
use Rattle.txn_steps.specs.declared.delete.DeleteStep.TheVariants as deletes
use Rattle.txn_steps.specs.declared.delete.DeleteUncheckedOp.{DeleteUncheckedOp}
use Rattle.txn_steps.specs.declared.delete.RemovalStep.{RemovalStep}
use Rattle.txn_steps.specs.declared.delete.RemovalStep.TheVariants as removals
use Rattle.txn_steps.specs.declared.seen.ReadSeenOp.{ReadSeenOp}
use Rattle.txn_steps.specs.declared.seen.ReadSeenOp.TheVariants as seen
use Rattle.txn_steps.specs.declared.write.WriteOp.{WriteOp}
use Rattle.txn_steps.specs.declared.write.WriteStep.{WriteStep}
use Rattle.txn_steps.specs.declared.write.WriteStep.TheVariants as writes
use Rattle.txn_steps.specs.declared.write.WriteUncheckedOp.{WriteUncheckedOp}
use Rattle.txn_steps.specs.declared.write.WriteUncheckedOp.TheVariants as unchecked
use Rattle.txn_steps.proofs.CallLemmas.{write_spends, delete_spends, seen_spends}
use Rattle.txn_steps_driven.specs.Asked.{Replies}
use Rattle.txn_steps_driven.specs.DriveChecked.{check_asks, write_asks, delete_asks}
use Rattle.txn_steps_driven.specs.DriveEnds.{AnswersWithin}
use Rattle.txn_steps_driven.specs.DriveLaws.{goes_on}
use Rattle.txn_steps_driven.specs.DriveReads.{seen_asks}
use Rattle.txn_steps_driven.specs.DriveRuns.{Scene, GoesOn, Drives, Stepped}
use Rattle.txn_steps_driven.specs.DriveSteps.{CanGet, CanReadBoundary, CanCheck, CanWriteAt, CanWriteChecked, CanDelete, CanReadSeen, CheckSteps, WriteSteps, DeleteSteps, SeenSteps}
use Rattle.txn_steps_driven.specs.RemovalRuns.{CanRemove}
use Rattle.txn_steps_driven.specs.WriteRuns.{CanWrite}

-- replies by what was asked

is_got : (request : Request) (old new : State) (reply : Option Reply) → CanGet request → Replies (Some request) old reply new → IsGot reply
is_got (requests.Get path known) old new (Some (replies.Get answer)) can told = tt
is_got (requests.Get path known) old new (Some reply) can told = absurd told
is_got request old new None can told = absurd told
is_got (requests.Put path bytes mode) old new (Some reply) can told = absurd can
is_got (requests.List prefix after limit) old new (Some reply) can told = absurd can
is_got (requests.Delete path) old new (Some reply) can told = absurd can

is_look : (old new : State) (reply : Option Reply) → Replies None old reply new → IsLook reply
is_look old new None told = tt
is_look old new (Some reply) told = absurd told

read_reply : (op : BoundaryRead) (old new : State) (reply : Option Reply) → CanReadBoundary op → Replies (boundary_read_asked op) old reply new → IsBoundaryReply op reply
read_reply (boundary.Looks path) old new reply can told = is_look old new reply told
read_reply (boundary.Gets request) old new reply can told = is_got request old new reply can told
read_reply (boundary.Holds known) old new reply can told = is_look old new reply told

boundary_check_reply : (step : BoundaryStep) (op : BoundaryRead) (old new : State) (reply : Option Reply) → CanReadBoundary op → Replies (asked_at step op) old reply new → IsReplyAt step op reply
boundary_check_reply steps.Looks op old new reply can told = is_look old new reply told
boundary_check_reply steps.Reads op old new reply can told = read_reply op old new reply can told

check_reply : (op : CheckOp) (old new : State) (reply : Option Reply) → CanCheck op → Replies (check_asked op) old reply new → IsCheckReply op reply
check_reply (checks.Checks check) old new reply can told = boundary_check_reply check.step check.read old new reply can told
check_reply (checks.Drops id) old new reply can told = is_look old new reply told

unchecked_reply : (op : WriteUncheckedOp) (old new : State) (reply : Option Reply) → CanWrite op → Replies (unchecked_asked op) old reply new → IsUncheckedReply op reply
unchecked_reply (unchecked.Puts version (requests.Put path bytes mode)) old new (Some (replies.Put answer)) can told = tt
unchecked_reply (unchecked.Puts version (requests.Put path bytes mode)) old new (Some reply) can told = absurd told
unchecked_reply (unchecked.Puts version request) old new None can told = absurd told
unchecked_reply (unchecked.Puts version (requests.Get path known)) old new (Some reply) can told = absurd can
unchecked_reply (unchecked.Puts version (requests.List prefix after limit)) old new (Some reply) can told = absurd can
unchecked_reply (unchecked.Puts version (requests.Delete path)) old new (Some reply) can told = absurd can
unchecked_reply (unchecked.Keeps version) old new reply can told = is_look old new reply told
unchecked_reply unchecked.Ended old new reply can told = absurd can

write_reply : (step : WriteStep) (op : WriteOp) (old new : State) (reply : Option Reply) → CanWriteAt step op.write → CanCheck op.check → Replies (write_asked_at step op) old reply new → IsWriteReplyAt step op reply
write_reply writes.Writes op old new reply can check told = unchecked_reply op.write old new reply can told
write_reply writes.Checks op old new reply can check told = check_reply op.check old new reply check told

is_deleted : (request : Request) (old new : State) (reply : Option Reply) → CanRemove removals.Removes request → Replies (Some request) old reply new → IsDeleted reply
is_deleted (requests.Delete path) old new (Some (replies.Delete answer)) can told = tt
is_deleted (requests.Delete path) old new (Some reply) can told = absurd told
is_deleted request old new None can told = absurd told
is_deleted (requests.Put path bytes mode) old new (Some reply) can told = absurd can
is_deleted (requests.Get path known) old new (Some reply) can told = absurd can
is_deleted (requests.List prefix after limit) old new (Some reply) can told = absurd can

removal_reply : (step : RemovalStep) (op : DeleteUncheckedOp) (old new : State) (reply : Option Reply) → CanRemove step op.request → Replies (removal_asked_at step op) old reply new → IsRemovalReplyAt step reply
removal_reply removals.Removes op old new reply can told = is_deleted op.request old new reply can told
removal_reply removals.Drops op old new reply can told = is_look old new reply told

delete_reply : (step : DeleteStep) (op : DeleteOp) (old new : State) (reply : Option Reply) → CanDelete op → Replies (delete_asked_at step op) old reply new → IsDeleteReplyAt step op reply
delete_reply deletes.Checks op old new reply can told = check_reply op.check old new reply can.0 told
delete_reply deletes.Removes op old new reply can told = removal_reply op.removal.step op.removal old new reply can.1 told

seen_reply : {T : Type 0} (op : ReadSeenOp T) (old new : State) (reply : Option Reply) → CanReadSeen op → Replies (seen_asked op) old reply new → IsSeenReply op reply
seen_reply (seen.Looks id) old new reply can told = is_look old new reply told
seen_reply (seen.Gets id request) old new reply can told = is_got request old new reply can told
seen_reply (seen.Keeps version value) old new reply can told = is_look old new reply told
seen_reply seen.Ended old new reply can told = absurd can

-- something is left while it goes on

abbrev all_left : Budget → ℕ
all_left left = left.looks + left.calls

spends_one : (reply : Option Reply) (before after : Budget) → SpendsOne reply before after → all_left after < all_left before
spends_one None before after spends = omega (arith, spends.0, spends.1)
spends_one (Some reply) before after spends = omega (arith, spends.0, spends.1)

check_some : (op : CheckOp) → 1 ≤ all_left (check_budget op)
check_some (checks.Checks check) = omega arith
check_some (checks.Drops id) = omega arith

write_some : (step : WriteStep) (op : WriteOp) → 1 ≤ all_left (write_budget_at step op)
write_some writes.Writes op = let some = check_some op.check in omega (arith, some)
write_some writes.Checks op = check_some op.check

removal_some : (step : RemovalStep) → 1 ≤ all_left (removal_budget_at step)
removal_some removals.Removes = omega arith
removal_some removals.Drops = omega arith

delete_some : (step : DeleteStep) (op : DeleteOp) → 1 ≤ all_left (delete_budget_at step op)
delete_some deletes.Checks op = let some = check_some op.check in omega (arith, some)
delete_some deletes.Removes op = removal_some op.removal.step

seen_some : {T : Type 0} (op : ReadSeenOp T) → CanReadSeen op → 1 ≤ all_left (seen_budget op)
seen_some (seen.Looks id) can = omega arith
seen_some (seen.Gets id request) can = omega arith
seen_some (seen.Keeps version value) can = omega arith
seen_some seen.Ended can = absurd can

-- each step takes one of what is left
module _ {O A : Type 0} (may_grow : Bool) (asked : O → Option Request) (turned : O → Caches → Option Reply → O × Turned (Result A ℕ)) (left : O → Caches → Turned (Result A ℕ) → Caches) (Can : O → Type 0) (left_of : O → Budget)
    (spends : (op : O) (caches : Caches) (old new : State) (reply : Option Reply) → Can op → Replies (asked op) old reply new → SpendsOne reply (left_of op) (budget_after (turned op caches reply).1 (left_of (turned op caches reply).0)))
    (some : (op : O) → Can op → 1 ≤ all_left (left_of op))
    (asks : (a b : Scene O) → Can a.op → Stepped may_grow asked turned left a Goes b → Can b.op) where
  abbrev Steps : Scene O → Turned (Result A TransactionalObjectError) → Scene O → Type 0
  Steps = Stepped may_grow asked turned left

  one_less : (a b : Scene O) → Can a.op → Steps a Goes b → all_left (left_of b.op) < all_left (left_of a.op)
  one_less a b can step =
      let is = goes_on may_grow asked turned left Can may_grow a.op b.op (turned a.op a.caches step.reply) step.takes in
      let less = spends_one step.reply (left_of a.op) (budget_after (turned a.op a.caches step.reply).1 (left_of (turned a.op a.caches step.reply).0)) (spends a.op a.caches a.store b.store step.reply can step.replies) in
      let goes : Goes ≡ (turned a.op a.caches step.reply).1 = ap (λ p. p.1) is in
      let next : b.op ≡ (turned a.op a.caches step.reply).0 = ap (λ p. p.0) is in
      subst (λ (op : O). all_left (left_of op) < all_left (left_of a.op)) (sym next)
      (subst (λ t. all_left (budget_after t (left_of (turned a.op a.caches step.reply).0)) < all_left (left_of a.op)) (sym goes) less)

  counted : (n : ℕ) (a b : Scene O) → Can a.op → GoesOn Steps n a b → Can b.op × (n + all_left (left_of b.op) ≤ all_left (left_of a.op))
  counted zero a b can same = subst (λ (s : Scene O). Can s.op × (0 + all_left (left_of s.op) ≤ all_left (left_of a.op))) (sym same) (can, omega arith)
  counted (suc n) a c can (b, on, step) =
      let so_far = counted n a b can on in
      let less = one_less b c so_far.0 step in
      let within = so_far.1 in
      (asks b c so_far.0 step, omega (arith, within, less))

  pub answers_within : (steps : ℕ) (a b : Scene O) (answer : Option (Result A TransactionalObjectError)) → Can a.op → Drives Steps steps a answer b → AnswersWithin (all_left (left_of a.op)) steps answer
  answers_within steps a b None can on =
      let end = counted steps a b can on in
      let within = end.1 in
      let rest = some b.op end.0 in
      omega (arith, within, rest)
  answers_within steps a b (Some answer) can on = tt

pub check_within : (path : Segments) (id steps : ℕ) (a b : Scene CheckOp) (answer : Option (Result (Unit {0}) TransactionalObjectError)) → a.op ≡ check_started path id → Drives CheckSteps steps a answer b → AnswersWithin 5 steps answer
check_within path id steps a b answer starts on =
    subst (λ (op : CheckOp). AnswersWithin (all_left (check_budget op)) steps answer) starts
    (answers_within _ _ _ _ CanCheck check_budget (λ op caches old new reply can told. check_spends op caches reply (check_reply op old new reply can told)) (λ op can. check_some op) check_asks steps a b answer (subst CanCheck (sym starts) tt) on)

pub write_within : (names : Names) (path : Segments) (base : Option ℕ) (bytes : List ℕ) (steps : ℕ) (a b : Scene WriteOp) (answer : Option (Result ℕ TransactionalObjectError)) → a.op ≡ write_started names path base bytes → Drives WriteSteps steps a answer b → AnswersWithin 7 steps answer
write_within names path base bytes steps a b answer starts on =
    subst (λ (op : WriteOp). AnswersWithin (all_left (write_budget op)) steps answer) starts
    (answers_within _ _ _ _ CanWriteChecked write_budget (λ op caches old new reply can told. write_spends op caches reply (write_reply op.step op old new reply can.0 can.1 told)) (λ op can. write_some op.step op) write_asks steps a b answer (subst CanWriteChecked (sym starts) (tt, tt)) on)

pub delete_within : (names : Names) (path : Segments) (id steps : ℕ) (a b : Scene DeleteOp) (answer : Option (Result (Unit {0}) TransactionalObjectError)) → a.op ≡ delete_started names path id → Drives DeleteSteps steps a answer b → AnswersWithin 7 steps answer
delete_within names path id steps a b answer starts on =
    subst (λ (op : DeleteOp). AnswersWithin (all_left (delete_budget op)) steps answer) starts
    (answers_within _ _ _ _ CanDelete delete_budget (λ op caches old new reply can told. delete_spends op caches reply (delete_reply op.step op old new reply can told)) (λ op can. delete_some op.step op) delete_asks steps a b answer (subst CanDelete (sym starts) (tt, tt)) on)

pub seen_within : {T : Type 0} (names : Names) (decode : List ℕ → Option T) (id steps : ℕ) (a b : Scene (ReadSeenOp T)) (answer : Option (Result (Option T) TransactionalObjectError)) → a.op ≡ seen.Looks id → Drives (SeenSteps names decode) steps a answer b → AnswersWithin 3 steps answer
seen_within names decode id steps a b answer starts on =
    subst (λ op. AnswersWithin (all_left (seen_budget op)) steps answer) starts
    (answers_within _ _ _ _ CanReadSeen seen_budget (λ op caches old new reply can told. seen_spends names decode op caches.latest reply (seen_reply op old new reply can told)) seen_some (seen_asks names decode) steps a b answer (subst CanReadSeen (sym starts) tt) on)
