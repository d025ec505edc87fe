-- A failure is the turn that its operation takes with the reply of a call that failed; and a claim is refused with 10 by its own base alone.
use Rattle.std.proofs.Common.{◌≡◌, ◌≢◌, ℕ, ◌+◌, ◌==◌, List, Bool, true, false, nat_le, nat_lt, slice_set, ◌-◌, if◌then◌else◌, Option, Some, None, Result, Ok, Err, ◌⊎◌, inl, inr, refl, ap, arith, subst}
use Rattle.std.proofs.lemmas.Bool.{eqb-true}
use Rattle.std.proofs.lemmas.Option.{same_Some}
use Rattle.txn_store.specs.Paths.{Segments}
use Rattle.txn_store.specs.VersionName.{Names}
use Rattle.txn_store.specs.declared.page.Page.{Page}
use Rattle.txn_store.specs.declared.store.Got.{Got}
use Rattle.txn_store.specs.declared.store.StoreError.{StoreError}
use Rattle.txn_store.specs.declared.store.StoreError.TheVariants as errors
use Rattle.txn_store.specs.declared.request.Reply.{Reply}
use Rattle.txn_store.specs.declared.request.Reply.TheVariants as replies
use Rattle.txn_store.specs.types.BoundaryText.{boundary_read}
use Rattle.txn_store.specs.types.Errors.{store_error_number}
use Rattle.txn_store.specs.declared.types.error.TransactionalObjectError.{TransactionalObjectError}
use Rattle.txn_store.specs.declared.types.error.TransactionalObjectError.TheVariants.{Fenced, IdExhausted}
use Rattle.txn_steps.specs.declared.boundary.caches.Cached.{Cached}
use Rattle.txn_steps.specs.declared.boundary.caches.CachedBoundary.{CachedBoundary}
use Rattle.txn_steps.specs.declared.boundary.caches.Caches.{Caches}
use Rattle.txn_steps.specs.declared.boundary.boundary_read.BoundaryRead.{BoundaryRead}
use Rattle.txn_steps.specs.declared.boundary.boundary_read.BoundaryRead.TheVariants as reading
use Rattle.txn_steps.specs.declared.boundary.check.BoundaryStep.{BoundaryStep}
use Rattle.txn_steps.specs.declared.boundary.check.BoundaryStep.TheVariants as boundary_step
use Rattle.txn_steps.specs.declared.boundary.check.BoundaryCheck.{BoundaryCheck}
use Rattle.txn_steps.specs.declared.boundary.check.CheckOp.{CheckOp}
use Rattle.txn_steps.specs.declared.boundary.check.CheckOp.TheVariants as checks
use Rattle.txn_steps.specs.declared.boundary.turned.Turned.{Turned}
use Rattle.txn_steps.specs.declared.boundary.turned.Turned.TheVariants.{Goes, Done}
use Rattle.txn_steps.specs.boundary.Boundaries.{Known, decided, refused_by}
use Rattle.txn_steps.specs.boundary.BoundaryReads.{text_read, boundary_got, boundary_turned}
use Rattle.txn_steps.specs.boundary.BoundaryChecks as check_steps
use Rattle.txn_steps.specs.boundary.BoundaryChecks.{turned_at, boundary_check_turned}
use Rattle.txn_steps.specs.boundary.Checks.{checks_turned, check_turned}
use Rattle.txn_steps.specs.declared.write.WriteUncheckedOp.{WriteUncheckedOp}
use Rattle.txn_steps.specs.declared.write.WriteUncheckedOp.TheVariants as unchecked
use Rattle.txn_steps.specs.declared.write.WriteStep.{WriteStep}
use Rattle.txn_steps.specs.declared.write.WriteStep.TheVariants as writes
use Rattle.txn_steps.specs.declared.write.WriteOp.{WriteOp}
use Rattle.txn_steps.specs.declared.latest.LatestOp.{LatestOp}
use Rattle.txn_steps.specs.declared.latest.LatestOp.TheVariants as latest
use Rattle.txn_steps.specs.declared.read.ReadOp.{ReadOp}
use Rattle.txn_steps.specs.declared.read.ReadOp.TheVariants as reads
use Rattle.txn_steps.specs.Writes as write_steps
use Rattle.txn_steps.specs.Writes.{write_started, unchecked_turned, write_turned_at, write_turned}
use Rattle.txn_steps.specs.Requests.{next_after}
use Rattle.txn_steps.specs.Latest.{ReadAnswer, greatest_from, read_in_hand, answered, probed, keeping, in_hand, held_or_got, chosen, begins_with, paged_turned, listed, unlisted, latest_listing, latest_got, latest_turned}
use Rattle.txn_steps.specs.Reads as read_steps
use Rattle.txn_steps.specs.Reads.{reads_turned, read_turned}
use Rattle.txn_steps.specs.boundary.Windows.{held, greatest_held}
use Rattle.txn_history.specs.declared.event.PlainAnswer.TheVariants as plain_answers
use Rattle.txn_store.specs.declared.request.Request.{Request}
use Rattle.txn_history.specs.declared.event.Answer.TheVariants as answers
use Rattle.txn_history.specs.declared.event.ToldOf.TheVariants as told
use Rattle.txn_history.specs.Seen.{Store}
use Rattle.txn_machine.specs.declared.doing.Operation.{Operation}
use Rattle.txn_history.specs.declared.event.Failure.{Failure}
use Rattle.txn_history.specs.declared.event.Failure.TheVariants as failures
use Rattle.txn_history.specs.Names.{world_names, world_boundary}
use Rattle.txn_history.specs.Facts.{greatest}
use Rattle.txn_steps_views.specs.declared.claim.ClaimOp.{ClaimOp}
use Rattle.txn_steps_views.specs.declared.claiming.Claiming.{Claiming}
use Rattle.txn_steps_views.specs.declared.claiming.Claiming.TheVariants as claims
use Rattle.txn_steps_views.specs.declared.op.ViewOp.TheVariants as ops
use Rattle.txn_steps_views.specs.declared.outcome.Outcome.{Outcome}
use Rattle.txn_steps_views.specs.Attempts.{entered, entered_with, attempted, attempt_turned, refreshed_turned, followed, claiming_turned}
use Rattle.txn_steps_views.specs.Claims.{as_claim, claim_turned}
use Rattle.txn_steps_views.specs.Lacking.{started_as}
use Rattle.txn_history.specs.declared.event.ViewCall.TheVariants as view_calls
use Rattle.txn_history.specs.declared.event.Call.TheVariants as any
use Rattle.txn_history.specs.Trace.{Told}
use Rattle.txn_history.specs.Views.{View}
use Rattle.txn_machine.specs.declared.doing.Doing.{Doing}
use Rattle.txn_machine.specs.declared.doing.Doing.TheVariants as does
use Rattle.txn_machine.specs.declared.doing.Ending.{Ending}
use Rattle.txn_machine.specs.declared.doing.Ending.TheVariants as endings
use Rattle.txn_machine.specs.Doing.{Next, ended, refused, first_next, next_of, started, turned}
use Rattle.txn_machine.specs.Machine.{State, with_doing, views_after, Acts, Fails}
use Rattle.txn_machine.specs.Refusals.{FailsAsReplied, Found}
use Rattle.txn_machine.proofs.FailedTurns.{failed_turn}

-- failures

module _ {T : Type 0} (encode : T → List ℕ) (decode : List ℕ → Option T) (get_epoch : T → ℕ) (set_epoch : T → ℕ → T) where
  as_failed : (old : State T) (op : ℕ) (said : Told T) (new : State T) (o : Operation T) (request : Request) (caches : Caches) → Acts old op o (Store request) caches → said ≡ told.Answered op (answers.Plain (plain_answers.Refused 2)) → new.operations ≡ with_doing old.operations op o ended → new.caches ≡ slice_set old.caches (o.client - 1) caches →
      new.views ≡ views_after old.views o.client o.view o.claims (refused 2).1 → FailsAsReplied encode decode get_epoch set_epoch old op said new
  as_failed old op said new o request caches acts tells operations kept views = record {
    operation = o;
    request = request;
    caches = caches;
    acts = acts;
    as_replied = λ reply failed is. (let t = failed_turn old.page encode decode get_epoch set_epoch caches reply failed o.doing is in rw (t.0, t.1) (tells, operations, kept, views));
  }

  -- what a failed reply makes of an operation is what its failure does
  pub failure_taken : (failure : Failure) (old : State T) (op : ℕ) (said : Told T) (new : State T) → Fails old op failure said new → FailsAsReplied encode decode get_epoch set_epoch old op said new
  failure_taken failures.Before old op said new v = as_failed old op said new v.operation v.request v.caches v.acts v.tells (ap (λ (s : State T). s.operations) v.state) (ap (λ (s : State T). s.caches) v.state) (ap (λ (s : State T). s.views) v.state)
  failure_taken failures.After old op said new v = as_failed old op said new v.call.operation v.call.request v.call.caches v.call.acts v.tells (ap (λ (s : State T). s.operations) v.state) (ap (λ (s : State T). s.caches) v.state) (ap (λ (s : State T). s.views) v.state)
  failure_taken failures.Loose old op said new v = as_failed old op said new v.operation v.request v.caches v.acts v.tells (ap (λ (s : State T). s.operations) v.state) (ap (λ (s : State T). s.caches) v.state) (ap (λ (s : State T). s.views) v.state)

-- neither a write nor a read is refused with 10

abbrev NotTen : {A : Type 0} → Turned (Result A ℕ) → Type 0
NotTen Goes = Unit {0}
NotTen (Done (Ok x)) = Unit {0}
NotTen (Done (Err number)) = number ≢ 10

not_ten : {A : Type 0} (told : Turned (Result A ℕ)) → NotTen told → told ≡ Done (Err 10) → ⊥
not_ten Goes h e = absurd (cc)
not_ten (Done (Ok x)) h e = absurd (cc)
not_ten (Done (Err number)) h e = h (cc)

store_not_ten : (error : StoreError) → store_error_number error ≢ 10
store_not_ten errors.NoMemory = λ e. omega (arith, e)
store_not_ten errors.NotFound = λ e. omega (arith, e)
store_not_ten errors.AlreadyExists = λ e. omega (arith, e)
store_not_ten errors.NotModified = λ e. omega (arith, e)
store_not_ten errors.Precondition = λ e. omega (arith, e)
store_not_ten errors.Failed = λ e. omega (arith, e)
store_not_ten errors.TokensExhausted = λ e. omega (arith, e)

either_not_ten : {O A : Type 0} (b : Bool) (x y : O × Turned (Result A ℕ)) → NotTen x.1 → NotTen y.1 → NotTen (if b then x else y).1
either_not_ten true x y h g = h
either_not_ten false x y h g = g

got_not_ten : (op : BoundaryRead) (answer : Result Got StoreError) → NotTen (boundary_got op answer).1
got_not_ten op (Ok got) = by (boundary_read got.bytes)
  where
    by : (number : Option ℕ) → NotTen (text_read op got.token number).1
    by None = λ e. omega (arith, e)
    by (Some number) = tt
got_not_ten op (Err errors.NotFound) = tt
got_not_ten op (Err errors.NotModified) = tt
got_not_ten op (Err errors.AlreadyExists) = store_not_ten errors.AlreadyExists
got_not_ten op (Err errors.Precondition) = store_not_ten errors.Precondition
got_not_ten op (Err errors.Failed) = store_not_ten errors.Failed
got_not_ten op (Err errors.NoMemory) = store_not_ten errors.NoMemory
got_not_ten op (Err errors.TokensExhausted) = store_not_ten errors.TokensExhausted

boundary_not_ten : (op : BoundaryRead) (cached : Option CachedBoundary) (reply : Option Reply) → NotTen (boundary_turned op cached reply).1
boundary_not_ten (reading.Looks path) cached reply = tt
boundary_not_ten (reading.Gets request) cached (Some (replies.Get answer)) = got_not_ten (reading.Gets request) answer
boundary_not_ten (reading.Gets request) cached (Some (replies.Put answer)) = tt
boundary_not_ten (reading.Gets request) cached (Some (replies.List answer)) = tt
boundary_not_ten (reading.Gets request) cached (Some (replies.Delete answer)) = tt
boundary_not_ten (reading.Gets request) cached None = tt
boundary_not_ten (reading.Holds (Some known)) cached reply = tt
boundary_not_ten (reading.Holds None) (Some cached) reply = tt
boundary_not_ten (reading.Holds None) None reply = λ e. omega (arith, e)

decided_not_ten : (id : ℕ) (answer : Result Known ℕ) → NotTen (Done answer) → NotTen (Done (decided id answer))
decided_not_ten id (Ok known) h = by (nat_lt known.0 id)
  where
    by : (b : Bool) → NotTen (Done (if◌then◌else◌ {A = Result (Unit {0}) ℕ} b (Ok tt) (Err 5)))
    by true = tt
    by false = λ e. omega (arith, e)
decided_not_ten id (Err number) h = h

bound_reads_not_ten : (op : BoundaryCheck) (x : BoundaryRead × Turned (Result Known ℕ)) → NotTen x.1 → NotTen (check_steps.reads_turned op x).1
bound_reads_not_ten op (read, Goes) h = tt
bound_reads_not_ten op (read, Done (Ok known)) h = decided_not_ten op.id (Ok known) tt
bound_reads_not_ten op (read, Done (Err number)) h = h

bound_not_ten : (step : BoundaryStep) (op : BoundaryCheck) (cached : Option CachedBoundary) (reply : Option Reply) → NotTen (turned_at step op cached reply).1
bound_not_ten boundary_step.Looks op cached reply = either_not_ten (refused_by op.id cached) (op, Done (Err 5)) (check_steps.reads_by op op.read, Goes) (λ e. omega (arith, e)) tt
bound_not_ten boundary_step.Reads op cached reply = bound_reads_not_ten op (boundary_turned op.read cached reply) (boundary_not_ten op.read cached reply)

checked_not_ten : (id : ℕ) (x : BoundaryCheck × Turned (Result (Unit {0}) ℕ)) → NotTen x.1 → NotTen (checks_turned id x).1
checked_not_ten id (check, Goes) h = tt
checked_not_ten id (check, Done (Ok accepted)) h = tt
checked_not_ten id (check, Done (Err number)) h = either_not_ten (number == 5) (checks.Drops id, Goes) (checks.Checks check, Done (Err number)) tt h

check_not_ten : (op : CheckOp) (caches : Caches) (reply : Option Reply) → NotTen (check_turned op caches reply).1
check_not_ten (checks.Checks check) caches reply = checked_not_ten check.id (boundary_check_turned check caches.boundary reply) (bound_not_ten check.step check caches.boundary reply)
check_not_ten (checks.Drops id) caches reply = λ e. omega (arith, e)

-- writes

put_not_ten : (op : WriteUncheckedOp) (answer : Result ℕ StoreError) → NotTen (write_steps.put_answered op answer).1
put_not_ten op (Ok token) = tt
put_not_ten op (Err errors.AlreadyExists) = λ e. omega (arith, e)
put_not_ten op (Err errors.NotFound) = store_not_ten errors.NotFound
put_not_ten op (Err errors.NotModified) = store_not_ten errors.NotModified
put_not_ten op (Err errors.Precondition) = store_not_ten errors.Precondition
put_not_ten op (Err errors.Failed) = store_not_ten errors.Failed
put_not_ten op (Err errors.NoMemory) = store_not_ten errors.NoMemory
put_not_ten op (Err errors.TokensExhausted) = store_not_ten errors.TokensExhausted

unchecked_not_ten : (op : WriteUncheckedOp) (reply : Option Reply) → NotTen (unchecked_turned op reply).1
unchecked_not_ten op (Some (replies.Put answer)) = put_not_ten op answer
unchecked_not_ten op (Some (replies.Get answer)) = tt
unchecked_not_ten op (Some (replies.List answer)) = tt
unchecked_not_ten op (Some (replies.Delete answer)) = tt
unchecked_not_ten (unchecked.Keeps version) None = tt
unchecked_not_ten (unchecked.Puts version request) None = tt
unchecked_not_ten unchecked.Ended None = tt

written_not_ten : (op : WriteOp) (x : WriteUncheckedOp × Turned (Result ℕ ℕ)) → NotTen x.1 → NotTen (write_steps.written_turned op x).1
written_not_ten op (write, Goes) h = tt
written_not_ten op (write, Done (Ok id)) h = tt
written_not_ten op (write, Done (Err number)) h = h

write_checked_not_ten : (op : WriteOp) (x : CheckOp × Turned (Result (Unit {0}) ℕ)) → NotTen x.1 → NotTen (write_steps.checked_turned op x).1
write_checked_not_ten op (check, Goes) h = tt
write_checked_not_ten op (check, Done (Ok accepted)) h = tt
write_checked_not_ten op (check, Done (Err number)) h = h

write_not_ten : (step : WriteStep) (op : WriteOp) (caches : Caches) (reply : Option Reply) → NotTen (write_turned_at step op caches reply).1
write_not_ten writes.Writes op caches reply = written_not_ten op (unchecked_turned op.write reply) (unchecked_not_ten op.write reply)
write_not_ten writes.Checks op caches reply = write_checked_not_ten op (check_turned op.check caches reply) (check_not_ten op.check caches reply)

-- reads

module _ {T : Type 0} (names : Names) (page : ℕ) (decode : List ℕ → Option T) where
  hand_not_ten : (op : LatestOp T) (id : ℕ) (value : Option T) → NotTen (read_in_hand decode op id value).1
  hand_not_ten op id (Some value) = tt
  hand_not_ten op id None = λ e. omega (arith, e)

  in_hand_not_ten : (op : LatestOp T) (hand : Cached) (found : ℕ) → NotTen (in_hand names decode op hand found).1
  in_hand_not_ten op hand found = either_not_ten (hand.id == 18446744073709551615) (answered decode op hand) _ (hand_not_ten op hand.id (decode hand.bytes)) tt

  keeping_not_ten : (op : LatestOp T) (version : Cached) (value : Option T) → NotTen (keeping decode op version value).1
  keeping_not_ten op version (Some value) = tt
  keeping_not_ten op version None = λ e. omega (arith, e)

  begins_not_ten : (op : LatestOp T) (held : Option Cached) → NotTen (begins_with names page decode op held).1
  begins_not_ten op None = tt
  begins_not_ten op (Some hand) = in_hand_not_ten op hand 0

  unlisted_not_ten : (op : LatestOp T) (held : Option Cached) → NotTen (unlisted op held).1
  unlisted_not_ten op None = tt
  unlisted_not_ten op (Some cached) = tt

  held_not_ten : (op : LatestOp T) (id : ℕ) (version : Option Cached) → NotTen (held_or_got names decode op id version).1
  held_not_ten op id None = tt
  held_not_ten op id (Some cached) = keeping_not_ten op cached (decode cached.bytes)

  chosen_not_ten : (op : LatestOp T) (greatest : Option ℕ) (versions : List Cached) → NotTen (chosen names decode op greatest versions).1
  chosen_not_ten op None versions = unlisted_not_ten op (greatest_held versions)
  chosen_not_ten op (Some id) versions = held_not_ten op id (held id versions)

  paged_not_ten : (after : Option Segments) (found : Option ℕ) → NotTen (paged_turned {T = T} names page after found).1
  paged_not_ten None found = tt
  paged_not_ten (Some after) found = tt

  listed_not_ten : (op : LatestOp T) (found : Option ℕ) (answer : Result Page StoreError) → NotTen (listed names page op found answer).1
  listed_not_ten op found (Ok told) = paged_not_ten (next_after told) (greatest_from found names told.metas)
  listed_not_ten op found (Err error) = store_not_ten error

  probed_not_ten : (op : LatestOp T) (hand : Cached) (found next : ℕ) (answer : Result Got StoreError) → NotTen (probed decode op hand found next answer).1
  probed_not_ten op hand found next (Ok got) = tt
  probed_not_ten op hand found next (Err errors.NotFound) = hand_not_ten op hand.id (decode hand.bytes)
  probed_not_ten op hand found next (Err errors.AlreadyExists) = store_not_ten errors.AlreadyExists
  probed_not_ten op hand found next (Err errors.NotModified) = store_not_ten errors.NotModified
  probed_not_ten op hand found next (Err errors.Precondition) = store_not_ten errors.Precondition
  probed_not_ten op hand found next (Err errors.Failed) = store_not_ten errors.Failed
  probed_not_ten op hand found next (Err errors.NoMemory) = store_not_ten errors.NoMemory
  probed_not_ten op hand found next (Err errors.TokensExhausted) = store_not_ten errors.TokensExhausted

  version_not_ten : (op : LatestOp T) (id : ℕ) (answer : Result Got StoreError) → NotTen (latest_got names page decode op id answer).1
  version_not_ten op id (Ok got) = keeping_not_ten op (record { id = id; bytes = got.bytes }) (decode got.bytes)
  version_not_ten op id (Err errors.NotFound) = tt
  version_not_ten op id (Err errors.AlreadyExists) = store_not_ten errors.AlreadyExists
  version_not_ten op id (Err errors.NotModified) = store_not_ten errors.NotModified
  version_not_ten op id (Err errors.Precondition) = store_not_ten errors.Precondition
  version_not_ten op id (Err errors.Failed) = store_not_ten errors.Failed
  version_not_ten op id (Err errors.NoMemory) = store_not_ten errors.NoMemory
  version_not_ten op id (Err errors.TokensExhausted) = store_not_ten errors.TokensExhausted

  latest_not_ten : (op : LatestOp T) (versions : List Cached) (reply : Option Reply) → NotTen (latest_turned names page decode op versions reply).1
  latest_not_ten latest.Looks versions reply = begins_not_ten latest.Looks (greatest_held versions)
  latest_not_ten (latest.Finds successor found) versions reply = either_not_ten (found == 4) (latest_listing names page, Goes) (in_hand names decode (latest.Finds successor found) successor found) tt (in_hand_not_ten (latest.Finds successor found) successor found)
  latest_not_ten (latest.Chooses greatest) versions reply = chosen_not_ten (latest.Chooses greatest) greatest versions
  latest_not_ten (latest.Keeps version value) versions reply = tt
  latest_not_ten (latest.Drops id) versions reply = tt
  latest_not_ten latest.Ended versions reply = tt
  latest_not_ten (latest.Probes hand found next request) versions (Some (replies.Get answer)) = probed_not_ten (latest.Probes hand found next request) hand found next answer
  latest_not_ten (latest.Probes hand found next request) versions (Some (replies.Put answer)) = tt
  latest_not_ten (latest.Probes hand found next request) versions (Some (replies.List answer)) = tt
  latest_not_ten (latest.Probes hand found next request) versions (Some (replies.Delete answer)) = tt
  latest_not_ten (latest.Probes hand found next request) versions None = tt
  latest_not_ten (latest.Lists found request) versions (Some (replies.List answer)) = listed_not_ten (latest.Lists found request) found answer
  latest_not_ten (latest.Lists found request) versions (Some (replies.Put answer)) = tt
  latest_not_ten (latest.Lists found request) versions (Some (replies.Get answer)) = tt
  latest_not_ten (latest.Lists found request) versions (Some (replies.Delete answer)) = tt
  latest_not_ten (latest.Lists found request) versions None = tt
  latest_not_ten (latest.Gets id request) versions (Some (replies.Get answer)) = version_not_ten (latest.Gets id request) id answer
  latest_not_ten (latest.Gets id request) versions (Some (replies.Put answer)) = tt
  latest_not_ten (latest.Gets id request) versions (Some (replies.List answer)) = tt
  latest_not_ten (latest.Gets id request) versions (Some (replies.Delete answer)) = tt
  latest_not_ten (latest.Gets id request) versions None = tt

  reads_not_ten : (boundary : BoundaryRead) (x : LatestOp T × Turned (ReadAnswer T)) → NotTen x.1 → NotTen (reads_turned boundary x).1
  reads_not_ten boundary (op, Goes) h = tt
  reads_not_ten boundary (op, Done (Ok None)) h = tt
  reads_not_ten boundary (op, Done (Ok (Some found))) h = tt
  reads_not_ten boundary (op, Done (Err number)) h = h

  found_not_ten : (path : Segments) (id : ℕ) (value : T) (x : CheckOp × Turned (Result (Unit {0}) ℕ)) → NotTen x.1 → NotTen (read_steps.checks_turned path id value x).1
  found_not_ten path id value (check, Goes) h = tt
  found_not_ten path id value (check, Done (Ok accepted)) h = tt
  found_not_ten path id value (check, Done (Err number)) h = either_not_ten (number == 5) (read_steps.read_started path, Goes) (reads.Checks id value check, Done (Err number)) tt h

  read_not_ten : (path : Segments) (op : ReadOp T) (caches : Caches) (reply : Option Reply) → NotTen (read_turned names path page decode op caches reply).1
  read_not_ten path (reads.Reads op boundary) caches reply = reads_not_ten boundary (latest_turned names page decode op caches.latest reply) (latest_not_ten op caches.latest reply)
  read_not_ten path (reads.Checks id value check) caches reply = found_not_ten path id value (check_turned check caches reply) (check_not_ten check caches reply)
  read_not_ten path reads.Ended caches reply = tt

-- claims

none_some : {A : Type 0} {x : A} → ◌≡◌ {A = Option A} None (Some x) → ⊥
none_some e = cc

-- the number of a refusal
abbrev number_in : {T : Type 0} → Option (Ending T) → Option ℕ
number_in (Some (endings.Answers (plain_answers.Refused number))) = Some number
number_in ending = None

module _ {T : Type 0} where
  attempt_not_ten : (path : Segments) (value : T) (epoch : ℕ) (x : WriteOp × Turned (Result ℕ ℕ)) → NotTen x.1 → NotTen (attempt_turned path value epoch x).1
  attempt_not_ten path value epoch (write, Goes) h = tt
  attempt_not_ten path value epoch (write, Done (Ok id)) h = tt
  attempt_not_ten path value epoch (write, Done (Err number)) h = either_not_ten (number == 5) (claims.Reads (read_steps.read_started path), Goes) (claims.Ended, Done (Err number)) tt h

  followed_ten : (r : Result (Claiming T) ℕ) → (followed r).1 ≡ Done (Err 10) → r ≡ Err 10
  followed_ten (Ok next) e = absurd (cc)
  followed_ten (Err number) e = ap Err (cc)

  first_ten : (asked : Option ℕ) (r : Result (Claiming T) ℕ) → first_next ops.Claims (started_as (as_claim asked) r) ≡ refused 10 → r ≡ Err 10
  first_ten asked (Ok next) e = absurd (none_some (ap (λ (n : Next T). number_in n.1) e))
  first_ten asked (Err number) e = ap Err (same_Some number 10 (ap (λ (n : Next T). number_in n.1) e))

  ends_ten : (op : Doing T) (told : Turned (Result (Outcome T) ℕ)) → next_of op told ≡ refused 10 → told ≡ Done (Err 10)
  ends_ten op Goes e = absurd (none_some (ap (λ (n : Next T). number_in n.1) e))
  ends_ten op (Done (Ok outcome)) e = absurd (none_some (ap (λ (n : Next T). number_in n.1) e))
  ends_ten op (Done (Err number)) e = ap (λ (n : ℕ). Done (Err n)) (same_Some number 10 (ap (λ (n : Next T). number_in n.1) e))

  -- the refusal 9 is another
  nine_ends : refused {T = T} 9 ≡ refused 10 → ⊥
  nine_ends e = let same : ◌≡◌ {A = ℕ} 9 10 = same_Some 9 10 (ap (λ (n : Next T). number_in n.1) e) in omega (arith, same)

module _ {T : Type 0} (names : Names) (path : Segments) (encode : T → List ℕ) (epoch_of : T → ℕ) (with_epoch : T → ℕ → T) where
  -- an attempt on a version without a next id
  entered_ten : (epoch id : ℕ) (value : T) → entered names path encode with_epoch epoch id value ≡ Err 10 → id ≡ greatest
  entered_ten epoch id value e = by (id == 18446744073709551615) refl e
    where
      by : (b : Bool) → (id == 18446744073709551615) ≡ b → if◌then◌else◌ {A = Result (Claiming T) ℕ} b (Err 10) (Ok (claims.Writes (write_started names path (Some id) (encode (with_epoch value epoch))) (with_epoch value epoch) epoch)) ≡ Err 10 → id ≡ greatest
      by true is f = eqb-true id 18446744073709551615 is
      by false is f = absurd (cc)

  next_ten : (id : ℕ) (value : T) → attempted names path encode epoch_of with_epoch None id value ≡ Err 10 → (id ≡ greatest) ⊎ (epoch_of value ≡ greatest)
  next_ten id value e = by (epoch_of value == 18446744073709551615) refl e
    where
      by : (b : Bool) → (epoch_of value == 18446744073709551615) ≡ b → entered_with names path encode with_epoch (if◌then◌else◌ {A = Result ℕ TransactionalObjectError} b (Err IdExhausted) (Ok (epoch_of value + 1))) id value ≡ Err 10 → (id ≡ greatest) ⊎ (epoch_of value ≡ greatest)
      by true is f = inr (eqb-true (epoch_of value) 18446744073709551615 is)
      by false is f = inl (entered_ten (epoch_of value + 1) id value f)

  asked_ten : (epoch id : ℕ) (value : T) → attempted names path encode epoch_of with_epoch (Some epoch) id value ≡ Err 10 → id ≡ greatest
  asked_ten epoch id value e = by (nat_le epoch (epoch_of value)) e
    where
      by : (b : Bool) → entered_with names path encode with_epoch (if◌then◌else◌ {A = Result ℕ TransactionalObjectError} b (Err Fenced) (Ok epoch)) id value ≡ Err 10 → id ≡ greatest
      by true f = absurd (let same : ◌≡◌ {A = ℕ} 6 10 = cc in omega (arith, same))
      by false f = entered_ten epoch id value f

module _ {T : Type 0} (page : ℕ) (encode : T → List ℕ) (decode : List ℕ → Option T) (get_epoch : T → ℕ) (set_epoch : T → ℕ → T) where
  module _ (asked : Option ℕ) (caches : Caches) (reply : Option Reply) where
    -- a refusal 10 comes of an attempt on what the claim's read found
    abbrev OfFound : Claiming T → Type 0
    OfFound op = (id : ℕ) × (value : T) × Found page decode op caches reply id value × (attempted world_names world_boundary encode get_epoch set_epoch asked id value ≡ Err 10)

    reading_ten : (read : ReadOp T) (x : ReadOp T × Turned (ReadAnswer T)) → read_turned world_names world_boundary page decode read caches reply ≡ x → NotTen x.1 → (refreshed_turned world_names world_boundary encode get_epoch set_epoch asked x).1 ≡ Done (Err 10) → OfFound (claims.Reads read)
    reading_ten read (next, Goes) is h e = absurd (cc)
    reading_ten read (next, Done (Ok None)) is h e = absurd (let same : ◌≡◌ {A = ℕ} 7 10 = cc in omega (arith, same))
    reading_ten read (next, Done (Ok (Some found))) is h e =
        (found.0, found.1, record { read = read; reads = refl; finds = ap (λ (told : ReadOp T × Turned (ReadAnswer T)). told.1) is }, followed_ten (attempted world_names world_boundary encode get_epoch set_epoch asked found.0 found.1) e)
    reading_ten read (next, Done (Err number)) is h e = absurd (h (cc))

    claiming_ten : (op : Claiming T) → (claiming_turned world_names world_boundary page encode decode get_epoch set_epoch asked op caches reply).1 ≡ Done (Err 10) → OfFound op
    claiming_ten (claims.Writes write value epoch) e =
        let x = write_turned write caches reply in
        absurd (not_ten (attempt_turned world_boundary value epoch x).1 (attempt_not_ten world_boundary value epoch x (write_not_ten write.step write caches reply)) e)
    claiming_ten (claims.Reads read) e = reading_ten read (read_turned world_names world_boundary page decode read caches reply) refl (read_not_ten world_names page decode world_boundary read caches reply) e
    claiming_ten claims.Ended e = absurd (cc)

  pub claim_first : (number : ℕ) (view : View T) → started page encode get_epoch set_epoch (any.View (view_calls.Claim number)) (Some view) ≡ refused 10 → (view.id ≡ greatest) ⊎ (get_epoch view.object ≡ greatest)
  claim_first number view e =
      next_ten world_names world_boundary encode get_epoch set_epoch view.id view.object
      (first_ten None (attempted world_names world_boundary encode get_epoch set_epoch None view.id view.object) e)

  pub claim_at_first : (number epoch : ℕ) (view : View T) → started page encode get_epoch set_epoch (any.View (view_calls.ClaimAt number epoch)) (Some view) ≡ refused 10 → view.id ≡ greatest
  claim_at_first number epoch view e =
      asked_ten world_names world_boundary encode get_epoch set_epoch epoch view.id view.object
      (first_ten (Some epoch) (attempted world_names world_boundary encode get_epoch set_epoch (Some epoch) view.id view.object) e)

  -- a refusal 10 after the first attempt comes of an attempt on what the claim's read found
  later_ten : (op : ClaimOp T) (caches : Caches) (reply : Option Reply) → turned page encode decode get_epoch set_epoch false (does.View (ops.Claims op)) caches reply ≡ refused 10 → OfFound op.asked caches reply op.claiming
  later_ten op caches reply e =
      let x = claim_turned world_names world_boundary page encode decode get_epoch set_epoch op caches reply in
      claiming_ten op.asked caches reply op.claiming (ends_ten (does.View (ops.Claims x.0)) x.1 e)

  pub claim_later : (lacks : Bool) (op : ClaimOp T) (caches : Caches) (reply : Option Reply) → op.asked ≡ None → turned page encode decode get_epoch set_epoch lacks (does.View (ops.Claims op)) caches reply ≡ refused 10 →
      (id : ℕ) × (value : T) × Found page decode op.claiming caches reply id value × ((id ≡ greatest) ⊎ (get_epoch value ≡ greatest))
  claim_later true op caches reply asks e = absurd (nine_ends {T = T} e)
  claim_later false op caches reply asks e =
      let f = later_ten op caches reply e in
      (f.0, f.1, f.2, next_ten world_names world_boundary encode get_epoch set_epoch f.0 f.1 (subst (λ (a : Option ℕ). attempted world_names world_boundary encode get_epoch set_epoch a f.0 f.1 ≡ Err 10) asks f.3))

  pub claim_at_later : (lacks : Bool) (epoch : ℕ) (op : ClaimOp T) (caches : Caches) (reply : Option Reply) → op.asked ≡ Some epoch → turned page encode decode get_epoch set_epoch lacks (does.View (ops.Claims op)) caches reply ≡ refused 10 →
      (id : ℕ) × (value : T) × Found page decode op.claiming caches reply id value × (id ≡ greatest)
  claim_at_later true epoch op caches reply asks e = absurd (nine_ends {T = T} e)
  claim_at_later false epoch op caches reply asks e =
      let f = later_ten op caches reply e in
      (f.0, f.1, f.2, asked_ten world_names world_boundary encode get_epoch set_epoch epoch f.0 f.1 (subst (λ (a : Option ℕ). attempted world_names world_boundary encode get_epoch set_epoch a f.0 f.1 ≡ Err 10) asks f.3))
