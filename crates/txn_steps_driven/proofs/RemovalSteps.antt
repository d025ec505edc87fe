-- A delete of a version, step by step.
use Rattle.std.proofs.Common.{◌≡◌, ◌⊎◌, ℕ, ◌<◌, List, Contains, Option, Some, None, Result, Ok, Err, refl, sym, ap, subst, ◌∙◌, inl, inr, arith}
use Rattle.txn_store.specs.Paths.{Segments}
use Rattle.txn_store.specs.VersionName.{Names, version_path}
use Rattle.txn_store.specs.Store.{Files, State, Kept, Counted, Removed, Deletes as StoreDeletes}
use Rattle.txn_store.specs.declared.store.StoreError.{StoreError}
use Rattle.txn_store.specs.declared.store.StoreError.TheVariants as errors
use Rattle.txn_store.specs.declared.request.Request.{Request}
use Rattle.txn_store.specs.declared.request.Reply.{Reply}
use Rattle.txn_store.specs.declared.request.Reply.TheVariants as replies
use Rattle.txn_store.specs.types.Errors.{error_of_store}
use Rattle.txn_store.specs.declared.types.error.TransactionalObjectError.{TransactionalObjectError}
use Rattle.txn_store.specs.declared.types.error.TransactionalObjectError.TheVariants as kinds
use Rattle.txn_steps.specs.declared.boundary.caches.Cached.{Cached}
use Rattle.txn_steps.specs.declared.boundary.turned.Turned.{Turned}
use Rattle.txn_steps.specs.declared.boundary.turned.Turned.TheVariants.{Goes, Done}
use Rattle.txn_steps.specs.boundary.Asking.{reply_told}
use Rattle.txn_steps.specs.boundary.Steps.{turned_by_number, error_in, TellsErrorOf}
use Rattle.txn_steps.specs.boundary.Windows.{without}
use Rattle.txn_steps.specs.declared.delete.RemovalStep.{RemovalStep}
use Rattle.txn_steps.specs.declared.delete.RemovalStep.TheVariants.{Removes, Drops}
use Rattle.txn_steps.specs.declared.delete.DeleteUncheckedOp.{DeleteUncheckedOp}
use Rattle.txn_steps.specs.Deletes.{removal_asked_at, removal_turned_at, removal_latest_at, removed}
use Rattle.txn_steps_driven.specs.Asked.{Replies}
use Rattle.txn_steps_driven.specs.Calls.{Spends}
use Rattle.txn_steps_driven.specs.Standing.{FilesStand, WindowFits}
use Rattle.txn_steps_driven.specs.RemovalRuns.{DeleteLeaves, RemovalRunsAt, RemovalRuns, removal_rank, IsRemovalStep, DeleteEnds, Deleted}
use Rattle.txn_steps_driven.proofs.Effects.{removed_stands, removed-others}
use Rattle.txn_steps_driven.proofs.Frames.{FilesStand-kept, same_at-kept, same_but-kept}
use Rattle.txn_steps_driven.proofs.Refusals.{goes, answers, tells_store}
use Rattle.txn_steps_driven.proofs.Windows.{without_fits}

module _ (path : Segments) (id : ℕ) (old new : State) (latest : List Cached) where
  kept_spends : Counted old new → Kept old new → Spends 1 0 old new
  kept_spends counted kept =
      let calls = counted.calls in
      let left = kept.left in
      record { calls_rise = omega (arith, calls); calls_most = omega (arith, calls); failures_rise = counted.failures; left_falls = omega (arith, left); left_least = omega (arith, left) }

  removed_spends : Counted old new → Removed path old new → Spends 1 0 old new
  removed_spends counted gone =
      let calls = counted.calls in
      let left = gone.left in
      record { calls_rise = omega (arith, calls); calls_most = omega (arith, calls); failures_rise = counted.failures; left_falls = omega (arith, left); left_least = omega (arith, left) }

  removed_given : Removed path old new → (token : ℕ) → Contains old.given token → Contains new.given token
  removed_given gone token there = subst (λ (given : List ℕ). Contains given token) (sym gone.given) there

  -- after a removal that was refused
  refused : (e : StoreError) → StoreDeletes path old (Err e) new → DeleteEnds path id old new latest latest (Err (error_of_store e))
  refused errors.Failed deletes = elim deletes.err.1 [
    | inl kept ↦ record { leaves = (inl kept, refl); spends = kept_spends deletes.counted kept; cause = deletes.err.0; others = same_but-kept path old new kept; given = (same_at-kept path old new kept).given }
    | inr gone ↦ record { leaves = (inr gone, refl); spends = removed_spends deletes.counted gone; cause = deletes.err.0; others = removed-others path old new gone; given = removed_given gone }
  ]
  refused errors.NoMemory deletes = let kept = deletes.err.1 in record { leaves = (kept, refl); spends = kept_spends deletes.counted kept; cause = tt; others = same_but-kept path old new kept; given = (same_at-kept path old new kept).given }
  refused errors.TokensExhausted deletes = absurd deletes.err
  refused errors.NotFound deletes = absurd (let is = deletes.err.0 in cc)
  refused errors.AlreadyExists deletes = absurd (let is = deletes.err.0 in cc)
  refused errors.Precondition deletes = absurd (let is = deletes.err.0 in cc)
  refused errors.NotModified deletes = absurd (let is = deletes.err.0 in cc)

-- it goes on with less to do, or has ended
abbrev pub RemovalGoes : Segments → ℕ → State → State → List Cached → List Cached → DeleteUncheckedOp → DeleteUncheckedOp → Turned (Result (Unit {0}) TransactionalObjectError) → Type 0
RemovalGoes path id old new latest latest' op op' Goes = RemovalRuns path id old new latest latest' op' × (removal_rank op'.step < removal_rank op.step)
RemovalGoes path id old new latest latest' op op' (Done result) = DeleteEnds path id old new latest latest' result

-- the error that is told
refusal_told : (op op' : DeleteUncheckedOp) (e : StoreError) (told : Turned (Result (Unit {0}) TransactionalObjectError)) → (op', turned_by_number told) ≡ removed op (Err e) → TellsErrorOf (Some e) told → told ≡ Done (Err (error_of_store e))
refusal_told op op' e told turned own = tells_store told e (ap (λ p. p.1) turned) own

module _ (path : Segments) (id : ℕ) (old new : State) (latest : List Cached) where
  abbrev op_at : RemovalStep → Request → DeleteUncheckedOp
  op_at step request = record { id = id; step = step; request = request }

  -- after its removal
  after_removal : (request : Request) (op' : DeleteUncheckedOp) (told : Turned (Result (Unit {0}) TransactionalObjectError)) (answer : Result (Unit {0}) StoreError)
      → StoreDeletes path old answer new → (op', turned_by_number told) ≡ removed (op_at Removes request) answer → TellsErrorOf (error_in answer) told
      → RemovalGoes path id old new latest latest (op_at Removes request) op' told
  after_removal request op' told (Ok done) deletes turned own =
      let gone = deletes.removed in
      let next : op' ≡ op_at Drops request = ap (λ p. p.0) turned in
      subst (RemovalGoes path id old new latest latest (op_at Removes request) op') (sym (goes told (ap (λ p. p.1) turned)))
      (subst (λ (op : DeleteUncheckedOp). RemovalRuns path id old new latest latest op × (removal_rank op.step < 2)) (sym next)
      (record { id_is = refl; held = refl; at = (gone, removed_spends path id old new latest deletes.counted gone) }, omega arith))
  after_removal request op' told (Err e) deletes turned own =
      subst (RemovalGoes path id old new latest latest (op_at Removes request) op') (sym (refusal_told (op_at Removes request) op' e told turned own)) (refused path id old new latest e deletes)

  -- after its look
  after_look : (mid : State) (latest' : List Cached) (request : Request) (op' : DeleteUncheckedOp) (told : Turned (Result (Unit {0}) TransactionalObjectError))
      → Removed path old mid → Spends 1 0 old mid → new ≡ mid → (op', turned_by_number told) ≡ removal_turned_at Drops (op_at Drops request) None → latest' ≡ without id latest
      → RemovalGoes path id old new latest latest' (op_at Drops request) op' told
  after_look mid latest' request op' told gone spends looked turned drops =
      let now : Removed path old new = subst (Removed path old) (sym looked) gone in
      subst (RemovalGoes path id old new latest latest' (op_at Drops request) op') (sym (answers told tt (ap (λ p. p.1) turned)))
      (record { leaves = (now, drops); spends = subst (Spends 1 0 old) (sym looked) spends; cause = tt; others = removed-others path old new now; given = removed_given path id old new latest now })

  -- one step of a delete that runs
  goes_by : (mid : State) (latest' : List Cached) (step : RemovalStep) (request : Request) (op' : DeleteUncheckedOp) (reply : Option Reply) (told : Turned (Result (Unit {0}) TransactionalObjectError))
      → RemovalRunsAt step path request old mid → Replies (removal_asked_at step (op_at step request)) mid reply new → (op', turned_by_number told) ≡ removal_turned_at step (op_at step request) reply → latest' ≡ removal_latest_at step id latest → TellsErrorOf (reply_told reply) told
      → RemovalGoes path id old new latest latest' (op_at step request) op' told
  goes_by mid latest' Removes request op' (Some (replies.Delete answer)) told (asks, same) served turned holds own =
      let deletes : StoreDeletes path mid answer new = rw asks at served in
      subst (λ (w : List Cached). RemovalGoes path id old new latest w (op_at Removes request) op' told) (sym holds)
      (after_removal request op' told answer (subst (λ (s : State). StoreDeletes path s answer new) same deletes) turned own)
  goes_by mid latest' Removes request op' None told runs served turned holds own = absurd served
  goes_by mid latest' Removes request op' (Some reply) told runs served turned holds own = absurd (rw runs.0 at served)
  goes_by mid latest' Drops request op' None told (gone, spends) served turned holds own = after_look mid latest' request op' told gone spends served turned holds
  goes_by mid latest' Drops request op' (Some reply) told runs served turned holds own = absurd served

  pub removal_goes : (mid : State) (held latest' : List Cached) (op op' : DeleteUncheckedOp) (told : Turned (Result (Unit {0}) TransactionalObjectError))
      → RemovalRuns path id old mid latest held op → IsRemovalStep mid new held latest' op op' told → RemovalGoes path id old new latest latest' op op' told
  removal_goes mid held latest' op op' told runs step =
      let is : op ≡ op_at op.step op.request = ap (λ (own : ℕ). record { id = own; step = op.step; request = op.request }) runs.id_is in
      let drops : latest' ≡ removal_latest_at op.step id latest = step.held ∙ (ap (λ (own : ℕ). removal_latest_at op.step own held) runs.id_is ∙ ap (removal_latest_at op.step id) runs.held) in
      subst (λ (o : DeleteUncheckedOp). RemovalGoes path id old new latest latest' o op' told) (sym is)
      (goes_by mid latest' op.step op.request op' step.reply told runs.at
      (subst (λ (o : DeleteUncheckedOp). Replies (removal_asked_at op.step o) mid step.reply new) is step.replies)
      (subst (λ (o : DeleteUncheckedOp). (op', turned_by_number told) ≡ removal_turned_at op.step o step.reply) is step.turned) drops step.error)

module _ {T : Type 0} (names : Names) (decode : List ℕ → Option T) (id : ℕ) (old new : State) (latest latest' : List Cached) where
  -- nothing is done, or the version is removed
  done_or_not : (result : Result (Unit {0}) TransactionalObjectError) → DeleteLeaves (version_path names id) id old new latest latest' result → Kept old new ⊎ Removed (version_path names id) old new
  done_or_not (Ok done) leaves = inr leaves.0
  done_or_not (Err (kinds.ObjectStoreError errors.Failed)) leaves = leaves.0
  done_or_not (Err (kinds.ObjectStoreError error)) leaves = inl leaves.0
  done_or_not (Err error) leaves = inl leaves.0

  -- what is held then
  held_then : (result : Result (Unit {0}) TransactionalObjectError) → DeleteLeaves (version_path names id) id old new latest latest' result → (latest' ≡ latest) ⊎ (latest' ≡ without id latest)
  held_then (Ok done) leaves = inr leaves.1
  held_then (Err (kinds.ObjectStoreError errors.Failed)) leaves = inl leaves.1
  held_then (Err (kinds.ObjectStoreError error)) leaves = inl leaves.1
  held_then (Err error) leaves = inl leaves.1

  -- a delete that ended
  pub deleted : (result : Result (Unit {0}) TransactionalObjectError) → DeleteEnds (version_path names id) id old new latest latest' result → Deleted names decode id old new latest latest' result
  deleted result ends = record {
    ends = ends;
    files_stand = λ h b stand fenced. elim (done_or_not result ends.leaves) [
      | inl kept ↦ FilesStand-kept names decode h b old new kept stand
      | inr gone ↦ subst (λ (f : Files). FilesStand names decode f h b) (sym gone.files) (removed_stands names decode old.files h b id stand fenced)
    ];
    window_fits = λ h b fits. elim (held_then result ends.leaves) [
      | inl same ↦ subst (WindowFits decode h b) (sym same) fits
      | inr drops ↦ subst (WindowFits decode h b) (sym drops) (without_fits decode h b id latest fits)
    ];
  }
