-- Each claim that runs alone from its start is a run of its attempts.
use Rattle.std.proofs.Common.{◌≡◌, ℕ, zero, suc, ◌≤◌, List, Option, Some, None, Result, Ok, Err, sym, ap, subst, ◌∙◌}
use Rattle.txn_store.specs.Paths.{Segments}
use Rattle.txn_store.specs.VersionName.{Names}
use Rattle.txn_store.specs.declared.types.error.TransactionalObjectError.{TransactionalObjectError}
use Rattle.txn_steps.specs.declared.boundary.turned.Turned.{Turned}
use Rattle.txn_steps.specs.declared.boundary.turned.Turned.TheVariants.{Goes, Done}
use Rattle.txn_steps.specs.boundary.Windows.{Ascends}
use Rattle.txn_steps_driven.specs.DriveRuns.{Scene, GoesOn, Drives}
use Rattle.txn_steps_views.specs.declared.claim.ClaimOp.{ClaimOp}
use Rattle.txn_steps_views.specs.declared.claiming.Claiming.{Claiming}
use Rattle.txn_steps_views.specs.declared.outcome.Outcome.{Outcome}
use Rattle.txn_steps_views.specs.Attempts.{attempted, IsMade}
use Rattle.txn_steps_views.specs.Claims.{as_claim, claim_started}
use Rattle.txn_steps_views.specs.Lacking.{started_as}
use Rattle.txn_steps_laws.specs.declared.with_epochs.WithEpochs.{WithEpochs}
use Rattle.txn_steps_laws.specs.Claimed.{ClaimDriven}
use Rattle.txn_steps_laws.specs.ClaimSteps.{AttemptStepped, ClaimSteps}
use Rattle.txn_steps_laws.specs.Layers.{part_of}
use Rattle.txn_steps_laws.proofs.ClaimRuns.{claim_ran}

module _ {T : Type 0} where
  claim_is : (asked : Option ℕ) (claiming : Result (Claiming T) ℕ) (op : ClaimOp T) → started_as (as_claim asked) claiming ≡ Ok op → (claiming ≡ Ok op.claiming) × (op.asked ≡ asked)
  claim_is asked (Ok claiming) op is = let same : as_claim asked claiming ≡ op = cc in (ap (λ (op : ClaimOp T). Ok op.claiming) same, sym (ap (λ (op : ClaimOp T). op.asked) same))
  claim_is asked (Err number) op is = absurd (cc)

module _ {T X : Type 0} (names : Names) (path : Segments) (page : ℕ) (encode : T → List ℕ) (decode : List ℕ → Option T) (epoch_of : X → T → ℕ) (with_epoch : X → T → ℕ → T) where
  abbrev Attempts : Option ℕ → X → Scene (Claiming T) → Turned (Result (Outcome T) TransactionalObjectError) → Scene (Claiming T) → Type 0
  Attempts asked epochs = AttemptStepped names path page encode decode (epoch_of epochs) (with_epoch epochs) asked

  abbrev Next : Scene (WithEpochs (ClaimOp T) X) → Turned (Result (Outcome T) TransactionalObjectError) → Scene (WithEpochs (ClaimOp T) X) → Type 0
  Next = ClaimSteps names path page encode decode epoch_of with_epoch

  -- the attempts of a claim
  abbrev bare : Scene (WithEpochs (ClaimOp T) X) → Scene (Claiming T)
  bare s = part_of s.op.op.claiming s

  claims_on : (a : Scene (WithEpochs (ClaimOp T) X)) (n : ℕ) (c : Scene (WithEpochs (ClaimOp T) X)) → GoesOn Next n a c → GoesOn (Attempts a.op.op.asked a.op.epochs) n (bare a) (bare c) × (c.op.epochs ≡ a.op.epochs) × (c.op.op.asked ≡ a.op.op.asked)
  claims_on a zero c same = (ap bare same, ap (λ (s : Scene (WithEpochs (ClaimOp T) X)). s.op.epochs) same, ap (λ (s : Scene (WithEpochs (ClaimOp T) X)). s.op.op.asked) same)
  claims_on a (suc n) c (b, on, step) =
      let so_far = claims_on a n b on in
      let attempt = subst (λ (asked : Option ℕ). Attempts asked b.op.epochs (bare b) Goes (bare c)) so_far.2 step.attempt in
      ((bare b, so_far.0, subst (λ (e : X). Attempts a.op.op.asked e (bare b) Goes (bare c)) so_far.1 attempt), step.same_epochs ∙ so_far.1, step.same_asked ∙ so_far.2)

  claims : (a c : Scene (WithEpochs (ClaimOp T) X)) (steps : ℕ) (answer : Option (Result (Outcome T) TransactionalObjectError)) → Drives Next steps a answer c → Drives (Attempts a.op.op.asked a.op.epochs) steps (bare a) answer (bare c)
  claims a c steps None on = (claims_on a steps c on).0
  claims a c steps (Some answer) (n, b, within, on, step) =
      let so_far = claims_on a n b on in
      let attempt = subst (λ (asked : Option ℕ). Attempts asked b.op.epochs (bare b) (Done answer) (bare c)) so_far.2 step.attempt in
      (n, bare b, within, so_far.0, subst (λ (e : X). Attempts a.op.op.asked e (bare b) (Done answer) (bare c)) so_far.1 attempt)

  module _ (room : 1 ≤ page) (id : ℕ) (object : T) where
    pub claim_driven : (asked : Option ℕ) (a : Scene (WithEpochs (ClaimOp T) X)) → Ascends a.caches.latest → claim_started names path encode (epoch_of a.op.epochs) (with_epoch a.op.epochs) asked id object ≡ Ok a.op.op → IsMade encode decode (epoch_of a.op.epochs) a.op.op.claiming → (steps : ℕ) (answer : Option (Result (Outcome T) TransactionalObjectError)) (c : Scene (WithEpochs (ClaimOp T) X)) → Drives Next steps a answer c → ClaimDriven names decode path (epoch_of a.op.epochs) (with_epoch a.op.epochs) asked page id object steps a answer c
    claim_driven asked a ascending starts made steps answer c on =
        let begins = claim_is asked (attempted names path encode (epoch_of a.op.epochs) (with_epoch a.op.epochs) asked id object) a.op.op starts in
        let runs = subst (λ (e : Option ℕ). Drives (Attempts e a.op.epochs) steps (bare a) answer (bare c)) begins.1 (claims a c steps answer on) in
        λ apart h n stood view. claim_ran names path page room encode decode (epoch_of a.op.epochs) (with_epoch a.op.epochs) asked (bare a) apart h n id object ascending begins.0 made stood view steps answer (bare c) runs
