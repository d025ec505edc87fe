-- The steps of the call that makes a view a holder: of the next epoch, or of one that is asked for.
use Rattle.std.specs.Prelude.{ℕ, List, Option, Result}
use Rattle.txn_store.specs.Paths.{Segments}
use Rattle.txn_store.specs.VersionName.{Names}
use Rattle.txn_store.specs.declared.request.Reply.{Reply}
use Rattle.txn_steps.specs.declared.boundary.caches.Caches.{Caches}
use Rattle.txn_steps.specs.declared.boundary.turned.Turned.{Turned}
use Rattle.txn_steps_views.specs.declared.outcome.Outcome.{Outcome}
use Rattle.txn_steps_views.specs.declared.claiming.Claiming.{Claiming}
use Rattle.txn_steps_views.specs.declared.claiming.Claiming.TheVariants.{Ended}
use Rattle.txn_steps_views.specs.declared.claim.ClaimOp.{ClaimOp}
use Rattle.txn_steps_views.specs.Lacking.{started_as}
use Rattle.txn_steps_views.specs.Attempts.{attempted, claiming_turned}

module _ {T : Type 0} where
  abbrev pub as_claim : Option ℕ → Claiming T → ClaimOp T
  as_claim asked claiming = record { asked = asked; claiming = claiming }

  -- it was answered
  abbrev pub claim_ended : ClaimOp T → ClaimOp T
  claim_ended op = as_claim op.asked Ended

  abbrev pub claim_next : Option ℕ → Claiming T × Turned (Result (Outcome T) ℕ) → ClaimOp T × Turned (Result (Outcome T) ℕ)
  claim_next asked next = (as_claim asked next.0, next.1)

module _ {T : Type 0} (names : Names) (path : Segments) (encode : T → List ℕ) (epoch_of : T → ℕ) (with_epoch : T → ℕ → T) where
  -- the first attempt is on the view's version
  abbrev pub claim_started : Option ℕ → ℕ → T → Result (ClaimOp T) ℕ
  claim_started asked id value = started_as (as_claim asked) (attempted names path encode epoch_of with_epoch asked id value)

module _ {T : Type 0} (names : Names) (path : Segments) (page : ℕ) (encode : T → List ℕ) (decode : List ℕ → Option T) (epoch_of : T → ℕ) (with_epoch : T → ℕ → T) where
  -- what it makes of a look or a reply, memory aside
  abbrev pub claim_turned : ClaimOp T → Caches → Option Reply → ClaimOp T × Turned (Result (Outcome T) ℕ)
  claim_turned op caches reply = claim_next op.asked (claiming_turned names path page encode decode epoch_of with_epoch op.asked op.claiming caches reply)
