-- A read of one id that runs alone from its start: what it leaves.
use Rattle.std.proofs.Common.{◌≡◌, ℕ, zero, suc, ◌<◌, ◌^◌, List, Option, Some, None, Result, refl, sym, ap, subst, ◌∙◌}
use Rattle.txn_store.specs.VersionName.{Names}
use Rattle.txn_store.specs.declared.types.error.TransactionalObjectError.{TransactionalObjectError}
use Rattle.txn_steps.specs.declared.boundary.caches.Caches.{Caches}
use Rattle.txn_steps.specs.declared.boundary.turned.Turned.{Turned}
use Rattle.txn_steps.specs.declared.boundary.turned.Turned.TheVariants.{Goes, Done}
use Rattle.txn_steps.specs.boundary.Steps.{turned_by_number, lacks_memory}
use Rattle.txn_steps.specs.declared.seen.ReadSeenOp.{ReadSeenOp}
use Rattle.txn_steps.specs.declared.seen.ReadSeenOp.TheVariants.{Looks}
use Rattle.txn_steps_driven.specs.DriveRuns.{Scene, GoesOn, Drives}
use Rattle.txn_steps_driven.specs.DriveSteps.{SeenSteps}
use Rattle.txn_steps_laws.specs.DrivenReads.{SeenDriven}
use Rattle.txn_steps_driven.specs.VersionReads.{IsSeenStep, RunningSeen}
use Rattle.txn_steps_driven.proofs.DriveCounts.{seen_within}
use Rattle.txn_steps_driven.proofs.VersionLemmas.{seen_begins, seen_goes, seen_ends}

module _ {T : Type 0} (names : Names) (decode : List ℕ → Option T) where
  is_seen_step : (a b : Scene (ReadSeenOp T)) (told : Turned (Result (Option T) TransactionalObjectError)) → SeenSteps names decode a told b → IsSeenStep names decode a.store b.store a.caches.latest b.caches.latest a.op b.op told
  is_seen_step a b told step = record { reply = step.reply; replied = step.replies; lacks = lacks_memory (turned_by_number told); turned = step.takes; left = ap (λ (k : Caches). k.latest) step.leaves; store_error = step.error }

  module _ (id : ℕ) (small : id < 2 ^ 64) (a : Scene (ReadSeenOp T)) (starts : a.op ≡ Looks id) where
    record SeenOn (b : Scene (ReadSeenOp T)) : Type 0 where
      runs : RunningSeen names decode a.store b.store a.caches.latest b.caches.latest id b.op
      boundary : b.caches.boundary ≡ a.caches.boundary

    seen_on : (n : ℕ) (b : Scene (ReadSeenOp T)) → GoesOn (SeenSteps names decode) n a b → SeenOn b
    seen_on zero b same = subst SeenOn (sym same) (record { runs = seen_begins names decode a.store a.caches.latest id a.op small starts; boundary = refl })
    seen_on (suc n) c (b, on, step) =
        let so_far = seen_on n b on in
        record {
          runs = seen_goes names decode a.store b.store c.store a.caches.latest b.caches.latest c.caches.latest id b.op c.op so_far.runs (is_seen_step b c Goes step);
          boundary = ap (λ (k : Caches). k.boundary) step.leaves ∙ so_far.boundary;
        }

    pub seen_driven : (steps : ℕ) (result : Option (Result (Option T) TransactionalObjectError)) (b : Scene (ReadSeenOp T)) → Drives (SeenSteps names decode) steps a result b → SeenDriven names decode id steps a result b
    seen_driven steps None b on = seen_within names decode id steps a b None starts on
    seen_driven steps (Some answer) c (n, b, within, on, step) =
        let so_far = seen_on n b on in
        (seen_ends names decode a.store b.store c.store a.caches.latest b.caches.latest c.caches.latest id b.op c.op so_far.runs answer (is_seen_step b c (Done answer) step), ap (λ (k : Caches). k.boundary) step.leaves ∙ so_far.boundary)
