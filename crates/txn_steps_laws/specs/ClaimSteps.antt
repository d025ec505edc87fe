-- Claims that run alone: a step of one, and when a store can serve what it asks.
use Rattle.std.specs.Prelude.{◌≡◌, ℕ, true, List, Option, Result}
use Rattle.txn_store.specs.Paths.{Segments}
use Rattle.txn_store.specs.VersionName.{Names}
use Rattle.txn_store.specs.declared.types.error.TransactionalObjectError.{TransactionalObjectError}
use Rattle.txn_steps.specs.declared.boundary.turned.Turned.{Turned}
use Rattle.txn_steps.specs.boundary.Steps.{turned_by_number, lacks_memory}
use Rattle.txn_steps_driven.specs.DriveRuns.{Scene}
use Rattle.txn_steps_driven.specs.DriveSteps.{CanWriteChecked, CanRead}
use Rattle.txn_steps_views.specs.declared.claim.ClaimOp.{ClaimOp}
use Rattle.txn_steps_views.specs.declared.claiming.Claiming.{Claiming}
use Rattle.txn_steps_views.specs.declared.claiming.Claiming.TheVariants.{Writes, Reads, Ended}
use Rattle.txn_steps_views.specs.declared.outcome.Outcome.{Outcome}
use Rattle.txn_steps_views.specs.Attempts.{claiming_asked, claiming_turned, claiming_caches_after, IsMade, IsRefreshing}
use Rattle.txn_steps_views.specs.Shortages.{LacksAsWrite}
use Rattle.txn_steps_laws.specs.declared.with_epochs.WithEpochs.{WithEpochs}
use Rattle.txn_steps_laws.specs.CallRuns.{CallStepped}
use Rattle.txn_steps_laws.specs.Layers.{part_of}

module _ {T : Type 0} where
  -- it asks for its write or for its read, and has not ended
  abbrev pub CanClaim : Claiming T → Type 0
  CanClaim (Writes write value epoch) = CanWriteChecked write
  CanClaim (Reads read) = CanRead read
  CanClaim Ended = ⊥

  module _ (names : Names) (path : Segments) (page : ℕ) (encode : T → List ℕ) (decode : List ℕ → Option T) (epoch_of : T → ℕ) (with_epoch : T → ℕ → T) where
    -- One step of a claim's attempts: what a read leads to is read back with its epoch, and want of memory comes of a write only where that was overtaken, or lacked it.
    pub record AttemptStepped (asked : Option ℕ) (a : Scene (Claiming T)) (told : Turned (Result (Outcome T) TransactionalObjectError)) (b : Scene (Claiming T)) : Type 0 where
      pub step : CallStepped true (λ claiming. Ended) claiming_asked (claiming_turned names path page encode decode epoch_of with_epoch asked) claiming_caches_after a told b
      pub made : IsRefreshing a.op → IsMade encode decode epoch_of b.op
      pub short : LacksAsWrite a.op a.caches step.reply (lacks_memory (turned_by_number told))

  module _ {X : Type 0} (names : Names) (path : Segments) (page : ℕ) (encode : T → List ℕ) (decode : List ℕ → Option T) (epoch_of : X → T → ℕ) (with_epoch : X → T → ℕ → T) where
    -- a claim: its attempts step, and its field of epochs and what it asks for stay
    pub record ClaimSteps (a : Scene (WithEpochs (ClaimOp T) X)) (told : Turned (Result (Outcome T) TransactionalObjectError)) (b : Scene (WithEpochs (ClaimOp T) X)) : Type 0 where
      pub attempt : AttemptStepped names path page encode decode (epoch_of a.op.epochs) (with_epoch a.op.epochs) a.op.op.asked (part_of a.op.op.claiming a) told (part_of b.op.op.claiming b)
      pub same_epochs : b.op.epochs ≡ a.op.epochs
      pub same_asked : b.op.op.asked ≡ a.op.op.asked
