-- A claim that goes on after a step asks again for what a store can serve.
use Rattle.std.specs.Prelude.{◌≡◌, ◌⊎◌, ℕ, ◌≤◌, ◌==◌, if◌then◌else◌, Bool, true, false, List, Option, Some, None, Result, Ok, Err}
use Rattle.std.proofs.Common.{refl, sym, subst, inl, inr}
use Rattle.std.proofs.lemmas.Bool.{eqb-true}
use Rattle.txn_store.specs.Paths.{Segments}
use Rattle.txn_store.specs.VersionName.{Names}
use Rattle.txn_store.specs.types.Errors.{error_number}
use Rattle.txn_store.specs.types.Epochs.{claimed_epoch}
use Rattle.txn_store.specs.declared.types.error.TransactionalObjectError.{TransactionalObjectError}
use Rattle.txn_steps.specs.declared.boundary.turned.Turned.TheVariants.{Goes}
use Rattle.txn_steps.specs.declared.read.ReadOp.{ReadOp}
use Rattle.txn_steps.specs.declared.write.WriteOp.{WriteOp}
use Rattle.txn_steps.specs.Writes.{write_started}
use Rattle.txn_steps_driven.specs.DriveChecked.{write_asks}
use Rattle.txn_steps_driven.specs.DriveReads.{read_asks}
use Rattle.txn_steps_driven.specs.DriveRuns.{Scene}
use Rattle.txn_steps_driven.specs.DriveSteps.{CanWriteChecked, CanRead}
use Rattle.txn_steps_views.specs.declared.claim.ClaimOp.{ClaimOp}
use Rattle.txn_steps_views.specs.declared.claiming.Claiming.{Claiming}
use Rattle.txn_steps_views.specs.declared.claiming.Claiming.TheVariants.{Writes, Reads, Ended}
use Rattle.txn_steps_views.specs.Attempts.{attempted, attempted_again, entered_with}
use Rattle.txn_steps_laws.specs.declared.with_epochs.WithEpochs.{WithEpochs}
use Rattle.txn_steps_laws.specs.ClaimLayers.{AttemptLed, ReadLed, ClaimLed, claim_led}
use Rattle.txn_steps_laws.specs.ClaimSteps.{CanClaim, AttemptStepped, ClaimSteps}
use Rattle.txn_steps_laws.specs.Layers.{part_of}

module _ {T : Type 0} (names : Names) (path : Segments) (encode : T → List ℕ) (epoch_of : T → ℕ) (with_epoch : T → ℕ → T) (asked : Option ℕ) where
  -- an attempt on a version: it writes its value with the epoch that the claim sets there
  pub record Begun (id : ℕ) (value : T) (claiming : Claiming T) : Type 0 where
    pub epoch : ℕ
    pub next : claimed_epoch asked (epoch_of value) ≡ Ok epoch
    pub is : claiming ≡ Writes (write_started names path (Some id) (encode (with_epoch value epoch))) (with_epoch value epoch) epoch

  -- why there is none: the version has no next epoch, or no next id
  abbrev pub NotBegun : ℕ → T → ℕ → Type 0
  NotBegun id value number = ((error : TransactionalObjectError) × (claimed_epoch asked (epoch_of value) ≡ Err error) × (number ≡ error_number error)) ⊎ ((id ≡ 18446744073709551615) × (number ≡ 10))

  module _ (id : ℕ) (value : T) where
    begun_at : (last : Bool) (epoch : ℕ) (claiming : Claiming T) → claimed_epoch asked (epoch_of value) ≡ Ok epoch → (if◌then◌else◌ {A = Result (Claiming T) ℕ} last (Err 10) (Ok (Writes (write_started names path (Some id) (encode (with_epoch value epoch))) (with_epoch value epoch) epoch))) ≡ Ok claiming → Begun id value claiming
    begun_at true epoch claiming next is = absurd (cc)
    begun_at false epoch claiming next is = let same : claiming ≡ Writes (write_started names path (Some id) (encode (with_epoch value epoch))) (with_epoch value epoch) epoch = cc in record { epoch = epoch; next = next; is = same }

    begun_by : (epoch : Result ℕ TransactionalObjectError) (claiming : Claiming T) → claimed_epoch asked (epoch_of value) ≡ epoch → entered_with names path encode with_epoch epoch id value ≡ Ok claiming → Begun id value claiming
    begun_by (Ok epoch) claiming next is = begun_at (id == 18446744073709551615) epoch claiming next is
    begun_by (Err error) claiming next is = absurd (cc)

    pub begun : (claiming : Claiming T) → attempted names path encode epoch_of with_epoch asked id value ≡ Ok claiming → Begun id value claiming
    begun claiming is = begun_by (claimed_epoch asked (epoch_of value)) claiming refl is

    not_begun_at : (last : Bool) (epoch number : ℕ) → (id == 18446744073709551615) ≡ last → (if◌then◌else◌ {A = Result (Claiming T) ℕ} last (Err 10) (Ok (Writes (write_started names path (Some id) (encode (with_epoch value epoch))) (with_epoch value epoch) epoch))) ≡ Err number → NotBegun id value number
    not_begun_at true epoch number at is = let ten : number ≡ 10 = cc in inr (eqb-true id 18446744073709551615 at, ten)
    not_begun_at false epoch number at is = absurd (cc)

    not_begun_by : (epoch : Result ℕ TransactionalObjectError) (number : ℕ) → claimed_epoch asked (epoch_of value) ≡ epoch → entered_with names path encode with_epoch epoch id value ≡ Err number → NotBegun id value number
    not_begun_by (Ok epoch) number next is = not_begun_at (id == 18446744073709551615) epoch number refl is
    not_begun_by (Err error) number next is = let same : number ≡ error_number error = cc in inl (error, next, same)

    pub not_begun : (number : ℕ) → attempted names path encode epoch_of with_epoch asked id value ≡ Err number → NotBegun id value number
    not_begun number is = not_begun_by (claimed_epoch asked (epoch_of value)) number refl is

  begun_asks : (id : ℕ) (value : T) (claiming : Claiming T) → Begun id value claiming → CanClaim claiming
  begun_asks id value claiming begin = subst CanClaim (sym begin.is) (tt, tt)

  again_asks : (found : Option (ℕ × T)) (claiming : Claiming T) → attempted_again names path encode epoch_of with_epoch asked found ≡ Ok claiming → CanClaim claiming
  again_asks (Some found) claiming is = begun_asks found.0 found.1 claiming (begun found.0 found.1 claiming is)
  again_asks None claiming is = absurd (cc)

module _ {T : Type 0} (names : Names) (path : Segments) (page : ℕ) (room : 1 ≤ page) (encode : T → List ℕ) (decode : List ℕ → Option T) (epoch_of : T → ℕ) (with_epoch : T → ℕ → T) (asked : Option ℕ) where
  attempt_next : (write_value : T) (epoch : ℕ) (from : Scene WriteOp) (b : Scene (Claiming T)) → CanWriteChecked from.op → AttemptLed path write_value epoch from Goes b → CanClaim b.op
  attempt_next value epoch from b can (inl on) = subst CanClaim (sym on.2) (write_asks from (part_of on.0 b) can on.1)
  attempt_next value epoch from b can (inr overtaken) = subst CanClaim (sym overtaken.2) (tt, tt)

  read_next : (from : Scene (ReadOp T)) (b : Scene (Claiming T)) → CanRead from.op → ReadLed names path page encode decode epoch_of with_epoch asked from Goes b → CanClaim b.op
  read_next from b can (inl on) = subst CanClaim (sym on.2) (read_asks names page room decode path from (part_of on.0 b) can on.1)
  read_next from b can (inr found) = again_asks names path encode epoch_of with_epoch asked found.1 b.op found.3

  next_by : (op : Claiming T) (a b : Scene (Claiming T)) → CanClaim op → ClaimLed names path page encode decode epoch_of with_epoch asked op a Goes b → CanClaim b.op
  next_by (Writes write value epoch) a b can led = attempt_next value epoch (part_of write a) b can led
  next_by (Reads read) a b can led = read_next (part_of read a) b can led.0
  next_by Ended a b can led = absurd can

  pub attempt_asks : (a b : Scene (Claiming T)) → CanClaim a.op → AttemptStepped names path page encode decode epoch_of with_epoch asked a Goes b → CanClaim b.op
  attempt_asks a b can step = next_by a.op a b can (claim_led names path page encode decode epoch_of with_epoch asked a b Goes step)

module _ {T X : Type 0} (names : Names) (path : Segments) (page : ℕ) (room : 1 ≤ page) (encode : T → List ℕ) (decode : List ℕ → Option T) (epoch_of : X → T → ℕ) (with_epoch : X → T → ℕ → T) where
  pub claim_asks : (a b : Scene (WithEpochs (ClaimOp T) X)) → CanClaim a.op.op.claiming → ClaimSteps names path page encode decode epoch_of with_epoch a Goes b → CanClaim b.op.op.claiming
  claim_asks a b can step = attempt_asks names path page room encode decode (epoch_of a.op.epochs) (with_epoch a.op.epochs) a.op.op.asked (part_of a.op.op.claiming a) (part_of b.op.op.claiming b) can step.attempt
