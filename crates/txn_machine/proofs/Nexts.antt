-- The next write of a call on a view, and the read that a claim's conflict leads to, begin as operations of the machine of
-- plain calls.
use Rattle.std.proofs.Common.{◌≡◌, ℕ, zero, suc, ◌==◌, List, Bool, false, if◌then◌else◌, Option, Some, None, refl, ◌∙◌, ap}
use Rattle.txn_store.specs.types.Numbers.{number_of}
use Rattle.txn_steps.specs.declared.write.WriteOp.{WriteOp}
use Rattle.txn_steps.specs.Reads.{read_started}
use Rattle.txn_steps.specs.Writes.{write_started}
use Rattle.txn_history.specs.declared.event.PlainCall.TheVariants as calls
use Rattle.txn_history.specs.declared.event.PlainAnswer.TheVariants as plain_answers
use Rattle.txn_history.specs.Names.{world_names, world_boundary}
use Rattle.txn_history.specs.Facts.{base_on}
use Rattle.txn_machine.specs.declared.plain.doing.PlainDoing.TheVariants as doings
use Rattle.txn_machine.specs.plain.Doing as plain
use Rattle.txn_steps_views.specs.declared.op.ViewOp.{ViewOp}
use Rattle.txn_history.specs.declared.event.ViewCall.{ViewCall}
use Rattle.txn_history.specs.declared.event.Call.TheVariants as any
use Rattle.txn_machine.specs.views.Layer.{Writes, Reads}
use Rattle.txn_machine.specs.declared.doing.Doing.TheVariants as does
use Rattle.txn_machine.proofs.Matched.{ViewMatched, GoesAs}

pub number_of_base : (id : ℕ) → number_of (base_on id) ≡ id
number_of_base zero = refl
number_of_base (suc n) = refl

module _ {T : Type 0} where
  -- it does this write next
  abbrev writing : WriteOp → plain.Next T
  writing write = (doings.Write write, None)

module _ {T : Type 0} (page : ℕ) (encode : T → List ℕ) where
  -- a write that has a next id is not refused
  started_at : (base : Option ℕ) (id : ℕ) (value : T) → number_of base ≡ id → (id == 18446744073709551615) ≡ false → plain.started page encode (calls.Write base value) ≡ (doings.Write (write_started world_names world_boundary base (encode value)), None)
  started_at base id value e room =
      let full : (number_of base == 18446744073709551615) ≡ false = ap (λ (n : ℕ). n == 18446744073709551615) e ∙ room in
      ap (λ (b : Bool). if◌then◌else◌ {A = plain.Next T} b (doings.Ended, Some (plain_answers.Refused 10)) (doings.Write (write_started world_names world_boundary base (encode value)), None)) full

  -- a base counts by its number alone
  same_write : (base : Option ℕ) (id : ℕ) (bytes : List ℕ) → number_of base ≡ id → write_started world_names world_boundary base bytes ≡ write_started world_names world_boundary (Some id) bytes
  same_write base id bytes e = ap (λ (n : ℕ). write_started world_names world_boundary (Some n) bytes) e

  write_begins : (id : ℕ) (value : T) → (id == 18446744073709551615) ≡ false → plain.started page encode (calls.Write (base_on id) value) ≡ (doings.Write (write_started world_names world_boundary (Some id) (encode value)), None)
  write_begins id value room =
      started_at (base_on id) id value (number_of_base id) room
      ∙ ap writing (same_write (base_on id) id (encode value) (number_of_base id))

module _ {T : Type 0} (page : ℕ) (encode : T → List ℕ) (decode : List ℕ → Option T) (get_epoch : T → ℕ) where
  -- the next write, on the version of this id
  pub write_goes : (call : ViewCall T) (local : Option ℕ) (id : ℕ) (value : T) (epoch : ℕ) (op : ViewOp T) → (id == 18446744073709551615) ≡ false → decode (encode value) ≡ Some value →
      ViewMatched (any.View call) local (Writes id value epoch) op (doings.Write (write_started world_names world_boundary (Some id) (encode value))) → GoesAs page encode decode get_epoch (any.View call) local (Writes id value epoch) (does.View op, None)
  write_goes call local id value epoch op room reads_back matched = record {
    doing = does.View op;
    goes = refl;
    fine = doings.Write (write_started world_names world_boundary (Some id) (encode value));
    begins = write_begins page encode id value room;
    matched = matched;
    reads_back = λ full. reads_back;
    word = tt;
  }

  -- the next read
  pub read_goes : (call : ViewCall T) (local : Option ℕ) (op : ViewOp T) → ViewMatched (any.View call) local Reads op (doings.Read (read_started world_boundary)) → GoesAs page encode decode get_epoch (any.View call) local Reads (does.View op, None)
  read_goes call local op matched = record { doing = does.View op; goes = refl; fine = doings.Read (read_started world_boundary); begins = refl; matched = matched; reads_back = tt; word = tt }
