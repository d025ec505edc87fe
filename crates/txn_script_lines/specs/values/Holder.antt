-- What a holder writes on a version, and what anybody else does.
use Rattle.std.specs.Prelude.{◌≡◌, ◌≢◌, ℕ, List, Option, Some, None, Result, Ok, IfSome}
use Rattle.txn_store.specs.types.Epochs.{epoch_tested}
use Rattle.txn_store.specs.declared.types.error.TransactionalObjectError.{TransactionalObjectError}
use Rattle.txn_script_lines.specs.declared.values.entry.Entry.{Entry}

-- Whoever is no holder may write on a version of any epoch, and a holder on one of its own.
abbrev pub may_write : Option ℕ → ℕ → Result (Unit {0}) TransactionalObjectError
may_write None stored = Ok tt
may_write (Some local) stored = epoch_tested local stored

-- The entry goes on a version of this epoch: it has that epoch, which is the holder's own where a holder writes, and this payload.
pub record FollowsEpoch (holder : Option ℕ) (stored : ℕ) (payload : List ℕ) (entry : Entry) : Type 0 where
  pub epoch : entry.epoch ≡ stored
  pub payload_is : entry.payload ≡ payload
  pub own : IfSome holder (λ local. stored ≡ local)

-- the entry that goes on a version of this epoch, none where the holder may not write on it
abbrev pub IsNextEntry : Option ℕ → ℕ → List ℕ → Option Entry → Type 0
IsNextEntry holder stored payload None = may_write holder stored ≢ Ok tt
IsNextEntry holder stored payload (Some entry) = FollowsEpoch holder stored payload entry
