-- Checked calls, made of an unchecked call and a check.
use Rattle.std.specs.Prelude.{◌≡◌, ℕ, Result, Ok, Err}
use Rattle.txn_store.specs.declared.types.error.TransactionalObjectError.{TransactionalObjectError}
use Rattle.txn_store.specs.declared.types.error.TransactionalObjectError.TheVariants.{ObjectVersionExists, InvalidObjectState}

-- what a check makes of the id that a write answered
abbrev pub if_accepted : ℕ → Result (Unit {0}) TransactionalObjectError → Result ℕ TransactionalObjectError
if_accepted id (Ok accepted) = Ok id
if_accepted id (Err error) = Err error

-- `P` is the protocol and `S` the store, each as a call leaves it.
module _ {P S : Type 0} (result : Result ℕ TransactionalObjectError) (protocol : P) (store : S) where
  -- A checked write: an unchecked one and, where that answers an id, a check of it. Nothing is undone where the check refuses or fails.
  pub data CheckedWrite (writes : Result ℕ TransactionalObjectError → P → S → Type 0) (checks : P → S → ℕ → Result (Unit {0}) TransactionalObjectError → P → S → Type 0) : Type 0 where
    Refused : (error : TransactionalObjectError) → result ≡ Err error → writes (Err error) protocol store → CheckedWrite writes checks
    Entered : (id : ℕ) (between : P) (after : S) (checked : Result (Unit {0}) TransactionalObjectError) → writes (Ok id) between after → checks between after id checked protocol store → result ≡ if_accepted id checked → CheckedWrite writes checks

module _ {P S : Type 0} (result : Result (Unit {0}) TransactionalObjectError) (protocol : P) (store : S) where
  -- A checked delete: a check of the id and, where that refuses it, an unchecked delete.
  pub data CheckedDelete (checks : Result (Unit {0}) TransactionalObjectError → P → S → Type 0) (deletes : P → S → Result (Unit {0}) TransactionalObjectError → P → S → Type 0) : Type 0 where
    Unfenced : checks (Ok tt) protocol store → result ≡ Err InvalidObjectState → CheckedDelete checks deletes
    Fenced : (between : P) (after : S) → checks (Err ObjectVersionExists) between after → deletes between after result protocol store → CheckedDelete checks deletes
    Failed : (error : TransactionalObjectError) → (error ≡ ObjectVersionExists → ⊥) → checks (Err error) protocol store → result ≡ Err error → CheckedDelete checks deletes
