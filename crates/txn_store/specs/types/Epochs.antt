-- Epochs: the next one of a claim, and the test of a holder's.
use Rattle.std.specs.Prelude.{◌≡◌, ℕ, ◌+◌, ◌^◌, ◌<◌, ◌≤◌, ◌==◌, nat_lt, nat_le, if◌then◌else◌, Option, Some, None, Result, Ok, Err}
use Rattle.txn_store.specs.declared.types.error.TransactionalObjectError.{TransactionalObjectError}
use Rattle.txn_store.specs.declared.types.error.TransactionalObjectError.TheVariants.{Fenced, InvalidObjectState, IdExhausted}

-- the epoch that a claim sets: one above the stored one, or the one that is asked for, where it is greater
abbrev pub claimed_epoch : Option ℕ → ℕ → Result ℕ TransactionalObjectError
claimed_epoch None stored = if stored == 18446744073709551615 then Err IdExhausted else Ok (stored + 1)
claimed_epoch (Some asked) stored = if nat_le asked stored then Err Fenced else Ok asked

-- The epoch that a claim sets where this one stands: one more, or the one asked for where that is greater.
abbrev pub NextEpoch : Option ℕ → ℕ → ℕ → Type 0
NextEpoch None stored epoch = epoch ≡ stored + 1
NextEpoch (Some asked) stored epoch = (epoch ≡ asked) × (stored < asked)

-- why there is none: the stored epoch is the greatest, or the one asked for is not greater
abbrev pub HasNoEpoch : Option ℕ → ℕ → TransactionalObjectError → Type 0
HasNoEpoch None stored IdExhausted = stored + 1 ≡ 2 ^ 64
HasNoEpoch (Some asked) stored Fenced = asked ≤ stored
HasNoEpoch asked stored error = ⊥

-- a greater epoch shuts a holder out, and a smaller one must not be there
abbrev pub epoch_tested : ℕ → ℕ → Result (Unit {0}) TransactionalObjectError
epoch_tested local stored = if nat_lt local stored then Err Fenced else (if nat_lt stored local then Err InvalidObjectState else Ok tt)

-- why an epoch is not the holder's own: it is greater, or smaller
abbrev pub IsEpochError : ℕ → ℕ → TransactionalObjectError → Type 0
IsEpochError local stored Fenced = local < stored
IsEpochError local stored InvalidObjectState = stored < local
IsEpochError local stored error = ⊥
