-- What each call on a view makes of the answer of its write or of its read.
use Rattle.std.specs.Prelude.{ℕ, Option, Some, None, Result, Ok, Err}
use Rattle.txn_store.specs.declared.types.error.TransactionalObjectError.{TransactionalObjectError}
use Rattle.txn_store.specs.declared.types.error.TransactionalObjectError.TheVariants.{LatestRecordMissing, InvalidObjectState}
use Rattle.txn_store.specs.types.Epochs.{epoch_tested}
use Rattle.txn_steps_views.specs.declared.outcome.Outcome.{Outcome}
use Rattle.txn_steps_views.specs.declared.outcome.Outcome.TheVariants.{Viewed}
use Rattle.txn_steps_views.specs.declared.view_read.Purpose.{Purpose}
use Rattle.txn_steps_views.specs.declared.view_read.Purpose.TheVariants.{Load, Refresh, HolderRefresh}
use Rattle.txn_steps_views.specs.ViewReads.{holder_viewed}

-- what a call makes of an answer, by what it makes of one that is no error: an error is its own
abbrev pub seen_as : {A B : Type 0} → (A → Result B TransactionalObjectError) → Result A TransactionalObjectError → Result B TransactionalObjectError
seen_as see (Ok found) = see found
seen_as see (Err error) = Err error

module _ {T : Type 0} where
  -- a write that answered an id: the view is at that, with the value
  abbrev pub entry_seen : T → ℕ → Result (Outcome T) TransactionalObjectError
  entry_seen value id = Ok (Viewed id value)

  -- a read for a load: the view is at what was found, and there has to be a version
  abbrev pub load_seen : Option (ℕ × T) → Result (Outcome T) TransactionalObjectError
  load_seen (Some found) = Ok (Viewed found.0 found.1)
  load_seen None = Err LatestRecordMissing

  -- a read for a refresh
  abbrev pub refresh_seen : Option (ℕ × T) → Result (Outcome T) TransactionalObjectError
  refresh_seen (Some found) = Ok (Viewed found.0 found.1)
  refresh_seen None = Err InvalidObjectState

  -- a read for a holder's refresh: the holder is shut where the epoch is not its own
  abbrev pub holder_seen : (T → ℕ) → ℕ → Option (ℕ × T) → Result (Outcome T) TransactionalObjectError
  holder_seen epoch_of local (Some found) = Ok (holder_viewed found (epoch_tested local (epoch_of found.1)))
  holder_seen epoch_of local None = Err InvalidObjectState

  -- a read, by what it is for
  abbrev pub view_read_seen : (T → ℕ) → Purpose → Option (ℕ × T) → Result (Outcome T) TransactionalObjectError
  view_read_seen epoch_of Load = load_seen
  view_read_seen epoch_of Refresh = refresh_seen
  view_read_seen epoch_of (HolderRefresh local) = holder_seen epoch_of local
