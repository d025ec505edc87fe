-- The steps of a write whose value a view then shows.
use Rattle.std.specs.Prelude.{ℕ, ◌==◌, if◌then◌else◌, List, Option, Some, None, Result, Ok, Err}
use Rattle.txn_store.specs.Paths.{Segments}
use Rattle.txn_store.specs.VersionName.{Names}
use Rattle.txn_store.specs.declared.request.Request.{Request}
use Rattle.txn_store.specs.declared.request.Reply.{Reply}
use Rattle.txn_store.specs.types.Numbers.{number_of}
use Rattle.txn_store.specs.types.Errors.{error_number}
use Rattle.txn_store.specs.types.Epochs.{epoch_tested}
use Rattle.txn_store.specs.declared.types.error.TransactionalObjectError.{TransactionalObjectError}
use Rattle.txn_steps.specs.declared.boundary.caches.Caches.{Caches}
use Rattle.txn_steps.specs.declared.boundary.turned.Turned.{Turned}
use Rattle.txn_steps.specs.declared.boundary.turned.Turned.TheVariants.{Goes, Done}
use Rattle.txn_steps.specs.declared.write.WriteOp.{WriteOp}
use Rattle.txn_steps.specs.Writes.{write_started, write_asked, write_turned, write_caches, IsWriteReply}
use Rattle.txn_steps_views.specs.declared.outcome.Outcome.{Outcome}
use Rattle.txn_steps_views.specs.declared.outcome.Outcome.TheVariants.{Viewed}
use Rattle.txn_steps_views.specs.declared.entry.EntryOp.{EntryOp}
use Rattle.txn_steps_views.specs.declared.entry.EntryOp.TheVariants.{Writes, Ended}

module _ {T : Type 0} where
  -- what it asks
  abbrev pub entry_asked : EntryOp T → Option Request
  entry_asked (Writes write value) = write_asked write
  entry_asked Ended = None

  -- a reply of the kind that it asks for, where it has not ended
  abbrev pub IsEntryReply : EntryOp T → Option Reply → Type 0
  IsEntryReply (Writes write value) reply = IsWriteReply write reply
  IsEntryReply Ended reply = ⊥

  abbrev pub IsWriting : EntryOp T → Type 0
  IsWriting (Writes write value) = Unit {0}
  IsWriting Ended = ⊥

  -- where its write answers an id, the view is at that with the value
  abbrev pub entered : T → Result ℕ ℕ → Result (Outcome T) ℕ
  entered value (Ok id) = Ok (Viewed id value)
  entered value (Err number) = Err number

  -- the value that it writes
  abbrev pub entry_value : EntryOp T → Option T
  entry_value (Writes write value) = Some value
  entry_value Ended = None

  -- an answer ends it
  abbrev pub written_turned : T → WriteOp × Turned (Result ℕ ℕ) → EntryOp T × Turned (Result (Outcome T) ℕ)
  written_turned value (write, Goes) = (Writes write value, Goes)
  written_turned value (write, Done answer) = (Ended, Done (entered value answer))

  -- what it makes of a look or a reply
  abbrev pub entry_turned : EntryOp T → Caches → Option Reply → EntryOp T × Turned (Result (Outcome T) ℕ)
  entry_turned (Writes write value) caches reply = written_turned value (write_turned write caches reply)
  entry_turned Ended caches reply = (Ended, Goes)

  -- what it leaves of the caches
  abbrev pub entry_caches : EntryOp T → Caches → Caches
  entry_caches (Writes write value) caches = write_caches write caches
  entry_caches Ended caches = caches

module _ {T : Type 0} (names : Names) (boundary : Segments) (encode : T → List ℕ) where
  -- it writes the value on its base, which has a next id
  abbrev pub entry_started : Option ℕ → T → Result (EntryOp T) ℕ
  entry_started base value = if number_of base == 18446744073709551615 then Err 10 else Ok (Writes (write_started names boundary base (encode value)) value)

-- the epoch of the view's value is the holder's, and so is that of the value to be written
abbrev pub value_tested : ℕ → ℕ → Result (Unit {0}) TransactionalObjectError → Result (Unit {0}) ℕ
value_tested local written (Ok own) = if written == local then Ok tt else Err 7
value_tested local written (Err error) = Err (error_number error)

abbrev pub own_epochs : ℕ → ℕ → ℕ → Result (Unit {0}) ℕ
own_epochs local viewed written = value_tested local written (epoch_tested local viewed)

module _ {T : Type 0} (names : Names) (boundary : Segments) (encode : T → List ℕ) where
  -- where both epochs are the holder's, it writes the value on the view's version
  abbrev pub entry_tested : ℕ → T → Result (Unit {0}) ℕ → Result (EntryOp T) ℕ
  entry_tested id value (Ok own) = entry_started names boundary encode (Some id) value
  entry_tested id value (Err number) = Err number

module _ {T : Type 0} (names : Names) (boundary : Segments) (encode : T → List ℕ) (epoch_of : T → ℕ) where
  -- that of a holder, by its epoch, its view's version and the value to be written
  abbrev pub holder_entry_started : ℕ → ℕ → T → T → Result (EntryOp T) ℕ
  holder_entry_started local id object value = entry_tested names boundary encode id value (own_epochs local (epoch_of object) (epoch_of value))
