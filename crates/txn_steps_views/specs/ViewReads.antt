-- The steps of a read of the newest version that a view then shows.
use Rattle.std.specs.Prelude.{ℕ, List, Option, Some, None, Result, Ok, Err}
use Rattle.txn_store.specs.Paths.{Segments}
use Rattle.txn_store.specs.VersionName.{Names}
use Rattle.txn_store.specs.declared.request.Request.{Request}
use Rattle.txn_store.specs.declared.request.Reply.{Reply}
use Rattle.txn_store.specs.types.Epochs.{epoch_tested}
use Rattle.txn_store.specs.declared.types.error.TransactionalObjectError.{TransactionalObjectError}
use Rattle.txn_steps.specs.declared.boundary.caches.Caches.{Caches}
use Rattle.txn_steps.specs.declared.boundary.turned.Turned.{Turned}
use Rattle.txn_steps.specs.declared.read.ReadOp.{ReadOp}
use Rattle.txn_steps.specs.declared.read.ReadOp.TheVariants.{Ended}
use Rattle.txn_steps.specs.Latest.{ReadAnswer}
use Rattle.txn_steps.specs.Reads.{read_started, read_asked, read_turned, IsReadReply, IsInRange}
use Rattle.txn_steps_views.specs.declared.outcome.Outcome.{Outcome}
use Rattle.txn_steps_views.specs.declared.outcome.Outcome.TheVariants.{Viewed, Shut}
use Rattle.txn_steps_views.specs.declared.view_read.Purpose.{Purpose}
use Rattle.txn_steps_views.specs.declared.view_read.Purpose.TheVariants.{Load, Refresh, HolderRefresh}
use Rattle.txn_steps_views.specs.declared.view_read.ViewReadOp.{ViewReadOp}
use Rattle.txn_steps_views.specs.Readings.{seen}

module _ {T : Type 0} where
  abbrev pub as_view_read : Purpose → ReadOp T → ViewReadOp T
  as_view_read purpose read = record { purpose = purpose; read = read }

  -- it begins with a look
  abbrev pub view_read_started : Segments → Purpose → ViewReadOp T
  view_read_started path purpose = as_view_read purpose (read_started path)

  -- it was answered
  abbrev pub view_read_ended : ViewReadOp T → ViewReadOp T
  view_read_ended op = as_view_read op.purpose Ended

  -- what it asks
  abbrev pub view_read_asked : ViewReadOp T → Option Request
  view_read_asked op = read_asked op.read

  -- a reply of the kind that it asks for, where it has not ended
  abbrev pub IsViewReadReply : ViewReadOp T → Option Reply → Type 0
  IsViewReadReply op reply = IsReadReply op.read reply

  -- its read has found at most four successors
  abbrev pub IsViewReadInRange : ViewReadOp T → Type 0
  IsViewReadInRange op = IsInRange op.read

  -- for a load the view is at the version that was read; there has to be one
  abbrev pub loaded : Option (ℕ × T) → Result (Outcome T) ℕ
  loaded (Some found) = Ok (Viewed found.0 found.1)
  loaded None = Err 4

  -- so it is for a refresh, whose refusal is another one
  abbrev pub refreshed : Option (ℕ × T) → Result (Outcome T) ℕ
  refreshed (Some found) = Ok (Viewed found.0 found.1)
  refreshed None = Err 7

  -- the view is at the version that was read, and the holder is shut where its epoch is not that version's
  abbrev pub holder_viewed : ℕ × T → Result (Unit {0}) TransactionalObjectError → Outcome T
  holder_viewed found (Ok own) = Viewed found.0 found.1
  holder_viewed found (Err error) = Shut found.0 found.1 error

module _ {T : Type 0} (epoch_of : T → ℕ) where
  -- what a holder's refresh makes of the version that was read, which has to be there
  abbrev pub holder_refreshed : ℕ → Option (ℕ × T) → Result (Outcome T) ℕ
  holder_refreshed local (Some found) = Ok (holder_viewed found (epoch_tested local (epoch_of found.1)))
  holder_refreshed local None = Err 7

  -- what it makes of the version that was read, or of none, by what it reads for
  abbrev pub shown : Purpose → Option (ℕ × T) → Result (Outcome T) ℕ
  shown Load found = loaded found
  shown Refresh found = refreshed found
  shown (HolderRefresh local) found = holder_refreshed local found

  -- its read says this
  abbrev pub view_read_told : ViewReadOp T → Turned (ReadAnswer T) → ViewReadOp T × Turned (Result (Outcome T) ℕ)
  view_read_told op told = seen (as_view_read op.purpose) (shown op.purpose) (op.read, told)

module _ {T : Type 0} (names : Names) (path : Segments) (page : ℕ) (decode : List ℕ → Option T) (epoch_of : T → ℕ) where
  -- what it makes of a look or a reply, memory aside
  abbrev pub view_read_turned : ViewReadOp T → Caches → Option Reply → ViewReadOp T × Turned (Result (Outcome T) ℕ)
  view_read_turned op caches reply = seen (as_view_read op.purpose) (shown epoch_of op.purpose) (read_turned names path page decode op.read caches reply)
