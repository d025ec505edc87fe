-- The steps of a read: an unchecked read of the newest version, and the check of the id that it finds.
use Rattle.std.specs.Prelude.{ℕ, ◌==◌, List, if◌then◌else◌, Option, Some, None, Result, Ok, Err}
use Rattle.txn_store.specs.Paths.{Segments}
use Rattle.txn_store.specs.VersionName.{Names}
use Rattle.txn_store.specs.declared.request.Request.{Request}
use Rattle.txn_store.specs.declared.request.Reply.{Reply}
use Rattle.txn_steps.specs.declared.boundary.boundary_read.BoundaryRead.{BoundaryRead}
use Rattle.txn_steps.specs.declared.boundary.boundary_read.BoundaryRead.TheVariants as boundary
use Rattle.txn_steps.specs.declared.boundary.caches.Caches.{Caches}
use Rattle.txn_steps.specs.declared.boundary.check.CheckOp.{CheckOp}
use Rattle.txn_steps.specs.declared.boundary.turned.Turned.{Turned}
use Rattle.txn_steps.specs.declared.boundary.turned.Turned.TheVariants.{Goes, Done}
use Rattle.txn_steps.specs.boundary.Checks.{check_of_read, check_asked, check_turned, check_caches, IsCheckReply}
use Rattle.txn_steps.specs.declared.latest.LatestOp.{LatestOp}
use Rattle.txn_steps.specs.declared.latest.LatestOp.TheVariants as latest
use Rattle.txn_steps.specs.declared.read.ReadOp.{ReadOp}
use Rattle.txn_steps.specs.declared.read.ReadOp.TheVariants.{Reads, Checks, Ended}
use Rattle.txn_steps.specs.Latest.{ReadAnswer, InRange, IsLatestReply, latest_asked, latest_turned, latest_window_after}

module _ {T : Type 0} where
  -- it begins with a look, and has the read of the boundary that its check will make
  abbrev pub read_started : Segments → ReadOp T
  read_started path = Reads latest.Looks (boundary.Looks path)

  -- what it asks
  abbrev pub read_asked : ReadOp T → Option Request
  read_asked (Reads op boundary) = latest_asked op
  read_asked (Checks id value check) = check_asked check
  read_asked Ended = None

  -- a reply of the kind that it asks for, where it has not ended
  abbrev pub IsReadReply : ReadOp T → Option Reply → Type 0
  IsReadReply (Reads op boundary) reply = IsLatestReply op reply
  IsReadReply (Checks id value check) reply = IsCheckReply check reply
  IsReadReply Ended reply = ⊥

  -- at most four successors are found
  abbrev pub IsInRange : ReadOp T → Type 0
  IsInRange (Reads op boundary) = InRange op
  IsInRange (Checks id value check) = Unit {0}
  IsInRange Ended = Unit {0}

  abbrev pub IsReading : ReadOp T → Type 0
  IsReading (Reads op boundary) = Unit {0}
  IsReading (Checks id value check) = ⊥
  IsReading Ended = ⊥

  abbrev pub IsChecking : ReadOp T → Type 0
  IsChecking (Reads op boundary) = ⊥
  IsChecking (Checks id value check) = Unit {0}
  IsChecking Ended = ⊥

  -- it found a version, and checks its id
  abbrev pub read_chosen : ReadOp T → ℕ → T → ReadOp T
  read_chosen (Reads op boundary) id value = Checks id value (check_of_read id boundary)
  read_chosen (Checks i v check) id value = Checks i v check
  read_chosen Ended id value = Ended

  -- the check accepted the version that it found
  abbrev pub read_accepted : ReadOp T → ReadOp T × Turned (ReadAnswer T)
  read_accepted (Checks id value check) = (Ended, Done (Ok (Some (id, value))))
  read_accepted (Reads op boundary) = (Reads op boundary, Goes)
  read_accepted Ended = (Ended, Goes)

  abbrev pub reads_turned : BoundaryRead → LatestOp T × Turned (ReadAnswer T) → ReadOp T × Turned (ReadAnswer T)
  reads_turned boundary (op, Goes) = (Reads op boundary, Goes)
  reads_turned boundary (op, Done (Ok None)) = (Reads op boundary, Done (Ok None))
  reads_turned boundary (op, Done (Ok (Some found))) = (Checks found.0 found.1 (check_of_read found.0 boundary), Goes)
  reads_turned boundary (op, Done (Err number)) = (Reads op boundary, Done (Err number))

  -- an id that the check refuses is read no more: the read starts again
  abbrev pub checks_turned : Segments → ℕ → T → CheckOp × Turned (Result (Unit {0}) ℕ) → ReadOp T × Turned (ReadAnswer T)
  checks_turned path id value (check, Goes) = (Checks id value check, Goes)
  checks_turned path id value (check, Done (Ok accepted)) = (Ended, Done (Ok (Some (id, value))))
  checks_turned path id value (check, Done (Err number)) = if number == 5 then (read_started path, Goes) else (Checks id value check, Done (Err number))

  -- what it leaves of the caches, by what it says
  abbrev pub read_caches_after : ReadOp T → Caches → Turned (ReadAnswer T) → Caches
  read_caches_after (Reads op boundary) caches told = record { latest = latest_window_after op caches.latest told; boundary = caches.boundary }
  read_caches_after (Checks id value check) caches told = check_caches check caches
  read_caches_after Ended caches told = caches

module _ {T : Type 0} (names : Names) (path : Segments) (page : ℕ) (decode : List ℕ → Option T) where
  -- what it makes of a look or a reply, memory aside
  abbrev pub read_turned : ReadOp T → Caches → Option Reply → ReadOp T × Turned (ReadAnswer T)
  read_turned (Reads op boundary) caches reply = reads_turned boundary (latest_turned names page decode op caches.latest reply)
  read_turned (Checks id value check) caches reply = checks_turned path id value (check_turned check caches reply)
  read_turned Ended caches reply = (Ended, Goes)
