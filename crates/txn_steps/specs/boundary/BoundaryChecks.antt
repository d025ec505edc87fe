-- The steps of a check of the boundary: the cached boundary where it refuses, else the boundary that is read.
use Rattle.std.specs.Prelude.{ℕ, if◌then◌else◌, Option, None, Result, Err}
use Rattle.txn_store.specs.Paths.{Segments}
use Rattle.txn_store.specs.declared.request.Request.{Request}
use Rattle.txn_store.specs.declared.request.Reply.{Reply}
use Rattle.txn_steps.specs.declared.boundary.caches.CachedBoundary.{CachedBoundary}
use Rattle.txn_steps.specs.declared.boundary.boundary_read.BoundaryRead.{BoundaryRead}
use Rattle.txn_steps.specs.declared.boundary.boundary_read.BoundaryRead.TheVariants as read
use Rattle.txn_steps.specs.declared.boundary.check.BoundaryStep.{BoundaryStep}
use Rattle.txn_steps.specs.declared.boundary.check.BoundaryStep.TheVariants.{Looks, Reads}
use Rattle.txn_steps.specs.declared.boundary.check.BoundaryCheck.{BoundaryCheck}
use Rattle.txn_steps.specs.declared.boundary.turned.Turned.{Turned}
use Rattle.txn_steps.specs.declared.boundary.turned.Turned.TheVariants.{Goes, Done}
use Rattle.txn_steps.specs.boundary.Boundaries.{Known, decided, refused_by}
use Rattle.txn_steps.specs.boundary.Asking.{IsLook}
use Rattle.txn_steps.specs.boundary.BoundaryReads.{boundary_read_asked, boundary_turned, boundary_cached, IsBoundaryReply}

abbrev pub boundary_check_started : Segments → ℕ → BoundaryCheck
boundary_check_started path id = record { id = id; step = Looks; read = read.Looks path }

-- it reads the boundary
abbrev pub reads_by : BoundaryCheck → BoundaryRead → BoundaryCheck
reads_by op read = record { id = op.id; step = Reads; read = read }

abbrev pub asked_at : BoundaryStep → BoundaryRead → Option Request
asked_at Looks read = None
asked_at Reads read = boundary_read_asked read

-- what it asks
abbrev pub boundary_check_asked : BoundaryCheck → Option Request
boundary_check_asked op = asked_at op.step op.read

abbrev pub IsReplyAt : BoundaryStep → BoundaryRead → Option Reply → Type 0
IsReplyAt Looks read reply = IsLook reply
IsReplyAt Reads read reply = IsBoundaryReply read reply

-- a reply of the kind that it asks for
abbrev pub IsBoundaryCheckReply : BoundaryCheck → Option Reply → Type 0
IsBoundaryCheckReply op reply = IsReplyAt op.step op.read reply

abbrev pub reads_turned : BoundaryCheck → BoundaryRead × Turned (Result Known ℕ) → BoundaryCheck × Turned (Result (Unit {0}) ℕ)
reads_turned op (read, Goes) = (reads_by op read, Goes)
reads_turned op (read, Done answer) = (reads_by op read, Done (decided op.id answer))

abbrev pub turned_at : BoundaryStep → BoundaryCheck → Option CachedBoundary → Option Reply → BoundaryCheck × Turned (Result (Unit {0}) ℕ)
turned_at Looks op cached reply = if refused_by op.id cached then (op, Done (Err 5)) else (reads_by op op.read, Goes)
turned_at Reads op cached reply = reads_turned op (boundary_turned op.read cached reply)

-- what it makes of a look or a reply
abbrev pub boundary_check_turned : BoundaryCheck → Option CachedBoundary → Option Reply → BoundaryCheck × Turned (Result (Unit {0}) ℕ)
boundary_check_turned op cached reply = turned_at op.step op cached reply

abbrev pub cached_at : BoundaryStep → BoundaryRead → Option CachedBoundary → Option CachedBoundary
cached_at Looks read cached = cached
cached_at Reads read cached = boundary_cached read cached

-- what it leaves of the cached boundary
abbrev pub boundary_check_cached : BoundaryCheck → Option CachedBoundary → Option CachedBoundary
boundary_check_cached op cached = cached_at op.step op.read cached
