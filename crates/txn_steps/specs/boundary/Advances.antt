-- The steps of an advance: a raise of the boundary, and a look that drops the cached versions that it fences.
use Rattle.std.specs.Prelude.{ℕ, Option, None, Result, Ok, Err}
use Rattle.txn_store.specs.Paths.{Segments}
use Rattle.txn_store.specs.declared.request.Request.{Request}
use Rattle.txn_store.specs.declared.request.Reply.{Reply}
use Rattle.txn_steps.specs.declared.boundary.caches.Caches.{Caches}
use Rattle.txn_steps.specs.declared.boundary.advance.BoundaryAdvance.{BoundaryAdvance}
use Rattle.txn_steps.specs.declared.boundary.advance.BoundaryAdvance.TheVariants as raise
use Rattle.txn_steps.specs.declared.boundary.advance.AdvanceOp.{AdvanceOp}
use Rattle.txn_steps.specs.declared.boundary.advance.AdvanceOp.TheVariants.{Raises, Drops}
use Rattle.txn_steps.specs.declared.boundary.turned.Turned.{Turned}
use Rattle.txn_steps.specs.declared.boundary.turned.Turned.TheVariants.{Goes, Done}
use Rattle.txn_steps.specs.boundary.Asking.{IsLook}
use Rattle.txn_steps.specs.boundary.Windows.{above}
use Rattle.txn_steps.specs.boundary.BoundaryAdvances.{boundary_advance_asked, boundary_advance_turned, boundary_advance_cached, IsBoundaryAdvanceReply}

abbrev pub advance_started : ℕ → AdvanceOp
advance_started target = Raises target (raise.Looks target)

-- what it asks
abbrev pub advance_asked : AdvanceOp → Option Request
advance_asked (Raises target raise) = boundary_advance_asked raise
advance_asked (Drops target) = None

-- a reply of the kind that it asks for
abbrev pub IsAdvanceReply : AdvanceOp → Option Reply → Type 0
IsAdvanceReply (Raises target raise) reply = IsBoundaryAdvanceReply raise reply
IsAdvanceReply (Drops target) reply = IsLook reply

abbrev pub raises_turned : ℕ → BoundaryAdvance × Turned (Result (Unit {0}) ℕ) → AdvanceOp × Turned (Result (Unit {0}) ℕ)
raises_turned target (raise, Goes) = (Raises target raise, Goes)
raises_turned target (raise, Done (Ok done)) = (Drops target, Goes)
raises_turned target (raise, Done (Err number)) = (Raises target raise, Done (Err number))

-- what it makes of a look or a reply, memory aside
abbrev pub advance_turned : Segments → AdvanceOp → Caches → Option Reply → AdvanceOp × Turned (Result (Unit {0}) ℕ)
advance_turned path (Raises target raise) caches reply = raises_turned target (boundary_advance_turned path raise caches.boundary reply)
advance_turned path (Drops target) caches reply = (Drops target, Done (Ok tt))

-- what it leaves of the caches: the target and all below it are dropped
abbrev pub advance_caches : AdvanceOp → Caches → Caches
advance_caches (Raises target raise) caches = record { latest = caches.latest; boundary = boundary_advance_cached raise caches.boundary }
advance_caches (Drops target) caches = record { latest = above target caches.latest; boundary = caches.boundary }
