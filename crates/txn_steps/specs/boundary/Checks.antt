-- The steps of a check: what the boundary says of an id, and a look that drops what a refused id leaves behind.
use Rattle.std.specs.Prelude.{ℕ, ◌==◌, if◌then◌else◌, Option, None, Result, Ok, Err}
use Rattle.txn_store.specs.Paths.{Segments}
use Rattle.txn_store.specs.declared.request.Request.{Request}
use Rattle.txn_store.specs.declared.request.Reply.{Reply}
use Rattle.txn_steps.specs.declared.boundary.caches.Caches.{Caches}
use Rattle.txn_steps.specs.declared.boundary.boundary_read.BoundaryRead.{BoundaryRead}
use Rattle.txn_steps.specs.declared.boundary.check.BoundaryStep.TheVariants as step
use Rattle.txn_steps.specs.declared.boundary.check.BoundaryCheck.{BoundaryCheck}
use Rattle.txn_steps.specs.declared.boundary.check.CheckOp.{CheckOp}
use Rattle.txn_steps.specs.declared.boundary.check.CheckOp.TheVariants.{Checks, Drops}
use Rattle.txn_steps.specs.declared.boundary.turned.Turned.{Turned}
use Rattle.txn_steps.specs.declared.boundary.turned.Turned.TheVariants.{Goes, Done}
use Rattle.txn_steps.specs.boundary.Asking.{IsLook}
use Rattle.txn_steps.specs.boundary.Windows.{above}
use Rattle.txn_steps.specs.boundary.BoundaryChecks.{boundary_check_started, boundary_check_asked, boundary_check_turned, boundary_check_cached, IsBoundaryCheckReply}

abbrev pub check_started : Segments → ℕ → CheckOp
check_started path id = Checks (boundary_check_started path id)

-- with a read of the boundary that was made before
abbrev pub check_of_read : ℕ → BoundaryRead → CheckOp
check_of_read id read = Checks (record { id = id; step = step.Looks; read = read })

-- what it asks
abbrev pub check_asked : CheckOp → Option Request
check_asked (Checks check) = boundary_check_asked check
check_asked (Drops id) = None

-- a reply of the kind that it asks for
abbrev pub IsCheckReply : CheckOp → Option Reply → Type 0
IsCheckReply (Checks check) reply = IsBoundaryCheckReply check reply
IsCheckReply (Drops id) reply = IsLook reply

-- an id that is refused is dropped
abbrev pub checks_turned : ℕ → BoundaryCheck × Turned (Result (Unit {0}) ℕ) → CheckOp × Turned (Result (Unit {0}) ℕ)
checks_turned id (check, Goes) = (Checks check, Goes)
checks_turned id (check, Done (Ok accepted)) = (Checks check, Done (Ok accepted))
checks_turned id (check, Done (Err number)) = if number == 5 then (Drops id, Goes) else (Checks check, Done (Err number))

-- what it makes of a look or a reply
abbrev pub check_turned : CheckOp → Caches → Option Reply → CheckOp × Turned (Result (Unit {0}) ℕ)
check_turned (Checks check) caches reply = checks_turned check.id (boundary_check_turned check caches.boundary reply)
check_turned (Drops id) caches reply = (Drops id, Done (Err 5))

-- what it leaves of the caches: a refused id and all below it are dropped
abbrev pub check_caches : CheckOp → Caches → Caches
check_caches (Checks check) caches = record { latest = caches.latest; boundary = boundary_check_cached check caches.boundary }
check_caches (Drops id) caches = record { latest = above id caches.latest; boundary = caches.boundary }
