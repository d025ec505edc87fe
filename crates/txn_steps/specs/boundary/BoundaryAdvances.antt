-- The steps of a raise of the boundary: the cached boundary or a read, the put of the target where it is above, and a look that caches it.
use Rattle.std.specs.Prelude.{ℕ, nat_lt, if◌then◌else◌, Bool, true, false, Option, Some, None, Result, Ok, Err}
use Rattle.std.specs.Fmt.{decimal}
use Rattle.txn_store.specs.Paths.{Segments}
use Rattle.txn_store.specs.declared.store.PutMode.{PutMode}
use Rattle.txn_store.specs.declared.store.PutMode.TheVariants.{Create, Update}
use Rattle.txn_store.specs.declared.store.StoreError.{StoreError}
use Rattle.txn_store.specs.declared.store.StoreError.TheVariants as errors
use Rattle.txn_store.specs.declared.request.Request.{Request}
use Rattle.txn_store.specs.declared.request.Request.TheVariants as requests
use Rattle.txn_store.specs.declared.request.Reply.{Reply}
use Rattle.txn_store.specs.declared.request.Reply.TheVariants as replies
use Rattle.txn_store.specs.types.Errors.{store_error_number}
use Rattle.txn_steps.specs.declared.boundary.caches.CachedBoundary.{CachedBoundary}
use Rattle.txn_steps.specs.declared.boundary.boundary_read.BoundaryRead.{BoundaryRead}
use Rattle.txn_steps.specs.declared.boundary.boundary_read.BoundaryRead.TheVariants as read
use Rattle.txn_steps.specs.declared.boundary.advance.BoundaryAdvance.{BoundaryAdvance}
use Rattle.txn_steps.specs.declared.boundary.advance.BoundaryAdvance.TheVariants.{Looks, Reads, Puts, Keeps}
use Rattle.txn_steps.specs.declared.boundary.turned.Turned.{Turned}
use Rattle.txn_steps.specs.declared.boundary.turned.Turned.TheVariants.{Goes, Done}
use Rattle.txn_steps.specs.boundary.Asking.{IsLook, IsPut}
use Rattle.txn_steps.specs.boundary.Boundaries.{Known, known_pair, greater_known}
use Rattle.txn_steps.specs.boundary.BoundaryReads.{boundary_read_asked, boundary_turned, boundary_cached, IsBoundaryReply}

abbrev pub Raised : Type 0
Raised = BoundaryAdvance × Turned (Result (Unit {0}) ℕ)

-- a file that is known is replaced where its token is still the same, one that was missing is created
abbrev pub raise_mode : Option ℕ → PutMode
raise_mode None = Create
raise_mode (Some token) = Update token

abbrev pub putting : Segments → ℕ → Option ℕ → BoundaryAdvance
putting path target token = Puts target (requests.Put path (decimal target) (raise_mode token))

abbrev pub reading : Segments → ℕ → Bool → BoundaryAdvance
reading path target again = Reads target again (read.Looks path)

-- with the boundary known: nothing is put where it is at or above the target
abbrev pub raise_known : Segments → BoundaryAdvance → ℕ → Known → Raised
raise_known path op target known = if nat_lt known.0 target then (putting path target known.1, Goes) else (op, Done (Ok tt))

abbrev pub advance_looked : Segments → BoundaryAdvance → ℕ → Option CachedBoundary → Raised
advance_looked path op target (Some known) = raise_known path op target (known_pair known)
advance_looked path op target None = (reading path target false, Goes)

-- after the put: where another advance came first it reads, and looks again
abbrev pub put_answered : Segments → BoundaryAdvance → ℕ → Result ℕ StoreError → Raised
put_answered path op target (Ok token) = (Keeps target token, Goes)
put_answered path op target (Err errors.AlreadyExists) = (reading path target true, Goes)
put_answered path op target (Err errors.Precondition) = (reading path target true, Goes)
put_answered path op target (Err error) = (op, Done (Err (store_error_number error)))

abbrev pub known_after : Bool → Segments → BoundaryAdvance → ℕ → Known → Raised
known_after true path op target known = (Looks target, Goes)
known_after false path op target known = raise_known path op target known

-- whether it asks for its put
abbrev pub asks_put : BoundaryAdvance → Bool
asks_put (Looks target) = false
asks_put (Reads target again read) = false
asks_put (Puts target request) = true
asks_put (Keeps target token) = false

abbrev pub advance_kept : BoundaryAdvance → Raised
advance_kept op = (op, Done (Ok tt))

abbrev pub is_reading : BoundaryAdvance → Bool
is_reading (Looks target) = false
is_reading (Reads target again read) = true
is_reading (Puts target request) = false
is_reading (Keeps target token) = false

-- what it asks
abbrev pub boundary_advance_asked : BoundaryAdvance → Option Request
boundary_advance_asked (Looks target) = None
boundary_advance_asked (Reads target again read) = boundary_read_asked read
boundary_advance_asked (Puts target request) = Some request
boundary_advance_asked (Keeps target token) = None

-- a reply of the kind that it asks for
abbrev pub IsBoundaryAdvanceReply : BoundaryAdvance → Option Reply → Type 0
IsBoundaryAdvanceReply (Looks target) reply = IsLook reply
IsBoundaryAdvanceReply (Reads target again read) reply = IsBoundaryReply read reply
IsBoundaryAdvanceReply (Puts target request) reply = IsPut reply
IsBoundaryAdvanceReply (Keeps target token) reply = IsLook reply

-- with what its read says
abbrev pub advance_after : Segments → BoundaryAdvance → ℕ → Bool → Turned (Result Known ℕ) → Raised
advance_after path op target again Goes = (op, Goes)
advance_after path op target again (Done (Ok known)) = known_after again path op target known
advance_after path op target again (Done (Err number)) = (op, Done (Err number))

abbrev pub advance_read : Segments → ℕ → Bool → BoundaryRead × Turned (Result Known ℕ) → Raised
advance_read path target again (read, told) = advance_after path (Reads target again read) target again told

abbrev pub put_turned : Segments → BoundaryAdvance → ℕ → Option Reply → Raised
put_turned path op target (Some (replies.Put answer)) = put_answered path op target answer
put_turned path op target (Some reply) = (op, Goes)
put_turned path op target None = (op, Goes)

-- what it makes of a look or a reply, memory aside
abbrev pub boundary_advance_turned : Segments → BoundaryAdvance → Option CachedBoundary → Option Reply → Raised
boundary_advance_turned path (Looks target) cached reply = advance_looked path (Looks target) target cached
boundary_advance_turned path (Reads target again read) cached reply = advance_read path target again (boundary_turned read cached reply)
boundary_advance_turned path (Puts target request) cached reply = put_turned path (Puts target request) target reply
boundary_advance_turned path (Keeps target token) cached reply = advance_kept (Keeps target token)

-- what it leaves of the cached boundary
abbrev pub boundary_advance_cached : BoundaryAdvance → Option CachedBoundary → Option CachedBoundary
boundary_advance_cached (Looks target) cached = cached
boundary_advance_cached (Reads target again read) cached = boundary_cached read cached
boundary_advance_cached (Puts target request) cached = cached
boundary_advance_cached (Keeps target token) cached = Some (greater_known cached (record { number = target; token = token }))
