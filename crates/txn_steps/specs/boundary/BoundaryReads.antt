-- The steps of a read of the boundary: a look for the known token, a get, and a look that caches.
use Rattle.std.specs.Prelude.{ℕ, Option, Some, None, Result, Ok, Err}
use Rattle.txn_store.specs.declared.store.Got.{Got}
use Rattle.txn_store.specs.declared.store.StoreError.{StoreError}
use Rattle.txn_store.specs.declared.store.StoreError.TheVariants as errors
use Rattle.txn_store.specs.declared.request.Request.{Request}
use Rattle.txn_store.specs.declared.request.Request.TheVariants as requests
use Rattle.txn_store.specs.declared.request.Reply.{Reply}
use Rattle.txn_store.specs.declared.request.Reply.TheVariants as replies
use Rattle.txn_store.specs.types.Errors.{store_error_number}
use Rattle.txn_store.specs.types.BoundaryText.{boundary_read}
use Rattle.txn_steps.specs.declared.boundary.caches.CachedBoundary.{CachedBoundary}
use Rattle.txn_steps.specs.declared.boundary.boundary_read.BoundaryRead.{BoundaryRead}
use Rattle.txn_steps.specs.declared.boundary.boundary_read.BoundaryRead.TheVariants.{Looks, Gets, Holds}
use Rattle.txn_steps.specs.declared.boundary.turned.Turned.{Turned}
use Rattle.txn_steps.specs.declared.boundary.turned.Turned.TheVariants.{Goes, Done}
use Rattle.txn_steps.specs.boundary.Asking.{IsLook, IsGot}
use Rattle.txn_steps.specs.boundary.Boundaries.{Known, known_pair, token_of, greater_known}

abbrev pub IsLooking : BoundaryRead → Type 0
IsLooking (Looks path) = Unit {0}
IsLooking (Gets request) = ⊥
IsLooking (Holds known) = ⊥

-- it asks for the file, unless that is as it is known
abbrev pub boundary_getting : BoundaryRead → Option CachedBoundary → BoundaryRead
boundary_getting (Looks path) cached = Gets (requests.Get path (token_of cached))
boundary_getting (Gets request) cached = Gets request
boundary_getting (Holds known) cached = Holds known

-- bytes that say no boundary are an unexpected state
abbrev pub text_read : BoundaryRead → ℕ → Option ℕ → BoundaryRead × Turned (Result Known ℕ)
text_read op token None = (op, Done (Err 7))
text_read op token (Some number) = (Holds (Some (record { number = number; token = token })), Goes)

-- after the get: a missing file is boundary 0
abbrev pub boundary_got : BoundaryRead → Result Got StoreError → BoundaryRead × Turned (Result Known ℕ)
boundary_got op (Ok got) = text_read op got.token (boundary_read got.bytes)
boundary_got op (Err errors.NotFound) = (op, Done (Ok (0, None)))
boundary_got op (Err errors.NotModified) = (Holds None, Goes)
boundary_got op (Err error) = (op, Done (Err (store_error_number error)))

-- after the second look: the greater of what was read and what is cached, or what is cached where the file is as it was
abbrev pub boundary_held : BoundaryRead → Option CachedBoundary → Option CachedBoundary → BoundaryRead × Turned (Result Known ℕ)
boundary_held op (Some known) cached = (op, Done (Ok (known_pair (greater_known cached known))))
boundary_held op None (Some cached) = (op, Done (Ok (known_pair cached)))
boundary_held op None None = (op, Done (Err 7))

abbrev pub held_cached : Option CachedBoundary → Option CachedBoundary → Option CachedBoundary
held_cached (Some known) cached = Some (greater_known cached known)
held_cached None cached = cached

-- what it asks
abbrev pub boundary_read_asked : BoundaryRead → Option Request
boundary_read_asked (Looks path) = None
boundary_read_asked (Gets request) = Some request
boundary_read_asked (Holds known) = None

-- a reply of the kind that it asks for
abbrev pub IsBoundaryReply : BoundaryRead → Option Reply → Type 0
IsBoundaryReply (Looks path) reply = IsLook reply
IsBoundaryReply (Gets request) reply = IsGot reply
IsBoundaryReply (Holds known) reply = IsLook reply

abbrev pub boundary_replied : BoundaryRead → Option Reply → BoundaryRead × Turned (Result Known ℕ)
boundary_replied op (Some (replies.Get answer)) = boundary_got op answer
boundary_replied op (Some reply) = (op, Goes)
boundary_replied op None = (op, Goes)

-- what it makes of a look or a reply
abbrev pub boundary_turned : BoundaryRead → Option CachedBoundary → Option Reply → BoundaryRead × Turned (Result Known ℕ)
boundary_turned (Looks path) cached reply = (boundary_getting (Looks path) cached, Goes)
boundary_turned (Gets request) cached reply = boundary_replied (Gets request) reply
boundary_turned (Holds known) cached reply = boundary_held (Holds known) known cached

-- what it leaves of the cached boundary
abbrev pub boundary_cached : BoundaryRead → Option CachedBoundary → Option CachedBoundary
boundary_cached (Looks path) cached = cached
boundary_cached (Gets request) cached = cached
boundary_cached (Holds known) cached = held_cached known cached
