-- What a request does to the object.
use Rattle.std.specs.Prelude.{◌≡◌, ℕ, Bool, true, false, Option, None, Some, unwrap_or}
use Rattle.txn_store.specs.types.BoundaryText.{boundary_read}
use Rattle.txn_store.specs.Paths.{Segments}
use Rattle.txn_store.specs.declared.request.Request.{Request}
use Rattle.txn_store.specs.declared.request.Request.TheVariants as requests
use Rattle.txn_drawing_moments.specs.declared.touches.asked.Asked.{Asked}
use Rattle.txn_drawing_moments.specs.declared.touches.asked.Asked.TheVariants as asked

-- A listing with no path to begin after begins above version 0.
abbrev pub IsAbove : Option Segments → ℕ → Type 0
IsAbove None above = above ≡ 0
IsAbove (Some path) above = Unit {0}

-- A request is told as a call of its kind. A put creates a version that says its bytes, or raises the boundary to what they say, which is 0 where they say none.
abbrev pub IsAsked : Request → Asked → Type 0
IsAsked (requests.Put path bytes mode) (asked.Create id value) = value ≡ bytes
IsAsked (requests.Put path bytes mode) (asked.Raise to) = to ≡ unwrap_or (boundary_read bytes) 0
IsAsked (requests.Get path known) (asked.Get id) = Unit {0}
IsAsked (requests.Get path known) asked.ReadBoundary = Unit {0}
IsAsked (requests.List prefix after limit) (asked.List above most) = IsAbove after above × (most ≡ limit)
IsAsked (requests.Delete path) (asked.Remove id) = Unit {0}
IsAsked _ _ = ⊥

-- a call that changes the object where it takes effect
abbrev pub is_change : Asked → Bool
is_change (asked.Create id value) = true
is_change (asked.Raise to) = true
is_change (asked.Remove id) = true
is_change _ = false
