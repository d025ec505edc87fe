-- What a client knows of the boundary.
use Rattle.std.specs.Prelude.{ℕ, nat_lt, nat_le, if◌then◌else◌, Bool, false, Option, Some, None, Result, Ok, Err}
use Rattle.txn_steps.specs.declared.boundary.caches.CachedBoundary.{CachedBoundary}

-- the boundary, with the token of its file where there is one
abbrev pub Known : Type 0
Known = ℕ × Option ℕ

abbrev pub token_of : Option CachedBoundary → Option ℕ
token_of None = None
token_of (Some known) = Some known.token

abbrev pub known_pair : CachedBoundary → Known
known_pair known = (known.number, Some known.token)

-- the greater boundary, the new one where they are alike
abbrev pub greater_known : Option CachedBoundary → CachedBoundary → CachedBoundary
greater_known None known = known
greater_known (Some cached) known = if nat_lt known.number cached.number then cached else known

-- the cached boundary is at or above the id
abbrev pub refused_by : ℕ → Option CachedBoundary → Bool
refused_by id None = false
refused_by id (Some known) = nat_le id known.number

-- an id is refused where it is at or below the boundary
abbrev pub decided : ℕ → Result Known ℕ → Result (Unit {0}) ℕ
decided id (Ok known) = if nat_lt known.0 id then Ok tt else Err 5
decided id (Err number) = Err number
