-- A client's window: at most eight versions in ascending ids.
use Rattle.std.specs.Prelude.{ℕ, suc, List, [], ◌∷◌, ◌-◌, ◌<◌, ◌==◌, nat_lt, filter, not, length, slice_get, Option, Some, None, if◌then◌else◌}
use Rattle.txn_steps.specs.declared.boundary.caches.Cached.{Cached}

-- ids that ascend from above a bound
abbrev pub AscendsFrom : ℕ → List Cached → Type 0
AscendsFrom low [] = Unit {0}
AscendsFrom low (version ∷ versions) = (low < version.id) × AscendsFrom version.id versions

abbrev pub Ascends : List Cached → Type 0
Ascends [] = Unit {0}
Ascends (version ∷ versions) = AscendsFrom version.id versions

-- the version of an id, where it is held
abbrev pub held : ℕ → List Cached → Option Cached
held id [] = None
held id (version ∷ versions) = if version.id == id then Some version else held id versions

-- the version of the greatest id, which is the last
abbrev pub greatest_held : List Cached → Option Cached
greatest_held versions = slice_get versions (length versions - 1)

-- how many ids at the front are below one
abbrev pub place_of : ℕ → List Cached → ℕ
place_of id [] = 0
place_of id (version ∷ versions) = if nat_lt version.id id then suc (place_of id versions) else 0

-- a version before the first whose id isn't below its own
abbrev pub placed : Cached → List Cached → List Cached
placed version [] = version ∷ []
placed version (first ∷ versions) = if nat_lt first.id version.id then first ∷ placed version versions else version ∷ first ∷ versions

-- in place of the smallest, where it is above that
abbrev pub replaced : Cached → List Cached → List Cached
replaced version [] = []
replaced version (smallest ∷ versions) = if nat_lt smallest.id version.id then placed version versions else smallest ∷ versions

-- with a version that isn't held
abbrev pub added : Cached → List Cached → List Cached
added version versions = if nat_lt (length versions) 8 then placed version versions else replaced version versions

abbrev pub kept_beside : Option Cached → Cached → List Cached → List Cached
kept_beside (Some same) version versions = versions
kept_beside None version versions = added version versions

-- what caching a version leaves: one whose id is held changes nothing
abbrev pub kept : Cached → List Cached → List Cached
kept version versions = kept_beside (held version.id versions) version versions

-- but for the version of an id
abbrev pub without : ℕ → List Cached → List Cached
without id versions = filter (λ version. not (version.id == id)) versions

-- the versions above an id
abbrev pub above : ℕ → List Cached → List Cached
above id versions = filter (λ version. nat_lt id version.id) versions
