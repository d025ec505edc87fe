-- What scans of a folder, each a list of ascending ids, tell together.
use Rattle.std.specs.Prelude.{◌≡◌, ℕ, ◌+◌, ◌<◌, ◌==◌, nat_lt, Bool, true, false, List, [], ◌∷◌, ◌++◌, length, slice_index, Contains, Option, Some, None, if◌then◌else◌}

-- the first, if any, is above the last one
abbrev pub BeginsAbove : ℕ → List ℕ → Type 0
BeginsAbove last [] = Unit {0}
BeginsAbove last (id ∷ ids) = last < id

-- Those are these, and then ids above the last one.
abbrev pub IsSameUpTo : ℕ → List ℕ → List ℕ → Type 0
IsSameUpTo last these those = (rest : List ℕ) × (those ≡ these ++ rest) × BeginsAbove last rest

-- the ids of a list that follow the last one without a gap: last + 1, last + 2 and so on
abbrev pub followed : ℕ → List ℕ → List ℕ
followed last [] = []
followed last (id ∷ ids) = if id == last + 1 then id ∷ followed id ids else []

-- each of these is among those
abbrev pub AreAmong : List ℕ → List ℕ → Type 0
AreAmong those these = (k : ℕ) → k < length these → Contains those (slice_index these k)

-- What three scans in a row tell of one moment: up to the last id all three are the same, the third has all that the second has, and the run is what follows the last id in the second.
pub record AreSettled (last : ℕ) (first second third run : List ℕ) : Type 0 where
  pub rest : List ℕ
  pub second_is : second ≡ first ++ rest
  pub second_above : BeginsAbove last rest
  pub third_same : IsSameUpTo last first third
  pub third_has : AreAmong third second
  pub run_is : run ≡ followed last rest

-- The same as functions, by which a listing goes on.

-- what follows these in those, where those begin with them
abbrev pub rest_after : List ℕ → List ℕ → Option (List ℕ)
rest_after [] those = Some those
rest_after (id ∷ these) [] = None
rest_after (id ∷ these) (other ∷ those) = if id == other then rest_after these those else None

abbrev pub above_last : ℕ → Option (List ℕ) → Option (List ℕ)
above_last last None = None
above_last last (Some []) = Some []
above_last last (Some (id ∷ ids)) = if nat_lt last id then Some (id ∷ ids) else None

-- what follows these in those, where those are the same up to the last id
abbrev pub beyond : ℕ → List ℕ → List ℕ → Option (List ℕ)
beyond last these those = above_last last (rest_after these those)

abbrev pub has : List ℕ → ℕ → Bool
has [] id = false
has (other ∷ those) id = if other == id then true else has those id

abbrev pub has_all : List ℕ → List ℕ → Bool
has_all those [] = true
has_all those (id ∷ these) = if has those id then has_all those these else false

abbrev pub run_by : ℕ → Option (List ℕ) → Option (List ℕ) → Bool → Option (List ℕ)
run_by last (Some rest) (Some more) true = Some (followed last rest)
run_by last second third all = None

-- the run of three scans that are settled, none of scans that are not
abbrev pub settled_run : ℕ → List ℕ → List ℕ → List ℕ → Option (List ℕ)
settled_run last first second third = run_by last (beyond last first second) (beyond last first third) (has_all third second)
