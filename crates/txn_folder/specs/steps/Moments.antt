-- What stood in a folder, moment by moment, and what a scan of it tells.
use Rattle.std.specs.Prelude.{◌≡◌, ◌↔◌, ℕ, ◌+◌, ◌<◌, ◌≤◌, Bool, true, List, Contains}
use Rattle.std.specs.List.Sorted.{IsStrictlyIncreasing}

-- Of a folder in which nothing is removed, whether a version stands at a moment. Above the last id each version stands only beside the one before it, and comes after it.
pub record Grows (last : ℕ) (stood : ℕ → ℕ → Bool) : Type 0 where
  pub stays : (t id : ℕ) → stood t id ≡ true → stood (t + 1) id ≡ true
  pub beside : (t id : ℕ) → last < id → stood t (id + 1) ≡ true → stood t id ≡ true
  pub after : (t id : ℕ) → last < id → stood (t + 1) (id + 1) ≡ true → stood t id ≡ true

-- A scan that takes from one moment to another tells what stood all the while, and nothing that never stood meanwhile.
pub record IsScan (stood : ℕ → ℕ → Bool) (from to : ℕ) (ids : List ℕ) : Type 0 where
  pub ascend : IsStrictlyIncreasing ids
  pub shows : (id : ℕ) → stood from id ≡ true → Contains ids id
  pub shown : (id : ℕ) → Contains ids id → stood to id ≡ true

-- three scans of a folder, one after another, of which the first tells nothing above the last id
pub record AreScans (last : ℕ) (stood : ℕ → ℕ → Bool) (end next later third_from : ℕ) (first second third : List ℕ) : Type 0 where
  pub grows : Grows last stood
  pub first_up_to : (id : ℕ) → Contains first id → id ≤ last
  pub first_shown : (id : ℕ) → Contains first id → stood end id ≡ true
  pub second_is : IsScan stood next later second
  pub third_ascends : IsStrictlyIncreasing third
  pub third_shows : (id : ℕ) → stood third_from id ≡ true → Contains third id
  pub second_after : end ≤ next
  pub second_takes : next ≤ later
  pub third_after : later ≤ third_from

-- exactly these stood at some moment from one to another
pub record StoodAtAMoment (stood : ℕ → ℕ → Bool) (from to : ℕ) (ids : List ℕ) : Type 0 where
  pub moment : ℕ
  pub since : from ≤ moment
  pub until : moment ≤ to
  pub exactly : (id : ℕ) → (stood moment id ≡ true) ↔ Contains ids id
