-- How sorted files are searched.
use Rattle.std.specs.Prelude.{◌≡◌, ℕ, suc, ◌≤◌, ◌&&◌, not, if◌then◌else◌, List, length, take, drop, slice_get, Option, Some, None, Result, Ok, Err}
use Rattle.std.specs.List.{AllByRecursion}
use Rattle.std.specs.Ordering.{is_lt}
use Rattle.std.specs.declared.cmp.Ordering.{Ordering}
use Rattle.std.specs.declared.cmp.Ordering.TheVariants.{Less, Equal, Greater}
use Rattle.txn_store.specs.Paths.{Segments, path_cmp, is_below}
use Rattle.txn_store.specs.declared.sorted.Mark.{Mark}
use Rattle.txn_store.specs.declared.sorted.Mark.TheVariants.{Path, End}
use Rattle.txn_store.specs.declared.store.Got.{Got}

-- where a stored path stands: before a mark, at it, or behind it
abbrev pub side : Mark → Segments → Segments → Ordering
side Path asked stored = path_cmp stored asked
side End asked stored = if is_lt (path_cmp asked stored) && not (is_below asked stored) then Greater else Less

-- each of these files stands there
abbrev pub AllAt : Mark → Segments → Ordering → List (Segments × Got) → Type 0
AllAt mark asked o es = AllByRecursion (λ e. side mark asked e.0 ≡ o) es

-- the file at this index stands at the mark
pub record StandsAt (mark : Mark) (asked : Segments) (es : List (Segments × Got)) (index : ℕ) : Type 0 where
  pub entry : Segments × Got
  pub there : slice_get es index ≡ Some entry
  pub equal : side mark asked entry.0 ≡ Equal
  pub before : AllAt mark asked Less (take index es)
  pub behind : AllAt mark asked Greater (drop (suc index) es)

-- the files before this index stand before the mark, and the others behind it
pub record StandsBetween (mark : Mark) (asked : Segments) (es : List (Segments × Got)) (index : ℕ) : Type 0 where
  pub within : index ≤ length es
  pub before : AllAt mark asked Less (take index es)
  pub behind : AllAt mark asked Greater (drop index es)

-- where a mark stands, or would
abbrev pub IsPlace : Mark → Segments → List (Segments × Got) → Result ℕ ℕ → Type 0
IsPlace mark asked es (Ok index) = StandsAt mark asked es index
IsPlace mark asked es (Err index) = StandsBetween mark asked es index

-- it does not stand behind the mark
abbrev pub IsUpTo : Ordering → Type 0
IsUpTo Less = Unit {0}
IsUpTo Equal = Unit {0}
IsUpTo Greater = ⊥

-- the first index behind a mark
pub record IsBehind (mark : Mark) (asked : Segments) (es : List (Segments × Got)) (index : ℕ) : Type 0 where
  pub within : index ≤ length es
  pub before : AllByRecursion (λ e. IsUpTo (side mark asked e.0)) (take index es)
  pub behind : AllAt mark asked Greater (drop index es)

-- the path behind which a page begins
abbrev pub further : Segments → Option Segments → Segments
further prefix None = prefix
further prefix (Some after) = if is_lt (path_cmp prefix after) then after else prefix
