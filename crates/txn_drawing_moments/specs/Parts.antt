-- A part of what happened, by its store calls.
use Rattle.std.specs.List.{sum_by}
use Rattle.std.specs.Prelude.{◌≡◌, ℕ, ◌+◌, ◌-◌, ◌<◌, ◌≤◌, Bool, true, false, ◌⊎◌, if◌then◌else◌, List, length, take, drop, slice_index_or}
use Rattle.txn_drawing_moments.specs.declared.moment.Moment.{Moment}
use Rattle.txn_drawing_moments.specs.declared.moment.Touch.{Touch}
use Rattle.txn_drawing_moments.specs.declared.moment.Touch.TheVariants as touches

-- The store served a call.
abbrev pub is_call : Touch → Bool
is_call touches.None = false
is_call _ = true

abbrev pub call_count : Moment → ℕ
call_count moment = if is_call moment.touch then 1 else 0

-- how many calls it served
abbrev pub calls_in : List Moment → ℕ
calls_in moments = sum_by call_count moments

-- A place stands directly behind the call of this number, and the first place behind none.
abbrev pub IsBehind : List Moment → ℕ → ℕ → Type 0
IsBehind moments calls place =
    (place ≤ length moments)
    × (calls_in (take place moments) ≡ calls)
    × ((calls ≡ 0) × (place ≡ 0) ⊎ (0 < place) × ((d : Moment) → is_call (slice_index_or moments (place - 1) d).touch ≡ true))

-- A part of so many calls at most ends here: where no call is left behind them at the end of all, else directly behind the last of them.
abbrev pub IsEnd : List Moment → ℕ → ℕ → Type 0
IsEnd moments calls place =
    (calls_in (take place moments) ≤ calls)
    × ((place ≡ length moments) ⊎ (IsBehind moments calls place × (0 < calls_in (drop place moments))))

-- A part from the call of a number on: directly behind the call before it. These are the moments up to its end, and so many of them stand before it.
abbrev pub IsPart : List Moment → ℕ → ℕ → ℕ → List Moment → Type 0
IsPart moments from calls before upto =
    (end : ℕ)
    × (upto ≡ take (before + end) moments)
    × IsBehind moments (from - 1) before
    × (0 < calls_in (drop before moments))
    × IsEnd (drop before moments) calls end

-- There is no such part: calls are counted from 1, one at least is drawn, and there are not so many.
abbrev pub IsNoPart : List Moment → ℕ → ℕ → Type 0
IsNoPart moments from calls = (from ≡ 0) ⊎ (calls ≡ 0) ⊎ (calls_in moments < from)
