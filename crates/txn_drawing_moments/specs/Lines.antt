-- A line of text, place by place, each by the code of its character.
use Rattle.std.specs.Prelude.{ℕ, Bool, ◌&&◌, ◌||◌, ◌==◌, if◌then◌else◌, nat_lt}

-- a lane: │, ┃ or ┆
abbrev pub is_lane_sign : ℕ → Bool
is_lane_sign cell = cell == 9474 || (cell == 9475 || cell == 9478)

-- What a place has once its line is filled with a sign: a blank has the sign, a lane before the place `crossed` has ┼, and anything else stays.
abbrev pub filled_place : ℕ → ℕ → ℕ → ℕ → ℕ
filled_place sign crossed at cell =
    if cell == 32 then sign
    else if (nat_lt at crossed && is_lane_sign cell) then 9532
    else cell
