-- Numbers below 2 ^ 64 as plain decimals write them.
use Rattle.std.specs.Prelude.{ℕ, ◌&&◌, ◌<◌, ◌^◌, List, ◌∷◌, ◌++◌, Option, None, if◌then◌else◌, length, nat_lt, ◌==◌, slice_index}
use Rattle.std.specs.Fmt.{decimal}
use Rattle.txn_store.specs.Digits.{digits_read}

-- the number of a plain decimal, with no leading zero but in `0` itself
abbrev pub decimal_read : List ℕ → Option ℕ
decimal_read ds = if nat_lt 1 (length ds) && slice_index ds 0 == 48 then None else digits_read ds

-- two numbers, divided by one space
abbrev pub pair_text : ℕ → ℕ → List ℕ
pair_text first second = decimal first ++ (32 ∷ decimal second)

abbrev pub PairFits : ℕ → ℕ → Type 0
PairFits first second = (first < 2 ^ 64) × (second < 2 ^ 64)
