-- Lengths of time in words, in bytes.
use Rattle.std.specs.Prelude.{ℕ, ◌/◌, ◌%◌, Bool, ◌&&◌, ◌||◌, ◌==◌, if◌then◌else◌, nat_lt, nat_le, List, [], ◌∷◌, ◌++◌, codes, decimal}

-- so many hundredths of a unit: of the two places behind the point, those that are needed for three digits in all, and no 0 at the end
abbrev pub digits_text : ℕ → List ℕ → List ℕ
digits_text hundredths unit =
    let whole = hundredths / 100 in
    let tenth = hundredths / 10 % 10 in
    let last = hundredths % 10 in
    if (nat_le 100 whole || (tenth == 0 && (nat_le 10 whole || last == 0))) then decimal whole ++ (32 ∷ unit)
    else if (nat_le 10 whole || last == 0) then decimal whole ++ (46 ∷ (decimal tenth ++ (32 ∷ unit)))
    else decimal whole ++ (46 ∷ (decimal tenth ++ (decimal last ++ (32 ∷ unit))))

-- a length of time in a unit, of which this is a hundredth
abbrev pub unit_text : ℕ → ℕ → List ℕ → List ℕ
unit_text nanoseconds hundredth unit = digits_text (nanoseconds / hundredth) unit

-- µs in UTF-8
abbrev pub microseconds : List ℕ
microseconds = 194 ∷ 181 ∷ 115 ∷ []

-- a length of time in the greatest unit of which it has one
abbrev pub duration_text : ℕ → List ℕ
duration_text nanoseconds =
    if nat_lt nanoseconds 1000 then decimal nanoseconds ++ codes " ns"
    else if nat_lt nanoseconds 1000000 then unit_text nanoseconds 10 microseconds
    else if nat_lt nanoseconds 1000000000 then unit_text nanoseconds 10000 (codes "ms")
    else unit_text nanoseconds 10000000 (codes "s")
