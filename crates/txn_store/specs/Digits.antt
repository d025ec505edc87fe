-- Numbers below 2 ^ 64 as digits write them.
use Rattle.std.specs.Prelude.{ℕ, ◌-◌, ◌^◌, Bool, ◌&&◌, List, ◌++◌, Option, Some, None, if◌then◌else◌, length, nat_lt, replicate}
use Rattle.std.specs.Char.{is_ascii_digit}
use Rattle.std.specs.List.{list_all}
use Rattle.std.specs.Fmt.{decimal}
use Rattle.std.specs.Str.Parse.{digits_value}

-- at least one digit, only digits, and a number below 2 ^ 64
abbrev pub is_number : List ℕ → Bool
is_number ds = nat_lt 0 (length ds) && list_all is_ascii_digit ds && nat_lt (digits_value 10 ds) (2 ^ 64)

-- the number that digits write
abbrev pub digits_read : List ℕ → Option ℕ
digits_read ds = if is_number ds then Some (digits_value 10 ds) else None

-- 20 decimal digits, with leading zeros
abbrev pub padded : ℕ → List ℕ
padded n = replicate (20 - length (decimal n)) 48 ++ decimal n
