-- The number that a time is.
use Rattle.std.specs.Prelude.{ℕ, ℤ, pos, ◌+◌, ◌*◌, ◌^◌, Option, Some, None, if◌then◌else◌, nat_lt}

-- the nanoseconds from 1970 on to a time of so many seconds and nanoseconds, where it is not before and they are below 2 ^ 64
abbrev pub time_number : ℤ → ℤ → Option ℕ
time_number (pos secs) (pos nanos) = if nat_lt (secs * 1000000000 + nanos) (2 ^ 64) then Some (secs * 1000000000 + nanos) else None
time_number secs nanos = None
