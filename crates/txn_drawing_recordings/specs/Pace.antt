-- When calls were.
use Rattle.std.specs.Prelude.{ℕ, ◌-◌, Bool, min, max, if◌then◌else◌, Option, None, Some}
use Rattle.txn_drawing_moments.specs.declared.moment.When.{When}
use Rattle.txn_drawing_moments.specs.declared.moment.When.TheVariants as times

-- the first moment at which the store can have served a call: not before it was asked, nor before the last one was served, and no later than its reply
abbrev pub served_at : ℕ → ℕ → Option ℕ → ℕ
served_at now asked None = max now asked
served_at now asked (Some replied) = min (max now asked) replied

-- a time as it is told: since the first call was asked
abbrev pub told_at : Bool → ℕ → Option ℕ → When
told_at is_shared start None = times.Unknown
told_at is_shared start (Some at) = if is_shared then times.Shared (at - start) else times.Own (at - start)
