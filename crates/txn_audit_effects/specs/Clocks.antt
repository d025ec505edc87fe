-- How the times of recordings are held against each other.
use Rattle.std.specs.Prelude.{◌≤◌, ◌+◌, ◌==◌, ℕ, List, if◌then◌else◌, slice_get, unwrap_or}
use Rattle.txn_audit_effects.specs.declared.clock.Clock.{Clock}

-- a clock that all recordings have
abbrev pub shared : Clock
shared = record { number = 0; ahead = 0; error = 0 }

-- the clock of a recording, which is that of all where it has none here
abbrev pub clock_of : List Clock → ℕ → Clock
clock_of clocks recording = unwrap_or (slice_get clocks recording) shared

-- By how much times of these two may differ that are of one moment: those of one clock are exact among themselves.
abbrev pub apart : Clock → Clock → ℕ
apart one other = if one.number == other.number then 0 else one.error + other.error

-- A moment, which one clock told, may be no later than another, which the other told.
abbrev pub MayPrecede : Clock → ℕ → Clock → ℕ → Type 0
MayPrecede one at other later = at + one.ahead ≤ later + other.ahead + apart one other
