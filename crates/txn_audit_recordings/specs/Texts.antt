-- The lines of the bytes of a file.
use Rattle.std.specs.Prelude.{◌≡◌, ◌≢◌, ◌≤◌, ◌<◌, ◌-◌, ◌+◌, ◌==◌, ℕ, List, length, slice_index, count_by}

-- So many bytes are whole lines: they end with a line feed, where there are any, and none stands behind them.
pub record AreWholeLines (bytes : List ℕ) (n : ℕ) : Type 0 where
  pub within : n ≤ length bytes
  pub ends : 0 < n → slice_index bytes (n - 1) ≡ 10
  pub none_behind : (k : ℕ) → n ≤ k → k < length bytes → slice_index bytes k ≢ 10

-- the line, from 1, of the byte that stands behind these
abbrev pub line_after : List ℕ → ℕ
line_after before = count_by (λ b. b == 10) before + 1
