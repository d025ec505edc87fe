use Rattle.std.proofs.Common.{◌≡◌, ◌++◌, drop}
use Rattle.txn_drawing_recordings.specs.ByTime.{timed_rows}
use Rattle.txn_drawing_recordings.proofs.times.add_calls.Given as goal

-- what was added so far, and what is left to add
abbrev pub invariant-loop-row : goal.invariant-loop-row
invariant-loop-row g l = l.calls.items ++ timed_rows l.recording l.ahead l.row (drop l.row l.rows) ≡ l.fn.calls.items ++ timed_rows l.recording l.ahead 0 l.rows
