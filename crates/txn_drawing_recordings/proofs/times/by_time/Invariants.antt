use Rattle.std.proofs.Common.{◌≡◌, ◌++◌, drop}
use Rattle.txn_drawing_recordings.specs.ByTime.{timed_calls}
use Rattle.txn_drawing_recordings.proofs.times.by_time.Given as goal

-- what was added so far, and what is left to add
abbrev pub invariant-loop-recording : goal.invariant-loop-recording
invariant-loop-recording g l = l.calls.items ++ timed_calls l.clocks l.recording (drop l.recording l.recordings) ≡ timed_calls l.clocks 0 l.recordings
