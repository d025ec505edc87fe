use Rattle.std.proofs.Common.{ℕ, List, map, take, Bor}
use Rattle.txn_audit_recordings.specs.Recordings.{AddsLines}
use Rattle.txn_audit_recordings.proofs.recordings.Recordings.add_lines.Given as goal

-- the lines before this one were added
abbrev pub invariant-loop-place : goal.invariant-loop-place
invariant-loop-place g l = AddsLines g.T.TextForm.text l.file 1 (map (λ (line : Bor (List ℕ)). line.now) (take l.place l.lines)) l.fn.self l.self
