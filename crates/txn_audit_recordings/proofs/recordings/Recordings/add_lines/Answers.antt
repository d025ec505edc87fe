use Rattle.std.proofs.Common.{ℕ, List, Bor}
use Rattle.txn_audit_recordings.proofs.Lines.{adds_next}
use Rattle.txn_audit_recordings.proofs.recordings.Recordings.add_lines.Goals as goal

pub loop-place-preserved : goal.loop-place-preserved
loop-place-preserved g c = adds_next g.T.TextForm.text c.args.file (λ (line : Bor (List ℕ)). line.now) c.args.lines.now c.loop-place.place _ c.args.self.now c.loop-place.self c.add_line.new.self c.loop-place-test.true c.loop-place.invariant (rw c.in_default.is at c.in_ok-wrong.ensures)
