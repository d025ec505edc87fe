use Rattle.std.proofs.Common.{◌-◌, ◌^◌}
use Rattle.txn_script_lines.proofs.Skips.{Skipping}
use Rattle.txn_script_lines.proofs.lines.Lines.next_line.Given as goal

-- the lines read so far were skipped
abbrev pub invariant-loop-self : goal.invariant-loop-self
invariant-loop-self g l = Skipping (g.R.Read.remaining l.fn.self.reader) l.fn.self.number (g.R.Read.remaining l.self.reader) l.self.number

abbrev pub decreases-loop-self : goal.decreases-loop-self
decreases-loop-self g l = 2 ^ 64 - l.self.number
