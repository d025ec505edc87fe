use Rattle.std.proofs.Common.{ℕ, ◌+◌, ◌≤◌, length}
use Rattle.txn_script_lines.specs.declared.line.Line.{Line}
use Rattle.txn_script_lines.specs.Grammar.{line_text, LineFits}
use Rattle.txn_script_lines.proofs.Lengths.{line_short, some_of}
use Rattle.txn_script_lines.proofs.line.LineTextForm.most_bytes.Goals as goal

pub returns : goal.returns
returns g c = record { short = some_of c.checked_add.result (c.in_ok-most_bytes.field-0 + 32) _ c.checked_add.ensures (λ (most : ℕ). (v : Line g.row.C.Denot) → LineFits g.C.TextForm.fits v → length (line_text g.C.TextForm.text v) ≤ most) (line_short g.C.TextForm.text g.C.TextForm.fits c.in_ok-most_bytes.field-0 c.in_ok-most_bytes.ensures.short) }
