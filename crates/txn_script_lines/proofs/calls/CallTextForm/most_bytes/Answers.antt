use Rattle.std.proofs.Common.{ℕ, ◌+◌, ◌≤◌, length}
use Rattle.txn_history.specs.declared.event.Call.{Call}
use Rattle.txn_script_lines.specs.Grammar.{call_text, CallFits}
use Rattle.txn_script_lines.proofs.Lengths.{call_short, some_of}
use Rattle.txn_script_lines.proofs.calls.CallTextForm.most_bytes.Goals as goal

pub returns : goal.returns
returns g c = record { short = some_of c.checked_add.result (c.in_ok-most_bytes.field-0 + 50) _ c.checked_add.ensures (λ (most : ℕ). (v : Call g.row.T.Denot) → CallFits g.T.TextForm.fits v → length (call_text g.T.TextForm.text v) ≤ most) (call_short g.T.TextForm.text g.T.TextForm.fits c.in_ok-most_bytes.field-0 c.in_ok-most_bytes.ensures.short) }
