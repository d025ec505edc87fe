use Rattle.std.proofs.Common.{◌∙◌, sym}
use Rattle.txnworld_commands.proofs.drawings.Footing.{ended_well}
use Rattle.txnworld_commands.proofs.drawings.trace.run_manifest_trace.Goals as goal

pub returns : goal.returns
returns g c = λ zero. ended_well c.print_trace-done.result _ (sym c.exit_status.ensures.status ∙ zero) c.print_trace-done.ensures.foot
