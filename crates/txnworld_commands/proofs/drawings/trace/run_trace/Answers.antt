use Rattle.std.proofs.Common.{◌∙◌, sym}
use Rattle.txnworld_commands.proofs.drawings.Footing.{ended_well}
use Rattle.txnworld_commands.proofs.drawings.trace.run_trace.Goals as goal

pub returns : goal.returns
returns g c = λ zero. ended_well c.print_trace-ended.result _ (sym c.exit_status.ensures.status ∙ zero) c.print_trace-ended.ensures.foot
