use Rattle.txn_machine.proofs.plain.FewProbes.{four_probes, step_takes}
use Rattle.txn_machine.proofs.plain.probes.four_probes.Goals as goal

pub returns : goal.returns
returns g c = record { few = four_probes; takes = step_takes }
