use Rattle.std.proofs.Common.{arith}
use Rattle.txn_machine.proofs.Runs.{opening_reached}
use Rattle.txn_world.proofs.finishing.Whole.{work_costs, none_hold}
use Rattle.txn_world.proofs.finishing.progress.whole_run_is_bounded.Goals as goal

pub returns : goal.returns
returns g c clients page pages cost taken new room costs =
    let bound = work_costs _ _ _ _ taken cost _ new pages (λ op. 0) (opening_reached _ _ _ _ clients page room) costs (none_hold _ _ _ _ clients page pages (λ op. 0)) in
    omega (arith, bound)
