use Rattle.txnworld_commands.proofs.Ready.{are_clients, clients_numbered}
use Rattle.txnworld_commands.proofs.diaries.run_diaries.Goals as goal

pub work_off-requires-clause-numbers : goal.work_off-requires-clause-numbers
work_off-requires-clause-numbers g c κs within = clients_numbered c.args.workers c.in_ok-clients.field-0.items c.in_ok-clients.ensures

pub audited-requires : goal.audited-requires
audited-requires g c =
    rw c.deref.ensures.value
    (are_clients c.args.workers c.in_ok-clients.field-0.items c.in_ok-diaries.diaries.items c.in_ok-clients.ensures c.in_ok-diaries.ensures.left)
