use Rattle.std.proofs.Common.{rules}
use Rattle.txn_folder.proofs.steps.ScanLemmas.{ended_at, ended_all}
use Rattle.txn_folder.proofs.steps.scans.followed.Goals as goal

pub returns-then-not-is_next-clause-run : goal.returns-then-not-is_next-clause-run
returns-then-not-is_next-clause-run c = ended_at c.loop-id.count c.args.last c.loop-id.end c.loop-id.id-index c.args.ids.now (search rules) (search rules) c.loop-id.invariant.1

pub returns-clause-run : goal.returns-clause-run
returns-clause-run c = ended_all c.loop-id.count c.args.last c.loop-id.end c.loop-id.id-index c.args.ids.now (search rules) c.loop-id.invariant.1
