use Rattle.std.proofs.Common.{rules}
use Rattle.txn_store.proofs.VersionOfLemmas.{read_exactly}
use Rattle.txn_machine.proofs.traces.requests.version_of.Goals as goal

pub returns : goal.returns
returns c = read_exactly c.args.names.now c.args.path.now c.parse_id.result (search rules) c.parse_id.ensures
