use Rattle.std.proofs.Common.{◌+◌}
use Rattle.txn_store.specs.VersionName.{version_path}
use Rattle.txn_store.specs.types.Numbers.{number_of}
use Rattle.txn_steps_driven.specs.WriteRuns.{WriteRuns, write_rank}
use Rattle.txn_steps_driven.proofs.writing.write_version.Given as goal

abbrev pub invariant-steps : goal.invariant-steps
invariant-steps g l = WriteRuns (version_path l.layout.names (number_of l.fn.base + 1)) (g.C.ObjectCodec.encoded l.layout.codec l.value) (number_of l.fn.base + 1) (g.S.ObjectStore.state l.fn.store) (g.S.ObjectStore.state l.store) l.fn.latest l.latest l.op

abbrev pub decreases-steps : goal.decreases-steps
decreases-steps g l = write_rank l.op
