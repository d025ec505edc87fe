use Rattle.txn_steps_driven.proofs.DriveCounts.{seen_within}
use Rattle.txn_steps_driven.proofs.drive_reads.seen_answers_soon.Goals as goal

pub returns : goal.returns
returns g c = seen_within c.args._layout.now.names (g.C.ObjectCodec.decoded c.args._layout.now.codec)
