use Rattle.txn_steps_driven.proofs.DriveLemmas.{write_driven}
use Rattle.txn_steps_driven.proofs.drive.write_driven.Goals as goal

pub returns : goal.returns
returns g c base value steps a b answer last reads starts on =
    write_driven c.args._layout.now.names (g.C.ObjectCodec.decoded c.args._layout.now.codec) base (g.C.ObjectCodec.encoded c.args._layout.now.codec value) value a starts steps answer b reads last on
