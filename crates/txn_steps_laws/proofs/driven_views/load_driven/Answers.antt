use Rattle.txn_steps_laws.proofs.Driven.{load_driven}
use Rattle.txn_steps_laws.proofs.driven_views.load_driven.Goals as goal

pub returns : goal.returns
returns g c steps a b answer ascending small starts on = load_driven c.args._layout.now.names c.args._layout.now.boundary c.args._layout.now.page c.requires (g.C.ObjectCodec.decoded c.args._layout.now.codec) g.X.EpochField.epoch_of a ascending small starts steps answer b on
