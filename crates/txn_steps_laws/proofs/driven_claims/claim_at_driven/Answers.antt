use Rattle.std.proofs.Common.{Some}
use Rattle.txn_steps_laws.proofs.DrivenClaims.{claim_driven}
use Rattle.txn_steps_laws.proofs.driven_claims.claim_at_driven.Goals as goal

pub returns : goal.returns
returns g c epoch id object steps a b answer ascending starts made on = claim_driven c.args._layout.now.names c.args._layout.now.boundary c.args._layout.now.page (g.C.ObjectCodec.encoded c.args._layout.now.codec) (g.C.ObjectCodec.decoded c.args._layout.now.codec) g.X.EpochField.epoch_of g.X.EpochField.with_epoch c.requires id object (Some epoch) a ascending starts made steps answer b on
