use Rattle.txn_machine.proofs.Refusing.{claim_first, claim_at_first, claim_later, claim_at_later}
use Rattle.txn_machine.proofs.refusals.claims_are_refused_by_their_base.Goals as goal

pub returns-clause-first : goal.returns-clause-first
returns-clause-first g c page number view e =
    let encode = g.C.ObjectCodec.encoded c.args._codec.now in
    let decode = g.C.ObjectCodec.decoded c.args._codec.now in
    let get_epoch = g.E.EpochField.epoch_of c.args._epochs.now in
    let set_epoch = g.E.EpochField.with_epoch c.args._epochs.now in
    claim_first page encode decode get_epoch set_epoch number view e

pub returns-clause-first_at : goal.returns-clause-first_at
returns-clause-first_at g c page number epoch view e =
    let encode = g.C.ObjectCodec.encoded c.args._codec.now in
    let decode = g.C.ObjectCodec.decoded c.args._codec.now in
    let get_epoch = g.E.EpochField.epoch_of c.args._epochs.now in
    let set_epoch = g.E.EpochField.with_epoch c.args._epochs.now in
    claim_at_first page encode decode get_epoch set_epoch number epoch view e

pub returns-clause-later : goal.returns-clause-later
returns-clause-later g c page lacks op caches reply asks e =
    let encode = g.C.ObjectCodec.encoded c.args._codec.now in
    let decode = g.C.ObjectCodec.decoded c.args._codec.now in
    let get_epoch = g.E.EpochField.epoch_of c.args._epochs.now in
    let set_epoch = g.E.EpochField.with_epoch c.args._epochs.now in
    claim_later page encode decode get_epoch set_epoch lacks op caches reply asks e

pub returns-clause-later_at : goal.returns-clause-later_at
returns-clause-later_at g c page lacks epoch op caches reply asks e =
    let encode = g.C.ObjectCodec.encoded c.args._codec.now in
    let decode = g.C.ObjectCodec.decoded c.args._codec.now in
    let get_epoch = g.E.EpochField.epoch_of c.args._epochs.now in
    let set_epoch = g.E.EpochField.with_epoch c.args._epochs.now in
    claim_at_later page encode decode get_epoch set_epoch lacks epoch op caches reply asks e
