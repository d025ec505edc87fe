use Rattle.txnobj_c.proofs.OfClients.{lacks_value}
use Rattle.txnobj_c.proofs.begins.txnobj_write.Goals as goal

pub returns-in-Err : goal.returns-in-Err
returns-in-Err c = lacks_value _ c.args.client.now.value _ c.args.op.now _ _ c.lack_value.ensures.client c.lack_value.ensures.code c.lack_value.ensures.number
