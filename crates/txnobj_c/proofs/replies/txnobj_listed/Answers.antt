use Rattle.txnobj_c.proofs.OfClients.{lacks_reply}
use Rattle.txnobj_c.proofs.replies.txnobj_listed.Goals as goal

pub returns-in-Err : goal.returns-in-Err
returns-in-Err c = lacks_reply c.args.op _ c.args.client.now.value _ _ c.lack_reply.ensures.client c.lack_reply.ensures.code
