use Rattle.txnobj_c.proofs.OfClients.{lacks_listing}
use Rattle.txnobj_c.proofs.replies.take_listing.Goals as goal

pub returns-in-Err : goal.returns-in-Err
returns-in-Err c = lacks_listing c.args.op _ c.args.client.now.value _ _ c.in-Err.fault _ c.in-Err.ensures.client c.lack_reply.ensures.client c.in-Err.ensures.err c.lack_reply.ensures.code
