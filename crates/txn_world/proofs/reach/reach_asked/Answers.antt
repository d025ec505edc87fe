use Rattle.std.proofs.Common.{◌∙◌, ap}
use Rattle.txn_client_journals.specs.tables.Operations.{request_of}
use Rattle.txn_world.proofs.Stepping.{request_asked}
use Rattle.txn_world.proofs.reach.reach_asked.Goals as goal

pub returns-clause-served : goal.returns-clause-served
returns-clause-served g c = record { request = c.in-Some.request.now; asks = request_asked _ c.in-Some.request.now (c.in-Some.ensures ∙ ap request_of c.asked.ensures); serves = c.in_ok-reply.ensures.serves; added = c.in_ok-reply.ensures.rows }
