use Rattle.std.proofs.Common.{length}
use Rattle.std.specs.HashSet.{spare}
use Rattle.txn_world.proofs.Stepping.{told_within}
use Rattle.txn_world.proofs.ends.tell.Goals as goal

pub answer-requires-clause-spare : goal.answer-requires-clause-spare
answer-requires-clause-spare g c =
    told_within (length c.args.views.now.used.items) (spare c.args.trace.now.told) c.args.of.view c.args.ending c.settle.result (c.in-Some.answer, c.in-Some.copy) c.in-Some.is c.settle.ensures.answer c.requires.spare
