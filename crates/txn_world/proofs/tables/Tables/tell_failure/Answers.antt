use Rattle.std.proofs.Common.{refl, ap}
use Rattle.txn_world.specs.Shown.{shown}
use Rattle.txn_world.proofs.Stepping.{told_failed}
use Rattle.txn_world.proofs.tables.Tables.tell_failure.Goals as goal

pub returns-clause-failed : goal.returns-clause-failed
returns-clause-failed g c =
    rw c.refuse.ensures.told
    (told_failed (shown c.args.self.now) _ c.args.op c.usage-of.result c.usage-of.ensures.same c.end.ensures.ended c.end.ensures.count (ap (λ l. l.page) c.refuse.ensures.layout) refl c.end.ensures.caches c.refuse.ensures.views refl c.push_within.ensures.items c.refuse.ensures.rows)
