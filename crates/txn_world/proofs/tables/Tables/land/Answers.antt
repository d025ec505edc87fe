use Rattle.std.proofs.Common.{refl, ap}
use Rattle.txn_client_journals.proofs.tables.Acting.{found_here}
use Rattle.txn_world.specs.Shown.{shown}
use Rattle.txn_world.proofs.Stepping.{landed}
use Rattle.txn_world.proofs.tables.Tables.land.Goals as goal

pub returns-clause-ok : goal.returns-clause-ok
returns-clause-ok g c =
    let pair = c.index.result.now in
    landed (shown c.args.self.now) _ c.args.number pair.0 pair.1 c.in_ok-reply.reply c.in_ok-reply.changed (found_here c.args.self.now.loose.items c.args.number pair c.requires.there c.index.ensures) c.in_ok-reply.ensures.serves refl (c.in_ok-reply.ensures.answered refl) c.in_ok-reply.ensures.changed
    refl (ap (λ l. l.page) c.in_ok-reply.ensures.layout) refl refl refl refl refl c.in_ok-reply.ensures.rows
