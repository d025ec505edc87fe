use Rattle.std.proofs.Common.{◌∙◌, ap, refl}
use Rattle.txn_world.specs.Shown.{shown}
use Rattle.txn_world.proofs.Stepping.{takes_look, looked}
use Rattle.txn_world.proofs.tables.Tables.look.Goals as goal

pub turn-ending-requires-clause-takes : goal.turn-ending-requires-clause-takes
turn-ending-requires-clause-takes g c = takes_look (shown c.args.self.now) c.args.op c.requires.fit c.requires.asks

pub returns-clause-ok : goal.returns-clause-ok
returns-clause-ok g c =
    let layout = c.args.self.now.trace.layout in
    let field = c.args.self.now.trace.field in
    let told = rw (c.in_ok-reserve.ensures.used) at c.tell.ensures.told in
    let views = rw (c.in_ok-reserve.ensures.used) at c.tell.ensures.views in
    let rows = rw (c.in_ok-reserve.ensures.used, c.afford-ending.ensures.rows, c.in_ok-reserve-2.ensures.rows) at c.tell.ensures.rows in
    let same = c.tell.ensures.layout ∙ (c.afford-ending.ensures.layout ∙ c.in_ok-reserve-2.ensures.layout) in
    let t = rw (c.in_ok-reserve-2.ensures.layout, c.in_ok-reserve-2.ensures.field) at c.turn-ending.ensures.turned in
    looked (g.C.ObjectCodec.encoded layout.codec) (g.C.ObjectCodec.decoded layout.codec) (g.E.EpochField.epoch_of field) (g.E.EpochField.with_epoch field) (shown c.args.self.now) _ c.args.op c.usage-of.result c.turn-ending.result c.afford-ending.result c.tell.result c.requires.asks c.usage-of.ensures.same t c.afford-ending.ensures.afforded
    told c.turn-ending.ensures.count (ap (λ l. l.page) same) refl views refl refl rows
