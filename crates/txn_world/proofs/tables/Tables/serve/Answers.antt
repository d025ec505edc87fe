use Rattle.std.proofs.Common.{◌∙◌, ap, sym, refl, arith}
use Rattle.txn_store.specs.Memory.{searched_state}
use Rattle.txn_client_journals.specs.tables.Operations.{asked_by}
use Rattle.txn_world.specs.Shown.{shown}
use Rattle.txn_world.proofs.Stepping.{takes_store, served}
use Rattle.txn_world.proofs.tables.Tables.serve.Goals as goal

pub turn-ending-requires-clause-takes : goal.turn-ending-requires-clause-takes
turn-ending-requires-clause-takes g c =
    let s = c.in_ok-reply.ensures.served in
    takes_store (shown c.args.self.now) c.args.op s.request _ (searched_state c.reach_asked.new.store) c.requires.fit (sym (ap (λ os. asked_by os c.args.op) c.deref.ensures.value) ∙ s.asks) s.serves

pub invariant_of-self-3 : goal.invariant_of-self-3
invariant_of-self-3 g c = let t = c.reach_asked.new.trace in (t.names, (t.boundary_file, (t.all_told, (t.all_below, (t.is_reached, (t.all_erased, (t.all_created, (t.all_epochs, tt))))))))

pub tell-requires-clause-within : goal.tell-requires-clause-within
tell-requires-clause-within g c = omega (arith, c.usage-of.ensures.within, c.in_ok-reserve.ensures.count, c.args.self.now.wide)

pub returns-clause-ok : goal.returns-clause-ok
returns-clause-ok g c =
    let layout = c.args.self.now.trace.layout in
    let field = c.args.self.now.trace.field in
    let s = c.in_ok-reply.ensures.served in
    let told = rw (c.in_ok-reserve.ensures.used) at c.tell.ensures.told in
    let views = rw (c.in_ok-reserve.ensures.used) at c.tell.ensures.views in
    let rows = rw (c.in_ok-reserve.ensures.used, c.afford-ending.ensures.rows, s.added) at c.tell.ensures.rows in
    let same = c.tell.ensures.layout ∙ (c.afford-ending.ensures.layout ∙ c.in_ok-reply.ensures.layout) in
    let t = rw (c.in_ok-reply.ensures.layout, c.in_ok-reply.ensures.field) at c.turn-ending.ensures.turned in
    served (g.C.ObjectCodec.encoded layout.codec) (g.C.ObjectCodec.decoded layout.codec) (g.E.EpochField.epoch_of field) (g.E.EpochField.with_epoch field) (shown c.args.self.now) _ c.args.op c.usage-of.result s.request c.in_ok-reply.reply c.turn-ending.result c.afford-ending.result c.tell.result
    (sym (ap (λ os. asked_by os c.args.op) c.deref.ensures.value) ∙ s.asks) c.usage-of.ensures.same s.serves refl t c.afford-ending.ensures.afforded told c.turn-ending.ensures.count (ap (λ l. l.page) same) views refl refl rows
