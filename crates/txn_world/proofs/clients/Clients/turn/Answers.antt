use Rattle.std.proofs.Common.{◌∙◌, arith}
use Rattle.txn_world.proofs.Acting.{takes_asks, turn_running, turns_among, from_with}
use Rattle.txn_world.proofs.clients.Clients.turn.Goals as goal

pub usage-client-requires : goal.usage-client-requires
usage-client-requires g c = takes_asks c.args.self.now.operations.items c.args.op c.args.reply c.requires.takes

pub index_mut-caches-requires : goal.index_mut-caches-requires
index_mut-caches-requires g c =
    let t = c.args.self.now in
    omega (arith, c.usage-client.ensures.some, c.usage-client.ensures.within, t.caches.ok.0, t.wide)

pub delist-requires-clause-within : goal.delist-requires-clause-within
delist-requires-clause-within g c = let t = c.args.self.now in omega (arith, c.usage-client.ensures.within, t.each, t.running.ok.0)

pub invariant_of-self : goal.invariant_of-self
invariant_of-self g c =
    let t = c.args.self.now in
    let v = c.turn-ending.ensures in
    record {
      wide = t.wide;
      each = c.delist.ensures.len ∙ t.each;
      all_running = turn_running c.args.layout.now.page (g.C.ObjectCodec.encoded c.args.layout.now.codec) (g.C.ObjectCodec.decoded c.args.layout.now.codec) (g.E.EpochField.epoch_of c.args.epochs.now) (g.E.EpochField.with_epoch c.args.epochs.now) t.running.items c.delist.new.running.items t.operations.items c.turn-ending.new.operations.items
          c.index_mut-caches.result.now c.turn-ending.new.caches c.args.op c.args.reply c.turn-ending.result c.usage-client.result c.is_some.result t.all_running c.usage-client.ensures.same c.requires.takes v c.is_some.ensures c.delist.ensures.left;
      from_one = from_with t.operations.items c.turn-ending.new.operations.items c.args.op v.operation v.next.0 t.from_one v.found v.operations;
    }

pub returns-clause-turned : goal.returns-clause-turned
returns-clause-turned g c =
    let t = c.args.self.now in
    turns_among c.args.layout.now.page (g.C.ObjectCodec.encoded c.args.layout.now.codec) (g.C.ObjectCodec.decoded c.args.layout.now.codec) (g.E.EpochField.epoch_of c.args.epochs.now) (g.E.EpochField.with_epoch c.args.epochs.now) t.operations.items c.turn-ending.new.operations.items t.caches.items c.args.op c.args.reply c.turn-ending.result c.usage-client.result
    c.index_mut-caches.result.now c.turn-ending.new.caches c.usage-client.ensures.same c.usage-client.ensures.some (omega (arith, c.usage-client.ensures.within, t.wide, t.caches.ok.0)) c.index_mut-caches.ensures.value c.turn-ending.ensures
