use Rattle.std.proofs.Common.{◌∙◌, arith}
use Rattle.txn_world.proofs.Acting.{asks_there, end_running, ends_among, from_with}
use Rattle.txn_machine.specs.Doing.{ended}
use Rattle.txn_world.proofs.clients.Clients.end.Goals as goal

pub end-requires : goal.end-requires
end-requires g c = asks_there c.args.self.now.operations.items c.args.op c.requires

pub delist-requires-clause-within : goal.delist-requires-clause-within
delist-requires-clause-within g c = let t = c.args.self.now in omega (arith, c.usage-client.ensures.within, t.each, t.running.ok.0)

pub invariant_of-self : goal.invariant_of-self
invariant_of-self g c =
    let t = c.args.self.now in
    let v = c.end.ensures in
    record {
      wide = t.wide;
      each = c.delist.ensures.len ∙ t.each;
      all_running = end_running t.running.items c.delist.new.running.items t.operations.items c.end.new.operations.items c.args.op c.usage-client.result t.all_running c.usage-client.ensures.same c.requires v c.delist.ensures.left;
      from_one = from_with t.operations.items c.end.new.operations.items c.args.op v.operation ended t.from_one v.found v.operations;
    }

pub returns-clause-ended : goal.returns-clause-ended
returns-clause-ended g c =
    let t = c.args.self.now in
    ends_among t.operations.items c.end.new.operations.items t.caches.items c.args.op c.usage-client.result c.usage-client.ensures.same c.usage-client.ensures.some (omega (arith, c.usage-client.ensures.within, t.wide, t.caches.ok.0)) c.end.ensures
