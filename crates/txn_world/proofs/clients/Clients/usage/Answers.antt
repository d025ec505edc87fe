use Rattle.std.proofs.Common.{◌∙◌, sym, ap, arith}
use Rattle.std.specs.Option.{option_map}
use Rattle.txn_history.specs.Lists.{numbered}
use Rattle.txn_client_journals.specs.tables.Operations.{usage_of}
use Rattle.txn_world.proofs.Running.{client_there}
use Rattle.txn_world.proofs.Acting.{asks_there, asks_runs, usage_found}
use Rattle.txn_world.proofs.clients.Clients.usage.Goals as goal

pub usage_at-requires : goal.usage_at-requires
usage_at-requires g c = rw c.deref.ensures.value (asks_there c.args.self.now.operations.items c.args.op c.requires)

pub returns-clause-view : goal.returns-clause-view
returns-clause-view g c =
    let t = c.args.self.now in
    let found = usage_found t.operations.items c.args.op c.usage_at.result (ap (λ os. option_map usage_of (numbered os c.args.op)) (sym c.deref.ensures.value) ∙ c.usage_at.ensures) in
    rw found.2 (t.from_one c.args.op found.0 found.1)

pub returns-clause-some : goal.returns-clause-some
returns-clause-some g c =
    let t = c.args.self.now in
    let found = usage_found t.operations.items c.args.op c.usage_at.result (ap (λ os. option_map usage_of (numbered os c.args.op)) (sym c.deref.ensures.value) ∙ c.usage_at.ensures) in
    rw found.2 (client_there t.running.items t.operations.items c.args.op found.0 t.all_running found.1 (asks_runs t.operations.items c.args.op found.0 c.requires found.1)).0

pub returns-clause-within : goal.returns-clause-within
returns-clause-within g c =
    let t = c.args.self.now in
    let found = usage_found t.operations.items c.args.op c.usage_at.result (ap (λ os. option_map usage_of (numbered os c.args.op)) (sym c.deref.ensures.value) ∙ c.usage_at.ensures) in
    let there = (client_there t.running.items t.operations.items c.args.op found.0 t.all_running found.1 (asks_runs t.operations.items c.args.op found.0 c.requires found.1)).1 in
    let client = ap (λ u. u.client) found.2 in
    omega (arith, client, there, t.running.ok.0, t.each)
