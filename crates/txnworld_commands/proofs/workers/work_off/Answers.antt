use Rattle.std.proofs.Common.{rules}
use Rattle.txnworld_commands.proofs.Sharing.{few_numbered, are_after, stopped_is_one}
use Rattle.txnworld_commands.proofs.workers.work_off.Goals as goal

pub crew-requires : goal.crew-requires
crew-requires g c = few_numbered g.X.Numbered.numbered c.args.callers.items c.requires.numbers c.requires.few

pub returns-in-Some-clause-halt : goal.returns-in-Some-clause-halt
returns-in-Some-clause-halt g c =
    -- what is known of a caller in each thread is known in this one
    let met = g.met.X.Caller g.world.𝓛 g.world.𝓜 g.world.𝓡 ((λ s x. x), (λ x. x), (λ x. x), λ x. x) in
    stopped_is_one g.X.Numbered.numbered g.X.Caller.goes met.laws.number c.args.callers.items c.in_ok-crew.field-0.items c.in_ok-worked.worked.items c.in-Some.worker c.requires.numbers c.in_ok-crew.ensures
    (search rules) c.in_ok-worked.ensures.each (search rules)

pub returns-clause-left : goal.returns-clause-left
returns-clause-left g c =
    rw c.in_ok-callers_of.ensures
    (are_after g.X.Numbered.numbered g.X.Caller.goes c.args.callers.items c.in_ok-crew.field-0.items c.in_ok-worked.worked.items c.in_ok-crew.ensures (search rules) c.in_ok-worked.ensures.each)
