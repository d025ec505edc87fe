use Rattle.std.proofs.Common.{◌∙◌, arith}
use Rattle.txn_machine.specs.Machine.{let_go}
use Rattle.txn_world.proofs.Owning.{owned_by_change, owners_there}
use Rattle.txn_world.proofs.views.Views.let_go.Goals as goal

pub disown-requires-clause-some : goal.disown-requires-clause-some
disown-requires-clause-some g c = λ client is.
    let t = c.args.self.now in
    (owners_there t.owned.items t.used.items c.in-Some.number c.owner-owner.result t.all_owned c.owner-owner.ensures client is).0

pub disown-requires-clause-within : goal.disown-requires-clause-within
disown-requires-clause-within g c = λ client is.
    let t = c.args.self.now in
    let there = (owners_there t.owned.items t.used.items c.in-Some.number c.owner-owner.result t.all_owned c.owner-owner.ensures client is).1 in
    omega (arith, there, t.owned.ok.0)

pub invariant_of-self : goal.invariant_of-self
invariant_of-self g c =
    let t = c.args.self.now in
    let number = c.in-Some.number in
    record {
      each = c.disown.ensures.len ∙ t.each;
      all_owned = owned_by_change t.owned.items c.disown.new.owned.items t.used.items c.let_go.new.views.items number c.owner-owner.result (let_go c.args.claims) c.stands-stands.result t.all_owned (c.requires number c.in-Some.is)
          c.owner-owner.ensures c.let_go.ensures.used c.stands-stands.ensures c.disown.ensures.left;
    }
