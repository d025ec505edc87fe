use Rattle.std.proofs.Common.{◌∙◌, Some, ap, arith}
use Rattle.txn_machine.specs.Machine.{change_of, views_after}
use Rattle.txn_world.proofs.Owning.{owned_by_change, owners_there}
use Rattle.txn_world.proofs.views.Views.change.Goals as goal

pub disown-requires-clause-some : goal.disown-requires-clause-some
disown-requires-clause-some g c = λ client is.
    let t = c.args.self.now in
    (owners_there t.owned.items t.used.items c.args.number c.owner-owner.result t.all_owned c.owner-owner.ensures client is).0

pub disown-requires-clause-within : goal.disown-requires-clause-within
disown-requires-clause-within g c = λ client is.
    let t = c.args.self.now in
    let there = (owners_there t.owned.items t.used.items c.args.number c.owner-owner.result t.all_owned c.owner-owner.ensures client is).1 in
    omega (arith, there, t.owned.ok.0)

pub invariant_of-self : goal.invariant_of-self
invariant_of-self g c =
    let t = c.args.self.now in
    let number = c.args.number in
    record {
      each = c.disown.ensures.len ∙ t.each;
      all_owned = owned_by_change t.owned.items c.disown.new.owned.items t.used.items c.settle-answers.new.views.items number c.owner-owner.result (change_of c.args.of.claims c.args.ending) c.stands-stands.result t.all_owned c.requires.view
          c.owner-owner.ensures (c.settle-answers.ensures.used ∙ ap (λ v. views_after t.used.items c.args.of.client v c.args.of.claims (Some c.args.ending)) c.requires.uses)
          c.stands-stands.ensures c.disown.ensures.left;
    }
