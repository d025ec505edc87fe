use Rattle.std.proofs.Common.{◌∙◌, ◌+◌, Some, ap}
use Rattle.txn_machine.specs.Machine.{views_after}
use Rattle.txn_world.proofs.Owning.{owned_by_made}
use Rattle.txn_world.proofs.views.Views.make.Goals as goal

pub invariant_of-self : goal.invariant_of-self
invariant_of-self g c =
    let t = c.args.self.now in
    let number = c.len-number.result + 1 in
    record {
      each = c.own.ensures.len ∙ t.each;
      all_owned = owned_by_made t.owned.items c.own.new.owned.items t.used.items c.settle-answers.new.views.items c.args.of.client number c.args.ending c.stands-made.result t.all_owned (ap (λ n. n + 1) c.len-number.ensures)
          (c.settle-answers.ensures.used ∙ ap (λ v. views_after t.used.items c.args.of.client v c.args.of.claims (Some c.args.ending)) c.requires.uses) c.stands-made.ensures c.own.ensures.entered;
    }
