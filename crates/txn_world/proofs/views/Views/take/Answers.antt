use Rattle.txn_world.proofs.Owning.{owned_taken}
use Rattle.txn_world.proofs.views.Views.take.Goals as goal

pub invariant_of-self : goal.invariant_of-self
invariant_of-self g c =
    let t = c.args.self.now in
    record { each = t.each; all_owned = owned_taken t.owned.items t.used.items c.take.new.views.items c.args.view c.args.op t.all_owned c.requires c.take.ensures.used }
