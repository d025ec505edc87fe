use Rattle.std.proofs.Common.{◌∙◌, Some, ap}
use Rattle.txn_machine.specs.Machine.{with_used, change_of}
use Rattle.txn_machine.specs.views.Layer.{changed}
use Rattle.txn_client_journals.proofs.tables.Slots.{put_in}
use Rattle.txn_client_journals.proofs.tables.views.change.Goals as goal

pub returns-clause-used : goal.returns-clause-used
returns-clause-used g c =
    let views = g.V.ViewTable.views c.args.views.now in
    let is = put_in views (g.V.ViewTable.views c.take_out-used.new.self) (g.V.ViewTable.views c.put.new.self) c.args.number c.comes_to-used.result.0 c.take_out-used.ensures.rest c.put.ensures in
    is ∙ ap (with_used views (Some c.args.number)) (c.comes_to-used.ensures.used ∙ ap (λ u. changed u (change_of c.args.claims c.args.ending)) c.take_out-used.ensures.used)
