use Rattle.std.proofs.Common.{◌∙◌, Some, ap}
use Rattle.txn_machine.specs.Machine.{with_used, let_go}
use Rattle.txn_machine.specs.views.Layer.{changed}
use Rattle.txn_client_journals.proofs.tables.Slots.{put_in}
use Rattle.txn_client_journals.proofs.tables.views.let_go.Goals as goal

pub returns : goal.returns
returns g c =
    let views = g.V.ViewTable.views c.args.views.now in
    let is = put_in views (g.V.ViewTable.views c.take_out.new.self) (g.V.ViewTable.views c.put.new.self) c.in-Some.number c.left-used.result c.take_out.ensures.rest c.put.ensures in
    record { used = rw c.in-Some.is (is ∙ ap (with_used views (Some c.in-Some.number)) (c.left-used.ensures ∙ ap (λ u. changed u (let_go c.args.claims)) c.take_out.ensures.used)) }
