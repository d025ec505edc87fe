use Rattle.std.proofs.Common.{◌∙◌, Some, ap}
use Rattle.std.specs.Option.{option_map}
use Rattle.txn_machine.specs.Machine.{with_used}
use Rattle.txn_machine.specs.views.Layer.{with_busy}
use Rattle.txn_client_journals.proofs.tables.Slots.{put_in}
use Rattle.txn_client_journals.proofs.tables.views.take.Goals as goal

pub returns : goal.returns
returns g c =
    let views = g.V.ViewTable.views c.args.views.now in
    let is = put_in views (g.V.ViewTable.views c.take_out.new.self) (g.V.ViewTable.views c.put.new.self) c.in-Some.number c.taken-used.result c.take_out.ensures.rest c.put.ensures in
    record { used = rw c.in-Some.is (is ∙ ap (with_used views (Some c.in-Some.number)) (c.taken-used.ensures ∙ ap (option_map (with_busy (Some c.args.op))) c.take_out.ensures.used)) }
