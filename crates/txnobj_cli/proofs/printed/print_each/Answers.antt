use Rattle.std.proofs.Common.{take, take_all, get_or, refl}
use Rattle.std.proofs.lemmas.List.{take_more}
use Rattle.txnobj_cli.proofs.Printing.{each_more}
use Rattle.txnobj_cli.proofs.printed.print_each.Goals as goal

pub loop-id-init : goal.loop-id-init
loop-id-init g c = (refl, refl)

pub loop-id-preserved : goal.loop-id-preserved
loop-id-preserved g c =
    rw (take_more c.args.ids.now c.loop-id.id-index 0 c.loop-id-test.true) (each_more g.P.TransactionalStorageProtocol.made g.P.TransactionalStorageProtocol.stopped g.P.TransactionalStorageProtocol.tells (take c.loop-id.id-index c.args.ids.now) (get_or c.args.ids.now c.loop-id.id-index 0) c.args.protocol.now c.loop-id.protocol c.print_stored.new.protocol (g.W.Write.contents c.args.out.now) (g.W.Write.contents c.loop-id.out) (g.W.Write.contents c.print_stored.new.out) c.loop-id.invariant c.in_ok-print_stored.ensures)

pub returns : goal.returns
returns g c = rw (take_all c.loop-id.id-index c.args.ids.now c.loop-id-test.false) at c.loop-id.invariant
