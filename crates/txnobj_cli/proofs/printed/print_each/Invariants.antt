use Rattle.std.proofs.Common.{take}
use Rattle.txnobj_cli.specs.Answers.{PrintsEach}
use Rattle.txnobj_cli.proofs.printed.print_each.Given as goal

-- so far the versions before this one were printed
abbrev pub invariant-loop-id : goal.invariant-loop-id
invariant-loop-id g l = PrintsEach g.P.TransactionalStorageProtocol.made g.P.TransactionalStorageProtocol.stopped g.P.TransactionalStorageProtocol.tells (take l.id-index l.fn.ids) l.fn.protocol l.protocol (g.W.Write.contents l.fn.out) (g.W.Write.contents l.out)
