use Rattle.std.proofs.Common.{◌≡◌}
use Rattle.txnobj.specs.Rounds.{Rounds}
use Rattle.txnobj_cli.specs.Answers.{IsNotAbove}
use Rattle.txnobj_cli.proofs.watch.print_watched.Given as goal

-- so far there were looks that found none above the id, and nothing was printed
abbrev pub invariant-loop-look : goal.invariant-loop-look
invariant-loop-look g l = Rounds (IsNotAbove g.P.TransactionalStorageProtocol.made g.P.TransactionalStorageProtocol.stopped g.P.TransactionalStorageProtocol.tells l.after) l._look l.fn.protocol l.protocol × (g.W.Write.contents l.out ≡ g.W.Write.contents l.fn.out)
