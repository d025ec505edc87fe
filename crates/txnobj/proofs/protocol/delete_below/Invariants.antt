use Rattle.std.proofs.Common.{◌≡◌, length, take}
use Rattle.txnobj.specs.Collecting.{below, DeletesAll}
use Rattle.txnobj.proofs.protocol.delete_below.Given as goal

-- of the ids so far those below the end were deleted
abbrev pub invariant-loop-i : goal.invariant-loop-i
invariant-loop-i g l = DeletesAll g.P.TransactionalStorageProtocol.made g.P.TransactionalStorageProtocol.stopped g.P.TransactionalStorageProtocol.tells (below l.end (take l.i l.ids)) l.fn.protocol l.protocol × (l.removed ≡ length (below l.end (take l.i l.ids)))
