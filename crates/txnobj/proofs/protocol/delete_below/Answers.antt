use Rattle.std.proofs.Common.{arith, ◌+◌, ◌∷◌, [], take, drop, get_or}
use Rattle.std.proofs.lemmas.Result.{err_from_is_err_and}
use Rattle.std.proofs.lemmas.List.{length-append}
use Rattle.txnobj.specs.Collecting.{below}
use Rattle.txnobj.proofs.Collecting.{below_taken, below_passed, below_split, below_few, deletes_more}
use Rattle.txnobj.proofs.protocol.delete_below.Goals.{then-id-end+in_ok-delete, else-id-end}
use Rattle.txnobj.proofs.protocol.delete_below.Goals as goal

pub returns-in_err-delete : goal.returns-in_err-delete
returns-in_err-delete g c =
    let p = err_from_is_err_and c.from_residual.result c.from_residual.ensures.1 in
    rw (p.1, p.2) (below c.args.end (take c.loop-i.i c.args.ids.now), get_or c.args.ids.now c.loop-i.i 0, below c.args.end (drop (c.loop-i.i + 1) c.args.ids.now), c.loop-i.protocol, below_split c.args.end c.loop-i.i c.args.ids.now c.loop-i-test.true c.if-id-end.true, c.loop-i.invariant.0, rw c.new.ensures at c.in_err-delete.ensures)

pub overflow_add-removed : goal.overflow_add-removed
overflow_add-removed g c =
    let few = below_few c.args.end c.loop-i.i c.args.ids.now c.loop-i.auto.i-end in
    let is = c.loop-i.invariant.1 in
    omega arith

pub loop-i-preserved : goal.loop-i-preserved
loop-i-preserved g c =
    elim c.if-id-end.branch [
      | then-id-end+in_ok-delete w ↦
          let taken = below_taken c.args.end c.loop-i.i c.args.ids.now c.loop-i-test.true w.if-id-end.true in
          let is = c.loop-i.invariant.1 in
          let one = length-append (below c.args.end (take c.loop-i.i c.args.ids.now)) (get_or c.args.ids.now c.loop-i.i 0 ∷ []) in
          rw (w.protocol-is, w.removed-is, taken) (deletes_more g.P.TransactionalStorageProtocol.made g.P.TransactionalStorageProtocol.stopped g.P.TransactionalStorageProtocol.tells (below c.args.end (take c.loop-i.i c.args.ids.now)) (get_or c.args.ids.now c.loop-i.i 0) c.args.protocol.now c.loop-i.protocol w.delete.new.self c.loop-i.invariant.0 (rw w.new.ensures at w.in_ok-delete.ensures), omega arith)
      | else-id-end w ↦
          let passed = below_passed c.args.end c.loop-i.i c.args.ids.now c.loop-i-test.true w.if-id-end.false in
          rw (w.protocol-is, w.removed-is, passed) c.loop-i.invariant
    ]
