-- It comes before the first that stands behind it.
use Rattle.std.proofs.Common.{◌∙◌, sym, ap, arith}
use Rattle.slatedb_txn_obj_uses.specs.Listed.{keyed}
use Rattle.slatedb_txn_obj_uses.proofs.TellLemmas.{inserted_last, inserted_here}
use Rattle.slatedb_txn_obj_uses.proofs.listed.tell.Goals as goal
use Rattle.slatedb_txn_obj_uses.proofs.listed.tell.Goals.{then-loop-index-test+else-lt, else-loop-index-test}

pub returns : goal.returns
returns c =
    let i = c.loop-index.invariant in
    let long = c.args.told.now.ok.0 in
    let all = c.len.ensures in
    ap keyed c.in_ok-insert.ensures.items ∙ elim c.loop-index-test.branch [
      | then-loop-index-test+else-lt w ↦ let some = w.loop-index-test.true in inserted_here c.args.told.now.items c.loop-index.index c.args.meta w.index.result.now (omega (arith, long, all, some)) w.index.ensures (sym w.lt.ensures ∙ w.if-lt.false) i.passed c.requires
      | else-loop-index-test w ↦ let none = w.loop-index-test.false in inserted_last c.args.told.now.items c.loop-index.index c.args.meta (omega (arith, long, all, none)) i.passed
    ]
