use Rattle.std.proofs.Common.{◌≡◌, ◌+◌, cond, Bool, sym, subst, arith}
use Rattle.txn_audit.proofs.recordings.Counting.{lost_more}
use Rattle.txn_audit.proofs.recordings.fates.Reach.lost_in.Goals as goal
use Rattle.txn_audit.proofs.recordings.fates.Reach.lost_in.Goals.{then-is_below, else-is_below}

pub loop-place-preserved : goal.loop-place-preserved
loop-place-preserved g c =
    let counts : (b : Bool) → Type 0 = λ b. c.if-is_below.lost ≡ c.loop-place.lost + cond b 1 0 in
    lost_more c.args.self.version c.args.self.boundary c.args.rows.now c.loop-place.place c.loop-place.lost c.if-is_below.lost _ c.is_below.result c.lost_at.ensures c.is_below.ensures c.loop-place.invariant.0 c.loop-place.invariant.1 (elim c.if-is_below.branch [
      | then-is_below w ↦ subst counts (sym w.if-is_below.true) (let is = w.lost-is in omega (arith, is))
      | else-is_below w ↦ subst counts (sym w.if-is_below.false) (let is = w.lost-is in omega (arith, is))
    ])
