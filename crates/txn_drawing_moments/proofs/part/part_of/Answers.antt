use Rattle.std.proofs.Common.{sym, ◌∙◌, inr, arith}
use Rattle.txn_drawing_moments.proofs.Counting.{too_few}
use Rattle.txn_drawing_moments.proofs.part.part_of.Goals as goal

pub returns-then-calls_in-eq0-clause-none : goal.returns-then-calls_in-eq0-clause-none
returns-then-calls_in-eq0-clause-none c =
    inr (inr (too_few c.args.moments.now c.in_ok-before.before c.args.from (omega (arith, c.if-from-eq0.false)) c.in_ok-before.ensures.some.1 (sym c.calls_in.ensures ∙ c.if-calls_in-eq0.true)))
