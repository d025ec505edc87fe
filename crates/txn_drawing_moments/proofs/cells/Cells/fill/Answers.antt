use Rattle.std.proofs.Common.{inl, inr, arith}
use Rattle.std.proofs.lemmas.Bool.{cases_lt}
use Rattle.txn_drawing_moments.proofs.cells.Cells.fill.Goals as goal

pub returns-clause-behind : goal.returns-clause-behind
returns-clause-behind c = λ k le.
    elim (cases_lt k c.args.from) [
      | inl below ↦ c.loop-at.invariant.1 k below
      | inr from ↦ c.loop-at.invariant.3 k (omega (arith, c.loop-at.invariant.4, c.loop-at-test.false, c.min-at-end.ensures, from, le))
    ]
