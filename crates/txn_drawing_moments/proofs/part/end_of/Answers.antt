use Rattle.std.proofs.Common.{refl, sym, inl}
use Rattle.txn_drawing_moments.proofs.Counting.{whole_within}
use Rattle.txn_drawing_moments.proofs.part.end_of.Goals as goal

pub returns-in_default-clause-end : goal.returns-in_default-clause-end
returns-in_default-clause-end c = (
  whole_within c.args.moments.now c.in-Some.end c.args.calls _ c.in-Some.ensures.some.1 (sym c.calls_in.ensures) c.if-calls_in-gt0.false,
  inl refl,
)
