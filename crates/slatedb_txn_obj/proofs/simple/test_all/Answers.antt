-- The one that fails is the first that does.
use Rattle.std.proofs.Common.{rules}
use Rattle.std.proofs.lemmas.Result.{err_from_is_err_and}
use Rattle.slatedb_txn_obj.proofs.Views.{failed_at}
use Rattle.slatedb_txn_obj.proofs.simple.test_all.Goals as goal

pub returns-in_err-test-clause-tested : goal.returns-in_err-test-clause-tested
returns-in_err-test-clause-tested g c =
    let p = err_from_is_err_and c.from_residual.result c.from_residual.ensures.1 in
    rw p.1 (rw p.2 (failed_at (λ i. g.I.Invariant.holds i c.args.dirty.now c.args.current.now) (λ i. g.I.Invariant.fails i c.args.dirty.now c.args.current.now) c.args.invariants.now c.loop-invariant.invariant-index c.invariant-item.result c.in_err-test.field-0.0 (search rules) c.invariant-item.is c.loop-invariant.invariant c.in_err-test.ensures.failed c.in_err-test.ensures.refused))
