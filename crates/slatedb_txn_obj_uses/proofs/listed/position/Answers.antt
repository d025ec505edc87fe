-- The first file under the path.
use Rattle.std.proofs.Common.{◌≡◌, ℕ, suc, ◌+◌, take, None, subst, arith}
use Rattle.std.specs.FinMap.{find}
use Rattle.txn_store.specs.Paths.{path_cmp}
use Rattle.slatedb_txn_obj_uses.proofs.ListLemmas.{compared, first_at, one_passed}
use Rattle.slatedb_txn_obj_uses.proofs.listed.position.Goals as goal

pub returns-then-eq : goal.returns-then-eq
returns-then-eq c =
    let e = c.index-files-index.result in
    first_at c.args.path.now c.args.files.now c.loop-index.index e c.loop-index-test.true c.index-files-index.is (compared c.args.path.now e.0 c.eq.result _ c.eq.ensures c.if-eq.true) c.loop-index.invariant

pub loop-index-preserved : goal.loop-index-preserved
loop-index-preserved c =
    let e = c.index-files-index.result in
    let next : suc c.loop-index.index ≡ c.loop-index.index + 1 = omega arith in
    subst (λ (k : ℕ). find path_cmp c.args.path.now (take k c.args.files.now) ≡ None) next
    (one_passed c.args.path.now c.args.files.now c.loop-index.index e c.loop-index-test.true c.index-files-index.is (compared c.args.path.now e.0 c.eq.result _ c.eq.ensures c.if-eq.false) c.loop-index.invariant)
