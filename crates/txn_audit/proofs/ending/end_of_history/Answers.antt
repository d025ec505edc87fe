use Rattle.std.proofs.Common.{◌∙◌, nat_eq, subst, arith}
use Rattle.std.specs.HashSet.{contains}
use Rattle.txn_audit.specs.HistoryEnds.{HistoriesEndAt}
use Rattle.txn_audit.proofs.HistoryEnding.{id_entered, id_counted, boundary_followed, ends_there}
use Rattle.txn_audit.proofs.ending.end_of_history.Goals as goal

pub loop-row-preserved : goal.loop-row-preserved
loop-row-preserved g c =
    let rows = c.log-rows.result.now in
    let k = c.loop-row.row-index in
    let row = c.row-item.result in
    let so_far = c.loop-row.invariant in
    record {
      has = id_entered rows k row c.loop-row-test.true c.row-item.is (contains nat_eq c.loop-row.created) (contains nat_eq c.enter.new.created) c.id_created.result c.id_created.ensures so_far.has c.in_ok-enter.ensures.has;
      len = id_counted rows k row c.loop-row-test.true c.row-item.is (contains nat_eq c.loop-row.created) _ _ c.id_created.result c.id_created.ensures so_far.has so_far.len c.in_ok-enter.ensures.counted;
      stands = boundary_followed rows k row c.loop-row-test.true c.row-item.is _ _ so_far.stands c.boundary_by-boundary.ensures;
    }

pub returns : goal.returns
returns g c =
    let rows = c.log-rows.result.now in
    let entries = c.len-entries.result in
    subst (λ log. HistoriesEndAt g.row.T.Denot log entries c.loop-row.boundary) c.log-rows.ensures.rows
    (ends_there rows c.loop-row.row-index entries c.loop-row.boundary (omega (arith, c.loop-row-test.false)) (c.len-entries.ensures.len ∙ c.loop-row.invariant.len) c.loop-row.invariant.stands)
