use Rattle.std.proofs.Common.{arith, refl, length, ◌^◌, ◌-◌}
use Rattle.std.proofs.lemmas.List.{take_all}
use Rattle.txn_world_threads.proofs.Counting.{counts_none, counts_further, counts_small, counts_of_same}
use Rattle.txn_world_threads.proofs.kept.count_rows.Goals as goal

pub loop-row-init : goal.loop-row-init
loop-row-init g c = counts_none (length c.args.counts.now) c.args.journal.now c.args.counts.now c.requires

pub count_row-requires : goal.count_row-requires
count_row-requires g c = counts_small (length c.args.counts.now) c.loop-row.row-index (2 ^ 64 - 1) c.args.journal.now c.loop-row.counts c.loop-row-test.true (omega arith) c.loop-row.invariant

pub loop-row-preserved : goal.loop-row-preserved
loop-row-preserved g c = counts_further (length c.args.counts.now) c.loop-row.row-index c.args.journal.now c.row-item.result c.loop-row.counts c.count_row.new.counts c.loop-row-test.true c.row-item.is c.loop-row.invariant c.count_row.ensures

pub returns : goal.returns
returns g c = counts_of_same _ _ _ _ _ _ refl (take_all c.loop-row.row-index c.args.journal.now (omega arith)) refl c.loop-row.invariant
