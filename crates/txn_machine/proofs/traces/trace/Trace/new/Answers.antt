use Rattle.std.proofs.Common.{sym, arith}
use Rattle.std.proofs.lemmas.Bool.{le-ltb}
use Rattle.txn_machine.proofs.traces.Indexes.{none_reached, none_kept}
use Rattle.txn_machine.proofs.traces.trace.Trace.new.Goals as goal

pub invariant_of-result : goal.invariant_of-result
invariant_of-result g c =
    rw c.new.ensures.items
    (record {
      names = c.requires.names;
      boundary_file = c.requires.boundary;
      all_told = λ n. none_kept c.new-2.result.keys n c.new-2.ensures.empty;
      all_below = λ n. le-ltb n 0 (omega arith);
      is_reached = sym (none_reached g.row.T.Denot);
      all_erased = λ n. none_kept c.new-3.result.keys n c.new-3.ensures.empty;
      all_created = λ n. none_kept c.new-4.result.keys n c.new-4.ensures.empty;
      all_epochs = c.new-5.ensures.items;
    })
