use Rattle.std.proofs.Common.{sym, ◌∙◌, ap, List}
use Rattle.txn_history.specs.History.{Version, has_id}
use Rattle.txn_history.specs.declared.trace.RowOf.TheVariants.{Begun}
use Rattle.txn_history.proofs.Rows.{versions_of-more}
use Rattle.txn_machine.specs.traces.Beside.{epochs_of}
use Rattle.txn_machine.proofs.traces.Indexes.{begun_told, begun_below, begun_reached, begun_erased}
use Rattle.txn_machine.proofs.traces.trace.Trace.begin.Goals as goal

pub invariant_of-self : goal.invariant_of-self
invariant_of-self g c =
    let old = c.args.self.now in
    let rows = old.rows.items in
    rw c.push_within.ensures.items
    (record {
      names = old.names;
      boundary_file = old.boundary_file;
      all_told = λ n. old.all_told n ∙ sym (begun_told rows c.args.op c.args.call n);
      all_below = λ n. old.all_below n ∙ sym (begun_below rows c.args.op c.args.call n);
      is_reached = old.is_reached ∙ sym (begun_reached rows c.args.op c.args.call);
      all_erased = λ n. old.all_erased n ∙ sym (begun_erased rows c.args.op c.args.call n);
      all_created = λ n. old.all_created n ∙ sym (ap (λ (vs : List Version). has_id vs n) (versions_of-more rows (Begun c.args.op c.args.call)));
      all_epochs = old.all_epochs ∙ sym (ap (epochs_of (g.C.ObjectCodec.decoded old.layout.codec) (g.E.EpochField.epoch_of old.field)) (versions_of-more rows (Begun c.args.op c.args.call)));
    })
