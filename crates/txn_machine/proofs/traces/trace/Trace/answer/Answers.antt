use Rattle.std.proofs.Common.{sym, ◌∙◌, ap, ◌||◌, List, nat_eq, nat_lt}
use Rattle.txn_history.specs.History.{Version, has_id}
use Rattle.txn_history.specs.Calls.{tells_id}
use Rattle.txn_history.specs.declared.trace.RowOf.TheVariants.{Answered}
use Rattle.txn_history.proofs.Rows.{versions_of-more}
use Rattle.txn_machine.specs.traces.Beside.{epochs_of}
use Rattle.txn_machine.proofs.traces.Indexes.{answered_told, answered_below, answered_reached, answered_erased}
use Rattle.txn_machine.proofs.traces.trace.Trace.answer.Goals as goal

pub invariant_of-self : goal.invariant_of-self
invariant_of-self g c =
    let old = c.args.self.now in
    let rows = old.rows.items in
    let op = c.args.op in
    let answer = c.args.answer in
    rw c.push_within.ensures.items
    (record {
      names = old.names;
      boundary_file = old.boundary_file;
      all_told = λ n. c.tell.ensures.told n ∙ (ap (λ b. b || tells_id (nat_eq n) answer) (old.all_told n) ∙ sym (answered_told rows op answer n));
      all_below = λ n. c.tell.ensures.greatest n ∙ (ap (λ b. b || tells_id (nat_lt n) answer) (old.all_below n) ∙ sym (answered_below rows op answer n));
      is_reached = old.is_reached ∙ sym (answered_reached rows op answer);
      all_erased = λ n. old.all_erased n ∙ sym (answered_erased rows op answer n);
      all_created = λ n. old.all_created n ∙ sym (ap (λ (vs : List Version). has_id vs n) (versions_of-more rows (Answered op answer)));
      all_epochs = old.all_epochs ∙ sym (ap (epochs_of (g.C.ObjectCodec.decoded old.layout.codec) (g.E.EpochField.epoch_of old.field)) (versions_of-more rows (Answered op answer)));
    })
