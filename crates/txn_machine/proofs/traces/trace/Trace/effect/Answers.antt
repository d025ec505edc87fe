use Rattle.std.proofs.Common.{sym, ◌∙◌, ap, ◌||◌, nat_eq}
use Rattle.std.specs.HashSet.{contains}
use Rattle.txn_history.specs.History.{is_id, was_erased, has_id, versions_of}
use Rattle.txn_machine.specs.traces.Beside.{boundary_after}
use Rattle.txn_machine.proofs.traces.Indexes.{effect_told, effect_below, effect_reached, effect_erased, effect_created, effect_epochs}
use Rattle.txn_machine.proofs.traces.trace.Trace.effect.Goals as goal

pub invariant_of-self : goal.invariant_of-self
invariant_of-self g c =
    let old = c.args.self.now in
    let rows = old.rows.items in
    let op = c.args.op in
    let request = c.in-Some.request in
    let decode = g.C.ObjectCodec.decoded old.layout.codec in
    let get_epoch = g.E.EpochField.epoch_of old.field in
    rw c.push_within.ensures.items
    (record {
      names = old.names;
      boundary_file = old.boundary_file;
      all_told = λ n. old.all_told n ∙ sym (effect_told rows op request n);
      all_below = λ n. old.all_below n ∙ sym (effect_below rows op request n);
      is_reached = c.boundary_after-self.ensures ∙ (ap (λ b. boundary_after b request) old.is_reached ∙ sym (effect_reached rows op request));
      all_erased = λ n. c.insert_within.ensures n ∙ (ap (λ b. b || is_id n c.removed_id.result) (old.all_erased n) ∙ (ap (λ found. was_erased rows n || is_id n found) c.removed_id.ensures ∙ sym (effect_erased rows op request n)));
      all_created = λ n. c.enter.ensures.created n ∙ (ap (λ b. b || is_id n c.created_id-id.result) (old.all_created n) ∙ (ap (λ found. has_id (versions_of rows) n || is_id n found) c.created_id-id.ensures ∙ sym (effect_created rows op request n)));
      all_epochs = effect_epochs decode get_epoch rows op request (λ n. contains nat_eq old.created n) old.epochs.items c.enter.new.epochs.items c.created_id-id.result c.args.epoch old.all_created old.all_epochs c.created_id-id.ensures
          (c.requires.epoch request c.in-Some.is) c.enter.ensures.epochs;
    })
