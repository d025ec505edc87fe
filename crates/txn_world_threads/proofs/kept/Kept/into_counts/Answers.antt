use Rattle.std.proofs.Common.{◌∙◌, ap, drop, length}
use Rattle.std.proofs.lemmas.List.{take_at}
use Rattle.txn_world_threads.specs.Kept.{KeptState}
use Rattle.txn_world_threads.proofs.Counting.{counts_of_same}
use Rattle.txn_world_threads.proofs.kept.Kept.into_counts.Goals as goal

pub returns : goal.returns
returns g c =
    let counts = c.count_rows.new.counts in
    let workers : KeptState g.row.T.Denot g.row.C.Denot g.row.E.Denot → _ = λ kept. kept.workers in
    let journal : KeptState g.row.T.Denot g.row.C.Denot g.row.E.Denot → _ = λ kept. kept.journal in
    counts_of_same (length c.deref_mut.result.now) c.args.self.workers c.deref.result.now c.args.self.journal counts _
    (ap length c.deref_mut.ensures.value ∙ (c.self.invariant.1.all ∙ ap workers c.self.view_is))
    (c.deref.ensures.value ∙ ap journal c.self.view_is)
    (take_at counts (drop (length counts) c.self.inside.counts.items) c.self.inside.counts.len (c.count_rows.auto.counts ∙ c.deref_mut.ensures.len))
    c.count_rows.ensures
