use Rattle.std.proofs.Common.{ℕ, List, ◌-◌, get_or, ◌∙◌, ap, arith}
use Rattle.txn_machine.proofs.traces.Indexes.{epoch_found}
use Rattle.txn_machine.proofs.traces.trace.Trace.epoch_at.Goals as goal

pub returns-in-Some : goal.returns-in-Some
returns-in-Some g c =
    let t = c.args.self.now in
    epoch_found (g.C.ObjectCodec.decoded t.layout.codec) (g.E.EpochField.epoch_of t.field) t.rows.items t.epochs.items c.args.number c.in-Some.epoch.now t.all_epochs c.if-number-eq0.false
    (c.in-Some.ensures.lookup.4 (omega arith) 0 ∙ ap (λ (es : List ℕ). get_or es (c.args.number - 1) 0) c.deref.ensures.value)

pub returns-in-None : goal.returns-in-None
returns-in-None g c =
    let t = c.args.self.now in
    epoch_found (g.C.ObjectCodec.decoded t.layout.codec) (g.E.EpochField.epoch_of t.field) t.rows.items t.epochs.items c.args.number 0 t.all_epochs c.if-number-eq0.false
    (c.in-None.ensures.lookup.4 (omega arith) 0 ∙ ap (λ (es : List ℕ). get_or es (c.args.number - 1) 0) c.deref.ensures.value)
