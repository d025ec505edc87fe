use Rattle.std.proofs.Common.{◌∙◌, ◌≡◌, ◌+◌, ◌++◌, ◌∷◌, [], ap, refl, length, List, arith}
use Rattle.txn_history.specs.declared.trace.RowOf.TheVariants.{Begun}
use Rattle.txn_history.specs.Added.{answer_rows}
use Rattle.txn_history.specs.Trace.{Row}
use Rattle.txn_machine.specs.Doing.{started, refusal_in}
use Rattle.txn_machine.specs.plain.Machine.{next_op}
use Rattle.txn_machine.specs.Machine.{seen_view, used_by, answered}
use Rattle.txn_world.specs.Shown.{shown}
use Rattle.txn_world.proofs.Stepping.{begun}
use Rattle.txn_world.proofs.tables.Tables.begin.Goals as goal

pub returns-clause-ok : goal.returns-clause-ok
returns-clause-ok g c =
    let t = c.args.self.now in
    let encode = g.C.ObjectCodec.encoded t.trace.layout.codec in
    let decode = g.C.ObjectCodec.decoded t.trace.layout.codec in
    let get_epoch = g.E.EpochField.epoch_of t.trace.field in
    let set_epoch = g.E.EpochField.with_epoch t.trace.field in
    let count = length t.views.used.items in
    let op = c.len.result + 1 in
    let ending = refusal_in c.in_ok-doing.refusal in
    let at : op ≡ next_op (shown t) = ap (λ n. n + 1) (omega (arith, c.len.ensures, t.clients.operations.ok.0)) in
    let back = rw (c.in_ok-reserve.ensures.layout) at c.in_ok-doing.ensures.reads_back in
    let starts = rw (c.in_ok-reserve.ensures.layout, c.in_ok-reserve.ensures.field) at c.in_ok-doing.ensures.started in
    let made = rw (c.in_ok-reserve.ensures.layout, c.in_ok-reserve.ensures.field) at c.in_ok-doing.ensures.made in
    let layout = c.tell_begin.ensures.layout ∙ (c.begin.ensures.layout ∙ c.in_ok-reserve.ensures.layout) in
    begun encode decode get_epoch set_epoch (shown t) _ c.args.client op c.view_used.result c.is_claim.result c.args.call (c.in_ok-doing.doing, ending) c.take.new.self.used.items c.tell_begin.result at c.view_used.ensures c.is_claim.ensures
    back c.in_ok-doing.ensures.word
    (starts ∙ ap (started t.trace.layout.page encode get_epoch set_epoch c.args.call) (c.find.ensures ∙ ap (λ v. seen_view (used_by t.views.used.items v)) c.view_used.ensures))
    made (c.tell_begin.ensures.told count) c.in_ok-add.ensures.count (ap (λ l. l.page) layout) refl c.in_ok-add.ensures.caches c.in_ok-add.ensures.ok c.take.ensures.used c.tell_begin.ensures.views refl refl
    (c.tell_begin.ensures.rows count ∙ ap (λ (rs : List (Row g.row.T.Denot)). rs ++ answer_rows op (answered count c.view_used.result ending)) (c.begin.ensures.rows ∙ ap (λ (rs : List (Row g.row.T.Denot)). rs ++ Begun op c.args.call ∷ []) c.in_ok-reserve.ensures.rows))
