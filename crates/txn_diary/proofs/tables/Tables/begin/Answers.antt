use Rattle.std.proofs.Common.{◌∙◌, sym, ap, ◌++◌, ◌∷◌, [], length, ◌+◌}
use Rattle.std.specs.Option.{option_copied}
use Rattle.txn_machine.specs.Machine.{seen_view, used_by}
use Rattle.txn_diary.specs.Shown.{operations_of, writes_of, views_of, shown}
use Rattle.txn_diary.proofs.Starting.{begins_so, made_so, refused_so}
use Rattle.txn_diary.proofs.tables.Tables.begin.Goals as goal

pub returns-then-is_some-clause-ok : goal.returns-then-is_some-clause-ok
returns-then-is_some-clause-ok g c =
    let t = c.args.self.now in
    let used = c.view_used.result in
    begins_so t.layout.page (g.C.ObjectCodec.encoded t.layout.codec) (g.C.ObjectCodec.decoded t.layout.codec) (g.E.EpochField.epoch_of t.epochs) (g.E.EpochField.with_epoch t.epochs) t.client (shown t) c.args.call.now c.in_ok-doing.doing c.in_ok-doing.refusal (option_copied c.find-view.result) (operations_of c.add.new.self) (views_of c.let_go.new.views) (writes_of c.add.new.self)
    c.requires.permits c.in_ok-doing.ensures.reads_back c.in_ok-doing.ensures.word c.in_ok-doing.ensures.started
    (c.find-view.ensures ∙ ap (λ v. seen_view (used_by (views_of t.views) v)) c.view_used.ensures)
    c.in_ok-doing.ensures.made
    (made_so (operations_of t.calls) (operations_of c.add.new.self) t.client used c.is_claim.result c.in_ok-doing.doing c.args.call.now c.view_used.ensures c.is_claim.ensures (rw c.in_ok-work.ensures at c.add.ensures.operations))
    (refused_so (views_of t.views) (views_of c.take.new.views) (views_of c.let_go.new.views) (length (operations_of t.calls) + 1) (c.len-op.result + 1) t.client used c.is_claim.result c.args.call.now c.in_ok-doing.refusal c.view_used.ensures c.is_claim.ensures (ap (λ n. n + 1) c.len-op.ensures.is) c.take.ensures.used c.let_go.ensures.used (sym c.is_some.ensures ∙ c.if-is_some.true))
    (c.add.ensures.writes ∙ ap (λ w. writes_of t.calls ++ w ∷ []) c.epoch_written.ensures)
