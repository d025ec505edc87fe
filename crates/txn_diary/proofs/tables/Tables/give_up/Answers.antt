use Rattle.std.proofs.Common.{◌∙◌, ap, sym, subst, List, Option, None, ℕ}
use Rattle.txn_client_journals.specs.tables.Operations.{loose_of}
use Rattle.txn_client_journals.specs.Journals.{GivesUp}
use Rattle.txn_diary.specs.Shown.{operations_of, writes_of, views_of, shown}
use Rattle.txn_diary.proofs.Acting.{used_from_one, gives_up_so}
use Rattle.txn_diary.proofs.tables.Tables.give_up.Goals as goal

pub let_go-requires : goal.let_go-requires
let_go-requires g c = used_from_one (operations_of c.args.self.now.calls) c.args.op c.usage_at-of.result c.requires.sound c.usage_at-of.ensures

pub returns-clause-ok : goal.returns-clause-ok
returns-clause-ok g c =
    let t = c.args.self.now in
    subst (λ (ws : List (Option ℕ)). GivesUp (shown t) c.args.op c.in_ok-left.left None (record { caches = t.caches; operations = operations_of c.end.new.self; views = views_of c.let_go.new.views; writes = ws; told = (shown t).told })) (sym c.end.ensures.writes)
    (gives_up_so (shown t) c.args.op c.usage_at-of.result c.in_ok-left.left (operations_of c.end.new.self) (views_of c.let_go.new.views) c.usage_at-of.ensures c.requires.runs (c.in_ok-left.ensures ∙ ap loose_of c.asks.ensures) c.end.ensures.ends c.let_go.ensures.used)
