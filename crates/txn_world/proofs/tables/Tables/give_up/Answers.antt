use Rattle.std.proofs.Common.{refl, ap, ◌∙◌, ◌++◌}
use Rattle.txn_history.specs.GoesOn.{as_loose}
use Rattle.txn_client_journals.specs.tables.Operations.{loose_of, asked_by}
use Rattle.txn_world.specs.Shown.{shown}
use Rattle.txn_world.proofs.Stepping.{gave_up}
use Rattle.txn_world.proofs.tables.Tables.give_up.Goals as goal

pub returns-clause-ok : goal.returns-clause-ok
returns-clause-ok g c =
    gave_up (shown c.args.self.now) _ c.args.op c.usage-of.result c.in_ok-copy.copy c.requires.asks c.usage-of.ensures.same c.end.ensures.ended (c.in_ok-copy.ensures ∙ ap loose_of (c.asked.ensures ∙ ap (λ os. asked_by os c.args.op) c.deref.ensures.value)) c.end.ensures.count refl refl c.end.ensures.caches c.let_go.ensures.used
    (c.push_loose.ensures ∙ ap (λ ls. ls ++ as_loose c.args.op c.in_ok-copy.copy) c.in_ok-reserve.ensures.items) refl refl
