use Rattle.std.proofs.Common.{ap, ◌∙◌, ◌++◌, List, ℕ}
use Rattle.txn_store.specs.declared.request.Request.{Request}
use Rattle.txn_history.specs.GoesOn.{as_loose}
use Rattle.txn_machine.specs.Machine.{State}
use Rattle.txn_client_journals.specs.tables.Operations.{loose_of, asked_by}
use Rattle.txn_world.specs.Shown.{shown}
use Rattle.txn_world.proofs.Stepping.{failed_loose}
use Rattle.txn_world.proofs.tables.Tables.fail_loose.Goals as goal

pub returns-clause-ok : goal.returns-clause-ok
returns-clause-ok g c =
    failed_loose (shown c.args.self.now) _ _ c.args.op c.in_ok-copy.copy c.tell_failure.result c.requires.asks (c.in_ok-copy.ensures ∙ ap loose_of (c.asked.ensures ∙ ap (λ os. asked_by os c.args.op) c.deref.ensures.value))
    (ap (λ (ls : List (ℕ × Request)). record (shown c.make_room.new.self) { loose = ls }) c.push_loose.ensures ∙ ap (λ (s : State g.row.T.Denot). record s { loose = s.loose ++ as_loose c.args.op c.in_ok-copy.copy }) c.in_ok-make_room.ensures.same) c.tell_failure.ensures.failed
