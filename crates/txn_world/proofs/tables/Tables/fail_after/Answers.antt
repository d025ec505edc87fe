use Rattle.std.proofs.Common.{refl, sym, ap, ◌∙◌}
use Rattle.txn_store.specs.Memory.{searched_state}
use Rattle.txn_machine.specs.plain.Machine.{effected}
use Rattle.txn_client_journals.specs.tables.Operations.{asked_by}
use Rattle.txn_world.specs.Shown.{shown}
use Rattle.txn_world.proofs.Stepping.{asks_some, same_state, failed_after}
use Rattle.txn_world.proofs.tables.Tables.fail_after.Goals as goal

pub tell_failure-requires-clause-asks : goal.tell_failure-requires-clause-asks
tell_failure-requires-clause-asks g c = asks_some _ c.requires.asks

pub returns-clause-ok : goal.returns-clause-ok
returns-clause-ok g c =
    let old = shown c.args.self.now in
    let s = c.in_ok-reply.ensures.served in
    failed_after old _ _ c.args.op s.request c.in_ok-reply.reply c.tell_failure.result (sym (ap (λ os. asked_by os c.args.op) c.deref.ensures.value) ∙ s.asks) s.serves refl (c.in_ok-reply.ensures.answered refl)
    (same_state _ (effected old c.args.op s.request c.in_ok-reply.reply (searched_state c.reach_asked.new.store)) refl (ap (λ l. l.page) c.in_ok-reply.ensures.layout) refl refl refl refl refl c.in_ok-reserve.ensures.items s.added) c.tell_failure.ensures.failed
