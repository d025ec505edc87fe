use Rattle.std.proofs.Common.{List, map, reverse, subst}
use Rattle.txn_client_journals.specs.declared.rows.LogRow.{LogRow}
use Rattle.txn_client_journals.specs.Logs.{IsLog}
use Rattle.txn_client_journals.specs.Verdict.{IsDue}
use Rattle.txn_diary.specs.Diaries.{as_diary}
use Rattle.txn_audit.proofs.diaries.audit_diaries.Goals as goal

pub returns : goal.returns
returns g c =
    let log = g.L.Logged.logged c.args.log.now in
    let diaries = map as_diary c.args.diaries.now in
    let store = c.log-rows.ensures.leads.0 in
    let leads : IsLog (reverse log) store = subst (λ (rows : List LogRow). IsLog (reverse rows) store) c.log-rows.ensures.rows c.log-rows.ensures.leads.1 in
    record {
      store = store;
      leads = leads;
      replay = c.are_diaries.ensures;
      due = c.audit.ensures;
      shared = λ is clients few. c.clients_share_only_the_store.ensures c.args.page clients log diaries store c.requires.paged few leads c.are_diaries.ensures (subst (λ verdict. IsDue log diaries verdict) is c.audit.ensures);
    }
