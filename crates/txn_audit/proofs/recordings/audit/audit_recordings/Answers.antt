use Rattle.std.proofs.Common.{map, refl, arith}
use Rattle.txn_client_journals.specs.Verdict.{clients_in}
use Rattle.txn_diary.specs.Diaries.{as_diary}
use Rattle.txn_audit.proofs.recordings.audit.audit_recordings.Goals as goal

pub returns : goal.returns
returns g c =
    let ds = map as_diary c.in_ok-diaries.diaries.items in
    let replayed = c.in_ok-log.ensures in
    let found = rw (c.as_slice-3.ensures.value) at c.in_ok-audit_diaries.ensures in
    record {
      page = c.page_of-page.result;
      paged = c.page_of-page.ensures;
      store = found.store;
      is_log = found.leads;
      told = c.in_ok-diaries.ensures.told;
      calls = replayed.calls;
      recorded = replayed.recorded;
      whole = replayed.whole;
      in_time = replayed.in_time;
      once = replayed.once;
      diaries = found.replay;
      agrees = found.due;
      shares = found.shared refl (clients_in ds) (omega arith);
    }
