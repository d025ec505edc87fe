-- What an audit finds of a run of clients that share only a store.
use Rattle.std.specs.Prelude.{◌+◌, ℕ, List, Result, map}
use Rattle.txn_script_lines.specs.declared.record.Record.{Record}
use Rattle.txn_script_lines.specs.declared.record.RecordCodec.{RecordCodec}
use Rattle.txn_script_lines.specs.declared.record.RecordEpoch.{RecordEpoch}
use Rattle.txn_script_lines.specs.Record.{record_text, record_read}
use Rattle.txn_script.specs.Records.{record_epoch, record_with}
use Rattle.txn_client_journals.specs.declared.rows.LogRow.{LogRow}
use Rattle.txn_client_journals.specs.declared.fault.AuditFault.{AuditFault}
use Rattle.txn_audit.specs.Audits.{AuditsDiaries}
use Rattle.txn_diary.specs.Diaries.{DiaryState, as_diary}
use Rattle.txn_world_threads.specs.Lists.{AreEach}

abbrev pub RecordDiary : Type 0
RecordDiary = DiaryState Record RecordCodec RecordEpoch

-- diaries of so many clients, client 1 first, with pages of 1,000 files
abbrev pub AreClients : ℕ → List RecordDiary → Type 0
AreClients workers diaries = AreEach {A = ℕ × ℕ} (λ k. (k + 1, 1000)) workers (map {B = ℕ × ℕ} (λ diary. (diary.client, diary.page)) diaries)

-- The verdict is that on this log and on these diaries, which are of so many clients: the log is that of some store, each diary keeps what its journal leads to, and where they agree, the clients shared only the store.
pub record Audits (workers : ℕ) (log : List LogRow) (diaries : List RecordDiary) (verdict : Result (Unit {0}) AuditFault) : Type 0 where
  pub clients : AreClients workers diaries
  pub audit : AuditsDiaries 1000 record_text record_read record_epoch record_with log (map as_diary diaries) verdict

-- it is that on the log of some store and on diaries of so many clients
abbrev pub IsAudited : ℕ → Result (Unit {0}) AuditFault → Type 0
IsAudited workers verdict = (log : List LogRow) × (diaries : List RecordDiary) × Audits workers log diaries verdict
