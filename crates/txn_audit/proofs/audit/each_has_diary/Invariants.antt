use Rattle.std.proofs.Common.{map, drop}
use Rattle.txn_client_journals.specs.Verdict.{HasDiaries}
use Rattle.txn_audit.proofs.audit.each_has_diary.Given as goal

-- what is left decides
abbrev pub invariant-loop-row : goal.invariant-loop-row
invariant-loop-row g l = record {
  yes : HasDiaries (drop l.row-index l.log) (map g.D.Audited.diary l.diaries) → HasDiaries l.fn.log (map g.D.Audited.diary l.fn.diaries);
  no : HasDiaries l.fn.log (map g.D.Audited.diary l.fn.diaries) → HasDiaries (drop l.row-index l.log) (map g.D.Audited.diary l.diaries);
}
