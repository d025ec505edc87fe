use Rattle.std.proofs.Common.{map, drop}
use Rattle.txn_client_journals.specs.Verdict.{HaveRows}
use Rattle.txn_audit.proofs.audit.each_agrees.Given as goal

-- what is left decides
abbrev pub invariant-loop-diary : goal.invariant-loop-diary
invariant-loop-diary g l = record {
  yes : HaveRows l.log (map g.D.Audited.diary (drop l.diary-index l.diaries)) → HaveRows l.fn.log (map g.D.Audited.diary l.fn.diaries);
  no : HaveRows l.fn.log (map g.D.Audited.diary l.fn.diaries) → HaveRows l.log (map g.D.Audited.diary (drop l.diary-index l.diaries));
}
