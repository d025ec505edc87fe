use Rattle.std.proofs.Common.{map, drop}
use Rattle.txn_client_journals.specs.Verdict.{HasClient}
use Rattle.txn_audit.proofs.audit.has_client.Given as goal

-- what is left decides
abbrev pub invariant-loop-diary : goal.invariant-loop-diary
invariant-loop-diary g l = record {
  yes : HasClient (map g.D.Audited.diary (drop l.diary-index l.diaries)) l.client → HasClient (map g.D.Audited.diary l.fn.diaries) l.fn.client;
  no : HasClient (map g.D.Audited.diary l.fn.diaries) l.fn.client → HasClient (map g.D.Audited.diary (drop l.diary-index l.diaries)) l.client;
}
