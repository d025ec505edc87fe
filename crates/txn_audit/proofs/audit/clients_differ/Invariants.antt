use Rattle.std.proofs.Common.{map, drop}
use Rattle.txn_client_journals.specs.Verdict.{HaveDifferentClients}
use Rattle.txn_audit.proofs.audit.clients_differ.Given as goal

-- what is left decides
abbrev pub invariant-loop-i : goal.invariant-loop-i
invariant-loop-i g l = record {
  yes : HaveDifferentClients (map g.D.Audited.diary (drop l.i l.diaries)) → HaveDifferentClients (map g.D.Audited.diary l.fn.diaries);
  no : HaveDifferentClients (map g.D.Audited.diary l.fn.diaries) → HaveDifferentClients (map g.D.Audited.diary (drop l.i l.diaries));
}
