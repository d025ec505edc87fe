use Rattle.std.proofs.Common.{◌≡◌, map, drop}
use Rattle.txn_client_journals.specs.Verdict.{journal_of}
use Rattle.txn_audit.proofs.landings.has_left.Given as goal

-- no diary so far is the client's
abbrev pub invariant-loop-diary : goal.invariant-loop-diary
invariant-loop-diary g l = record { rest : journal_of (map g.D.Audited.diary (drop l.diary-index l.diaries)) l.client ≡ journal_of (map g.D.Audited.diary l.fn.diaries) l.fn.client }
