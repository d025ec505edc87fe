use Rattle.std.proofs.Common.{map, drop}
use Rattle.txn_client_journals.specs.Verdict.{WereLeft}
use Rattle.txn_audit.proofs.landings.were_left.Given as goal

-- what is left of the log decides
abbrev pub invariant-loop-place : goal.invariant-loop-place
invariant-loop-place g l = record {
  yes : WereLeft l.place (drop l.place l.log) (map g.D.Audited.diary l.diaries) → WereLeft 0 l.fn.log (map g.D.Audited.diary l.fn.diaries);
  no : WereLeft 0 l.fn.log (map g.D.Audited.diary l.fn.diaries) → WereLeft l.place (drop l.place l.log) (map g.D.Audited.diary l.diaries);
}
