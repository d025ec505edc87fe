use Rattle.std.proofs.Common.{◌≡◌, drop}
use Rattle.txn_steps.specs.Latest.{greatest_from}
use Rattle.txn_steps.proofs.latest.greatest.Given as goal

-- what the files that are left make of the greatest so far
abbrev pub invariant-loop-meta : goal.invariant-loop-meta
invariant-loop-meta l = greatest_from l.greatest l.names (drop l.meta-index l.metas) ≡ greatest_from l.fn.found l.names l.metas
