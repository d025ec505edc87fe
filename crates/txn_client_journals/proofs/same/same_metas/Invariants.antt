use Rattle.std.proofs.Common.{◌≡◌, take}
use Rattle.txn_client_journals.proofs.same.same_metas.Given as goal

-- those so far are the same
abbrev pub invariant-loop-i : goal.invariant-loop-i
invariant-loop-i l = take l.i l.fn.ones ≡ take l.i l.fn.others
