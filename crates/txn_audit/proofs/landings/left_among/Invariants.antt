use Rattle.std.proofs.Common.{◌≡◌, drop}
use Rattle.std.specs.Option.{option_copied}
use Rattle.txn_client_journals.specs.Journals.{left_among}
use Rattle.txn_audit.proofs.landings.left_among.Given as goal

-- what is left of the list decides
abbrev pub invariant-loop-left : goal.invariant-loop-left
invariant-loop-left l = record { rest : left_among l.op (drop l.left-index l.lefts) (option_copied l.found) ≡ left_among l.fn.op l.fn.lefts (option_copied l.fn.found) }
