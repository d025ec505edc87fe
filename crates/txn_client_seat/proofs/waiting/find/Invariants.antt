use Rattle.std.proofs.Common.{◌≡◌, drop}
use Rattle.txn_client_seat.specs.Numbered.{waits_at}
use Rattle.txn_client_seat.proofs.waiting.find.Given as goal

-- it is to be found among those that are left
abbrev pub invariant-loop-one : goal.invariant-loop-one
invariant-loop-one g l = waits_at l.number (drop l.one-index l.waiting) ≡ waits_at l.fn.number l.fn.waiting
