use Rattle.std.proofs.Common.{◌≡◌, drop}
use Rattle.txn_steps.specs.boundary.Windows.{held}
use Rattle.txn_steps.proofs.boundary.window.Window.get.Given as goal

-- it is to be found among those that are left
abbrev pub invariant-loop-version : goal.invariant-loop-version
invariant-loop-version l = held l.id (drop l.version-index l.version-items) ≡ held l.fn.id l.fn.self
