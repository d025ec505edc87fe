use Rattle.std.proofs.Common.{◌≡◌, ◌+◌, drop}
use Rattle.txn_steps.specs.boundary.Windows.{place_of}
use Rattle.txn_steps.proofs.boundary.window.Window.place.Given as goal

-- those before are below it
abbrev pub invariant-loop-version : goal.invariant-loop-version
invariant-loop-version l = (l.place ≡ l.version-index) × (l.place + place_of l.id (drop l.version-index l.version-items) ≡ place_of l.fn.id l.fn.self)
