use Rattle.txn_steps_driven.specs.DriveRuns.{GoesOn}
use Rattle.txn_steps_driven.proofs.drive.Drive.drive.Given as goal

abbrev pub invariant-steps : goal.invariant-steps
invariant-steps g l = g.Self.Drive.asks l.at.layout.now l.self × GoesOn (g.Self.Drive.leads l.at.layout.now) l._step (record { op = l.fn.self; caches = l.fn.caches; store = g.S.ObjectStore.state l.fn.store }) (record { op = l.self; caches = l.caches; store = g.S.ObjectStore.state l.store })
