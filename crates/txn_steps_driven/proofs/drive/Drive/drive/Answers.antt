use Rattle.txn_steps_driven.proofs.DriveLemmas.{goes_on}
use Rattle.txn_steps_driven.proofs.drive.Drive.drive.Goals as goal

pub steps-preserved : goal.steps-preserved
steps-preserved g c =
    let leads = rw c.in-Goes.is at c.step.ensures in (
      g.met.Self.Drive.asks_again
          c.args.at.now.layout.now
          (record { op = c.steps.self; caches = c.steps.caches; store = g.S.ObjectStore.state c.steps.store })
          (record { op = c.step.new.self; caches = c.step.new.caches; store = g.S.ObjectStore.state c.step.new.store })
          c.steps.invariant.0
          leads,
      goes_on
          (g.Self.Drive.leads c.args.at.now.layout.now)
          c.steps._step
          (record { op = c.args.self.now; caches = c.args.caches.now; store = g.S.ObjectStore.state c.args.store.now })
          (record { op = c.steps.self; caches = c.steps.caches; store = g.S.ObjectStore.state c.steps.store })
          (record { op = c.step.new.self; caches = c.step.new.caches; store = g.S.ObjectStore.state c.step.new.store })
          c.steps.invariant.1
          leads,
    )
