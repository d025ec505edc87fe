use Rattle.std.proofs.Common.{rules, sym, subst}
use Rattle.txn_steps.specs.boundary.Windows.{Ascends}
use Rattle.txn_steps.proofs.boundary.WindowLemmas.{added_ascends}
use Rattle.txn_steps.proofs.boundary.window.Window.keep.Goals as goal

pub invariant_of-self : goal.invariant_of-self
invariant_of-self c = subst Ascends (sym c.add.ensures) (added_ascends c.args.version _ c.self.invariant (search rules))
