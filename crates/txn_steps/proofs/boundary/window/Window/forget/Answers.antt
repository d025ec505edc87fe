use Rattle.std.proofs.Common.{rules, ◌==◌, not, sym, subst}
use Rattle.arrayvec.proofs.ArrayVecLemmas.{filter-from_retain}
use Rattle.txn_steps.specs.boundary.Windows.{Ascends}
use Rattle.txn_steps.proofs.boundary.WindowLemmas.{without_ascends}
use Rattle.txn_steps.proofs.boundary.window.Window.forget.Goals as goal

pub returns : goal.returns
returns c = rw (← c.self.view_is) (filter-from_retain _ (λ version. not (version.id == c.args.id)) _ (λ x b f' y called. search rules) _ _ c.retain.ensures.filtered)

pub invariant_of-self : goal.invariant_of-self
invariant_of-self c = subst Ascends (sym (returns c)) (rw (← c.self.view_is) (without_ascends c.args.id _ c.self.invariant))
