-- Machines, one step on.
use Rattle.std.proofs.Common.{◌≡◌, [], ◌∷◌, refl, ap, ◌∙◌}
use Rattle.txn_folder.specs.steps.Steps.{Phase, Is}
use Rattle.txn_folder.specs.steps.Runs.{on, after, ComesTo}

module _ {S A : Type 0} (turned : S → A → Phase S) (start : S) where
  pub begins : ComesTo turned start (Is start)
  begins = record { told = []; is = refl }

  pub comes_on : (state : S) (told : A) (phase : Phase S) → ComesTo turned start (Is state) → turned state told ≡ phase → ComesTo turned start phase
  comes_on state told phase here leads = record { told = told ∷ here.told; is = ap (λ (p : Phase S). on turned p told) here.is ∙ leads }
