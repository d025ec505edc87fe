-- What a machine comes to, whatever the system tells it.
use Rattle.std.specs.Prelude.{◌≡◌, List, [], ◌∷◌}
use Rattle.txn_folder.specs.steps.Steps.{Phase, Is, Ends}

-- S is what a machine's states are, and A what it is told.
module _ {S A : Type 0} (turned : S → A → Phase S) where
  -- a machine that is told this; one that has ended stays
  abbrev pub on : Phase S → A → Phase S
  on (Is state) told = turned state told
  on (Ends verdict) told = Ends verdict

  -- a machine that was told these, the last one first
  abbrev pub after : S → List A → Phase S
  after start [] = Is start
  after start (told ∷ before) = on (after start before) told

  -- Where it began here, it is there for some answers of the system.
  pub record ComesTo (start : S) (phase : Phase S) : Type 0 where
    pub told : List A
    pub is : after start told ≡ phase
