-- What is tried again: rounds, one after another, and what comes after them.
use Rattle.std.specs.Prelude.{◌≡◌, ◌<◌, ℕ, zero, suc}

module _ {X : Type 0} (round : X → X → Type 0) where
  -- so many rounds lead from one state to another
  abbrev pub Rounds : ℕ → X → X → Type 0
  Rounds zero start state = state ≡ start
  Rounds (suc count) start state = (last : X) × Rounds count start last × round last state

  -- Fewer rounds than so many were made, and this holds of the state that they led to.
  pub record AfterRounds (attempts : ℕ) (start : X) (holds : X → Type 0) : Type 0 where
    pub count : ℕ
    pub fewer : count < attempts
    pub last : X
    pub rounds : Rounds count start last
    pub so : holds last
