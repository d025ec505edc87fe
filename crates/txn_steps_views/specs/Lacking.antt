-- Answers, errors by their numbers, where a growth may have been refused.
use Rattle.std.specs.Prelude.{ℕ, Bool, true, false, Result, Ok, Err}
use Rattle.txn_steps.specs.declared.boundary.turned.Turned.TheVariants.{Done}
use Rattle.txn_steps.specs.boundary.Steps.{lacks_memory}

-- it is the refusal 9
abbrev pub lacks : {A : Type 0} → Result A ℕ → Bool
lacks answer = lacks_memory (Done answer)

-- a growth was refused, and it is the refusal 9
abbrev pub or_lacking : {A : Type 0} → Bool → Result A ℕ → Result A ℕ
or_lacking false answer = answer
or_lacking true answer = Err 9

-- a state as a part of another one
abbrev pub started_as : {A B : Type 0} → (A → B) → Result A ℕ → Result B ℕ
started_as whole (Ok part) = Ok (whole part)
started_as whole (Err number) = Err number
