-- An operation of the world takes a reply as its state does, and its answer is told.
use Rattle.std.proofs.Common.{◌≡◌, ℕ, Bool, true, false, Option, Result, inl, inr, refl, ◌∙◌, ap}
use Rattle.txn_steps.specs.declared.boundary.advance.AdvanceOp.{AdvanceOp}
use Rattle.txn_steps.specs.declared.boundary.turned.Turned.{Turned}
use Rattle.txn_steps.specs.boundary.Steps.{lacks_memory}
use Rattle.txn_steps.specs.boundary.Asking.{unless_lacking}
use Rattle.txn_steps.specs.declared.read.ReadOp.{ReadOp}
use Rattle.txn_steps.specs.Latest.{ReadAnswer}
use Rattle.txn_history.specs.declared.event.PlainAnswer.{PlainAnswer}
use Rattle.txn_machine.specs.declared.plain.doing.PlainDoing.TheVariants.{Read, Advance}
use Rattle.txn_machine.specs.plain.Doing.{Next, read_answer, done_answer, next_of, or_no_memory, read_next, advance_next, IsTold}

module _ {T : Type 0} where
  -- what it does next, perhaps with a growth refused
  abbrev pub NextOrLacks : Next T → Next T → Type 0
  NextOrLacks next turn = (refused : Bool) × (turn ≡ or_no_memory refused next)

  advance_lacks : (lacks : Bool) (op : AdvanceOp) (next : AdvanceOp × Turned (Result (Unit {0}) ℕ)) → NextOrLacks (advance_next next) (advance_next (unless_lacking lacks op next))
  advance_lacks false op next = (false, refl)
  advance_lacks true op next = (true, refl)

  pub advance_turns : (op after : AdvanceOp) (said : Turned (Result (Unit {0}) ℕ)) (next : AdvanceOp × Turned (Result (Unit {0}) ℕ)) (answer : Option (PlainAnswer T)) (turn : Next T) → (after, said) ≡ unless_lacking (lacks_memory said) op next → answer ≡ done_answer said → turn ≡ next_of (Advance after) answer → NextOrLacks (advance_next next) turn
  advance_turns op after said next answer turn e how is =
      let lacks = advance_lacks (lacks_memory said) op next in
      (lacks.0, is ∙ (ap (next_of (Advance after)) how ∙ (ap advance_next e ∙ lacks.1)))

  read_lacks : (lacks : Bool) (op : ReadOp T) (next : ReadOp T × Turned (ReadAnswer T)) → NextOrLacks (read_next next) (read_next (unless_lacking lacks op next))
  read_lacks false op next = (false, refl)
  read_lacks true op next = (true, refl)

  pub read_turns : (op after : ReadOp T) (said : Turned (ReadAnswer T)) (next : ReadOp T × Turned (ReadAnswer T)) (answer : Option (PlainAnswer T)) (turn : Next T) → (after, said) ≡ unless_lacking (lacks_memory said) op next →
      IsTold (read_answer said) answer → turn ≡ next_of (Read after) answer → NextOrLacks (read_next next) turn
  read_turns op after said next answer turn e how is =
      elim how [
        | inl same ↦
            let lacks = read_lacks (lacks_memory said) op next in
            (lacks.0, is ∙ (ap (next_of (Read after)) same ∙ (ap read_next e ∙ lacks.1)))
        | inr lacks ↦ (true, is ∙ ap (next_of (Read after)) lacks.0)
      ]
