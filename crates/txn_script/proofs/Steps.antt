-- The steps of a run, one turn after another.
use Rattle.std.proofs.Common.{◌≡◌, ℕ, suc, ◌-◌, ◌<◌, ◌≤◌, ◌+◌, List, [], ◌++◌, true, false, inl, inr, refl, sym, ◌∙◌, ap, subst, arith}
use Rattle.std.proofs.lemmas.List.{append-nil, append_assoc}
use Rattle.txn_history.specs.Trace.{Told}
use Rattle.txn_history.specs.declared.event.EventOf.{EventOf}
use Rattle.txn_history.specs.declared.event.ToldOf.TheVariants as told
use Rattle.txn_machine.specs.Machine.{State}
use Rattle.txn_script.specs.declared.kind.Came.{Came}
use Rattle.txn_script.specs.declared.kind.Came.TheVariants as comes
use Rattle.txn_script.specs.Rules.{Rules}
use Rattle.txn_script.specs.Running.{CameOf}
use Rattle.txn_script.specs.Script.{Steps, RunsOperation, goes_on, told_text}

-- what is told with no answer is not printed
going_nothing : {T : Type 0} (text : T → List ℕ) (t : Told T) → true ≡ goes_on t → told_text text t ≡ []
going_nothing text (told.Began op) e = refl
going_nothing text (told.Went op) e = refl
going_nothing text (told.Answered op answer) e = absurd (cc)
going_nothing text (told.GaveUp op) e = refl
going_nothing text (told.Landed k changed) e = refl
going_nothing text (told.Crashed client) e = refl

pub same_after : (old new text : List ℕ) → new ≡ old ++ text → text ≡ [] → new ≡ old
same_after old new text e none = e ∙ ap (λ xs. old ++ xs) none ∙ append-nil old

-- two texts after what was printed
pub both_after : (old mid new one two : List ℕ) → mid ≡ old ++ one → new ≡ mid ++ two → new ≡ old ++ (one ++ two)
both_after old mid new one two e f = f ∙ ap (λ xs. xs ++ two) e ∙ append_assoc old one two

module _ {T C : Type 0} (rules : Rules T C) where
  pub on_nothing : (old new : State T) (event : EventOf C) (text : List ℕ) → Steps rules old event true text new → text ≡ []
  on_nothing old new event text (inl step) = step.3 ∙ going_nothing rules.value_text step.0 step.2
  on_nothing old new event text (inr step) = let e = step.3 in absurd (cc)

  -- what more turns print is all that is printed
  abbrev pub RunsOn : State T → ℕ → ℕ → State T → Type 0
  RunsOn start op n now = (more : List ℕ) (new : State T) → RunsOperation rules n now op more new → RunsOperation rules 100 start op more new

  pub run_more : (start : State T) (op n i : ℕ) (now next : State T) (first : List ℕ) → n ≡ 100 - i → i < 100 → RunsOn start op n now → Steps rules now (rules.world.next now op) true first next → RunsOn start op (100 - (i + 1)) next
  unfolding RunsOperation
  run_more start op n i now next first e lt on step more new h =
      let turns : n ≡ suc (100 - (i + 1)) = omega (arith, e, lt) in
      let on' : RunsOn start op (suc (100 - (i + 1))) now = subst (λ m. RunsOn start op m now) turns on in
      on' more new (inr (first, next, more, step, h, ap (λ xs. xs ++ more) (sym (on_nothing now next (rules.world.next now op) first step))))

  pub run_last : (start : State T) (op n i : ℕ) (now next : State T) (text : List ℕ) → n ≡ 100 - i → i < 100 → RunsOn start op n now → Steps rules now (rules.world.next now op) false text next → RunsOperation rules 100 start op text next
  unfolding RunsOperation
  run_last start op n i now next text e lt on step =
      let turns : n ≡ suc (100 - (i + 1)) = omega (arith, e, lt) in
      let on' : RunsOn start op (suc (100 - (i + 1))) now = subst (λ m. RunsOn start op m now) turns on in
      on' text next (inl step)

  pub run_ended : (start : State T) (op n i : ℕ) (now : State T) → n ≡ 100 - i → 100 ≤ i → RunsOn start op n now → RunsOperation rules 100 start op [] now
  unfolding RunsOperation
  run_ended start op n i now e le on =
      let turns : n ≡ 0 = omega (arith, e, le) in
      let on' : RunsOn start op 0 now = subst (λ m. RunsOn start op m now) turns on in
      on' [] now (refl, refl)

  -- what is told and not printed
  pub quiet_step : (old new : State T) (event : EventOf C) (t : Told T) → rules.world.takes old event t new → true ≡ goes_on t → Steps rules old event true [] new
  quiet_step old new event t h e = inl (t, h, e, sym (going_nothing rules.value_text t e))

  pub quiet_came : (old new : State T) (event : EventOf C) (came : Came T) (t : Told T) → CameOf rules.world old event came new → came ≡ comes.Told t → goes_on t ≡ true → Steps rules old event true [] new
  quiet_came old new event came t h is going = quiet_step old new event t (subst (λ (c : Came T). CameOf rules.world old event c new) is h) (sym going)
