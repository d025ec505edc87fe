-- RunsOrLacks: one more step, and that events change neither the number of clients nor the size of a page.
use Rattle.std.proofs.Common.{◌≡◌, ℕ, ◌≤◌, List, [], ◌∷◌, ◌++◌, Option, inl, inr, refl, sym, ap, subst}
use Rattle.txn_history.specs.declared.event.Failure.{Failure}
use Rattle.txn_history.specs.declared.event.Failure.TheVariants as failures
use Rattle.txn_history.specs.declared.event.EventOf.TheVariants as events
use Rattle.txn_history.specs.Trace.{Event, Told}
use Rattle.txn_machine.specs.Machine.{State, opening, Fails, Takes, TakesOrLacks, Runs, RunsOrLacks, IsReached}

module _ {T : Type 0} where
  fails_same : (failure : Failure) (old : State T) (op : ℕ) (said : Told T) (new : State T) → Fails old op failure said new → (new.clients ≡ old.clients) × (new.page ≡ old.page)
  fails_same failures.Before old op said new v = (ap (λ (s : State T). s.clients) v.state, ap (λ (s : State T). s.page) v.state)
  fails_same failures.After old op said new v = (ap (λ (s : State T). s.clients) v.state, ap (λ (s : State T). s.page) v.state)
  fails_same failures.Loose old op said new v = (ap (λ (s : State T). s.clients) v.state, ap (λ (s : State T). s.page) v.state)

module _ {T : Type 0} (encode : T → List ℕ) (decode : List ℕ → Option T) (get_epoch : T → ℕ) (set_epoch : T → ℕ → T) where
  -- one more step of a run
  pub runs_more_or_lacking : (old : State T) (taken : List (Event T × Told T)) (middle : State T) (event : Event T) (said : Told T) (new : State T) →
      RunsOrLacks encode decode get_epoch set_epoch old taken middle → TakesOrLacks encode decode get_epoch set_epoch middle event said new → RunsOrLacks encode decode get_epoch set_epoch old (taken ++ (event, said) ∷ []) new
  runs_more_or_lacking old [] middle event said new r t = (new, subst (λ (s : State T). TakesOrLacks encode decode get_epoch set_epoch s event said new) r t, refl)
  runs_more_or_lacking old (p ∷ taken) middle event said new r t = (r.0, r.1, runs_more_or_lacking r.0 taken middle event said new r.2 t)

  -- events change neither the number of clients nor the size of a page
  pub takes_same_or_lacking : (old : State T) (event : Event T) (said : Told T) (new : State T) → TakesOrLacks encode decode get_epoch set_epoch old event said new → (new.clients ≡ old.clients) × (new.page ≡ old.page)
  takes_same_or_lacking old (events.Begin client call) said new t = (ap (λ (s : State T). s.clients) t.step.state, ap (λ (s : State T). s.page) t.step.state)
  takes_same_or_lacking old (events.Look op) said new t = (ap (λ (s : State T). s.clients) t.step.state, ap (λ (s : State T). s.page) t.step.state)
  takes_same_or_lacking old (events.Serve op) said new t = elim t.step [
    | inl v ↦ (ap (λ (s : State T). s.clients) v.state, ap (λ (s : State T). s.page) v.state)
    | inr v ↦ (ap (λ (s : State T). s.clients) v.state, ap (λ (s : State T). s.page) v.state)
  ]
  takes_same_or_lacking old (events.Fail op failure) said new t = fails_same failure old op said new t.step
  takes_same_or_lacking old (events.GiveUp op) said new t = (ap (λ (s : State T). s.clients) t.step.state, ap (λ (s : State T). s.page) t.step.state)
  takes_same_or_lacking old (events.Land k) said new t = (ap (λ (s : State T). s.clients) t.step.state, ap (λ (s : State T). s.page) t.step.state)
  takes_same_or_lacking old (events.Crash client) said new t = (ap (λ (s : State T). s.clients) t.step.state, ap (λ (s : State T). s.page) t.step.state)

  -- reached states

  pub opening_reached : (clients page : ℕ) → 1 ≤ page → IsReached encode decode get_epoch set_epoch (opening clients page)
  opening_reached clients page room = ([], refl, room)

  pub taken_reached_or_lacking : (old : State T) (event : Event T) (said : Told T) (new : State T) → IsReached encode decode get_epoch set_epoch old → TakesOrLacks encode decode get_epoch set_epoch old event said new → IsReached encode decode get_epoch set_epoch new
  taken_reached_or_lacking old event said new r t =
      let same = takes_same_or_lacking old event said new t in
      let run = runs_more_or_lacking (opening old.clients old.page) r.0 old event said new r.1 t in (
        r.0 ++ (event, said) ∷ [],
        subst (λ (c : ℕ). RunsOrLacks encode decode get_epoch set_epoch (opening c new.page) (r.0 ++ (event, said) ∷ []) new) (sym same.0)
            (subst (λ (p : ℕ). RunsOrLacks encode decode get_epoch set_epoch (opening old.clients p) (r.0 ++ (event, said) ∷ []) new) (sym same.1) run),
        subst (λ (p : ℕ). 1 ≤ p) (sym same.1) r.2,
      )

  -- what each event keeps, a run keeps
  pub runs_keep : (P : State T → Type 0) → ((old : State T) (event : Event T) (said : Told T) (new : State T) → P old → TakesOrLacks encode decode get_epoch set_epoch old event said new → P new) →
      (old : State T) (taken : List (Event T × Told T)) (new : State T) → RunsOrLacks encode decode get_epoch set_epoch old taken new → P old → P new
  runs_keep P step old [] new r h = subst P (sym r) h
  runs_keep P step old (p ∷ taken) new r h = runs_keep P step r.0 taken new r.2 (step old p.0 p.1 r.0 h r.1)

  -- What a world takes, clients that share a store may take too.

  pub or_lacking : (old : State T) (event : Event T) (said : Told T) (new : State T) → Takes encode decode get_epoch set_epoch old event said new → TakesOrLacks encode decode get_epoch set_epoch old event said new
  or_lacking old (events.Begin client call) said new t = record { allowed = t.allowed; step = t.step }
  or_lacking old (events.Look op) said new t = record { allowed = t.allowed; step = t.step }
  or_lacking old (events.Serve op) said new t = record { allowed = t.allowed; step = inl t.step }
  or_lacking old (events.Fail op failure) said new t = record { allowed = t.allowed; step = t.step }
  or_lacking old (events.GiveUp op) said new t = record { allowed = t.allowed; step = t.step }
  or_lacking old (events.Land k) said new t = record { allowed = t.allowed; step = t.step }
  or_lacking old (events.Crash client) said new t = record { allowed = t.allowed; step = t.step }

  pub runs_or_lacking : (old : State T) (taken : List (Event T × Told T)) (new : State T) → Runs encode decode get_epoch set_epoch old taken new → RunsOrLacks encode decode get_epoch set_epoch old taken new
  runs_or_lacking old [] new r = r
  runs_or_lacking old (p ∷ taken) new r = (r.0, or_lacking old p.0 p.1 r.0 r.1, runs_or_lacking r.0 taken new r.2)

  pub runs_more : (old : State T) (taken : List (Event T × Told T)) (middle : State T) (event : Event T) (said : Told T) (new : State T) →
      Runs encode decode get_epoch set_epoch old taken middle → Takes encode decode get_epoch set_epoch middle event said new → Runs encode decode get_epoch set_epoch old (taken ++ (event, said) ∷ []) new
  runs_more old [] middle event said new r t = (new, subst (λ (s : State T). Takes encode decode get_epoch set_epoch s event said new) r t, refl)
  runs_more old (p ∷ taken) middle event said new r t = (r.0, r.1, runs_more r.0 taken middle event said new r.2 t)

  pub takes_same : (old : State T) (event : Event T) (said : Told T) (new : State T) → Takes encode decode get_epoch set_epoch old event said new → (new.clients ≡ old.clients) × (new.page ≡ old.page)
  takes_same old event said new t = takes_same_or_lacking old event said new (or_lacking old event said new t)

  pub taken_reached : (old : State T) (event : Event T) (said : Told T) (new : State T) → IsReached encode decode get_epoch set_epoch old → Takes encode decode get_epoch set_epoch old event said new → IsReached encode decode get_epoch set_epoch new
  taken_reached old event said new r t = taken_reached_or_lacking old event said new r (or_lacking old event said new t)
