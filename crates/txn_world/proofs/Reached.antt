-- What the calls of a world owe, by what the machine proves of reached states.
use Rattle.std.proofs.Common.{◌≡◌, ℕ, ◌+◌, ◌≤◌, List, [], ◌∷◌, ◌++◌, Bool, true, false, cond, is_ok, Option, Some, None, Result, Ok, Err, OnErr, IfOk, refl, sym, ◌∙◌, ap, subst, arith}
use Rattle.std.specs.Option.{ForSome}
use Rattle.std.proofs.lemmas.List.{map-append}
use Rattle.txn_history.specs.declared.event.EventFault.{EventFault}
use Rattle.txn_history.specs.Added.{AddsRows}
use Rattle.txn_history.specs.Lists.{numbered}
use Rattle.txn_history.specs.Trace.{Event, Told}
use Rattle.txn_history.specs.Allowed.{is_busy}
use Rattle.txn_history.specs.GoesOn.{GoesOn}
use Rattle.txn_history.specs.Seen.{view_of}
use Rattle.txn_history.specs.Views.{View}
use Rattle.txn_machine.specs.views.Layer.{Used}
use Rattle.txn_machine.specs.plain.Machine.{fault_met, taken_count}
use Rattle.txn_machine.specs.Machine.{State, WorldState, opening, seen_calls, seen_of, used_in, refusal_of, Takes, Meets, Outcomes, Runs, RunsPast, IsReached}
use Rattle.txn_machine.proofs.Runs.{takes_same, runs_more, runs_or_lacking}
use Rattle.txn_machine.proofs.AddedRows.{added_rows}
use Rattle.txn_machine.proofs.Owned.{reached_owned}
use Rattle.txn_machine.proofs.Busy.{reached_busy, reached_idle}
use Rattle.txn_machine.proofs.Reached.{reached_replies, reached_looks, reached_range, reached_goes_on}
use Rattle.txn_client_journals.specs.tables.Views.{is_used}
use Rattle.txn_world.specs.Answering.{IsAnswerable}
use Rattle.txn_world.specs.Runs.{EndsRun}

module _ {T : Type 0} (encode : T → List ℕ) (decode : List ℕ → Option T) (get_epoch : T → ℕ) (set_epoch : T → ℕ → T) where
  -- where a run ends is reached
  pub is_reached : (s : State T) → EndsRun encode decode get_epoch set_epoch s → IsReached encode decode get_epoch set_epoch s
  is_reached s e = (e.taken, runs_or_lacking encode decode get_epoch set_epoch (opening s.clients s.page) e.taken s e.runs, e.paged)

  pub opening_ends : (clients page : ℕ) → 1 ≤ page → EndsRun encode decode get_epoch set_epoch (opening clients page)
  opening_ends clients page room = record { taken = []; runs = refl; paged = room }

  taken_ends : (old : State T) (event : Event T) (said : Told T) (new : State T) → EndsRun encode decode get_epoch set_epoch old → Takes encode decode get_epoch set_epoch old event said new → EndsRun encode decode get_epoch set_epoch new
  taken_ends old event said new e t =
      let same = takes_same encode decode get_epoch set_epoch old event said new t in
      let more = e.taken ++ (event, said) ∷ [] in
      let run = runs_more encode decode get_epoch set_epoch (opening old.clients old.page) e.taken old event said new e.runs t in
      record {
        taken = more;
        runs =
            subst (λ (c : ℕ). Runs encode decode get_epoch set_epoch (opening c new.page) more new) (sym same.0)
            (subst (λ (p : ℕ). Runs encode decode get_epoch set_epoch (opening old.clients p) more new) (sym same.1) run);
        paged = subst (λ (p : ℕ). 1 ≤ p) (sym same.1) e.paged;
      }

  -- what a reached state hands to an operation is of the kind that it takes
  pub reached_answerable : (s : State T) → EndsRun encode decode get_epoch set_epoch s → IsAnswerable s
  reached_answerable s ends =
      record {
        replies = λ op o found request reply new asks serves. reached_replies encode decode get_epoch set_epoch s r op o found request reply new asks serves;
        looks = λ op o found asks. reached_looks encode decode get_epoch set_epoch s r op o found asks;
        range = λ op o found. reached_range encode decode get_epoch set_epoch s r op o found;
        busy = λ number. by number (numbered s.views number) refl;
      }
    where
      r : IsReached encode decode get_epoch set_epoch s
      r = is_reached s ends

      by : (number : ℕ) (found : Option (Option (Used T))) → numbered s.views number ≡ found → is_busy (seen_of s) s.trace (Some number) ≡ is_used (used_in (numbered s.views number))
      by number None there = reached_idle encode decode get_epoch set_epoch s r number (ap used_in there) ∙ ap (λ found. is_used (used_in found)) (sym there)
      by number (Some None) there = reached_idle encode decode get_epoch set_epoch s r number (ap used_in there) ∙ ap (λ found. is_used (used_in found)) (sym there)
      by number (Some (Some used)) there = reached_busy encode decode get_epoch set_epoch s r number used there ∙ ap (λ found. is_used (used_in found)) (sym there)

  -- a view that is seen is of one of the clients
  pub client_within : (s : State T) → EndsRun encode decode get_epoch set_epoch s → (number : ℕ) (seen : Option (View T)) → seen ≡ view_of (seen_of s) number → ForSome seen (λ view. (1 ≤ view.client) × (view.client ≤ s.clients))
  client_within s ends number seen e view is = reached_owned encode decode get_epoch set_epoch s (is_reached s ends) number view (sym e ∙ is)

  pub ends_after : (r : Result (Told T) EventFault) (old : State T) (event : Event T) (new : State T) → EndsRun encode decode get_epoch set_epoch old → OnErr r (new ≡ old) → IfOk r (λ said. Takes encode decode get_epoch set_epoch old event said new) → EndsRun encode decode get_epoch set_epoch new
  ends_after (Ok said) old event new ends err ok = taken_ends old event said new ends ok
  ends_after (Err fault) old event new ends err ok = subst (EndsRun encode decode get_epoch set_epoch) (sym err) ends

  pub adds_after : (r : Result (Told T) EventFault) (old : State T) (event : Event T) (new : State T) → EndsRun encode decode get_epoch set_epoch old → IfOk r (λ said. Takes encode decode get_epoch set_epoch old event said new) → IfOk r (λ said. AddsRows (seen_calls old) old.trace old.store.files event said new.trace new.store.files)
  adds_after (Ok said) old event new ends ok = added_rows encode decode get_epoch set_epoch old event said new (is_reached old ends) ok
  adds_after (Err fault) old event new ends ok = tt

  pub goes_after : (r : Result (Told T) EventFault) (old : State T) (event : Event T) (new : State T) → EndsRun encode decode get_epoch set_epoch old → IfOk r (λ said. Takes encode decode get_epoch set_epoch old event said new) → IfOk r (λ said. GoesOn (seen_of old) event said new.trace (seen_of new))
  goes_after (Ok said) old event new ends ok = reached_goes_on encode decode get_epoch set_epoch old event said new (is_reached old ends) ok
  goes_after (Err fault) old event new ends ok = tt

  -- a run past refused events, with one more

  meets : (r : Result (Told T) EventFault) (old : State T) (event : Event T) (new : State T) → fault_met r ≡ refusal_of encode decode get_epoch set_epoch old event → OnErr r (new ≡ old) → IfOk r (λ said. Takes encode decode get_epoch set_epoch old event said new) → Meets encode decode get_epoch set_epoch old event r new
  meets (Ok said) old event new fault err ok = ok
  meets (Err fault') old event new fault err ok = (fault, err)

  outcomes_more : (old : State T) (met : List (Event T × Result (Told T) EventFault)) (middle : State T) (event : Event T) (r : Result (Told T) EventFault) (new : State T) → Outcomes encode decode get_epoch set_epoch old met middle → Meets encode decode get_epoch set_epoch middle event r new → Outcomes encode decode get_epoch set_epoch old (met ++ (event, r) ∷ []) new
  outcomes_more old [] middle event r new run m = (new, subst (λ (s : State T). Meets encode decode get_epoch set_epoch s event r new) run m, refl)
  outcomes_more old (first ∷ met) middle event r new run m = (run.0, run.1, outcomes_more run.0 met middle event r new run.2 m)

  taken_more : (met : List (Event T × Result (Told T) EventFault)) (event : Event T) (r : Result (Told T) EventFault) → taken_count (met ++ (event, r) ∷ []) ≡ cond (is_ok r) (taken_count met + 1) (taken_count met)
  taken_more [] event r = refl
  taken_more ((e, Ok said) ∷ met) event r = ap (λ n. 1 + n) (taken_more met event r) ∙ one_later (is_ok r) (taken_count met)
    where
      one_later : (b : Bool) (n : ℕ) → 1 + cond b (n + 1) n ≡ cond b ((1 + n) + 1) (1 + n)
      one_later true n = omega arith
      one_later false n = omega arith
  taken_more ((e, Err fault) ∷ met) event r = taken_more met event r

  pub runs_past_more : (old : State T) (events : List (Event T)) (count : ℕ) (middle : State T) (event : Event T) (r : Result (Told T) EventFault) (new : State T) (count' : ℕ) → RunsPast encode decode get_epoch set_epoch old events count middle →
      fault_met r ≡ refusal_of encode decode get_epoch set_epoch middle event → OnErr r (new ≡ middle) → IfOk r (λ said. Takes encode decode get_epoch set_epoch middle event said new) → count' ≡ cond (is_ok r) (count + 1) count → RunsPast encode decode get_epoch set_epoch old (events ++ event ∷ []) count' new
  runs_past_more old events count middle event r new count' run fault err ok next =
      record {
        met = run.met ++ (event, r) ∷ [];
        all = map-append _ run.met ((event, r) ∷ []) ∙ ap (λ (es : List (Event T)). es ++ event ∷ []) run.all;
        run = outcomes_more old run.met middle event r new run.run (meets r middle event new fault err ok);
        taken = next ∙ (ap (λ n. cond (is_ok r) (n + 1) n) run.taken ∙ sym (taken_more run.met event r));
      }

module _ {T : Type 0} where
  pub err_state : {C E : Type 0} (r : Result (Told T) EventFault) (old new : WorldState T C E) → OnErr r (new ≡ old) → OnErr r (new.state ≡ old.state)
  err_state (Ok said) old new err = tt
  err_state (Err fault) old new err = ap (λ w. w.state) err
