-- What is left of lists of which some was forgotten stays so, whatever is done to both.
use Rattle.std.proofs.Common.{◌≡◌, ◌≢◌, ℕ, zero, suc, ◌+◌, ◌-◌, ◌<◌, ◌≤◌, List, [], ◌∷◌, ◌++◌, length, map, set, Bool, true, false, cond, ◌==◌, nat_eq, nat_lt, ◌||◌, Option, Some, None, option_map, ◌⊎◌, inl, inr, refl, sym, ◌∙◌, ap, subst, append-nil, arith}
use Rattle.std.proofs.lemmas.List.{length-append, length-map, length-set}
use Rattle.std.proofs.lemmas.Bool.{cases_lt, cases_eq}
use Rattle.std.proofs.lemmas.Option.{same_Some}
use Rattle.txn_history.specs.Lists.{numbered}
use Rattle.txn_history.specs.Seen.{Ask}
use Rattle.txn_history.proofs.Lists.{get_other, numbered_kept}
use Rattle.txn_machine.specs.views.Layer.{Used, Change, changed, with_busy}
use Rattle.txn_machine.specs.views.Steps.{view_without}
use Rattle.txn_machine.proofs.plain.Lists.{within, numbered_new, numbered_here, numbered_other, numbered_of_map, numbered_there}
use Rattle.txn_machine.specs.declared.doing.Ending.{Ending}
use Rattle.txn_machine.specs.declared.doing.Ending.TheVariants as endings
use Rattle.txn_machine.specs.declared.doing.Operation.{Operation}
use Rattle.txn_machine.specs.Doing.{asked}
use Rattle.txn_machine.specs.Machine.{used_in, used_by, views_changed, views_taken, views_after, made_by, change_of, doing_next, ended_by}
use Rattle.txn_machine.proofs.Crashing.{numbered_mapped}
use Rattle.txn_steps_views.specs.declared.outcome.Outcome.TheVariants as outcomes
use Rattle.txn_client_journals.proofs.tables.Acting.{numbered_past}
use Rattle.txn_client_journals.specs.Parts.{knows_base, epoch_told, written_in}
use Rattle.txn_diary.specs.Forgetting.{forgotten, HasEnded, AreKeptOperations, AreKeptWrites, AreKeptViews, AreKeptNotes}
use Rattle.txn_diary.proofs.Noting.{eq_turned}

-- lists

-- one of a list that has one more
pub more_cases : {A : Type 0} (xs : List A) (x : A) (n : ℕ) → ((n ≢ length xs + 1) × (numbered (xs ++ x ∷ []) n ≡ numbered xs n)) ⊎ ((n ≡ length xs + 1) × (numbered (xs ++ x ∷ []) n ≡ Some x))
more_cases {A = A} xs x n = elim (cases_eq n (length xs + 1)) [ inl same ↦ inr (same, ap (numbered (xs ++ x ∷ [])) same ∙ numbered_new xs x) | inr ne ↦ inl (ne, by n ne) ]
  where
    by : (n : ℕ) → n ≢ length xs + 1 → numbered (xs ++ x ∷ []) n ≡ numbered xs n
    by zero ne = refl
    by (suc k) ne = get_other xs x k (λ e. ne (omega (arith, e)))

-- one of a list in which one was set
pub set_cases : {A : Type 0} (xs : List A) (k : ℕ) (x : A) (n : ℕ) → ((n ≢ k + 1) × (numbered (set xs k x) n ≡ numbered xs n)) ⊎ ((n ≡ k + 1) × (k < length xs) × (numbered (set xs k x) n ≡ Some x)) ⊎ ((n ≡ k + 1) × (length xs ≤ k) × (numbered (set xs k x) n ≡ None))
set_cases {A = A} xs k x n = elim (cases_eq n (k + 1)) [ inl same ↦ inr (by same) | inr ne ↦ inl (ne, ap (λ m. numbered (set xs m x) n) place ∙ numbered_other xs (k + 1) n x (omega arith) ne) ]
  where
    place : k ≡ k + 1 - 1
    place = omega arith

    by : n ≡ k + 1 → ((n ≡ k + 1) × (k < length xs) × (numbered (set xs k x) n ≡ Some x)) ⊎ ((n ≡ k + 1) × (length xs ≤ k) × (numbered (set xs k x) n ≡ None))
    by same = elim (cases_lt k (length xs)) [
      | inl lt ↦ (
          let there = numbered_there xs (k + 1) (omega arith) (omega (arith, lt)) in
          inl (same, lt, ap (λ m. numbered (set xs m x) n) place ∙ (ap (numbered (set xs (k + 1 - 1) x)) same ∙ numbered_here xs (k + 1) x there.0 there.1)))
      | inr h ↦ (
          let le : length xs ≤ k = omega (arith, h) in
          inr (same, le, numbered_past (set xs k x) n (omega (arith, same, le, length-set xs k x))))
    ]

module _ {T : Type 0} where
  -- operations

  pub operations_same : (operations : List (Operation T)) → AreKeptOperations operations operations
  operations_same operations = record { count = refl; each = λ op. inl refl }

  -- one that runs has not ended
  pub runs_on : (operations : List (Operation T)) (op : ℕ) (o : Operation T) (ask : Ask) → numbered operations op ≡ Some o → asked o.doing ≡ Some ask → HasEnded operations op → ⊥
  runs_on operations op o ask found asks has =
      let same = same_Some has.0 o (sym has.1 ∙ found) in
      let clash : None ≡ Some ask = sym has.2 ∙ (ap (λ (x : Operation T). asked x.doing) same ∙ asks) in
      absurd (cc)

  -- one that runs was not forgotten
  pub running_kept : (old new : List (Operation T)) → AreKeptOperations old new → (op : ℕ) (o : Operation T) (ask : Ask) → numbered new op ≡ Some o → asked o.doing ≡ Some ask → numbered old op ≡ Some o
  running_kept old new kept op o ask found asks = elim (kept.each op) [
    | inl same ↦ sym same ∙ found
    | inr gone ↦ (
        let same = same_Some forgotten o (sym gone.1 ∙ found) in
        let clash : None ≡ Some ask = ap (λ (x : Operation T). asked x.doing) same ∙ asks in
        absurd (cc))
  ]

  set_ended : (operations : List (Operation T)) (k : ℕ) (o : Operation T) (n : ℕ) → n ≢ k + 1 → HasEnded operations n → HasEnded (set operations k o) n
  set_ended operations k o n ne has = elim (set_cases operations k o n) [ inl other ↦ (has.0, other.1 ∙ has.1, has.2) | inr here ↦ elim here [ inl h ↦ absurd (ne h.0) | inr h ↦ absurd (ne h.0) ] ]

  more_ended : (operations : List (Operation T)) (o : Operation T) (n : ℕ) → HasEnded operations n → HasEnded (operations ++ o ∷ []) n
  more_ended operations o n has = (has.0, numbered_kept operations (o ∷ []) n has.0 has.1, has.2)

  -- one that runs does something next
  pub operations_set : (old new : List (Operation T)) → AreKeptOperations old new → (op : ℕ) (o x : Operation T) → numbered new op ≡ Some o → AreKeptOperations (set old (op - 1) x) (set new (op - 1) x)
  operations_set old new kept op o x found = record { count = length-set new (op - 1) x ∙ (kept.count ∙ sym (length-set old (op - 1) x)); each = λ n. by n (set_cases old (op - 1) x n) (set_cases new (op - 1) x n) }
    where
      by : (n : ℕ) → ((n ≢ op - 1 + 1) × (numbered (set old (op - 1) x) n ≡ numbered old n)) ⊎ ((n ≡ op - 1 + 1) × (op - 1 < length old) × (numbered (set old (op - 1) x) n ≡ Some x)) ⊎ ((n ≡ op - 1 + 1) × (length old ≤ op - 1) × (numbered (set old (op - 1) x) n ≡ None)) →
          ((n ≢ op - 1 + 1) × (numbered (set new (op - 1) x) n ≡ numbered new n)) ⊎ ((n ≡ op - 1 + 1) × (op - 1 < length new) × (numbered (set new (op - 1) x) n ≡ Some x)) ⊎ ((n ≡ op - 1 + 1) × (length new ≤ op - 1) × (numbered (set new (op - 1) x) n ≡ None)) →
          (numbered (set new (op - 1) x) n ≡ numbered (set old (op - 1) x) n) ⊎ (HasEnded (set old (op - 1) x) n × (numbered (set new (op - 1) x) n ≡ Some forgotten))
      by n (inl a) (inl b) = elim (kept.each n) [ inl same ↦ inl (b.1 ∙ (same ∙ sym a.1)) | inr gone ↦ inr (set_ended old (op - 1) x n a.0 gone.0, b.1 ∙ gone.1) ]
      by n (inl a) (inr (inl b)) = absurd (a.0 b.0)
      by n (inl a) (inr (inr b)) = absurd (a.0 b.0)
      by n (inr (inl a)) (inl b) = absurd (b.0 a.0)
      by n (inr (inr a)) (inl b) = absurd (b.0 a.0)
      by n (inr (inl a)) (inr (inl b)) = inl (b.2 ∙ sym a.2)
      by n (inr (inl a)) (inr (inr b)) = absurd (omega (arith, a.1, b.1, kept.count))
      by n (inr (inr a)) (inr (inl b)) = absurd (omega (arith, a.1, b.1, kept.count))
      by n (inr (inr a)) (inr (inr b)) = inl (b.2 ∙ sym a.2)

  -- one more
  pub operations_more : (old new : List (Operation T)) → AreKeptOperations old new → (o : Operation T) → AreKeptOperations (old ++ o ∷ []) (new ++ o ∷ [])
  operations_more old new kept o = record { count = length-append new (o ∷ []) ∙ (ap (λ n. n + 1) kept.count ∙ sym (length-append old (o ∷ []))); each = λ n. by n (more_cases old o n) (more_cases new o n) }
    where
      by : (n : ℕ) → ((n ≢ length old + 1) × (numbered (old ++ o ∷ []) n ≡ numbered old n)) ⊎ ((n ≡ length old + 1) × (numbered (old ++ o ∷ []) n ≡ Some o)) → ((n ≢ length new + 1) × (numbered (new ++ o ∷ []) n ≡ numbered new n)) ⊎ ((n ≡ length new + 1) × (numbered (new ++ o ∷ []) n ≡ Some o)) →
          (numbered (new ++ o ∷ []) n ≡ numbered (old ++ o ∷ []) n) ⊎ (HasEnded (old ++ o ∷ []) n × (numbered (new ++ o ∷ []) n ≡ Some forgotten))
      by n (inl a) (inl b) = elim (kept.each n) [ inl same ↦ inl (b.1 ∙ (same ∙ sym a.1)) | inr gone ↦ inr (more_ended old o n gone.0, b.1 ∙ gone.1) ]
      by n (inr a) (inr b) = inl (b.1 ∙ sym a.1)
      by n (inl a) (inr b) = absurd (a.0 (b.0 ∙ ap (λ m. m + 1) kept.count))
      by n (inr a) (inl b) = absurd (b.0 (a.0 ∙ ap (λ m. m + 1) (sym kept.count)))

  ended_stays : (client : ℕ) (o : Operation T) → asked o.doing ≡ None → asked (ended_by client o).doing ≡ None
  ended_stays client o e = by (o.client == client)
    where
      by : (b : Bool) → asked (cond b (doing_next o forgotten.doing) o).doing ≡ None
      by true = refl
      by false = e

  pub forgotten_stays : (client : ℕ) → ended_by client (forgotten {T = T}) ≡ forgotten
  forgotten_stays client = by (0 == client)
    where
      by : (b : Bool) → cond b (doing_next forgotten forgotten.doing) forgotten ≡ forgotten {T = T}
      by true = refl
      by false = refl

  all_ended : (client : ℕ) (operations : List (Operation T)) (n : ℕ) → HasEnded operations n → HasEnded (map (ended_by client) operations) n
  all_ended client operations n has = (ended_by client has.0, numbered_of_map (ended_by client) operations n has.0 has.1, ended_stays client has.0 has.2)

  -- those of a client end
  pub operations_ended : (client : ℕ) (old new : List (Operation T)) → AreKeptOperations old new → AreKeptOperations (map (ended_by client) old) (map (ended_by client) new)
  operations_ended client old new kept = record {
    count = length-map new (ended_by client) ∙ (kept.count ∙ sym (length-map old (ended_by client)));
    each = λ n. elim (kept.each n) [
      | inl same ↦ inl (numbered_mapped (ended_by client) new n ∙ (ap (option_map (ended_by client)) same ∙ sym (numbered_mapped (ended_by client) old n)))
      | inr gone ↦ inr (all_ended client old n gone.0, numbered_mapped (ended_by client) new n ∙ (ap (option_map (ended_by client)) gone.1 ∙ ap Some (forgotten_stays client)))
    ];
  }

  -- what they write

  pub writes_same : (operations : List (Operation T)) (writes : List (Option ℕ)) → AreKeptWrites operations writes writes
  writes_same operations writes = record { count = refl; each = λ op. inl refl }

  pub writes_running : (operations : List (Operation T)) (old new : List (Option ℕ)) → AreKeptWrites operations old new → (op : ℕ) (o : Operation T) (ask : Ask) → numbered operations op ≡ Some o → asked o.doing ≡ Some ask → written_in (numbered new op) ≡ written_in (numbered old op)
  writes_running operations old new kept op o ask found asks = elim (kept.each op) [ inl same ↦ same | inr has ↦ absurd (runs_on operations op o ask found asks has) ]

  pub writes_set : (operations : List (Operation T)) (old new : List (Option ℕ)) → AreKeptWrites operations old new → (op : ℕ) (o x : Operation T) (ask : Ask) → numbered operations op ≡ Some o → asked o.doing ≡ Some ask → AreKeptWrites (set operations (op - 1) x) old new
  writes_set operations old new kept op o x ask found asks = record { count = kept.count; each = λ n. elim (kept.each n) [ inl same ↦ inl same | inr has ↦ by n has (cases_eq n (op - 1 + 1)) ] }
    where
      here : op ≡ op - 1 + 1
      here = let place = within operations op o found in omega (arith, place.0)

      by : (n : ℕ) → HasEnded operations n → (n ≡ op - 1 + 1) ⊎ (n ≢ op - 1 + 1) → (written_in (numbered new n) ≡ written_in (numbered old n)) ⊎ HasEnded (set operations (op - 1) x) n
      by n has (inl same) = absurd (runs_on operations op o ask found asks (subst (HasEnded operations) (same ∙ sym here) has))
      by n has (inr ne) = inr (set_ended operations (op - 1) x n ne has)

  pub writes_more : (operations : List (Operation T)) (old new : List (Option ℕ)) → AreKeptWrites operations old new → (o : Operation T) (w : Option ℕ) → AreKeptWrites (operations ++ o ∷ []) (old ++ w ∷ []) (new ++ w ∷ [])
  writes_more operations old new kept o w = record { count = length-append new (w ∷ []) ∙ (ap (λ n. n + 1) kept.count ∙ sym (length-append old (w ∷ []))); each = λ n. by n (more_cases old w n) (more_cases new w n) }
    where
      by : (n : ℕ) → ((n ≢ length old + 1) × (numbered (old ++ w ∷ []) n ≡ numbered old n)) ⊎ ((n ≡ length old + 1) × (numbered (old ++ w ∷ []) n ≡ Some w)) → ((n ≢ length new + 1) × (numbered (new ++ w ∷ []) n ≡ numbered new n)) ⊎ ((n ≡ length new + 1) × (numbered (new ++ w ∷ []) n ≡ Some w)) →
          (written_in (numbered (new ++ w ∷ []) n) ≡ written_in (numbered (old ++ w ∷ []) n)) ⊎ HasEnded (operations ++ o ∷ []) n
      by n (inl a) (inl b) = elim (kept.each n) [ inl same ↦ inl (ap written_in b.1 ∙ (same ∙ ap written_in (sym a.1))) | inr has ↦ inr (more_ended operations o n has) ]
      by n (inr a) (inr b) = inl (ap written_in (b.1 ∙ sym a.1))
      by n (inl a) (inr b) = absurd (a.0 (b.0 ∙ ap (λ m. m + 1) kept.count))
      by n (inr a) (inl b) = absurd (b.0 (a.0 ∙ ap (λ m. m + 1) (sym kept.count)))

  pub writes_ended : (client : ℕ) (operations : List (Operation T)) (old new : List (Option ℕ)) → AreKeptWrites operations old new → AreKeptWrites (map (ended_by client) operations) old new
  writes_ended client operations old new kept = record { count = kept.count; each = λ n. elim (kept.each n) [ inl same ↦ inl same | inr has ↦ inr (all_ended client operations n has) ] }

  -- views

  pub views_same : (views : List (Option (Used T))) → AreKeptViews views views
  views_same views = record { count = refl; each = λ n. inl refl }

  -- what is put into a place of both
  pub views_put : (old new : List (Option (Used T))) → AreKeptViews old new → (k : ℕ) (u u' : Option (Used T)) → (u' ≡ u) ⊎ (u' ≡ None) → AreKeptViews (set old k u) (set new k u')
  views_put old new kept k u u' is = record { count = length-set new k u' ∙ (kept.count ∙ sym (length-set old k u)); each = λ n. by n (set_cases old k u n) (set_cases new k u' n) }
    where
      by : (n : ℕ) → ((n ≢ k + 1) × (numbered (set old k u) n ≡ numbered old n)) ⊎ ((n ≡ k + 1) × (k < length old) × (numbered (set old k u) n ≡ Some u)) ⊎ ((n ≡ k + 1) × (length old ≤ k) × (numbered (set old k u) n ≡ None)) →
          ((n ≢ k + 1) × (numbered (set new k u') n ≡ numbered new n)) ⊎ ((n ≡ k + 1) × (k < length new) × (numbered (set new k u') n ≡ Some u')) ⊎ ((n ≡ k + 1) × (length new ≤ k) × (numbered (set new k u') n ≡ None)) →
          (used_in (numbered (set new k u') n) ≡ used_in (numbered (set old k u) n)) ⊎ (used_in (numbered (set new k u') n) ≡ None)
      by n (inl a) (inl b) = elim (kept.each n) [ inl same ↦ inl (ap used_in b.1 ∙ (same ∙ ap used_in (sym a.1))) | inr gone ↦ inr (ap used_in b.1 ∙ gone) ]
      by n (inl a) (inr (inl b)) = absurd (a.0 b.0)
      by n (inl a) (inr (inr b)) = absurd (a.0 b.0)
      by n (inr (inl a)) (inl b) = absurd (b.0 a.0)
      by n (inr (inr a)) (inl b) = absurd (b.0 a.0)
      by n (inr (inl a)) (inr (inl b)) = elim is [ inl same ↦ inl (ap used_in b.2 ∙ (same ∙ ap used_in (sym a.2))) | inr gone ↦ inr (ap used_in b.2 ∙ gone) ]
      by n (inr (inl a)) (inr (inr b)) = absurd (omega (arith, a.1, b.1, kept.count))
      by n (inr (inr a)) (inr (inl b)) = absurd (omega (arith, a.1, b.1, kept.count))
      by n (inr (inr a)) (inr (inr b)) = inr (ap used_in b.2)

  pub views_change : (old new : List (Option (Used T))) → AreKeptViews old new → (view : Option ℕ) (change : Change T) → AreKeptViews (views_changed old view change) (views_changed new view change)
  views_change old new kept None change = kept
  views_change old new kept (Some number) change = views_put old new kept (number - 1) (changed (used_by old (Some number)) change) (changed (used_by new (Some number)) change) (elim (kept.each number) [ inl same ↦ inl (ap (λ u. changed u change) same) | inr gone ↦ inr (ap (λ u. changed u change) gone) ])

  pub views_take : (old new : List (Option (Used T))) → AreKeptViews old new → (view : Option ℕ) (op : ℕ) → AreKeptViews (views_taken old view op) (views_taken new view op)
  views_take old new kept None op = kept
  views_take old new kept (Some number) op = views_put old new kept (number - 1) (option_map (with_busy (Some op)) (used_by old (Some number))) (option_map (with_busy (Some op)) (used_by new (Some number))) (elim (kept.each number) [ inl same ↦ inl (ap (option_map (with_busy (Some op))) same) | inr gone ↦ inr (ap (option_map (with_busy (Some op))) gone) ])

  views_more : (old new : List (Option (Used T))) → AreKeptViews old new → (u : Option (Used T)) → AreKeptViews (old ++ u ∷ []) (new ++ u ∷ [])
  views_more old new kept u = record { count = length-append new (u ∷ []) ∙ (ap (λ n. n + 1) kept.count ∙ sym (length-append old (u ∷ []))); each = λ n. by n (more_cases old u n) (more_cases new u n) }
    where
      by : (n : ℕ) → ((n ≢ length old + 1) × (numbered (old ++ u ∷ []) n ≡ numbered old n)) ⊎ ((n ≡ length old + 1) × (numbered (old ++ u ∷ []) n ≡ Some u)) → ((n ≢ length new + 1) × (numbered (new ++ u ∷ []) n ≡ numbered new n)) ⊎ ((n ≡ length new + 1) × (numbered (new ++ u ∷ []) n ≡ Some u)) →
          (used_in (numbered (new ++ u ∷ []) n) ≡ used_in (numbered (old ++ u ∷ []) n)) ⊎ (used_in (numbered (new ++ u ∷ []) n) ≡ None)
      by n (inl a) (inl b) = elim (kept.each n) [ inl same ↦ inl (ap used_in b.1 ∙ (same ∙ ap used_in (sym a.1))) | inr gone ↦ inr (ap used_in b.1 ∙ gone) ]
      by n (inr a) (inr b) = inl (ap used_in (b.1 ∙ sym a.1))
      by n (inl a) (inr b) = absurd (a.0 (b.0 ∙ ap (λ m. m + 1) kept.count))
      by n (inr a) (inl b) = absurd (b.0 (a.0 ∙ ap (λ m. m + 1) (sym kept.count)))

  views_none : (old new : List (Option (Used T))) → AreKeptViews old new → AreKeptViews (old ++ []) (new ++ [])
  views_none old new kept = subst (λ (vs : List (Option (Used T))). AreKeptViews vs (new ++ [])) (sym (append-nil old)) (subst (λ (vs : List (Option (Used T))). AreKeptViews old vs) (sym (append-nil new)) kept)

  views_made : (old new : List (Option (Used T))) → AreKeptViews old new → (client : ℕ) (ending : Ending T) → AreKeptViews (old ++ made_by client ending) (new ++ made_by client ending)
  views_made old new kept client (endings.Answers answer) = views_none old new kept
  views_made old new kept client (endings.Comes (outcomes.Viewed id value)) = views_more old new kept _
  views_made old new kept client (endings.Comes (outcomes.Held id value epoch)) = views_none old new kept
  views_made old new kept client (endings.Comes (outcomes.Shut id value error)) = views_none old new kept

  pub views_ended : (old new : List (Option (Used T))) → AreKeptViews old new → (client : ℕ) (view : Option ℕ) (claims : Bool) (ending : Option (Ending T)) → AreKeptViews (views_after old client view claims ending) (views_after new client view claims ending)
  views_ended old new kept client view claims None = kept
  views_ended old new kept client None claims (Some ending) = views_made old new kept client ending
  views_ended old new kept client (Some number) claims (Some ending) = views_change old new kept (Some number) (change_of claims ending)

  used_without : (client : ℕ) (views : List (Option (Used T))) (n : ℕ) → used_in (numbered (map (view_without client) views) n) ≡ view_without client (used_in (numbered views n))
  used_without client views n = ap used_in (numbered_mapped (view_without client) views n) ∙ by (numbered views n)
    where
      by : (found : Option (Option (Used T))) → used_in (option_map (view_without client) found) ≡ view_without client (used_in found)
      by None = refl
      by (Some used) = refl

  pub views_gone : (client : ℕ) (old new : List (Option (Used T))) → AreKeptViews old new → AreKeptViews (map (view_without client) old) (map (view_without client) new)
  views_gone client old new kept = record {
    count = length-map new (view_without client) ∙ (kept.count ∙ sym (length-map old (view_without client)));
    each = λ n. elim (kept.each n) [
      | inl same ↦ inl (used_without client new n ∙ (ap (view_without client) same ∙ sym (used_without client old n)))
      | inr gone ↦ inr (used_without client new n ∙ ap (view_without client) gone)
    ];
  }

-- what was told

pub notes_same : (told : List (ℕ × ℕ)) → AreKeptNotes told told
notes_same told = record { known = λ id h. (h, refl); none = refl; greatest = λ to. refl }

notes_one : (old new : List (ℕ × ℕ)) → AreKeptNotes old new → (note : ℕ × ℕ) → AreKeptNotes (note ∷ old) (note ∷ new)
notes_one old new kept note = record {
  known = λ id h. by id (note.0 == id) (sym (eq_turned note.0 id)) h;
  none = ap (λ epoch. cond (note.0 == 0) note.1 epoch) kept.none;
  greatest = λ to. ap (λ b. nat_lt to note.0 || b) (kept.greatest to);
}
  where
    by : (id : ℕ) (b : Bool) → nat_eq id note.0 ≡ b → (nat_eq id note.0 || knows_base new (Some id)) ≡ true → ((nat_eq id note.0 || knows_base old (Some id)) ≡ true) × (cond b note.1 (epoch_told new id) ≡ cond b note.1 (epoch_told old id))
    by id true e h = (rw e refl, refl)
    by id false e h = let so = kept.known id (sym (ap (λ b. b || knows_base new (Some id)) e) ∙ h) in (ap (λ b. b || knows_base old (Some id)) e ∙ so.0, so.1)

pub notes_more : (notes old new : List (ℕ × ℕ)) → AreKeptNotes old new → AreKeptNotes (notes ++ old) (notes ++ new)
notes_more [] old new kept = kept
notes_more (note ∷ notes) old new kept = notes_one (notes ++ old) (notes ++ new) (notes_more notes old new kept) note
