-- The views of a table, and whose they are.
use Rattle.std.proofs.Common.{◌≡◌, ◌≢◌, ℕ, zero, suc, ◌+◌, ◌-◌, ◌≤◌, ◌==◌, ◌&&◌, ◌||◌, nat_eq, List, [], ◌∷◌, ◌++◌, length, map, set, slice_get, not, Bool, true, false, cond, is_some, Option, Some, None, inl, inr, refl, sym, ◌∙◌, ap, subst, arith}
use Rattle.std.proofs.lemmas.List.{append-nil}
use Rattle.std.proofs.lemmas.Bool.{eq-eqb, ne_eqb, eqb-true, both_ways}
use Rattle.std.proofs.lemmas.Option.{same_Some}
use Rattle.std.proofs.Math.Bool.{or-false}
use Rattle.std.specs.Option.{option_map, ForSome}
use Rattle.std.specs.List.{list_any}
use Rattle.std.specs.HashSet.{HashSet}
use Rattle.txn_history.specs.Lists.{numbered}
use Rattle.txn_history.specs.History.{is_id}
use Rattle.txn_history.specs.Seen.{view_in}
use Rattle.txn_machine.specs.views.Layer.{Used, Change, Keeps, Puts, Makes, Closes, changed, with_busy, new_view}
use Rattle.txn_machine.specs.views.Steps.{view_without}
use Rattle.txn_steps_views.specs.declared.outcome.Outcome.TheVariants as outcomes
use Rattle.txn_machine.specs.declared.doing.Ending.{Ending}
use Rattle.txn_machine.specs.declared.doing.Ending.TheVariants as endings
use Rattle.txn_machine.specs.Machine.{seen_view, seen_views, used_in, used_by, with_used, made_by, views_changed, views_taken}
use Rattle.txn_client_journals.specs.tables.Views.{as_made, IsFromOne}
use Rattle.txn_client_journals.proofs.tables.Acting.{numbered_past}
use Rattle.txn_world.specs.Owning.{owns, is_own, stands_for, owner_of, emptied_where}
use Rattle.txn_world.proofs.Running.{owner_there, eq_cases, keeps_other, no_more, numbered_end, numbered_longer, numbered_mapped, same_numbered}

-- what a place holds where this is put into it
abbrev pub put_where : {A : Type 0} → A → Option A → Option A
put_where x None = None
put_where x (Some y) = Some x

get_set_here : {A : Type 0} (xs : List A) (k : ℕ) (x : A) → slice_get (set xs k x) k ≡ put_where x (slice_get xs k)
get_set_here [] k x = refl
get_set_here (z ∷ zs) zero x = refl
get_set_here (z ∷ zs) (suc k) x = get_set_here zs k x

get_set_other : {A : Type 0} (xs : List A) (k m : ℕ) (x : A) → m ≢ k → slice_get (set xs k x) m ≡ slice_get xs m
get_set_other [] k m x ne = refl
get_set_other (z ∷ zs) zero zero x ne = absurd (ne refl)
get_set_other (z ∷ zs) zero (suc m) x ne = refl
get_set_other (z ∷ zs) (suc k) zero x ne = refl
get_set_other (z ∷ zs) (suc k) (suc m) x ne = get_set_other zs k m x (λ e. ne (ap suc e))

-- a place that something is put into
pub numbered_put : {A : Type 0} (xs : List A) (n : ℕ) (x : A) → 1 ≤ n → numbered (set xs (n - 1) x) n ≡ put_where x (numbered xs n)
numbered_put xs zero x some = absurd (omega (arith, some))
numbered_put xs (suc n) x some = let place : suc n - 1 ≡ n = omega arith in ap (λ k. slice_get (set xs k x) n) place ∙ get_set_here xs n x

-- the other places
pub numbered_apart : {A : Type 0} (xs : List A) (n m : ℕ) (x : A) → 1 ≤ n → m ≢ n → numbered (set xs (n - 1) x) m ≡ numbered xs m
numbered_apart xs n zero x some ne = refl
numbered_apart xs n (suc m) x some ne = get_set_other xs (n - 1) m x (λ e. ne (omega (arith, e, some)))

pub from_one : {A : Type 0} (xs : List A) (n : ℕ) → is_some (numbered xs n) ≡ true → 1 ≤ n
from_one xs zero h = cc
from_one xs (suc n) h = omega arith

-- the first of those that are left
pub first_left : (n : ℕ) (left rest : List ℕ) → left ≡ n ∷ rest → list_any (nat_eq n) left ≡ true
first_left n left rest e = ap (list_any (nat_eq n)) e ∙ ap (λ b. b || list_any (nat_eq n) rest) (eq-eqb n n refl)

-- and the others
pub rest_left : (n number : ℕ) (left rest : List ℕ) → left ≡ number ∷ rest → list_any (nat_eq n) rest ≡ true → list_any (nat_eq n) left ≡ true
rest_left n number left rest e h = ap (list_any (nat_eq n)) e ∙ (ap (λ b. nat_eq n number || b) h ∙ or_true (nat_eq n number))
  where
    or_true : (b : Bool) → (b || true) ≡ true
    or_true true = refl
    or_true false = refl

-- truth tables

lost : (b e : Bool) → e ≡ true → (b && not (e && (b && true))) ≡ false
lost true true h = refl
lost true false h = cc
lost false e h = refl

stays : (b d e : Bool) → e ≡ false → (b && not (e && d)) ≡ b
stays true d false h = refl
stays true d true h = cc
stays false d e h = refl

cut : (b d e : Bool) → (b ≡ true → e ≡ d) → (d ≡ true → e ≡ b) → (e && not d) ≡ cond b false e
cut true true true h g = refl
cut true true false h g = refl
cut true false true h g = let clash : true ≡ false = h refl in cc
cut true false false h g = refl
cut false true true h g = let clash : true ≡ false = g refl in cc
cut false true false h g = refl
cut false false true h g = refl
cut false false false h g = refl

module _ {T : Type 0} where
  -- a view keeps its client, or ends
  abbrev pub KeepsOwner : Option (Used T) → Option (Used T) → Type 0
  KeepsOwner old None = Unit {0}
  KeepsOwner None (Some new) = ⊥
  KeepsOwner (Some old) (Some new) = new.view.client ≡ old.view.client

  -- as every change does

  pub changed_keeps : (used : Option (Used T)) (change : Change T) → KeepsOwner used (changed used change)
  changed_keeps None change = tt
  changed_keeps (Some used) Keeps = refl
  changed_keeps (Some used) (Puts id value) = refl
  changed_keeps (Some used) (Makes id value epoch) = refl
  changed_keeps (Some used) Closes = tt

  -- and the use of an operation

  taken_keeps : (op : ℕ) (used : Option (Used T)) → KeepsOwner used (option_map (with_busy (Some op)) used)
  taken_keeps op None = tt
  taken_keeps op (Some used) = refl

  -- the view of a number after a change of it
  changed_there : (views : List (Option (Used T))) (number : ℕ) (change : Change T) → 1 ≤ number → used_by (views_changed views (Some number) change) (Some number) ≡ changed (used_by views (Some number)) change
  changed_there views number change some = ap used_in (numbered_put views number (changed (used_by views (Some number)) change) some) ∙ by (numbered views number)
    where
      by : (found : Option (Option (Used T))) → used_in (put_where (changed (used_in found) change) found) ≡ changed (used_in found) change
      by None = refl
      by (Some used) = refl

  -- the view that an ending makes, which is its client's
  one_made : (client : ℕ) (ending : Ending T) → (made : Option (Used T)) × (made_by client ending ≡ as_made made) × ForSome made (λ used. used.view.client ≡ client)
  one_made client (endings.Answers answer) = (None, refl, λ used h. cc)
  one_made client (endings.Comes (outcomes.Viewed id value)) = (Some (new_view client id value), refl, λ used h. ap (λ (u : Used T). u.view.client) (sym (same_Some (new_view client id value) used h)))
  one_made client (endings.Comes (outcomes.Held id value epoch)) = (None, refl, λ used h. cc)
  one_made client (endings.Comes (outcomes.Shut id value error)) = (None, refl, λ used h. cc)

  -- it stands where it was added
  made_stands : (views : List (Option (Used T))) (made : Option (Used T)) → used_by (views ++ as_made made) (Some (length views + 1)) ≡ made
  made_stands views None = ap (λ (vs : List (Option (Used T))). used_by vs (Some (length views + 1))) (append-nil views) ∙ ap used_in (numbered_past views (length views + 1) (omega arith))
  made_stands views (Some used) = ap used_in (numbered_end views (Some used))

  -- places that are emptied, one and then others

  emptied_twice : (a b : Bool) (found : Option (Option (Used T))) → emptied_where b (emptied_where a found) ≡ emptied_where (a || b) found
  emptied_twice a b None = refl
  emptied_twice true true (Some used) = refl
  emptied_twice true false (Some used) = refl
  emptied_twice false true (Some used) = refl
  emptied_twice false false (Some used) = refl

  emptied_put : (views : List (Option (Used T))) (number n : ℕ) → 1 ≤ number → numbered (set views (number - 1) None) n ≡ emptied_where (nat_eq n number) (numbered views n)
  emptied_put views number n some =
      elim (eq_cases n number) [
        | inl same ↦
            subst (λ (m : ℕ). numbered (set views (number - 1) None) m ≡ emptied_where (nat_eq m number) (numbered views m)) (sym same)
            (numbered_put views number None some ∙ (here (numbered views number) ∙ ap (λ b. emptied_where b (numbered views number)) (sym (eq-eqb number number refl))))
        | inr ne ↦ numbered_apart views number n None some ne ∙ (there (numbered views n) ∙ ap (λ b. emptied_where b (numbered views n)) (sym (ne_eqb n number ne)))
      ]
    where
      here : (found : Option (Option (Used T))) → put_where None found ≡ emptied_where true found
      here None = refl
      here (Some used) = refl

      there : (found : Option (Option (Used T))) → found ≡ emptied_where false found
      there None = refl
      there (Some used) = refl

  -- one more place is emptied
  pub emptied_more : (views after : List (Option (Used T))) (number n : ℕ) (left rest : List ℕ) → 1 ≤ number → left ≡ number ∷ rest → after ≡ with_used views (Some number) None → emptied_where (list_any (nat_eq n) rest) (numbered after n) ≡ emptied_where (list_any (nat_eq n) left) (numbered views n)
  emptied_more views after number n left rest some e is =
      ap (λ (vs : List (Option (Used T))). emptied_where (list_any (nat_eq n) rest) (numbered vs n)) is ∙ (ap (emptied_where (list_any (nat_eq n) rest)) (emptied_put views number n some)
      ∙ (emptied_twice (nat_eq n number) (list_any (nat_eq n) rest) (numbered views n) ∙ ap (λ (ns : List ℕ). emptied_where (list_any (nat_eq n) ns) (numbered views n)) (sym e)))

  -- the view of a number, as it is seen
  pub seen_at : (views : List (Option (Used T))) (number : ℕ) → view_in (numbered (seen_views views) number) ≡ seen_view (used_by views (Some number))
  seen_at views number = ap view_in (numbered_mapped seen_view views number) ∙ by (numbered views number)
    where
      by : (found : Option (Option (Used T))) → view_in (option_map seen_view found) ≡ seen_view (used_in found)
      by None = refl
      by (Some used) = refl

module _ {S T : Type 0} where
  -- the sets of those that stand
  abbrev pub AreOwned : List (HashSet ℕ S) → List (Option (Used T)) → Type 0
  AreOwned owned views = (client number : ℕ) → owns owned client number ≡ stands_for views client number

  owned_here : (owned new : List (HashSet ℕ S)) (views : List (Option (Used T))) (number c : ℕ) (put : Option (Used T)) (ends : Bool) → AreOwned owned views → KeepsOwner (used_by views (Some number)) put → is_some put ≡ not ends →
      owns new c number ≡ (owns owned c number && not (ends && (is_id c (owner_of (used_by views (Some number))) && (number == number)))) → owns new c number ≡ is_own c (put_where put (numbered views number))
  owned_here owned new views number c put ends all keeps is left =
      left ∙ (ap (λ b. b && not (ends && (is_id c (owner_of (used_by views (Some number))) && (number == number)))) (all c number) ∙ by (numbered views number) put keeps is)
    where
      itself : (number == number) ≡ true
      itself = eq-eqb number number refl

      by : (found : Option (Option (Used T))) (put : Option (Used T)) → KeepsOwner (used_in found) put → is_some put ≡ not ends → (is_own c found && not (ends && (is_id c (owner_of (used_in found)) && (number == number)))) ≡ is_own c (put_where put found)
      by None put k e = refl
      by (Some None) None k e = refl
      by (Some None) (Some new) k e = absurd k
      by (Some (Some used)) None k e = ap (λ b. (used.view.client == c) && not (ends && ((used.view.client == c) && b))) itself ∙ lost (used.view.client == c) ends (none_ends ends e)
        where
          none_ends : (b : Bool) → false ≡ not b → b ≡ true
          none_ends true h = refl
          none_ends false h = cc
      by (Some (Some used)) (Some new) k e = stays (used.view.client == c) ((used.view.client == c) && (number == number)) ends (some_stays ends e) ∙ ap (λ m. m == c) (sym k)
        where
          some_stays : (b : Bool) → true ≡ not b → b ≡ false
          some_stays true h = cc
          some_stays false h = refl

  -- one view is changed
  pub owned_changed : (owned new : List (HashSet ℕ S)) (views after : List (Option (Used T))) (number : ℕ) (owner : Option ℕ) (put : Option (Used T)) (ends : Bool) → AreOwned owned views → 1 ≤ number → owner ≡ owner_of (used_by views (Some number)) →
      after ≡ with_used views (Some number) put → KeepsOwner (used_by views (Some number)) put → is_some put ≡ not ends →
      ((c n : ℕ) → owns new c n ≡ (owns owned c n && not (ends && (is_id c owner && (number == n))))) → AreOwned new after
  owned_changed owned new views after number owner put ends all some who is keeps ended left c n =
      elim (eq_cases n number) [
        | inl same ↦
            subst (λ (m : ℕ). owns new c m ≡ stands_for after c m) (sym same)
            (owned_here owned new views number c put ends all keeps ended (left c number ∙ ap (λ o. owns owned c number && not (ends && (is_id c o && (number == number)))) who)
            ∙ sym (ap (is_own c) (ap (λ (vs : List (Option (Used T))). numbered vs number) is ∙ numbered_put views number put some)))
        | inr ne ↦
            left c n ∙ (ap (λ b. owns owned c n && not (ends && (is_id c owner && b))) (ne_eqb number n (λ e. ne (sym e))) ∙ (keeps_other (owns owned c n) (is_id c owner) ends ∙ (all c n
            ∙ sym (ap (is_own c) (ap (λ (vs : List (Option (Used T))). numbered vs n) is ∙ numbered_apart views number n put some ne)))))
      ]

  -- the client of a view that stands is there
  pub owners_there : (owned : List (HashSet ℕ S)) (views : List (Option (Used T))) (number : ℕ) (owner : Option ℕ) → AreOwned owned views → owner ≡ owner_of (used_by views (Some number)) → ForSome owner (λ client. (1 ≤ client) × (client ≤ length owned))
  owners_there owned views number owner all who = subst (λ (o : Option ℕ). ForSome o (λ client. (1 ≤ client) × (client ≤ length owned))) (sym who) (by (numbered views number) refl)
    where
      by : (found : Option (Option (Used T))) → numbered views number ≡ found → ForSome (owner_of (used_in found)) (λ client. (1 ≤ client) × (client ≤ length owned))
      by None e = λ client h. cc
      by (Some None) e = λ client h. cc
      by (Some (Some used)) e = λ client h.
          let same : used.view.client ≡ client = same_Some used.view.client client h in
          subst (λ (m : ℕ). (1 ≤ m) × (m ≤ length owned)) same (owner_there owned used.view.client number (all used.view.client number ∙ (ap (is_own used.view.client) e ∙ eq-eqb used.view.client used.view.client refl)))

  owned_longer : (owned new : List (HashSet ℕ S)) (views : List (Option (Used T))) (client number : ℕ) (used : Used T) → AreOwned owned views → number ≡ length views + 1 → used.view.client ≡ client →
      ((c n : ℕ) → owns new c n ≡ (owns owned c n || (true && ((client == c) && (number == n))))) → AreOwned new (views ++ Some used ∷ [])
  owned_longer owned new views client number used all next of entered c n =
      elim (eq_cases n number) [
        | inl same ↦
            let none : owns owned c n ≡ false = all c n ∙ ap (is_own c) (numbered_past views n (omega (arith, same, next))) in
            entered c n ∙ (ap (λ b. b || (true && ((client == c) && (number == n)))) none ∙ (ap (λ b. (client == c) && b) (eq-eqb number n (sym same)) ∙ (and_true_same (client == c) ∙ (ap (λ m. m == c) (sym of)
            ∙ sym (ap (is_own c) (ap (numbered (views ++ Some used ∷ [])) (same ∙ next) ∙ numbered_end views (Some used)))))))
        | inr ne ↦
            entered c n ∙ (ap (λ b. owns owned c n || (true && ((client == c) && b))) (ne_eqb number n (λ e. ne (sym e))) ∙ (no_more (owns owned c n) (client == c) true ∙ (all c n
            ∙ sym (ap (is_own c) (numbered_longer views (Some used) n (λ e. ne (e ∙ sym next)))))))
      ]
    where
      and_true_same : (b : Bool) → (b && true) ≡ b
      and_true_same true = refl
      and_true_same false = refl

  -- one view more, where one is made
  pub owned_more : (owned new : List (HashSet ℕ S)) (views after : List (Option (Used T))) (client number : ℕ) (made : Option (Used T)) → AreOwned owned views → number ≡ length views + 1 → ForSome made (λ used. used.view.client ≡ client) → after ≡ views ++ as_made made →
      ((c n : ℕ) → owns new c n ≡ (owns owned c n || (is_some made && ((client == c) && (number == n))))) → AreOwned new after
  owned_more owned new views after client number None all next of is entered = λ c n.
      entered c n ∙ (or-false (owns owned c n) ∙ (all c n ∙ ap (λ (vs : List (Option (Used T))). stands_for vs c n) (sym (is ∙ append-nil views))))
  owned_more owned new views after client number (Some used) all next of is entered =
      subst (λ (vs : List (Option (Used T))). AreOwned new vs) (sym is) (owned_longer owned new views client number used all next (of used refl) entered)

  -- one view is changed by an operation that lets it go or has ended
  pub owned_by_change : (owned new : List (HashSet ℕ S)) (views after : List (Option (Used T))) (number : ℕ) (owner : Option ℕ) (change : Change T) (stands : Bool) → AreOwned owned views → 1 ≤ number → owner ≡ owner_of (used_by views (Some number)) → after ≡ views_changed views (Some number) change →
      stands ≡ is_some (used_by after (Some number)) → ((c n : ℕ) → owns new c n ≡ (owns owned c n && not (not stands && (is_id c owner && (number == n))))) → AreOwned new after
  owned_by_change owned new views after number owner change stands all some who is there left =
      let stays : is_some (changed (used_by views (Some number)) change) ≡ stands = sym (there ∙ ap is_some (ap (λ (vs : List (Option (Used T))). used_by vs (Some number)) is ∙ changed_there views number change some)) in
      owned_changed owned new views after number owner (changed (used_by views (Some number)) change) (not stands) all some who is (changed_keeps (used_by views (Some number)) change) (stays ∙ twice stands) left
    where
      twice : (b : Bool) → b ≡ not (not b)
      twice true = refl
      twice false = refl

  -- one view is used
  pub owned_taken : (owned : List (HashSet ℕ S)) (views after : List (Option (Used T))) (view : Option ℕ) (op : ℕ) → AreOwned owned views → IsFromOne view → after ≡ views_taken views view op → AreOwned owned after
  owned_taken owned views after None op all some is = λ c n. all c n ∙ ap (λ (vs : List (Option (Used T))). stands_for vs c n) (sym is)
  owned_taken owned views after (Some number) op all some is =
      let used = used_by views (Some number) in
      owned_changed owned owned views after number (owner_of used) (option_map (with_busy (Some op)) used) (not (is_some used)) all (some number refl) refl is (taken_keeps op used) (stays used) (λ c n. none_left (owns owned c n) c (number == n) used)
    where
      stays : (used : Option (Used T)) → is_some (option_map (with_busy (Some op)) used) ≡ not (not (is_some used))
      stays None = refl
      stays (Some used) = refl

      and_true : (b : Bool) → b ≡ (b && true)
      and_true true = refl
      and_true false = refl

      none_left : (b : Bool) (c : ℕ) (d : Bool) (used : Option (Used T)) → b ≡ (b && not (not (is_some used) && (is_id c (owner_of used) && d)))
      none_left b c d None = and_true b
      none_left b c d (Some used) = and_true b

  -- one view more, where an operation that used none makes one
  pub owned_by_made : (owned new : List (HashSet ℕ S)) (views after : List (Option (Used T))) (client number : ℕ) (ending : Ending T) (made : Bool) → AreOwned owned views → number ≡ length views + 1 → after ≡ views ++ made_by client ending → made ≡ is_some (used_by after (Some number)) →
      ((c n : ℕ) → owns new c n ≡ (owns owned c n || (made && ((client == c) && (number == n))))) → AreOwned new after
  owned_by_made owned new views after client number ending made all next is there entered =
      let one = one_made client ending in
      let added : after ≡ views ++ as_made one.0 = is ∙ ap (λ (vs : List (Option (Used T))). views ++ vs) one.1 in
      let stands : made ≡ is_some one.0 = there ∙ ap is_some (ap (λ (vs : List (Option (Used T))). used_by vs (Some number)) added ∙ (ap (λ (n : ℕ). used_by (views ++ as_made one.0) (Some n)) next ∙ made_stands views one.0)) in
      owned_more owned new views after client number one.0 all next one.2 added (λ c n. entered c n ∙ ap (λ (b : Bool). owns owned c n || (b && ((client == c) && (number == n)))) stands)

  -- a client's crash

  abbrev pub AreEmptied : List (HashSet ℕ S) → ℕ → List (Option (Used T)) → List (Option (Used T)) → Type 0
  AreEmptied owned client views after = (n : ℕ) → numbered after n ≡ emptied_where (owns owned client n) (numbered views n)

  pub owned_crashed : (owned new : List (HashSet ℕ S)) (views after : List (Option (Used T))) (client : ℕ) → AreOwned owned views → ((c n : ℕ) → owns new c n ≡ (owns owned c n && not (client == c))) → AreEmptied owned client views after → AreOwned new after
  owned_crashed owned new views after client all left ends c n =
      left c n ∙ (ap (λ b. b && not (client == c)) (all c n) ∙ (by (numbered views n) ∙ sym (ap (is_own c) (ends n ∙ ap (λ b. emptied_where b (numbered views n)) (all client n)))))
    where
      by : (found : Option (Option (Used T))) → (is_own c found && not (client == c)) ≡ is_own c (emptied_where (is_own client found) found)
      by None = refl
      by (Some None) = refl
      by (Some (Some used)) =
          cut (used.view.client == client) (client == c) (used.view.client == c) (λ h. ap (λ m. m == c) (eqb-true used.view.client client h)) (λ h. ap (λ m. used.view.client == m) (sym (eqb-true client c h)))
          ∙ one (used.view.client == client)
        where
          one : (b : Bool) → cond b false (used.view.client == c) ≡ is_own c (Some (cond b None (Some used)))
          one true = refl
          one false = refl

  pub crashed_views : (owned : List (HashSet ℕ S)) (views after : List (Option (Used T))) (client : ℕ) → AreOwned owned views → AreEmptied owned client views after → after ≡ map (view_without client) views
  crashed_views owned views after client all ends =
      same_numbered after (map (view_without client) views) (λ n. ends n ∙ (ap (λ b. emptied_where b (numbered views n)) (all client n) ∙ (by (numbered views n) ∙ sym (numbered_mapped (view_without client) views n))))
    where
      by : (found : Option (Option (Used T))) → emptied_where (is_own client found) found ≡ option_map (view_without client) found
      by None = refl
      by (Some None) = refl
      by (Some (Some used)) = refl

  -- those that stand are there
  pub owned_found : (owned : List (HashSet ℕ S)) (views : List (Option (Used T))) (client n : ℕ) → AreOwned owned views → owns owned client n ≡ true → is_some (numbered views n) ≡ true
  owned_found owned views client n all h = by (numbered views n) refl
    where
      by : (found : Option (Option (Used T))) → numbered views n ≡ found → is_some found ≡ true
      by None e = absurd (both_ways (owns owned client n) (all client n ∙ ap (is_own client) e) h)
      by (Some used) e = refl
