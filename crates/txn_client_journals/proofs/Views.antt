-- A client's views among those of a world, by the world's numbers: what steps of its own and of others keep.
use Rattle.std.proofs.Common.{◌≡◌, ◌≢◌, ℕ, ◌+◌, ◌-◌, ◌≤◌, List, [], ◌∷◌, ◌++◌, length, set, nat_lt, Bool, if◌then◌else◌, Option, Some, None, option_map, ◌⊎◌, inl, inr, refl, sym, ◌∙◌, ap, subst, arith}
use Rattle.std.proofs.lemmas.Bool.{cases_Bool, cases_eq, lt-ltb, ltb-true}
use Rattle.std.proofs.lemmas.List.{length-append, length-set, append-nil}
use Rattle.std.proofs.lemmas.Option.{same_Some}
use Rattle.txn_history.specs.Lists.{numbered}
use Rattle.txn_history.proofs.Lists.{numbered_kept, numbered_more}
use Rattle.txn_machine.proofs.plain.Lists.{within, numbered_new, numbered_here, numbered_other, numbered_there}
use Rattle.txn_steps_views.specs.declared.outcome.Outcome.TheVariants as outcomes
use Rattle.txn_history.specs.declared.event.Answer.{Answer}
use Rattle.txn_history.specs.declared.event.Answer.TheVariants as answers
use Rattle.txn_machine.specs.views.Layer.{Used, Change, Keeps, Puts, Makes, Closes, with_busy, changed, new_view}
use Rattle.txn_machine.specs.declared.doing.Operation.{Operation}
use Rattle.txn_machine.specs.declared.doing.Ending.{Ending}
use Rattle.txn_machine.specs.declared.doing.Ending.TheVariants as endings
use Rattle.txn_machine.specs.Machine.{used_in, used_by, views_changed, change_of, made_by, views_after, views_taken, answered}
use Rattle.txn_client_journals.specs.Numbers.{count, number, number_or_next}
use Rattle.txn_client_journals.specs.Merged.{with_view}
use Rattle.txn_client_journals.specs.Traces.{named_answer}
use Rattle.txn_client_journals.proofs.Numbers.{count_own, count_other, number_own, number_old, IsWithin, number_apart, set_apart, known_number, next_number}
use Rattle.txn_client_journals.proofs.Operations.{named_stays, within_more, OpsTied, ops_view}

old_view : (client w : ℕ) (views : List ℕ) → w ≤ count client views → (if nat_lt (count client views) w then client ∷ views else views) ≡ views
old_view client w views le = elim (cases_Bool (nat_lt (count client views) w)) [
  | inl e ↦ absurd (let lt = ltb-true (count client views) w e in omega (arith, lt, le))
  | inr e ↦ rw e refl
]

next_view : (client n : ℕ) (views : List ℕ) → n ≡ count client views → (if nat_lt (count client views) (n + 1) then client ∷ views else views) ≡ client ∷ views
next_view client n views e = rw (lt-ltb (count client views) (n + 1) (omega (arith, e))) refl

module _ {T : Type 0} where
  -- a view by the world's numbers of operations
  abbrev pub named_used : (ℕ → ℕ) → Used T → Used T
  named_used names used = record { view = used.view; busy = option_map names used.busy }

  -- of a view: its client, and that what uses it is an operation of this client
  pub record IsOwn (client : ℕ) (begins : List ℕ) (used : Used T) : Type 0 where
    pub client_is : used.view.client ≡ client
    pub busy : (op : ℕ) → used.busy ≡ Some op → IsWithin op (count client begins)

  abbrev pub OwnIf : ℕ → List ℕ → Option (Used T) → Type 0
  OwnIf client begins None = Unit {0}
  OwnIf client begins (Some used) = IsOwn client begins used

  pub record ViewsTied (all own : List (Option (Used T))) (client : ℕ) (begins views : List ℕ) : Type 0 where
    pub size : length own ≡ count client views
    pub each : (w : ℕ) (u : Option (Used T)) → numbered own w ≡ Some u → numbered all (number views client w) ≡ Some (option_map (named_used (number begins client)) u)
    pub owned : (w : ℕ) (u : Option (Used T)) → numbered own w ≡ Some u → OwnIf client begins u

  pub view_within : (all own : List (Option (Used T))) (client : ℕ) (begins views : List ℕ) → ViewsTied all own client begins views → (w : ℕ) (u : Option (Used T)) → numbered own w ≡ Some u → IsWithin w (count client views)
  view_within all own client begins views t w u e = let i = within own w u e in record { above = omega (arith, i.0); below = omega (arith, i.1, t.size) }

  set_cases : (xs : List (Option (Used T))) (n m : ℕ) (x was y : Option (Used T)) → numbered xs n ≡ Some was → numbered (set xs (n - 1) x) m ≡ Some y → ((m ≡ n) × (x ≡ y)) ⊎ ((m ≢ n) × (numbered xs m ≡ Some y))
  set_cases xs n m x was y e is =
      elim (cases_eq m n) [
        | inl same ↦ inl (same, same_Some x y (sym (subst (λ (j : ℕ). numbered (set xs (n - 1) x) j ≡ Some x) (sym same) (numbered_here xs n x was e)) ∙ is))
        | inr ne ↦ inr (ne, sym (numbered_other xs n m x (within xs n was e).0 ne) ∙ is)
      ]

  -- a view becomes another

  pub views_own : (all own : List (Option (Used T))) (client : ℕ) (begins views : List ℕ) (w : ℕ) (was new : Option (Used T)) → numbered own w ≡ Some was → OwnIf client begins new → ViewsTied all own client begins views →
      ViewsTied (set all (number views client w - 1) (option_map (named_used (number begins client)) new)) (set own (w - 1) new) client begins views
  views_own all own client begins views w was new e is_own t =
      let n = number views client w in
      let named : Option (Used T) = option_map (named_used (number begins client)) new in
      let named_was : Option (Used T) = option_map (named_used (number begins client)) was in
      let there = t.each w was e in
      let some = view_within all own client begins views t w was e in
      record {
        size = length-set own (w - 1) new ∙ t.size;
        each = λ v u is. elim (set_cases own w v new was u e is) [
          | inl h ↦ subst (λ (i : ℕ). numbered (set all (n - 1) named) (number views client i) ≡ Some (option_map (named_used (number begins client)) u)) (sym h.0)
              (numbered_here all n named named_was there ∙ ap (λ (y : Option (Used T)). Some (option_map (named_used (number begins client)) y)) h.1)
          | inr h ↦ (
              let in_own = view_within all own client begins views t v u h.1 in
              numbered_other all n (number views client v) named (within all n named_was there).0
              (λ same. h.0 (number_apart client v client w views in_own.above in_own.below some.above some.below same).1) ∙ t.each v u h.1)
        ];
        owned = λ v u is. elim (set_cases own w v new was u e is) [ inl h ↦ subst (λ (y : Option (Used T)). OwnIf client begins y) h.1 is_own | inr h ↦ t.owned v u h.1 ];
      }

  pub views_other : (all own : List (Option (Used T))) (client d w : ℕ) (begins views : List ℕ) (was x : Option (Used T)) → numbered all (number views client w) ≡ Some was → IsWithin w (count client views) → client ≢ d → ViewsTied all own d begins views →
      ViewsTied (set all (number views client w - 1) x) own d begins views
  views_other all own client d w begins views was x there some ne t =
      record { size = t.size; each = λ v u is. set_apart all client d w v views was x there some (view_within all own d begins views t v u is) ne ∙ t.each v u is; owned = t.owned }

  -- a view more

  pub views_made : (all own : List (Option (Used T))) (client : ℕ) (begins views : List ℕ) (new : Option (Used T)) → length all ≡ length views → OwnIf client begins new → ViewsTied all own client begins views →
      ViewsTied (all ++ option_map (named_used (number begins client)) new ∷ []) (own ++ new ∷ []) client begins (client ∷ views)
  views_made all own client begins views new long is_own t =
      let named : Option (Used T) = option_map (named_used (number begins client)) new in
      record {
        size = (let one = count_own client views in let len = length-append own (new ∷ []) in omega (arith, one, len, t.size));
        each = λ w u is. elim (numbered_more own new w u is) [
          | inl old ↦ (
              let i = view_within all own client begins views t w u old in
              subst (λ (j : ℕ). numbered (all ++ named ∷ []) j ≡ Some (option_map (named_used (number begins client)) u)) (sym (number_old client client w views i.below))
              (numbered_kept all (named ∷ []) (number views client w) (option_map (named_used (number begins client)) u) (t.each w u old)))
          | inr now ↦ (
              let at : w ≡ count client views + 1 = now.0 ∙ ap (λ n. n + 1) t.size in
              let place : number (client ∷ views) client w ≡ length all + 1 = ap (number (client ∷ views) client) at ∙ (number_own client views ∙ ap (λ n. n + 1) (sym long)) in
              subst (λ (j : ℕ). numbered (all ++ named ∷ []) j ≡ Some (option_map (named_used (number begins client)) u)) (sym place)
              (numbered_new all named ∙ ap (λ (y : Option (Used T)). Some (option_map (named_used (number begins client)) y)) now.1))
        ];
        owned = λ w u is. elim (numbered_more own new w u is) [ inl old ↦ t.owned w u old | inr now ↦ subst (λ (y : Option (Used T)). OwnIf client begins y) now.1 is_own ];
      }

  pub views_made_other : (all own : List (Option (Used T))) (client d : ℕ) (begins views : List ℕ) (x : Option (Used T)) → client ≢ d → ViewsTied all own d begins views → ViewsTied (all ++ x ∷ []) own d begins (client ∷ views)
  views_made_other all own client d begins views x ne t =
      record {
        size = t.size ∙ sym (count_other client d views ne);
        each = λ w u is. (
            let i = view_within all own d begins views t w u is in
            subst (λ (j : ℕ). numbered (all ++ x ∷ []) j ≡ Some (option_map (named_used (number begins d)) u)) (sym (number_old client d w views i.below)) (numbered_kept all (x ∷ []) (number views d w) (option_map (named_used (number begins d)) u) (t.each w u is)));
        owned = t.owned;
      }

  -- an operation more

  used_stays : (client d : ℕ) (begins : List ℕ) (u : Option (Used T)) → OwnIf d begins u → option_map (named_used (number begins d)) u ≡ option_map (named_used (number (client ∷ begins) d)) u
  used_stays client d begins None own = refl
  used_stays client d begins (Some used) own = ap (λ (busy : Option ℕ). Some (record { view = used.view; busy = busy })) (named_stays client d begins used.busy own.busy)

  own_more : (client d : ℕ) (begins : List ℕ) (u : Option (Used T)) → OwnIf d begins u → OwnIf d (client ∷ begins) u
  own_more client d begins None own = tt
  own_more client d begins (Some used) own = record { client_is = own.client_is; busy = λ op e. within_more client d op begins (own.busy op e) }

  pub views_begun : (all own : List (Option (Used T))) (client d : ℕ) (begins views : List ℕ) → ViewsTied all own d begins views → ViewsTied all own d (client ∷ begins) views
  views_begun all own client d begins views t =
      record {
        size = t.size;
        each = λ w u is. t.each w u is ∙ ap Some (used_stays client d begins u (t.owned w u is));
        owned = λ w u is. own_more client d begins u (t.owned w u is);
      }

  -- the view that is used

  pub used_same : (all own : List (Option (Used T))) (client : ℕ) (begins views : List ℕ) (w : ℕ) → ViewsTied all own client begins views → IsWithin w (count client views) → used_by all (Some (number views client w)) ≡ option_map (named_used (number begins client)) (used_by own (Some w))
  used_same all own client begins views w t some =
      let there = numbered_there own w (omega (arith, some.above)) (omega (arith, some.below, t.size)) in
      ap used_in (t.each w there.0 there.1) ∙ (named_in there.0 ∙ sym (ap (λ (x : Option (Option (Used T))). option_map (named_used (number begins client)) (used_in x)) there.1))
    where
      named_in : (u : Option (Used T)) → used_in (Some (option_map (named_used (number begins client)) u)) ≡ option_map (named_used (number begins client)) (used_in (Some u))
      named_in u = refl

  pub owned_by : (all own : List (Option (Used T))) (client : ℕ) (begins views : List ℕ) (w : ℕ) → ViewsTied all own client begins views → IsWithin w (count client views) → OwnIf client begins (used_by own (Some w))
  owned_by all own client begins views w t some =
      let there = numbered_there own w (omega (arith, some.above)) (omega (arith, some.below, t.size)) in
      subst (λ (x : Option (Option (Used T))). OwnIf client begins (used_in x)) (sym there.1) (t.owned w there.0 there.1)

  -- a change of it

  changed_named : (names : ℕ → ℕ) (u : Option (Used T)) (change : Change T) → changed (option_map (named_used names) u) change ≡ option_map (named_used names) (changed u change)
  changed_named names None change = refl
  changed_named names (Some used) Keeps = refl
  changed_named names (Some used) (Puts id value) = refl
  changed_named names (Some used) (Makes id value epoch) = refl
  changed_named names (Some used) Closes = refl

  changed_own : (client : ℕ) (begins : List ℕ) (u : Option (Used T)) (change : Change T) → OwnIf client begins u → OwnIf client begins (changed u change)
  changed_own client begins None change own = tt
  changed_own client begins (Some used) Keeps own = record { client_is = own.client_is; busy = λ op e. absurd (cc) }
  changed_own client begins (Some used) (Puts id value) own = record { client_is = own.client_is; busy = λ op e. absurd (cc) }
  changed_own client begins (Some used) (Makes id value epoch) own = record { client_is = own.client_is; busy = λ op e. absurd (cc) }
  changed_own client begins (Some used) Closes own = tt

  pub change_own : (all own : List (Option (Used T))) (client : ℕ) (begins views : List ℕ) (view : Option ℕ) (change : Change T) → ((w : ℕ) → view ≡ Some w → IsWithin w (count client views)) → ViewsTied all own client begins views →
      ViewsTied (views_changed all (option_map (number views client) view) change) (views_changed own view change) client begins views
  change_own all own client begins views None change has t = t
  change_own all own client begins views (Some w) change has t =
      let some = has w refl in
      let there = numbered_there own w (omega (arith, some.above)) (omega (arith, some.below, t.size)) in
      let new = changed (used_by own (Some w)) change in
      let same : changed (used_by all (Some (number views client w))) change ≡ option_map (named_used (number begins client)) new = ap (λ (u : Option (Used T)). changed u change) (used_same all own client begins views w t some) ∙ changed_named (number begins client) (used_by own (Some w)) change in
      subst (λ (x : Option (Used T)). ViewsTied (set all (number views client w - 1) x) (set own (w - 1) new) client begins views) (sym same)
      (views_own all own client begins views w there.0 new there.1 (changed_own client begins (used_by own (Some w)) change (owned_by all own client begins views w t some)) t)

  pub change_other : (all own mine : List (Option (Used T))) (client d : ℕ) (begins views : List ℕ) (view : Option ℕ) (change : Change T) → ((w : ℕ) → view ≡ Some w → IsWithin w (count client views)) → client ≢ d → ViewsTied all mine client begins views → ViewsTied all own d begins views →
      ViewsTied (views_changed all (option_map (number views client) view) change) own d begins views
  change_other all own mine client d begins views None change has ne t g = g
  change_other all own mine client d begins views (Some w) change has ne t g =
      let some = has w refl in
      let there = numbered_there mine w (omega (arith, some.above)) (omega (arith, some.below, t.size)) in
      views_other all own client d w begins views (option_map (named_used (number begins client)) there.0) (changed (used_by all (Some (number views client w))) change) (t.each w there.0 there.1) some ne g

  pub change_size : (all : List (Option (Used T))) (view : Option ℕ) (change : Change T) → length (views_changed all view change) ≡ length all
  change_size all None change = refl
  change_size all (Some w) change = length-set all (w - 1) (changed (used_by all (Some w)) change)

  -- an ending

  new_name : (all own : List (Option (Used T))) (client : ℕ) (views : List ℕ) → length all ≡ length views → length own ≡ count client views → length all + 1 ≡ number_or_next views client (length own + 1)
  new_name all own client views long size = ap (λ n. n + 1) long ∙ (sym (next_number client views) ∙ ap (λ n. number_or_next views client (n + 1)) (sym size))

  -- the answer of the views of a client, and of the world
  pub answer_same : (all own : List (Option (Used T))) (client : ℕ) (views : List ℕ) (view : Option ℕ) (ending : Option (Ending T)) → length all ≡ length views → length own ≡ count client views → ((w : ℕ) → view ≡ Some w → IsWithin w (count client views)) →
      answered (length all) (option_map (number views client) view) ending ≡ option_map (named_answer (number_or_next views client)) (answered (length own) view ending)
  answer_same all own client views view None long size has = refl
  answer_same all own client views view (Some (endings.Answers answer)) long size has = refl
  answer_same all own client views None (Some (endings.Comes (outcomes.Viewed id value))) long size has = ap (λ n. Some (answers.View n id value)) (new_name all own client views long size)
  answer_same all own client views (Some w) (Some (endings.Comes (outcomes.Viewed id value))) long size has = ap (λ n. Some (answers.View n id value)) (sym (known_number client w views (has w refl).below))
  answer_same all own client views None (Some (endings.Comes (outcomes.Held id value epoch))) long size has = ap (λ n. Some (answers.Held n id value epoch)) (new_name all own client views long size)
  answer_same all own client views (Some w) (Some (endings.Comes (outcomes.Held id value epoch))) long size has = ap (λ n. Some (answers.Held n id value epoch)) (sym (known_number client w views (has w refl).below))
  answer_same all own client views view (Some (endings.Comes (outcomes.Shut id value error))) long size has = refl

  -- what an answer makes of the owners of views
  pub record AnswersSo (client : ℕ) (views : List ℕ) (answer : Option (Answer T)) (more : List (Option (Used T))) : Type 0 where
    pub owners : (more ≡ []) × (with_view client answer views ≡ views) ⊎ ((new : Used T) × (more ≡ Some new ∷ []) × (new.busy ≡ None) × (new.view.client ≡ client) × (with_view client answer views ≡ client ∷ views))

  -- where no view is used
  makes : (own : List (Option (Used T))) (client : ℕ) (views : List ℕ) (ending : Ending T) → length own ≡ count client views → AnswersSo client views (answered (length own) None (Some ending)) (made_by client ending)
  makes own client views (endings.Answers answer) size = record { owners = inl (refl, refl) }
  makes own client views (endings.Comes (outcomes.Viewed id value)) size = record { owners = inr (new_view client id value, refl, refl, refl, next_view client (length own) views size) }
  makes own client views (endings.Comes (outcomes.Held id value epoch)) size = record { owners = inl (refl, refl) }
  makes own client views (endings.Comes (outcomes.Shut id value error)) size = record { owners = inl (refl, refl) }

  -- where one is
  uses : (own : List (Option (Used T))) (client w : ℕ) (views : List ℕ) (ending : Ending T) → w ≤ count client views → with_view client (answered (length own) (Some w) (Some ending)) views ≡ views
  uses own client w views (endings.Answers answer) le = refl
  uses own client w views (endings.Comes (outcomes.Viewed id value)) le = old_view client w views le
  uses own client w views (endings.Comes (outcomes.Held id value epoch)) le = refl
  uses own client w views (endings.Comes (outcomes.Shut id value error)) le = refl

  made_named : (names : ℕ → ℕ) (new : Used T) → new.busy ≡ None → option_map (named_used names) (Some new) ≡ Some new
  made_named names new free = ap (λ (busy : Option ℕ). Some (record { view = new.view; busy = busy })) (ap (option_map names) free ∙ sym free)

  made_is_own : (client : ℕ) (begins : List ℕ) (new : Used T) → new.busy ≡ None → new.view.client ≡ client → OwnIf client begins (Some new)
  made_is_own client begins new free is = record { client_is = is; busy = λ op e. absurd (let clash : None ≡ Some op = sym free ∙ e in cc) }

  -- the views of a client after an operation of its own ends
  pub after_own : (all own : List (Option (Used T))) (client : ℕ) (begins views : List ℕ) (view : Option ℕ) (claims : Bool) (ending : Option (Ending T)) → length all ≡ length views → ((w : ℕ) → view ≡ Some w → IsWithin w (count client views)) → ViewsTied all own client begins views →
      ViewsTied (views_after all client (option_map (number views client) view) claims ending) (views_after own client view claims ending) client begins (with_view client (answered (length own) view ending) views)
  after_own all own client begins views view claims None long has t = t
  after_own all own client begins views None claims (Some ending) long has t =
      let made = makes own client views ending t.size in
      elim made.owners [
        | inl none ↦ subst (λ (vs : List ℕ). ViewsTied (all ++ made_by client ending) (own ++ made_by client ending) client begins vs) (sym none.1)
            (subst (λ (more : List (Option (Used T))). ViewsTied (all ++ more) (own ++ more) client begins views) (sym none.0)
            (subst (λ (xs : List (Option (Used T))). ViewsTied xs (own ++ []) client begins views) (sym (append-nil all)) (subst (λ (xs : List (Option (Used T))). ViewsTied all xs client begins views) (sym (append-nil own)) t)))
        | inr one ↦ subst (λ (vs : List ℕ). ViewsTied (all ++ made_by client ending) (own ++ made_by client ending) client begins vs) (sym one.4)
            (subst (λ (more : List (Option (Used T))). ViewsTied (all ++ more) (own ++ more) client begins (client ∷ views)) (sym one.1)
            (subst (λ (x : Option (Used T)). ViewsTied (all ++ x ∷ []) (own ++ Some one.0 ∷ []) client begins (client ∷ views)) (made_named (number begins client) one.0 one.2)
            (views_made all own client begins views (Some one.0) long (made_is_own client begins one.0 one.2 one.3) t)))
      ]
  after_own all own client begins views (Some w) claims (Some ending) long has t =
      subst (λ (vs : List ℕ). ViewsTied (views_changed all (Some (number views client w)) (change_of claims ending)) (views_changed own (Some w) (change_of claims ending)) client begins vs) (sym (uses own client w views ending (has w refl).below))
      (change_own all own client begins views (Some w) (change_of claims ending) has t)

  -- of another
  pub after_other : (all own mine : List (Option (Used T))) (client d : ℕ) (begins views : List ℕ) (view : Option ℕ) (claims : Bool) (ending : Option (Ending T)) → ((w : ℕ) → view ≡ Some w → IsWithin w (count client views)) → client ≢ d → ViewsTied all mine client begins views → ViewsTied all own d begins views →
      ViewsTied (views_after all client (option_map (number views client) view) claims ending) own d begins (with_view client (answered (length mine) view ending) views)
  after_other all own mine client d begins views view claims None has ne t g = g
  after_other all own mine client d begins views None claims (Some ending) has ne t g =
      let made = makes mine client views ending t.size in
      elim made.owners [
        | inl none ↦ subst (λ (vs : List ℕ). ViewsTied (all ++ made_by client ending) own d begins vs) (sym none.1)
            (subst (λ (more : List (Option (Used T))). ViewsTied (all ++ more) own d begins views) (sym none.0) (subst (λ (xs : List (Option (Used T))). ViewsTied xs own d begins views) (sym (append-nil all)) g))
        | inr one ↦ subst (λ (vs : List ℕ). ViewsTied (all ++ made_by client ending) own d begins vs) (sym one.4)
            (subst (λ (more : List (Option (Used T))). ViewsTied (all ++ more) own d begins (client ∷ views)) (sym one.1) (views_made_other all own client d begins views (Some one.0) ne g))
      ]
  after_other all own mine client d begins views (Some w) claims (Some ending) has ne t g =
      subst (λ (vs : List ℕ). ViewsTied (views_changed all (Some (number views client w)) (change_of claims ending)) own d begins vs) (sym (uses mine client w views ending (has w refl).below))
      (change_other all own mine client d begins views (Some w) (change_of claims ending) has ne t g)

  pub after_size : (all mine : List (Option (Used T))) (client : ℕ) (views : List ℕ) (view : Option ℕ) (claims : Bool) (ending : Option (Ending T)) → length all ≡ length views → length mine ≡ count client views → ((w : ℕ) → view ≡ Some w → IsWithin w (count client views)) →
      length (views_after all client (option_map (number views client) view) claims ending) ≡ length (with_view client (answered (length mine) view ending) views)
  after_size all mine client views view claims None long size has = long
  after_size all mine client views None claims (Some ending) long size has =
      let made = makes mine client views ending size in
      elim made.owners [
        | inl none ↦ ap (λ (more : List (Option (Used T))). length (all ++ more)) none.0 ∙ (ap length (append-nil all) ∙ (long ∙ sym (ap length none.1)))
        | inr one ↦ ap (λ (more : List (Option (Used T))). length (all ++ more)) one.1 ∙ (let len = length-append all (Some one.0 ∷ []) in let vs : length (with_view client (answered (length mine) None (Some ending)) views) ≡ length views + 1 = ap length one.4 ∙ omega arith in omega (arith, len, long, vs))
      ]
  after_size all mine client views (Some w) claims (Some ending) long size has = change_size all (Some (number views client w)) (change_of claims ending) ∙ (long ∙ sym (ap length (uses mine client w views ending (has w refl).below)))

  -- the operations, where views are made
  pub ops_after : (ops own : List (Operation T)) (client d : ℕ) (begins views : List ℕ) (answer : Option (Answer T)) → OpsTied ops own d begins views → OpsTied ops own d begins (with_view client answer views)
  ops_after ops own client d begins views None t = t
  ops_after ops own client d begins views (Some (answers.Plain answer)) t = t
  ops_after ops own client d begins views (Some (answers.View view id value)) t = elim (cases_Bool (nat_lt (count client views) view)) [
    | inl e ↦ rw e (ops_view ops own client d begins views t)
    | inr e ↦ rw e t
  ]
  ops_after ops own client d begins views (Some (answers.Held view id value epoch)) t = t

  -- the view that a call uses is busy

  busied_own : (client : ℕ) (begins : List ℕ) (u : Option (Used T)) (op : ℕ) → IsWithin op (count client begins) → OwnIf client begins u → OwnIf client begins (option_map (with_busy (Some op)) u)
  busied_own client begins None op some own = tt
  busied_own client begins (Some used) op some own = record { client_is = own.client_is; busy = λ n e. subst (λ (m : ℕ). IsWithin m (count client begins)) (same_Some op n e) some }

  busied_named : (names : ℕ → ℕ) (u : Option (Used T)) (op : ℕ) → option_map (with_busy (Some (names op))) (option_map (named_used names) u) ≡ option_map (named_used names) (option_map (with_busy (Some op)) u)
  busied_named names None op = refl
  busied_named names (Some used) op = refl

  pub taken_own : (all own : List (Option (Used T))) (client : ℕ) (begins views : List ℕ) (view : Option ℕ) (op : ℕ) → IsWithin op (count client begins) → ((w : ℕ) → view ≡ Some w → IsWithin w (count client views)) → ViewsTied all own client begins views →
      ViewsTied (views_taken all (option_map (number views client) view) (number begins client op)) (views_taken own view op) client begins views
  taken_own all own client begins views None op here has t = t
  taken_own all own client begins views (Some w) op here has t =
      let some = has w refl in
      let there = numbered_there own w (omega (arith, some.above)) (omega (arith, some.below, t.size)) in
      let new = option_map (with_busy (Some op)) (used_by own (Some w)) in
      let same : option_map (with_busy (Some (number begins client op))) (used_by all (Some (number views client w))) ≡ option_map (named_used (number begins client)) new = ap (λ (u : Option (Used T)). option_map (with_busy (Some (number begins client op))) u) (used_same all own client begins views w t some) ∙ busied_named (number begins client) (used_by own (Some w)) op in
      subst (λ (x : Option (Used T)). ViewsTied (set all (number views client w - 1) x) (set own (w - 1) new) client begins views) (sym same)
      (views_own all own client begins views w there.0 new there.1 (busied_own client begins (used_by own (Some w)) op here (owned_by all own client begins views w t some)) t)

  pub taken_other : (all own mine : List (Option (Used T))) (client d : ℕ) (begins views : List ℕ) (view : Option ℕ) (op : ℕ) → ((w : ℕ) → view ≡ Some w → IsWithin w (count client views)) → client ≢ d → ViewsTied all mine client begins views → ViewsTied all own d begins views →
      ViewsTied (views_taken all (option_map (number views client) view) op) own d begins views
  taken_other all own mine client d begins views None op has ne t g = g
  taken_other all own mine client d begins views (Some w) op has ne t g =
      let some = has w refl in
      let there = numbered_there mine w (omega (arith, some.above)) (omega (arith, some.below, t.size)) in
      views_other all own client d w begins views (option_map (named_used (number begins client)) there.0) (option_map (with_busy (Some op)) (used_by all (Some (number views client w)))) (t.each w there.0 there.1) some ne g

  pub taken_size : (all : List (Option (Used T))) (view : Option ℕ) (op : ℕ) → length (views_taken all view op) ≡ length all
  taken_size all None op = refl
  taken_size all (Some w) op = length-set all (w - 1) (option_map (with_busy (Some op)) (used_by all (Some w)))
