-- One more fine operation has an owner: what was said by the owners before stays so.
use Rattle.std.proofs.Common.{◌≡◌, ◌≢◌, ℕ, zero, suc, List, [], ◌∷◌, take, slice_get, Bool, true, false, ◌==◌, ◌||◌, if◌then◌else◌, Some, inl, inr, refl, sym, ◌∙◌, ap, subst}
use Rattle.std.specs.List.{list_any}
use Rattle.std.proofs.lemmas.Bool.{cases_Bool, both_ways, eq-eqb, ne_eqb, or_cases}
use Rattle.txn_store.specs.declared.request.Request.{Request}
use Rattle.txn_history.specs.declared.trace.RowOf.{RowOf}
use Rattle.txn_history.specs.declared.trace.RowOf.TheVariants.{Effect, Begun, Answered}
use Rattle.txn_history.specs.Calls.{was_begun}
use Rattle.txn_history.proofs.Fronts.{of_front}
use Rattle.txn_machine.proofs.views.Tied.{effects_of, Alike, FrontOf, Tied}

abbrev pub renamed : (ℕ → ℕ) → ℕ → ℕ → ℕ → ℕ
renamed f place to n = if n == place then to else f n

pub renamed_here : (f : ℕ → ℕ) (place to : ℕ) → renamed f place to place ≡ to
renamed_here f place to = rw (eq-eqb place place refl) refl

pub renamed_other : (f : ℕ → ℕ) (place to n : ℕ) → n ≢ place → renamed f place to n ≡ f n
renamed_other f place to n ne = rw (ne_eqb n place ne) refl

pub or_left : (b c : Bool) → b ≡ true → (b || c) ≡ true
or_left true c h = refl
or_left false c h = cc

pub or_right : (b c : Bool) → c ≡ true → (b || c) ≡ true
or_right true c h = refl
or_right false c h = h

pub any_front : {A : Type 0} (p : A → Bool) (k : ℕ) (xs : List A) → list_any p (take k xs) ≡ true → list_any p xs ≡ true
any_front p zero xs e = cc
any_front p (suc k) [] e = e
any_front p (suc k) (x ∷ xs) e = elim (or_cases (p x) (list_any p (take k xs)) e) [ inl h ↦ or_left (p x) (list_any p xs) h | inr h ↦ or_right (p x) (list_any p xs) (any_front p k xs h) ]

module _ {C A : Type 0} where
  -- No row is of this operation.
  pub record Unused (rows : List (RowOf C A)) (next : ℕ) : Type 0 where
    pub begun : was_begun rows next ≡ false
    pub none : (k : ℕ) (request : Request) → slice_get rows k ≡ Some (Effect next request) → ⊥

  pub unused_front : (rows : List (RowOf C A)) (next k : ℕ) → Unused rows next → Unused (take k rows) next
  unused_front rows next k u =
      record {
        begun = elim (cases_Bool (was_begun (take k rows) next)) [ inl h ↦ absurd (both_ways (was_begun rows next) u.begun (any_front _ k rows h)) | inr h ↦ h ];
        none = λ j request e. u.none j request (of_front rows k j (Effect next request) e).0;
      }

module _ {C A : Type 0} (owner : ℕ → ℕ) (next op : ℕ) where
  abbrev effect_of_op : ℕ → Request → RowOf C A
  effect_of_op n request = Effect n request

  effects_named : (rows : List (RowOf C A)) → ((k : ℕ) (request : Request) → slice_get rows k ≡ Some (Effect next request) → ⊥) → effects_of (renamed owner next op) rows ≡ effects_of owner rows
  effects_named [] none = refl
  effects_named (Effect o request ∷ rows) none =
      let apart : o ≢ next = (λ e. none 0 request (ap (λ (n : ℕ). Some (effect_of_op n request)) e)) in
      let first : renamed owner next op o ≡ owner o = renamed_other owner next op o apart in
      ap (λ (n : ℕ). Effect n request ∷ effects_of (renamed owner next op) rows) first ∙ ap (λ (rs : List (RowOf (Unit {0}) (Unit {0}))). Effect (owner o) request ∷ rs) (effects_named rows (λ k r. none (suc k) r))
  effects_named (Begun o call ∷ rows) none = effects_named rows (λ k r. none (suc k) r)
  effects_named (Answered o answer ∷ rows) none = effects_named rows (λ k r. none (suc k) r)

module _ {C A D B : Type 0} (owner : ℕ → ℕ) (next op : ℕ) where
  alike_named : (fine : List (RowOf C A)) (rows : List (RowOf D B)) → Unused fine next → Alike owner fine rows → Alike (renamed owner next op) fine rows
  alike_named fine rows u h =
      record {
        effects = h.effects ∙ sym (effects_named owner next op fine u.none);
        begun = λ n e. (
            let apart : n ≢ next = (λ q. both_ways (was_begun fine next) u.begun (subst (λ (m : ℕ). was_begun fine m ≡ true) q e)) in
            subst (λ (m : ℕ). was_begun rows m ≡ true) (sym (renamed_other owner next op n apart)) (h.begun n e)
            );
      }

  front_named : (fine : List (RowOf C A)) (rows : List (RowOf D B)) → Unused fine next → FrontOf owner fine rows → FrontOf (renamed owner next op) fine rows
  front_named fine rows u h = record { place = h.place; within = h.within; alike = alike_named fine (take h.place rows) u h.alike }

  pub tied_named : (fine : List (RowOf C A)) (rows : List (RowOf D B)) → Unused fine next → Tied owner fine rows → Tied (renamed owner next op) fine rows
  tied_named fine rows u h =
      record {
        top = alike_named fine rows u h.top;
        fronts = λ k. front_named (take k fine) rows (unused_front fine next k u) (h.fronts k);
        effects = λ k o request e. (
            let was = h.effects k o request e in
            let apart : o ≢ next = (λ q. u.none k request (subst (λ (m : ℕ). slice_get fine k ≡ Some (Effect m request)) q e)) in
            record {
              place = was.place;
              effect = subst (λ (m : ℕ). slice_get rows was.place ≡ Some (Effect m request)) (sym (renamed_other owner next op o apart)) was.effect;
              alike = alike_named (take k fine) (take was.place rows) (unused_front fine next k u) was.alike;
            }
            );
        makers = λ k o request e. (
            let was = h.makers k o request e in
            let apart : was.maker ≢ next = (λ q. u.none was.place request (subst (λ (m : ℕ). slice_get fine was.place ≡ Some (Effect m request)) q was.effect)) in
            record {
              place = was.place;
              maker = was.maker;
              own = renamed_other owner next op was.maker apart ∙ was.own;
              effect = was.effect;
              begun = was.begun;
              alike = alike_named (take was.place fine) (take k rows) (unused_front fine next was.place u) was.alike;
            }
            );
      }
