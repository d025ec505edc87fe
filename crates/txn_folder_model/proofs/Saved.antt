-- Which changes a cut of power saves, those made before the moment of their name, and what the store of these is.
use Rattle.std.proofs.Common.{◌≡◌, ℕ, zero, suc, ◌-◌, ◌^◌, ◌<◌, ◌≤◌, if◌then◌else◌, Bool, true, false, [], ◌∷◌, ◌++◌, length, Option, Some, None, refl, ap, sym, subst, ◌∙◌, arith, inl, inr}
use Rattle.std.specs.Prelude.{Contains, nat_lt}
use Rattle.std.specs.FinMap.{get, empty, get-empty}
use Rattle.std.proofs.lemmas.Bool.{cases_lt, ltb-true, ltb-false}
use Rattle.std.proofs.lemmas.List.{length_push}
use Rattle.std.proofs.lemmas.List.Elements.{Contains-append_left, Contains-push, Contains-push_cases}
use Rattle.txn_store.specs.Paths.{Segments, path_cmp}
use Rattle.txn_store.specs.VersionName.{Names, version_path}
use Rattle.txn_store.specs.Store.{put_fault}
use Rattle.txn_store.specs.declared.store.PutMode.TheVariants as modes
use Rattle.txn_folder.specs.steps.Folders.{Place, Boundary, same_place}
use Rattle.txn_folder_model.specs.Worlds.{Event, IsPlace, world}
use Rattle.txn_folder_model.specs.Linear.{IsApart, path_of}
use Rattle.txn_folder_model.proofs.Ghosts.{Change, Created, Updated, Removed, Effect, Ghost, WritesSo, effect_of, changed, changed_by, change_request, change_reply, ghost_at}
use Rattle.txn_folder_model.proofs.Changes.{same_places}
use Rattle.txn_folder_model.proofs.Puts.{paths_apart}
use Rattle.txn_folder_model.proofs.Replies.{put_writes, delete_writes}
use Rattle.txn_folder_model.proofs.Theorem.{Allowed}
use Rattle.txn_folder_model.proofs.ChangedPaths.{EffectIn, changed_other, changed_same, effect_in_place, place_of}
use Rattle.txn_folder_model.proofs.Pages.{AllOf, changed_of}

module _ (names : Names) (boundary : Segments) (floor : ℕ) (events : ℕ → Event) (cut : Place → ℕ) where
  abbrev path : Place → Segments
  path p = path_of names boundary p

  abbrev g : ℕ → Ghost
  g s = ghost_at names boundary floor events s

  abbrev e : ℕ → Option Effect
  e s = effect_of (world floor events s) (events s)

  -- a change is saved where it was made before the moment of its name
  abbrev if_saved : ℕ → Option Effect → Option Effect
  if_saved s None = None
  if_saved s (Some x) = if nat_lt s (cut (place_of x.change)) then Some x else None

  abbrev pub saved : ℕ → Ghost
  saved zero = record { files = empty; given = [] }
  saved (suc s) = changed names boundary (saved s) (if_saved s (e s))

  -- what an event saves
  pub none_saved : (s : ℕ) → e s ≡ None → saved (suc s) ≡ saved s
  none_saved s is = ap (λ (o : Option Effect). changed names boundary (saved s) (if_saved s o)) is

  pub one_saved : (s : ℕ) (x : Effect) → e s ≡ Some x → (b : Bool) → nat_lt s (cut (place_of x.change)) ≡ b → saved (suc s) ≡ changed names boundary (saved s) (if b then Some x else None)
  one_saved s x is b kept = ap (λ (o : Option Effect). changed names boundary (saved s) (if_saved s o)) is ∙ ap (λ (c : Bool). changed names boundary (saved s) (if c then Some x else None)) kept

  saved_in : (s : ℕ) (o : Option Effect) → EffectIn o → EffectIn (if_saved s o)
  saved_in s None fits = tt
  saved_in s (Some x) fits = by (nat_lt s (cut (place_of x.change)))
    where
      by : (b : Bool) → EffectIn (if b then Some x else None)
      by true = fits
      by false = tt

  -- a change of another place
  other_step : (a : Ghost) (s : ℕ) (x : Effect) (p : Place) → ¬ (path p ≡ path (place_of x.change)) → (b : Bool) → get (changed names boundary a (if b then Some x else None)).files (path p) ≡ get a.files (path p)
  other_step a s x p other true = changed_other names boundary a x.change (path p) other
  other_step a s x p other false = refl

  own_step : (a h : Ghost) (s : ℕ) (x : Effect) (p : Place) → place_of x.change ≡ p → s < cut p → (b : Bool) → nat_lt s (cut (place_of x.change)) ≡ b → get (changed names boundary a (if b then Some x else None)).files (path p) ≡ get (changed_by names boundary h x.change).files (path p)
  own_step a h s x p same low true is = subst (λ (q : Place). get (changed_by names boundary a x.change).files (path q) ≡ get (changed_by names boundary h x.change).files (path q)) same (changed_same names boundary a h x.change)
  own_step a h s x p same low false is = absurd (let most = ltb-false s (cut (place_of x.change)) is in let here : s < cut (place_of x.change) = subst (λ (q : Place). s < cut q) (sym same) low in omega (arith, most, here))

  late_step : (a : Ghost) (s : ℕ) (x : Effect) (p : Place) → place_of x.change ≡ p → cut p ≤ s → (b : Bool) → nat_lt s (cut (place_of x.change)) ≡ b → get (changed names boundary a (if b then Some x else None)).files (path p) ≡ get a.files (path p)
  late_step a s x p same most true is = absurd (let low = ltb-true s (cut (place_of x.change)) is in let here : cut (place_of x.change) ≤ s = subst (λ (q : Place). cut q ≤ s) (sym same) most in omega (arith, low, here))
  late_step a s x p same most false is = refl

  -- what was given
  given_by : (s : ℕ) (x : Effect) → ((token : ℕ) → Contains (saved s).given token → Contains (g s).given token) → (token : ℕ) → Contains (changed_by names boundary (saved s) x.change).given token → Contains (changed_by names boundary (g s) x.change).given token
  given_by s x old token has = by x.change has
    where
      also : (new : ℕ) → Contains ((saved s).given ++ new ∷ []) token → Contains ((g s).given ++ new ∷ []) token
      also new there = elim (Contains-push_cases (saved s).given new token there) [ inl before ↦ Contains-append_left (g s).given (new ∷ []) token (old token before) | inr here ↦ subst (Contains ((g s).given ++ new ∷ [])) here (Contains-push (g s).given new) ]

      by : (change : Change) → Contains (changed_by names boundary (saved s) change).given token → Contains (changed_by names boundary (g s) change).given token
      by (Created place bytes new) there = also new there
      by (Updated bytes prior new) there = also new there
      by (Removed id) there = old token there

  more_given : (s : ℕ) (x : Effect) (token : ℕ) → Contains (g s).given token → Contains (changed_by names boundary (g s) x.change).given token
  more_given s x token has = by x.change
    where
      by : (change : Change) → Contains (changed_by names boundary (g s) change).given token
      by (Created place bytes new) = Contains-append_left (g s).given (new ∷ []) token has
      by (Updated bytes prior new) = Contains-append_left (g s).given (new ∷ []) token has
      by (Removed id) = has

  given_step : (s : ℕ) (o : Option Effect) → ((token : ℕ) → Contains (saved s).given token → Contains (g s).given token) → (token : ℕ) → Contains (changed names boundary (saved s) (if_saved s o)).given token → Contains (changed names boundary (g s) o).given token
  given_step s None old token has = old token has
  given_step s (Some x) old token has = by (nat_lt s (cut (place_of x.change))) has
    where
      by : (b : Bool) → Contains (changed names boundary (saved s) (if b then Some x else None)).given token → Contains (changed_by names boundary (g s) x.change).given token
      by true there = given_by s x old token there
      by false there = more_given s x token (old token there)

  given_also : (s : ℕ) (token : ℕ) → Contains (saved s).given token → Contains (g s).given token
  given_also zero token has = has
  given_also (suc s) token has = given_step s (e s) (given_also s) token has

  few_by : (s : ℕ) (x : Effect) → length (saved s).given ≤ s → (b : Bool) → length (changed names boundary (saved s) (if b then Some x else None)).given ≤ suc s
  few_by s x few true = by x.change
    where
      one : (new : ℕ) → length ((saved s).given ++ new ∷ []) ≤ suc s
      one new = let is = length_push (saved s).given new in omega (arith, few, is)

      by : (change : Change) → length (changed_by names boundary (saved s) change).given ≤ suc s
      by (Created place bytes new) = one new
      by (Updated bytes prior new) = one new
      by (Removed id) = omega (arith, few)
  few_by s x few false = omega (arith, few)

  few_step : (s : ℕ) (o : Option Effect) → length (saved s).given ≤ s → length (changed names boundary (saved s) (if_saved s o)).given ≤ suc s
  few_step s None few = omega (arith, few)
  few_step s (Some x) few = few_by s x few (nat_lt s (cut (place_of x.change)))

  few_given : (s : ℕ) → length (saved s).given ≤ s
  few_given zero = omega arith
  few_given (suc s) = few_step s (e s) (few_given s)

  module _ (apart : IsApart names boundary) (may : Allowed floor events) where
    effect_fits : (s : ℕ) → s < 2 ^ 64 → EffectIn (e s)
    effect_fits s room = effect_in_place names boundary floor events apart may s room

    apart_of : (x : Effect) (p : Place) → IsPlace (place_of x.change) → IsPlace p → same_place (place_of x.change) p ≡ false → ¬ (path p ≡ path (place_of x.change))
    apart_of x p there fits other is = paths_apart names boundary apart (place_of x.change) p there fits other (sym is)

    -- before the moment of a name the store has there what it had, and after it what it had then
    abbrev AsThen : ℕ → Place → Type 0
    AsThen s p = get (saved s).files (path p) ≡ get (g s).files (path p)

    before_step : (s : ℕ) (o : Option Effect) (p : Place) → EffectIn o → IsPlace p → s < cut p → AsThen s p → get (changed names boundary (saved s) (if_saved s o)).files (path p) ≡ get (changed names boundary (g s) o).files (path p)
    before_step s None p there fits low old = old
    before_step s (Some x) p there fits low old = by (same_place (place_of x.change) p) refl
      where
        by : (b : Bool) → same_place (place_of x.change) p ≡ b → get (changed names boundary (saved s) (if_saved s (Some x))).files (path p) ≡ get (changed names boundary (g s) (Some x)).files (path p)
        by true same = own_step (saved s) (g s) s x p (same_places (place_of x.change) p same) low (nat_lt s (cut (place_of x.change))) refl
        by false same = other_step (saved s) s x p (apart_of x p there fits same) (nat_lt s (cut (place_of x.change))) ∙ old ∙ sym (changed_other names boundary (g s) x.change (path p) (apart_of x p there fits same))

    pub before : (p : Place) → IsPlace p → (s : ℕ) → s < 2 ^ 64 → s ≤ cut p → AsThen s p
    before p fits zero room most = refl
    before p fits (suc s) room most = before_step s (e s) p (effect_fits s (omega (arith, room))) fits (omega (arith, most)) (before p fits s (omega (arith, room)) (omega (arith, most)))

    after_step : (s : ℕ) (o : Option Effect) (p : Place) → EffectIn o → IsPlace p → cut p ≤ s → get (changed names boundary (saved s) (if_saved s o)).files (path p) ≡ get (saved s).files (path p)
    after_step s None p there fits most = refl
    after_step s (Some x) p there fits most = by (same_place (place_of x.change) p) refl
      where
        by : (b : Bool) → same_place (place_of x.change) p ≡ b → get (changed names boundary (saved s) (if_saved s (Some x))).files (path p) ≡ get (saved s).files (path p)
        by true same = late_step (saved s) s x p (same_places (place_of x.change) p same) most (nat_lt s (cut (place_of x.change))) refl
        by false same = other_step (saved s) s x p (apart_of x p there fits same) (nat_lt s (cut (place_of x.change)))

    pub after : (p : Place) → IsPlace p → (s : ℕ) → s < 2 ^ 64 → cut p ≤ s → get (saved s).files (path p) ≡ get (g (cut p)).files (path p)
    after p fits zero room most = let none : cut p ≡ 0 = omega (arith, most) in ap (λ (n : ℕ). get (g n).files (path p)) (sym none)
    after p fits (suc s) room most = elim (cases_lt (cut p) (suc s)) [
      | inl less ↦ after_step s (e s) p (effect_fits s (omega (arith, room))) fits (omega (arith, less)) ∙ after p fits s (omega (arith, room)) (omega (arith, less))
      | inr more ↦ let now : suc s ≡ cut p = omega (arith, most, more) in before p fits (suc s) room (omega (arith, now)) ∙ ap (λ (n : ℕ). get (g n).files (path p)) now
    ]

    -- what was saved is of places
    pub saved_of : (s : ℕ) → s < 2 ^ 64 → AllOf names boundary (saved s)
    saved_of zero few q got has = absurd (let clash = sym (get-empty path_cmp q) ∙ has in cc)
    saved_of (suc s) few q got has = changed_of names boundary (saved s) (if_saved s (e s)) (saved_in s (e s) (effect_fits s (omega (arith, few)))) (saved_of s (omega (arith, few))) q got has

    -- a change that was saved is right where it was made
    pub right_by : (s : ℕ) → s < 2 ^ 64 - 1 → (change : Change) → IsPlace (place_of change) → s < cut (place_of change) → WritesSo (g s) (change_request names boundary change) (change_reply change) (g (suc s)) → WritesSo (saved s) (change_request names boundary change) (change_reply change) (changed_by names boundary (saved s) change)
    right_by s room (Created place bytes token) fits low right =
        let was = right 0 in let few = few_given s in
        put_writes (saved s) (path place) modes.Create bytes token (ap (λ o. put_fault modes.Create o) (before place fits s (omega (arith, room)) (omega (arith, low))) ∙ was.allowed) (λ has. was.placed.fresh (given_also s token has)) (omega (arith, few, room))
    right_by s room (Updated bytes old token) fits low right =
        let was = right 0 in let few = few_given s in
        put_writes (saved s) boundary (modes.Update old) bytes token (ap (λ o. put_fault (modes.Update old) o) (before Boundary tt s (omega (arith, room)) (omega (arith, low))) ∙ was.allowed) (λ has. was.placed.fresh (given_also s token has)) (omega (arith, few, room))
    right_by s room (Removed id) fits low right = delete_writes (saved s) (version_path names id)
