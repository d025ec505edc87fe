-- What was told, as it is looked up.
use Rattle.std.proofs.Common.{◌≡◌, ℕ, zero, suc, ◌<◌, ◌≤◌, nat_eq, nat_lt, ◌==◌, ◌||◌, List, [], ◌∷◌, Bool, true, false, cond, is_some, Option, Some, None, inl, inr, refl, sym, ◌∙◌, ap, arith}
use Rattle.std.proofs.lemmas.Bool.{cases_eq, cases_lt, eq-eqb, ne_eqb, ltb-true, lt-ltb, or_cases, or_right}
use Rattle.std.proofs.lemmas.Bool.Decides.{Decides-eqb}
use Rattle.txn_machine.specs.views.Layer.{Used}
use Rattle.txn_client_journals.specs.Parts.{knows_base, is_below_known, epoch_told}
use Rattle.txn_diary.specs.Notes.{note_at}
use Rattle.txn_diary.specs.Forgetting.{WereKnown, StillKnown, BaseStays, AreKeptNotes}

-- an id was noted exactly where it has a note
pub known_by : (told : List (ℕ × ℕ)) (id : ℕ) → is_some (note_at told id) ≡ knows_base told (Some id)
known_by [] id = refl
known_by (note ∷ told) id = by (nat_eq id note.0) (note_at told id) (knows_base told (Some id)) (known_by told id)
  where
    by : (b : Bool) (found : Option ℕ) (knows : Bool) → is_some found ≡ knows → is_some (cond b (Some note.1) found) ≡ (b || knows)
    by true found knows h = refl
    by false found knows h = h

pub eq_turned : (a b : ℕ) → (a == b) ≡ (b == a)
eq_turned a b = elim (cases_eq a b) [ inl same ↦ eq-eqb a b same ∙ sym (eq-eqb b a (sym same)) | inr ne ↦ ne_eqb a b ne ∙ sym (ne_eqb b a (λ e. ne (sym e))) ]

-- the epoch of a note, 0 where there is none
abbrev pub epoch_in : Option ℕ → ℕ
epoch_in None = 0
epoch_in (Some epoch) = epoch

-- the epoch that was told of an id is that of its note
pub epoch_by : (told : List (ℕ × ℕ)) (id : ℕ) → epoch_in (note_at told id) ≡ epoch_told told id
epoch_by [] id = refl
epoch_by (note ∷ told) id = by (nat_eq id note.0) (note_at told id) (epoch_told told id) (epoch_by told id) ∙ ap (λ b. cond b note.1 (epoch_told told id)) (eq_turned id note.0)
  where
    by : (b : Bool) (found : Option ℕ) (epoch : ℕ) → epoch_in found ≡ epoch → epoch_in (cond b (Some note.1) found) ≡ cond b note.1 epoch
    by true found epoch h = refl
    by false found epoch h = h

eqb_same : (a b : ℕ) → nat_eq a b ≡ true → a ≡ b
eqb_same a b h = (Decides-eqb a b).0 h

pub unknown_by : (told : List (ℕ × ℕ)) (id : ℕ) → note_at told id ≡ None → knows_base told (Some id) ≡ true → ⊥
unknown_by told id none knows = let clash : false ≡ true = sym (ap is_some none) ∙ (known_by told id ∙ knows) in absurd (cc)

-- what is noted of one id more, as all notes say it
pub were_known_more : (all told : List (ℕ × ℕ)) (id epoch : ℕ) → WereKnown all told → note_at all id ≡ Some epoch → WereKnown all ((id, epoch) ∷ told)
were_known_more all told id epoch were is n h = by (nat_eq n id) refl h
  where
    by : (b : Bool) → nat_eq n id ≡ b → (nat_eq n id || knows_base told (Some n)) ≡ true → (knows_base all (Some n) ≡ true) × (cond (id == n) epoch (epoch_told told n) ≡ epoch_told all n)
    by true e k =
        let same : n ≡ id = eqb_same n id e in
        (ap (λ m. knows_base all (Some m)) same ∙ (sym (known_by all id) ∙ ap is_some is), ap (λ b. cond b epoch (epoch_told told n)) (eq_turned id n ∙ e) ∙ (sym (ap epoch_in is) ∙ (epoch_by all id ∙ ap (epoch_told all) (sym same))))
    by false e k = let so = were n (sym (ap (λ b. b || knows_base told (Some n)) e) ∙ k) in (so.0, ap (λ b. cond b epoch (epoch_told told n)) (eq_turned id n ∙ e) ∙ so.1)

unknown_epoch : (told : List (ℕ × ℕ)) (id : ℕ) → knows_base told (Some id) ≡ false → epoch_told told id ≡ 0
unknown_epoch told id h = sym (epoch_by told id) ∙ by (note_at told id) (known_by told id ∙ h)
  where
    by : (found : Option ℕ) → is_some found ≡ false → epoch_in found ≡ 0
    by None e = refl
    by (Some epoch) e = cc

below_from : (told : List (ℕ × ℕ)) (to : ℕ) → is_below_known told to ≡ true → (id : ℕ) × (nat_lt to id ≡ true) × (knows_base told (Some id) ≡ true)
below_from [] to h = cc
below_from (note ∷ told) to h = elim (or_cases (nat_lt to note.0) (is_below_known told to) h) [
  | inl here ↦ (note.0, here, ap (λ b. b || knows_base told (Some note.0)) (eq-eqb note.0 note.0 refl))
  | inr there ↦ (let so = below_from told to there in (so.0, so.1, or_right (nat_eq so.0 note.0) (knows_base told (Some so.0)) so.2))
]

below_by : (told : List (ℕ × ℕ)) (to id : ℕ) → knows_base told (Some id) ≡ true → nat_lt to id ≡ true → is_below_known told to ≡ true
below_by [] to id h lt = cc
below_by (note ∷ told) to id h lt = elim (or_cases (nat_eq id note.0) (knows_base told (Some id)) h) [
  | inl here ↦ ap (λ b. b || is_below_known told to) (ap (nat_lt to) (sym (eqb_same id note.0 here)) ∙ lt)
  | inr there ↦ or_right (nat_lt to note.0) (is_below_known told to) (below_by told to id there lt)
]

most : (all : List (ℕ × ℕ)) (greatest id : ℕ) → nat_lt greatest greatest ≡ is_below_known all greatest → knows_base all (Some id) ≡ true → id ≤ greatest
most all greatest id below known = elim (cases_lt greatest id) [ inr le ↦ le | inl lt ↦ (let clash : greatest < greatest = ltb-true greatest greatest (below ∙ below_by all greatest id known (lt-ltb greatest id lt)) in absurd (omega (arith, clash))) ]

-- what is left of all notes that has the greatest id
pub kept_so : (all kept : List (ℕ × ℕ)) (greatest : ℕ) → WereKnown all kept → (knows_base all (Some 0) ≡ true → knows_base kept (Some 0) ≡ true) → (knows_base all (Some greatest) ≡ true → knows_base kept (Some greatest) ≡ true) → ((n : ℕ) → nat_lt n greatest ≡ is_below_known all n) → AreKeptNotes all kept
kept_so all kept greatest were first top below = record { known = were; none = none (knows_base all (Some 0)) refl (knows_base kept (Some 0)) refl; greatest = λ to. same to (is_below_known kept to) refl (is_below_known all to) refl }
  where
    none : (a : Bool) → knows_base all (Some 0) ≡ a → (b : Bool) → knows_base kept (Some 0) ≡ b → epoch_told kept 0 ≡ epoch_told all 0
    none a e true f = (were 0 f).1
    none true e false f = let clash : false ≡ true = sym f ∙ first e in absurd (cc)
    none false e false f = unknown_epoch kept 0 f ∙ sym (unknown_epoch all 0 e)

    top_known : (to : ℕ) → is_below_known all to ≡ true → knows_base all (Some greatest) ≡ true
    top_known to h = by greatest refl (below to ∙ h)
      where
        by : (g : ℕ) → greatest ≡ g → nat_lt to greatest ≡ true → knows_base all (Some greatest) ≡ true
        by zero e lt = absurd (omega (arith, e, ltb-true to greatest lt))
        by (suc g) e lt =
            let last = below_from all g (sym (below g) ∙ lt-ltb g greatest (omega (arith, e))) in
            let above : last.0 ≤ greatest = most all greatest last.0 (below greatest) last.2 in
            let at : last.0 ≡ greatest = omega (arith, e, above, ltb-true g last.0 last.1) in
            ap (λ m. knows_base all (Some m)) (sym at) ∙ last.2

    same : (to : ℕ) (k : Bool) → is_below_known kept to ≡ k → (a : Bool) → is_below_known all to ≡ a → is_below_known kept to ≡ is_below_known all to
    same to true e true f = e ∙ sym f
    same to false e false f = e ∙ sym f
    same to true e false f = let some = below_from kept to e in let clash : true ≡ false = sym (below_by all to some.0 (were some.0 some.2).0 some.1) ∙ f in absurd (cc)
    same to false e true f = let clash : true ≡ false = sym (below_by kept to greatest (top (top_known to f)) (below to ∙ f)) ∙ e in absurd (cc)

module _ {T : Type 0} where
  -- a base that stays, once more is known
  pub base_more : (all now told : List (ℕ × ℕ)) (used : Option (Used T)) → StillKnown now told → BaseStays all now used → BaseStays all told used
  base_more all now told None more h = tt
  base_more all now told (Some used) more h = λ known. more used.view.id (h known)

  pub base_same : (all : List (ℕ × ℕ)) (used : Option (Used T)) → BaseStays all all used
  base_same all None = tt
  base_same all (Some used) = λ known. known
