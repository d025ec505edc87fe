-- Lines that are added one after another, and what each adds.
use Rattle.std.proofs.Common.{◌≡◌, ℕ, ◌+◌, List, [], ◌∷◌, ◌++◌, ◌<◌, length, map, take, get_or, Option, Some, None, Result, Ok, Err, refl, sym, subst, ap, ◌∙◌, arith}
use Rattle.std.specs.Prelude.{IfOk, IfNone, slice_get}
use Rattle.std.proofs.lemmas.List.{length-map, length-take, map-append, map_more}
use Rattle.txn_audit_recordings.specs.declared.source.Source.{Source}
use Rattle.txn_audit_recordings.specs.declared.recordings.Recordings.{Recordings}
use Rattle.txn_audit_recordings.specs.Recordings.{IsNamedAt, AddsLine, AddsLines}

-- What follows of a line that is taken.
pub where_taken : {A E : Type 0} (r : Result (Option A) E) (P Q : Type 0) → (P → Q) → IfOk r (λ wrong. IfNone wrong P) → IfOk r (λ wrong. IfNone wrong Q)
where_taken (Ok None) P Q follows told = follows told
where_taken (Ok (Some wrong)) P Q follows told = tt
where_taken (Err error) P Q follows told = tt

-- The last of a list stands at the place of those before it.
slice_get_end : {X : Type 0} (xs : List X) (x : X) → slice_get (xs ++ x ∷ []) (length xs) ≡ Some x
slice_get_end [] x = refl
slice_get_end (y ∷ xs) x = slice_get_end xs x

-- A source names the clock that it is added as.
pub named_last : (old new : List Source) (n : ℕ) (source : Source) → new ≡ old ++ source ∷ [] → n ≡ length old → IsNamedAt new n source
named_last old new n source grown at =
    let there = ap (λ (clocks : List Source). slice_get clocks n) grown ∙ ap (λ (place : ℕ). slice_get (old ++ source ∷ []) place) at ∙ slice_get_end old source in
    rw there refl

-- The last of the lists that f shows is longer by one.
pub last_were : {V R : Type 0} (f : V → List R) (old front : List V) (last : V) → old ≡ front ++ last ∷ [] → map f old ≡ map f front ++ f last ∷ []
last_were f old front last were = ap (map f) were ∙ map-append f front (last ∷ [])

pub last_are : {V R : Type 0} (f : V → List R) (new front : List V) (last longer : V) (row : R) → new ≡ front ++ longer ∷ [] → f longer ≡ f last ++ row ∷ [] → map f new ≡ map f front ++ (f last ++ row ∷ []) ∷ []
last_are f new front last longer row are grown = ap (map f) are ∙ map-append f front (longer ∷ []) ∙ ap (λ rows. map f front ++ rows ∷ []) grown

module _ {T : Type 0} (text : T → List ℕ) (file : ℕ) where
  pub adds_one_more : (n : ℕ) (before : List (List ℕ)) (words : List ℕ) (old mid new : Recordings T) → AddsLines text file n before old mid → AddsLine text (record { file = file; line = n + length before }) words mid new → AddsLines text file n (before ++ words ∷ []) old new
  adds_one_more n [] words old mid new same this =
      let at : n + 0 ≡ n = omega arith in
      let here = subst (λ (line : ℕ). AddsLine text (record { file = file; line = line }) words mid new) at this in
      (new, subst (λ (start : Recordings T). AddsLine text (record { file = file; line = n }) words start new) same here, refl)
  adds_one_more n (x ∷ xs) words old mid new (between, one, rest) this =
      let at : n + length (x ∷ xs) ≡ (n + 1) + length xs = omega arith in
      let here = subst (λ (line : ℕ). AddsLine text (record { file = file; line = line }) words mid new) at this in
      (between, one, adds_one_more (n + 1) xs words between mid new rest here)

  -- The next line is added.
  pub adds_next : {X : Type 0} (shown : X → List ℕ) (lines : List X) (i : ℕ) (d : X) (old mid new : Recordings T) → i < length lines → AddsLines text file 1 (map shown (take i lines)) old mid → AddsLine text (record { file = file; line = i + 1 }) (shown (get_or lines i d)) mid new → AddsLines text file 1 (map shown (take (i + 1) lines)) old new
  adds_next shown lines i d old mid new lt before this =
      let at : i + 1 ≡ 1 + length (map shown (take i lines)) = simp (length-map, length-take) (omega arith) in
      let here = subst (λ (line : ℕ). AddsLine text (record { file = file; line = line }) (shown (get_or lines i d)) mid new) at this in
      subst (λ (so_far : List (List ℕ)). AddsLines text file 1 so_far old new) (sym (map_more shown lines i d lt)) (adds_one_more 1 (map shown (take i lines)) (shown (get_or lines i d)) old mid new before here)
