-- A line read in pieces, and its first line feed.
use Rattle.std.proofs.Common.{◌≡◌, ℕ, suc, ◌+◌, ◌<◌, ◌≤◌, min, List, [], ◌∷◌, ◌++◌, ◌==◌, Bool, true, false, not, cond, length, take, Option, Some, None, IfSome, inl, inr, refl, sym, ◌∙◌, ap, subst, arith, one-add, add-one, length-take, nat_lt}
use Rattle.std.proofs.lemmas.List.{take-take}
use Rattle.std.specs.List.{position, position_or_len}
use Rattle.std.specs.Io.KnownBytes.{Consumes}
use Rattle.std.proofs.lemmas.Bool.{eqb-true, ltb-true, ltb-false}
use Rattle.std.proofs.lemmas.Option.{cond_some}
use Rattle.std.proofs.lemmas.List.{take_all}
use Rattle.txn_script_lines.specs.Reading.{LacksFeed, Ends, TakesPiece}

-- where the first line feed stands
abbrev place_of : List ℕ → ℕ
place_of xs = position_or_len (λ b. b == 10) xs

before_place : (xs : List ℕ) → LacksFeed (take (place_of xs) xs)
before_place [] = tt
before_place (x ∷ xs) = elim (x == 10) as (λ t. (x == 10) ≡ t → LacksFeed (take (cond (not t) (1 + place_of xs) 0) (x ∷ xs))) [
  | true ↦ λ e. tt
  | false ↦ λ e. subst (λ k. LacksFeed (take k (x ∷ xs))) (sym (one-add (place_of xs))) (e, before_place xs)
] refl

-- a line feed stands at this place
abbrev FeedAt : List ℕ → ℕ → Type 0
FeedAt xs k = take (suc k) xs ≡ take k xs ++ 10 ∷ []

at_place : (xs : List ℕ) → place_of xs < length xs → FeedAt xs (place_of xs)
at_place [] lt = absurd (omega (arith, lt))
at_place (x ∷ xs) lt = elim (x == 10) as (λ t. (x == 10) ≡ t → cond (not t) (1 + place_of xs) 0 < length (x ∷ xs) → FeedAt (x ∷ xs) (cond (not t) (1 + place_of xs) 0)) [
  | true ↦ λ e l. ap (λ b. b ∷ []) (eqb-true x 10 e)
  | false ↦ λ e l. let more : place_of xs < length xs = omega (arith, l) in subst (FeedAt (x ∷ xs)) (sym (one-add (place_of xs))) (ap (λ ys. x ∷ ys) (at_place xs more))
] refl lt

pub place_none : (xs : List ℕ) → None ≡ position (λ b. b == 10) xs → LacksFeed xs
place_none xs e = elim (nat_lt (place_of xs) (length xs)) as (λ t. nat_lt (place_of xs) (length xs) ≡ t → None ≡ cond t (Some (place_of xs)) None → LacksFeed xs) [
  | true ↦ λ is none. absurd (cc)
  | false ↦ λ is none. subst LacksFeed (take_all (place_of xs) xs (ltb-false (place_of xs) (length xs) is)) (before_place xs)
] refl e

pub place_some : (xs : List ℕ) (i : ℕ) → Some i ≡ position (λ b. b == 10) xs → (i < length xs) × LacksFeed (take i xs) × (take (i + 1) xs ≡ take i xs ++ 10 ∷ [])
place_some xs i e =
    let is = cond_some (nat_lt (place_of xs) (length xs)) (place_of xs) i (sym e) in
    let within = ltb-true (place_of xs) (length xs) is.0 in
    subst (λ (k : ℕ). (k < length xs) × LacksFeed (take k xs) × (take (k + 1) xs ≡ take k xs ++ 10 ∷ [])) is.1 (within, before_place xs, subst (λ m. take m xs ≡ take (place_of xs) xs ++ 10 ∷ []) (sym (add-one (place_of xs))) (at_place xs within))

-- how much of what is shown a piece takes, by where its first line feed stands, and whether that ends the line
abbrev pub IsCounted : Option ℕ → List ℕ → ℕ → Bool → Type 0
IsCounted None shown count ended = (count ≡ length shown) × (ended ≡ (length shown == 0))
IsCounted (Some place) shown count ended = (count ≡ place + 1) × (ended ≡ true)

pub counted_within : (place : Option ℕ) (shown : List ℕ) (count : ℕ) (ended : Bool) → place ≡ position (λ b. b == 10) shown → IsCounted place shown count ended → count ≤ length shown
counted_within None shown count ended is counted = omega (arith, counted.0)
counted_within (Some place) shown count ended is counted = omega (arith, counted.0, (place_some shown place is).0)

empty_none : (available : List ℕ) (room most : ℕ) → 0 < room → most ≡ min (length available) room → length (take most available) ≡ 0 → length available ≡ 0
empty_none available room most some is none = omega (arith, length-take most available, none, some, is)

counted_ends : (place : Option ℕ) (available input : List ℕ) (room most count : ℕ) (ended : Bool) → 0 < room → most ≡ min (length available) room → place ≡ position (λ b. b == 10) (take most available) → IsCounted place (take most available) count ended → (length available ≡ 0 → input ≡ []) → Ends (take count (take most available)) input ended
counted_ends (Some i) available input room most count ended some is found counted end =
    let shown = take most available in
    let at = place_some shown i found in
    subst (Ends (take count shown) input) (sym counted.1) (inl (take i shown, at.1, ap (λ k. take k shown) counted.0 ∙ at.2))
counted_ends None available input room most count ended some is found counted end =
    let shown = take most available in
    let all : take count shown ≡ shown = ap (λ k. take k shown) counted.0 ∙ take_all (length shown) shown (omega arith) in
    subst (Ends (take count shown) input) (sym counted.1) (elim (length shown == 0) as (λ t. (length shown == 0) ≡ t → Ends (take count shown) input t) [
      | true ↦ λ e. let none : length shown ≡ 0 = eqb-true (length shown) 0 e in
          inr (all ∙ no_bytes shown none, end (empty_none available room most some is none))
      | false ↦ λ e. subst LacksFeed (sym all) (place_none shown found)
    ] refl)
  where
    no_bytes : (xs : List ℕ) → length xs ≡ 0 → xs ≡ []
    no_bytes [] e = refl
    no_bytes (x ∷ xs) e = absurd (omega (arith, e))

pub takes_piece : (old new : Option (List ℕ)) (place : Option ℕ) (available text longer : List ℕ) (room most count : ℕ) (ended : Bool) → 0 < room → most ≡ min (length available) room → place ≡ position (λ b. b == 10) (take most available) → IsCounted place (take most available) count ended
    → Consumes old new (take count (take most available)) → IfSome old (λ input. length available ≡ 0 → input ≡ []) → longer ≡ text ++ take count (take most available) → TakesPiece old new text longer ended
takes_piece None new place available text longer room most count ended some is found counted consumed end grown = tt
takes_piece (Some input) None place available text longer room most count ended some is found counted consumed end grown = absurd consumed
takes_piece (Some input) (Some rest) place available text longer room most count ended some is found counted consumed end grown =
    (take count (take most available), rest, refl, consumed, grown, counted_ends place available input room most count ended some is found counted end)

pub consumed_twice : (old new : Option (List ℕ)) (available : List ℕ) (most count : ℕ) → count ≤ length (take most available) → Consumes old new (take count available) → Consumes old new (take count (take most available))
consumed_twice old new available most count within consumed =
    let less : count ≤ most = omega (arith, length-take most available, within) in
    subst (Consumes old new) (sym (take-take count most available less)) consumed
