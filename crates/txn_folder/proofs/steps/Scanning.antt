-- What scans tell together, as relations and as functions.
use Rattle.std.proofs.Common.{◌≡◌, ℕ, zero, suc, ◌<◌, ◌≤◌, ◌+◌, ◌-◌, ◌==◌, Bool, true, false, cond, List, [], ◌∷◌, ◌++◌, length, take, Option, Some, None, option_map, refl, ap, sym, subst, ◌∙◌, arith, eq-eqb, length-append}
use Rattle.std.specs.Prelude.{nat_lt, slice_get, Contains, MatchOption}
use Rattle.std.proofs.lemmas.Bool.{eqb-true, ltb-true, ltb-false, lt-ltb}
use Rattle.std.proofs.Math.Seq.{take-append-add}
use Rattle.txn_folder.specs.steps.Scans.{BeginsAbove, IsSameUpTo, followed, AreAmong, AreSettled, rest_after, above_last, beyond, has, has_all, run_by, settled_run}
use Rattle.txn_folder.specs.steps.Listing.{Settles, Scanned, Twice, Goes, last_of, thrice_turned}
use Rattle.txn_folder.proofs.steps.ScanLemmas.{run_front}

some_is : (a b : List ℕ) → ◌≡◌ {A = Option (List ℕ)} (Some a) (Some b) → a ≡ b
some_is a b is = ap (λ (o : Option (List ℕ)). elim o [ None ↦ a | Some x ↦ x ]) is

-- what follows these in those

rest_here : (these rest : List ℕ) → rest_after these (these ++ rest) ≡ Some rest
rest_here [] rest = refl
rest_here (id ∷ these) rest = ap (λ (b : Bool). cond b (rest_after these (these ++ rest)) None) (eq-eqb id id refl) ∙ rest_here these rest

rest_by : (id other : ℕ) (these those rest : List ℕ) → (rest_after these those ≡ Some rest → those ≡ these ++ rest) → (b : Bool) → (id == other) ≡ b → cond b (rest_after these those) None ≡ Some rest → other ∷ those ≡ id ∷ (these ++ rest)
rest_by id other these those rest more true is h = ap (λ (x : ℕ). x ∷ those) (sym (eqb-true id other is)) ∙ ap (λ (xs : List ℕ). id ∷ xs) (more h)
rest_by id other these those rest more false is h = absurd (cc)

rest_so : (these those rest : List ℕ) → rest_after these those ≡ Some rest → those ≡ these ++ rest
rest_so [] those rest h = some_is those rest h
rest_so (id ∷ these) [] rest h = absurd (cc)
rest_so (id ∷ these) (other ∷ those) rest h = rest_by id other these those rest (rest_so these those rest) (id == other) refl h

-- the same up to the last id

above_here : (last : ℕ) (rest : List ℕ) → BeginsAbove last rest → above_last last (Some rest) ≡ Some rest
above_here last [] above = refl
above_here last (id ∷ ids) above = ap (λ (b : Bool). cond b (Some (id ∷ ids)) None) (lt-ltb last id above)

above_by : (last id : ℕ) (ids rest : List ℕ) (b : Bool) → nat_lt last id ≡ b → cond b (Some (id ∷ ids)) None ≡ Some rest → (id ∷ ids ≡ rest) × (last < id)
above_by last id ids rest true is h = (some_is (id ∷ ids) rest h, ltb-true last id is)
above_by last id ids rest false is h = absurd (cc)

above_so : (last : ℕ) (o : Option (List ℕ)) (rest : List ℕ) → above_last last o ≡ Some rest → (o ≡ Some rest) × BeginsAbove last rest
above_so last None rest h = absurd (cc)
above_so last (Some []) rest h = (h, subst (BeginsAbove last) (some_is [] rest h) tt)
above_so last (Some (id ∷ ids)) rest h = let parts = above_by last id ids rest (nat_lt last id) refl h in (ap (λ (xs : List ℕ). Some xs) parts.0, subst (BeginsAbove last) parts.0 parts.1)

pub beyond_here : (last : ℕ) (these those rest : List ℕ) → those ≡ these ++ rest → BeginsAbove last rest → beyond last these those ≡ Some rest
beyond_here last these those rest is above = ap (λ (xs : List ℕ). above_last last (rest_after these xs)) is ∙ ap (above_last last) (rest_here these rest) ∙ above_here last rest above

pub beyond_so : (last : ℕ) (these those rest : List ℕ) → beyond last these those ≡ Some rest → (those ≡ these ++ rest) × BeginsAbove last rest
beyond_so last these those rest h = let parts = above_so last (rest_after these those) rest h in (rest_so these those rest parts.0, parts.1)

none_by : (last : ℕ) (these those : List ℕ) → ¬ (IsSameUpTo last these those) → (o : Option (List ℕ)) → beyond last these those ≡ o → o ≡ None
none_by last these those other None is = refl
none_by last these those other (Some rest) is = let parts = beyond_so last these those rest is in absurd (other (rest, parts.0, parts.1))

pub beyond_none : (last : ℕ) (these those : List ℕ) → ¬ (IsSameUpTo last these those) → beyond last these those ≡ None
beyond_none last these those other = none_by last these those other (beyond last these those) refl

-- all of these are among those

has_by : (other id : ℕ) (those : List ℕ) → (has those id ≡ true → Contains those id) → (b : Bool) → (other == id) ≡ b → cond b true (has those id) ≡ true → Contains (other ∷ those) id
has_by other id those more true is h = (0, omega arith, eqb-true other id is)
has_by other id those more false is h = let (k, low, e) = more h in (suc k, omega (arith, low), e)

has_so : (those : List ℕ) (id : ℕ) → has those id ≡ true → Contains those id
has_so [] id h = absurd (cc)
has_so (other ∷ those) id h = has_by other id those (has_so those id) (other == id) refl h

has_on : (other id : ℕ) (those : List ℕ) → has those id ≡ true → (b : Bool) → cond b true (has those id) ≡ true
has_on other id those more true = refl
has_on other id those more false = more

has_here : (those : List ℕ) (id : ℕ) → Contains those id → has those id ≡ true
has_here [] id (k, low, e) = absurd (omega (arith, low))
has_here (other ∷ those) id (zero, low, e) = ap (λ (b : Bool). cond b true (has those id)) (eq-eqb other id e)
has_here (other ∷ those) id (suc k, low, e) = has_on other id those (has_here those id (k, omega (arith, low), e)) (other == id)

all_here : (those these : List ℕ) → AreAmong those these → has_all those these ≡ true
all_here those [] among = refl
all_here those (id ∷ these) among =
    ap (λ (b : Bool). cond b (has_all those these) false) (has_here those id (among 0 (omega arith)))
    ∙ all_here those these (λ k low. among (suc k) (omega (arith, low)))

all_by : (those : List ℕ) (id : ℕ) (these : List ℕ) → (has_all those these ≡ true → AreAmong those these) → (b : Bool) → has those id ≡ b → cond b (has_all those these) false ≡ true → AreAmong those (id ∷ these)
all_by those id these more true is h zero low = has_so those id is
all_by those id these more true is h (suc k) low = more h k (omega (arith, low))
all_by those id these more false is h k low = absurd (cc)

all_so : (those these : List ℕ) → has_all those these ≡ true → AreAmong those these
all_so those [] h k low = absurd (omega (arith, low))
all_so those (id ∷ these) h k low = all_by those id these (all_so those these) (has those id) refl h k low

-- three scans

pub settled_here : (last : ℕ) (first second third run : List ℕ) → AreSettled last first second third run → settled_run last first second third ≡ Some run
settled_here last first second third run s =
    ap (λ (o : Option (List ℕ)). run_by last o (beyond last first third) (has_all third second)) (beyond_here last first second s.rest s.second_is s.second_above)
    ∙ ap (λ (o : Option (List ℕ)). run_by last (Some s.rest) o (has_all third second)) (beyond_here last first third s.third_same.0 s.third_same.1 s.third_same.2)
    ∙ ap (run_by last (Some s.rest) (Some s.third_same.0)) (all_here third second s.third_has)
    ∙ ap (λ (xs : List ℕ). Some xs) (sym s.run_is)

so_by : (last : ℕ) (first second third run : List ℕ) (o p : Option (List ℕ)) (b : Bool) → beyond last first second ≡ o → beyond last first third ≡ p → has_all third second ≡ b → run_by last o p b ≡ Some run → AreSettled last first second third run
so_by last first second third run None p b x y z h = absurd (cc)
so_by last first second third run (Some rest) None b x y z h = absurd (cc)
so_by last first second third run (Some rest) (Some more) false x y z h = absurd (cc)
so_by last first second third run (Some rest) (Some more) true x y z h =
    let two = beyond_so last first second rest x in
    let three = beyond_so last first third more y in
    record {
      rest = rest;
      second_is = two.0;
      second_above = two.1;
      third_same = (more, three.0, three.1);
      third_has = all_so third second z;
      run_is = sym (some_is (followed last rest) run h);
    }

pub settled_so : (last : ℕ) (first second third run : List ℕ) → settled_run last first second third ≡ Some run → AreSettled last first second third run
settled_so last first second third run h = so_by last first second third run (beyond last first second) (beyond last first third) (has_all third second) refl refl refl h

unsettled_by : (last : ℕ) (first second third : List ℕ) → ((run : List ℕ) → ¬ (AreSettled last first second third run)) → (o : Option (List ℕ)) → settled_run last first second third ≡ o → o ≡ None
unsettled_by last first second third other None is = refl
unsettled_by last first second third other (Some run) is = absurd (other run (settled_so last first second third run is))

pub unsettled : (last : ℕ) (first second third : List ℕ) → ((run : List ℕ) → ¬ (AreSettled last first second third run)) → settled_run last first second third ≡ None
unsettled last first second third other = unsettled_by last first second third other (settled_run last first second third) refl

-- what three scans tell is the front of the second
front_is : (last : ℕ) (first second third run : List ℕ) → AreSettled last first second third run → take (length first + length run) second ≡ first ++ run
front_is last first second third run s =
    ap (take (length first + length run)) s.second_is
    ∙ take-append-add first s.rest (length run)
    ∙ ap (λ (xs : List ℕ). first ++ xs) (ap (λ (xs : List ℕ). take (length xs) s.rest) s.run_is ∙ run_front last s.rest ∙ sym s.run_is)

length_of : (run : List ℕ) (count : ℕ) → ◌≡◌ {A = Option ℕ} (Some (length run)) (Some count) → length run ≡ count
length_of run count is = ap (λ (o : Option ℕ). elim o [ None ↦ length run | Some x ↦ x ]) is

module _ (last : ℕ) (first second third : List ℕ) (count : ℕ) where
  front_by : (o : Option (List ℕ)) → settled_run last first second third ≡ o → Some count ≡ option_map (length {A = ℕ}) o → (settled : List ℕ) → settled ≡ take (length first + count) second → Settles settled ≡ thrice_turned first third o
  front_by None is counted settled front = absurd (cc)
  front_by (Some run) is counted settled front =
      let long = length_of run count (sym counted) in
      ap Settles (front ∙ ap (λ (n : ℕ). take (length first + n) second) (sym long) ∙ front_is last first second third run (settled_so last first second third run is))

  pub front_settles : Some count ≡ option_map (length {A = ℕ}) (settled_run last first second third) → (settled : List ℕ) → settled ≡ take (length first + count) second → Settles settled ≡ thrice_turned first third (settled_run last first second third)
  front_settles counted settled front = front_by (settled_run last first second third) refl counted settled front

  within_by : (o : Option (List ℕ)) → settled_run last first second third ≡ o → Some count ≡ option_map (length {A = ℕ}) o → length first + count ≤ length second
  within_by None is counted = absurd (cc)
  within_by (Some run) is counted =
      let long = length_of run count (sym counted) in
      let s = settled_so last first second third run is in
      let whole : length second ≡ length first + length s.rest = ap length s.second_is ∙ length-append first s.rest in
      let part : length (take (length run) s.rest) ≡ length run = ap length (ap (λ (xs : List ℕ). take (length xs) s.rest) s.run_is ∙ run_front last s.rest ∙ sym s.run_is) in
      let most = length_take_most (length run) s.rest in
      omega (arith, long, whole, part, most)
    where
      length_take_most : (n : ℕ) (xs : List ℕ) → length (take n xs) ≤ length xs
      length_take_most zero xs = omega arith
      length_take_most (suc n) [] = omega arith
      length_take_most (suc n) (x ∷ xs) = let more = length_take_most n xs in omega (arith, more)

  pub front_within : Some count ≡ option_map (length {A = ℕ}) (settled_run last first second third) → length first + count ≤ length second
  front_within counted = within_by (settled_run last first second third) refl counted

-- the greatest of ids
last_by : (low id x : ℕ) (ids : List ℕ) → ◌≡◌ {A = Option ℕ} (Some x) (slice_get (id ∷ ids) (length ids)) → x ≡ last_of low (id ∷ ids)
last_by low id x [] is = ap (λ (o : Option ℕ). elim o [ None ↦ x | Some y ↦ y ]) is
last_by low id x (next ∷ ids) is = last_by id next x ids is

pub last_is : (low x : ℕ) (ids : List ℕ) → ◌≡◌ {A = Option ℕ} (Some x) (slice_get ids (length ids - 1)) → x ≡ last_of low ids
last_is low x [] is = absurd (cc)
last_is low x (id ∷ ids) is = let one : suc (length ids) - 1 ≡ length ids = omega arith in last_by low id x ids (is ∙ ap (slice_get (id ∷ ids)) one)
