-- The calls and the journals up to a moment: each journal is cut where a call or a listing had not ended then, and what was asked for there is left.
use Rattle.std.proofs.Common.{◌≡◌, ℕ, zero, suc, ◌<◌, ◌≤◌, if◌then◌else◌, Bool, true, false, List, [], ◌∷◌, length, map, Option, Some, None, refl, ap, sym, subst, ◌∙◌, arith, ◌⊎◌, inl, inr}
use Rattle.std.specs.Prelude.{Contains, nat_lt, take, drop, slice_get}
use Rattle.std.proofs.lemmas.Bool.{ltb-true, lt-ltb}
use Rattle.std.proofs.lemmas.List.{length-map, length-take-le, take-take, take-map, drop-map}
use Rattle.std.proofs.lemmas.Option.{same_Some}
use Rattle.txn_store.specs.Paths.{Segments}
use Rattle.txn_store.specs.VersionName.{Names}
use Rattle.txn_store.specs.declared.request.Request.{Request}
use Rattle.txn_store.specs.declared.request.Request.TheVariants as requests
use Rattle.txn_store.specs.declared.request.Reply.{Reply}
use Rattle.txn_history.specs.Seen.{Store}
use Rattle.txn_history.specs.GoesOn.{may_be_loose}
use Rattle.txn_client_journals.specs.declared.rows.Receipt.{Receipt}
use Rattle.txn_client_journals.specs.declared.rows.JournalRow.{JournalRow}
use Rattle.txn_client_journals.specs.Parts.{Part}
use Rattle.txn_client_journals.specs.Journals.{Replays}
use Rattle.txn_client_journals.specs.Verdict.{receipts_in}
use Rattle.txn_client_journals.proofs.Woven.{pushed}
use Rattle.txn_folder_model.specs.Worlds.{Call, World}
use Rattle.txn_folder_model.specs.Linear.{request_of}
use Rattle.txn_folder_model.specs.Listings.{Listing, listing_row}
use Rattle.txn_folder_model.specs.Clients.{Taken, Called, Listed, KeepsJournal, IsLost, InTurn, IsPast, IsOf, IsChange, AreTold, IsTold, began_of, left_before}
use Rattle.txn_folder_model.proofs.Earlier.{GoesOn, IsTimed}
use Rattle.txn_folder_model.proofs.Taken.{none_has, first_has, rest_has}
use Rattle.txn_folder_model.proofs.Cut.{cut, taker, cut_receipts, cut_leaves, cut_keeps}
use Rattle.txn_folder_model.proofs.Kept.{rank, pick, rank_less, pick_rank, picked}

-- Lists.

take_has : {A : Type 0} (k : ℕ) (xs : List A) (x : A) → Contains (take k xs) x → Contains xs x
take_has zero xs x has = absurd (none_has x has)
take_has (suc k) [] x has = absurd (none_has x has)
take_has (suc k) (y ∷ xs) x (zero, low, is) = (0, omega arith, is)
take_has (suc k) (y ∷ xs) x (suc i, low, is) = rest_has y x xs (take_has k xs x (i, omega (arith, low), is))

drop_has : {A : Type 0} (k : ℕ) (xs : List A) (x : A) → Contains (drop k xs) x → Contains xs x
drop_has zero xs x has = has
drop_has (suc k) [] x has = absurd (none_has x has)
drop_has (suc k) (y ∷ xs) x has = rest_has y x xs (drop_has k xs x has)

-- what is dropped of a front is dropped of the whole
drop_take_has : {A : Type 0} (j k : ℕ) (xs : List A) (x : A) → Contains (drop j (take k xs)) x → Contains (drop j xs) x
drop_take_has zero k xs x has = take_has k xs x has
drop_take_has (suc j) zero xs x has = absurd (none_has x has)
drop_take_has (suc j) (suc k) [] x has = absurd (none_has x has)
drop_take_has (suc j) (suc k) (y ∷ xs) x has = drop_take_has j k xs x has

none_dropped : {A : Type 0} (k : ℕ) (xs : List A) (x : A) → length xs ≤ k → Contains (drop k xs) x → ⊥
none_dropped zero [] x most has = none_has x has
none_dropped zero (y ∷ xs) x most has = absurd (omega (arith, most))
none_dropped (suc k) [] x most has = none_has x has
none_dropped (suc k) (y ∷ xs) x most has = none_dropped k xs x (omega (arith, most)) has

map_has : {A B : Type 0} (f : A → B) (xs : List A) (y : B) → Contains (map f xs) y → (x : A) × Contains xs x × (f x ≡ y)
map_has f [] y has = absurd (none_has y has)
map_has f (x ∷ xs) y (zero, low, is) = (x, first_has x xs, is)
map_has f (x ∷ xs) y (suc i, low, is) = (let more = map_has f xs y (i, omega (arith, low), is) in (more.0, rest_has x more.0 xs more.1, more.2))

has_map : {A B : Type 0} (f : A → B) (xs : List A) (x : A) → Contains xs x → Contains (map f xs) (f x)
has_map f [] x has = absurd (none_has x has)
has_map f (y ∷ xs) x (zero, low, is) = (0, omega arith, ap f is)
has_map f (y ∷ xs) x (suc i, low, is) = rest_has (f y) (f x) (map f xs) (has_map f xs x (i, omega (arith, low), is))

get_has : {A : Type 0} (k : ℕ) (xs : List A) (x : A) → slice_get xs k ≡ Some x → Contains xs x
get_has zero [] x is = absurd (cc)
get_has (suc k) [] x is = absurd (cc)
get_has zero (y ∷ xs) x is = subst (Contains (y ∷ xs)) (same_Some y x is) (first_has y xs)
get_has (suc k) (y ∷ xs) x is = rest_has y x xs (get_has k xs x is)

-- a put or a delete may be loose
change_loose : (q : Request) → IsChange q → may_be_loose (Store q) ≡ Some q
change_loose (requests.Put path bytes mode) change = refl
change_loose (requests.Delete path) change = refl
change_loose (requests.Get path known) change = absurd change
change_loose (requests.List prefix after limit) change = absurd change

-- the operations of calls: one that was to take a reply, or as they were
abbrev pub op_by : Option Reply → ℕ → ℕ → ℕ
op_by None taken op = op
op_by (Some reply) taken op = taken

-- it had ended before
abbrev past_by : ℕ → Option ℕ → Bool
past_by m None = false
past_by m (Some e) = nat_lt e m

module _ (names : Names) (boundary : Segments) (ops : ℕ → ℕ) (n : ℕ) (worlds : ℕ → World) (listings : ℕ → Listing) (many m : ℕ) (before : ℕ → World)
    (on : (c : ℕ) → c < (before m).count → ((before m).count ≤ (worlds n).count) × GoesOn names boundary m ((before m).calls c) ((worlds n).calls c))
    (there : (c : ℕ) → c < (worlds n).count → (c < (before m).count) ⊎ (m ≤ ((worlds n).calls c).began))
    (timed : (c : ℕ) → c < (before m).count → IsTimed m ((before m).calls c))
    (timed_last : (c : ℕ) → c < (worlds n).count → IsTimed n ((worlds n).calls c))
    (listed : (l : ℕ) → l < many → (listings l).began ≤ (listings l).ended) where
  abbrev is_past : Taken → Bool
  is_past (Called c) = past_by m ((worlds n).calls c).ended
  is_past (Listed l) = nat_lt (listings l).ended m

  -- how many were past, one after another
  abbrev pub few : List Taken → ℕ
  few [] = 0
  few (x ∷ xs) = if is_past x then suc (few xs) else 0

  abbrev Past : Taken → ℕ → Type 0
  Past = IsPast names boundary ops n worlds listings many

  abbrev began : Taken → ℕ
  began = began_of names boundary ops n worlds listings many

  abbrev Turn : List Taken → Type 0
  Turn = InTurn names boundary ops n worlds listings many

  abbrev Own : Taken → Type 0
  Own (Called c) = c < (worlds n).count
  Own (Listed l) = l < many

  past_of : (x : Taken) → is_past x ≡ true → Past x m
  past_of (Called c) is = by ((worlds n).calls c).ended refl is
    where
      by : (o : Option ℕ) → ((worlds n).calls c).ended ≡ o → past_by m o ≡ true → (e : ℕ) × (((worlds n).calls c).ended ≡ Some e) × (e < m)
      by None at is = absurd (cc)
      by (Some e) at is = (e, at, ltb-true e m is)
  past_of (Listed l) is = ltb-true (listings l).ended m is

  is_past_of : (x : Taken) (t : ℕ) → Past x t → t ≤ m → is_past x ≡ true
  is_past_of (Called c) t past low = let less = past.2 in ap (past_by m) past.1 ∙ lt-ltb past.0 m (omega (arith, less, low))
  is_past_of (Listed l) t past low = lt-ltb (listings l).ended m (omega (arith, past, low))

  began_low : (x : Taken) → Own x → is_past x ≡ true → began x < m
  began_low (Called c) own is = let past = past_of (Called c) is in let less = past.2 in let first = ((timed_last c own).ended past.0 past.1).0 in omega (arith, less, first)
  began_low (Listed l) own is = let past = past_of (Listed l) is in let first = listed l own in omega (arith, past, first)

  both : (x y : Taken) → x ≡ y → is_past x ≡ true → is_past y ≡ false → ⊥
  both x y same is not = let clash : true ≡ false = sym is ∙ ap is_past same ∙ not in cc

  few_length : (xs : List Taken) → few xs ≤ length xs
  few_length [] = omega arith
  few_length (x ∷ xs) = by (is_past x) (few_length xs)
    where
      by : (b : Bool) → few xs ≤ length xs → (if b then suc (few xs) else 0) ≤ suc (length xs)
      by true low = omega (arith, low)
      by false low = omega arith

  few_past : (xs : List Taken) (x : Taken) → Contains (take (few xs) xs) x → is_past x ≡ true
  few_past [] x has = absurd (none_has x has)
  few_past (y ∷ ys) x has = by (is_past y) refl (few_past ys x) has
    where
      by : (b : Bool) → is_past y ≡ b → (Contains (take (few ys) ys) x → is_past x ≡ true) → Contains (take (if b then suc (few ys) else 0) (y ∷ ys)) x → is_past x ≡ true
      by true is more (zero, low, same) = ap is_past (sym same) ∙ is
      by true is more (suc i, low, same) = more (i, omega (arith, low), same)
      by false is more has = absurd (none_has x has)

  few_has : (xs : List Taken) → Turn xs → ((x : Taken) → Contains xs x → Own x) → (x : Taken) → Contains xs x → is_past x ≡ true → Contains (take (few xs) xs) x
  few_has [] turn own x has is = absurd (none_has x has)
  few_has (y ∷ ys) turn own x has is = by (is_past y) refl has (λ more. few_has ys turn.1 (λ z at. own z (rest_has y z ys at)) x more is)
    where
      by : (b : Bool) → is_past y ≡ b → Contains (y ∷ ys) x → (Contains ys x → Contains (take (few ys) ys) x) → Contains (take (if b then suc (few ys) else 0) (y ∷ ys)) x
      by true at (zero, low, same) more = (0, omega arith, same)
      by true at (suc i, low, same) more = rest_has y x (take (few ys) ys) (more (i, omega (arith, low), same))
      by false at (zero, low, same) more = absurd (both x y (sym same) is at)
      by false at (suc i, low, same) more =
          let in_rest : Contains ys x = (i, omega (arith, low), same) in
          let first = began_low x (own x (rest_has y x ys in_rest)) is in
          absurd (let clash : true ≡ false = sym (is_past_of y (began x) (turn.0 x in_rest) (omega (arith, first))) ∙ at in cc)

  few_next : (xs : List Taken) → Turn xs → (x : Taken) → Contains xs x → is_past x ≡ false → began x < m → slice_get xs (few xs) ≡ Some x
  few_next [] turn x has not first = absurd (none_has x has)
  few_next (y ∷ ys) turn x has not first = by (is_past y) refl has (λ more. few_next ys turn.1 x more not first)
    where
      by : (b : Bool) → is_past y ≡ b → Contains (y ∷ ys) x → (Contains ys x → slice_get ys (few ys) ≡ Some x) → slice_get (y ∷ ys) (if b then suc (few ys) else 0) ≡ Some x
      by true at (zero, low, same) more = absurd (both y x same at not)
      by true at (suc i, low, same) more = more (i, omega (arith, low), same)
      by false at (zero, low, same) more = ap Some same
      by false at (suc i, low, same) more =
          let in_rest : Contains ys x = (i, omega (arith, low), same) in
          absurd (let clash : true ≡ false = sym (is_past_of y (began x) (turn.0 x in_rest) (omega (arith, first))) ∙ at in cc)

  few_most : (xs : List Taken) (j : ℕ) → j ≤ length xs → ((x : Taken) → Contains (take j xs) x → is_past x ≡ true) → j ≤ few xs
  few_most xs zero most all = omega arith
  few_most [] (suc j) most all = absurd (omega (arith, most))
  few_most (y ∷ ys) (suc j) most all = rw (all y (first_has y (take j ys))) (let more = few_most ys j (omega (arith, most)) (λ x has. all x (rest_has y x (take j ys) has)) in omega (arith, more))

  turn_at : (xs : List Taken) → Turn xs → (k : ℕ) (y : Taken) → slice_get xs k ≡ Some y → (x : Taken) → Contains (take k xs) x → Past x (began y)
  turn_at xs turn zero y at x has = absurd (none_has x has)
  turn_at [] turn (suc k) y at x has = absurd (none_has x has)
  turn_at (z ∷ zs) turn (suc k) y at x (zero, low, same) = subst (λ (v : Taken). Past v (began y)) same (turn.0 y (get_has k zs y at))
  turn_at (z ∷ zs) turn (suc k) y at x (suc i, low, same) = turn_at zs turn.1 k y at x (i, omega (arith, low), same)

  turn_take : (k : ℕ) (xs : List Taken) → Turn xs → Turn (take k xs)
  turn_take zero xs turn = tt
  turn_take (suc k) [] turn = tt
  turn_take (suc k) (x ∷ xs) turn = (λ y has. turn.0 y (take_has k xs y has), turn_take k xs turn.1)

  abbrev Told : List Taken → List Receipt → Type 0
  Told = AreTold names boundary ops n worlds listings many

  told_take : (k : ℕ) (xs : List Taken) (rs : List Receipt) → Told xs rs → Told (take k xs) (take k rs)
  told_take zero xs rs told = tt
  told_take (suc k) [] [] told = tt
  told_take (suc k) [] (r ∷ rs) told = absurd told
  told_take (suc k) (x ∷ xs) [] told = absurd told
  told_take (suc k) (x ∷ xs) (r ∷ rs) told = (told.0, told_take k xs rs told.1)

  told_at : (xs : List Taken) (rs : List Receipt) → Told xs rs → (k : ℕ) (x : Taken) → slice_get xs k ≡ Some x → (r : Receipt) × (slice_get rs k ≡ Some r) × IsTold names boundary ops n worlds listings many x r
  told_at [] rs told zero x at = absurd (cc)
  told_at [] rs told (suc k) x at = absurd (cc)
  told_at (y ∷ xs) [] told k x at = absurd told
  told_at (y ∷ xs) (r ∷ rs) told zero x at = (r, refl, subst (λ (v : Taken). IsTold names boundary ops n worlds listings many v r) (same_Some y x at) told.0)
  told_at (y ∷ xs) (r ∷ rs) told (suc k) x at = told_at xs rs told.1 k x at

  -- The listings that had ended, numbered anew.

  abbrev pub keep : ℕ → Bool
  keep l = nat_lt (listings l).ended m

  abbrev pub listings_then : ℕ → Listing
  listings_then j = listings (pick keep many j)

  abbrev pub many_then : ℕ
  many_then = rank keep many

  abbrev pub as_then : Taken → Taken
  as_then (Called c) = Called c
  as_then (Listed l) = Listed (rank keep l)

  -- it is then as it is at last
  abbrev Same : Taken → Type 0
  Same (Called c) = (c < (before m).count) × ((before m).calls c ≡ (worlds n).calls c)
  Same (Listed l) = (rank keep l < rank keep many) × (listings (pick keep many (rank keep l)) ≡ listings l)

  frozen : (c e : ℕ) → c < (before m).count → ((worlds n).calls c).ended ≡ Some e → e < m → (before m).calls c ≡ (worlds n).calls c
  frozen c e low at less = by ((before m).calls c).ended refl
    where
      by : (o : Option ℕ) → ((before m).calls c).ended ≡ o → (before m).calls c ≡ (worlds n).calls c
      by None is = absurd (let from = (on c low).1.late e is at in omega (arith, from, less))
      by (Some d) is = sym ((on c low).1.same d is)

  same_of : (x : Taken) → Own x → is_past x ≡ true → Same x
  same_of (Called c) own is =
      let past = past_of (Called c) is in
      let less = past.2 in
      elim (there c own) [
        | inl low ↦ (low, frozen c past.0 low past.1 past.2)
        | inr since ↦ absurd (let first = ((timed_last c own).ended past.0 past.1).0 in omega (arith, less, first, since))
      ]
  same_of (Listed l) own is = (rank_less keep l many own is, ap listings (pick_rank keep many l own is))

  module _ (ops_then : ℕ → ℕ) where
    abbrev PastThen : Taken → ℕ → Type 0
    PastThen = IsPast names boundary ops_then m before listings_then many_then

    abbrev began_then : Taken → ℕ
    began_then = began_of names boundary ops_then m before listings_then many_then

    abbrev TurnThen : List Taken → Type 0
    TurnThen = InTurn names boundary ops_then m before listings_then many_then

    abbrev ToldThen : List Taken → List Receipt → Type 0
    ToldThen = AreTold names boundary ops_then m before listings_then many_then

    past_then : (x : Taken) (t : ℕ) → Same x → Past x t → PastThen (as_then x) t
    past_then (Called c) t same past = (past.0, ap (λ (k : Call). k.ended) same.1 ∙ past.1, past.2)
    past_then (Listed l) t same past = subst (λ (l : Listing). l.ended < t) (sym same.1) past

    began_same : (x : Taken) → Same x → began_then (as_then x) ≡ began x
    began_same (Called c) same = ap (λ (k : Call). k.began) same.1
    began_same (Listed l) same = ap (λ (l : Listing). l.began) same.1

    is_of_then : (client : ℕ) (x : Taken) → Same x → IsOf names boundary ops n worlds listings many client x → IsOf names boundary ops_then m before listings_then many_then client (as_then x)
    is_of_then client (Called c) same of = (same.0, ap (λ (k : Call). k.client) same.1 ∙ of.1)
    is_of_then client (Listed l) same of = (same.0, ap (λ (l : Listing). l.client) same.1 ∙ of.1)

    is_told_then : (x : Taken) (r : Receipt) → Same x → IsTold names boundary ops n worlds listings many x r → IsTold names boundary ops_then m before listings_then many_then (as_then x) r
    is_told_then (Called c) r same told = (told.0 ∙ ap (λ (k : Call). request_of names boundary k.work) (sym same.1), ap (λ (k : Call). k.answer) same.1 ∙ told.1)
    is_told_then (Listed l) r same told = (told.0 ∙ ap (λ (l : Listing). (listing_row names l).request) (sym same.1), told.1 ∙ ap (λ (l : Listing). (listing_row names l).reply) (sym same.1))

    turn_then : (xs : List Taken) → ((x : Taken) → Contains xs x → Same x) → Turn xs → TurnThen (map as_then xs)
    turn_then [] same turn = tt
    turn_then (x ∷ xs) same turn = (
      λ y has. (
          let was = map_has as_then xs y has in
          let its = same was.0 (rest_has x was.0 xs was.1) in
          let past = past_then x (began was.0) (same x (first_has x xs)) (turn.0 was.0 was.1) in
          subst (λ (v : Taken). PastThen (as_then x) (began_then v)) was.2 (subst (PastThen (as_then x)) (sym (began_same was.0 its)) past)),
      turn_then xs (λ y has. same y (rest_has x y xs has)) turn.1,
    )

    told_then : (xs : List Taken) (rs : List Receipt) → ((x : Taken) → Contains xs x → Same x) → Told xs rs → ToldThen (map as_then xs) rs
    told_then [] [] same told = tt
    told_then [] (r ∷ rs) same told = absurd told
    told_then (x ∷ xs) [] same told = absurd told
    told_then (x ∷ xs) (r ∷ rs) same told = (is_told_then x r (same x (first_has x xs)) told.0, told_then xs rs (λ y has. same y (rest_has x y xs has)) told.1)

    -- One client, and its journal up to then.
    module _ {T : Type 0} (page : ℕ) (encode : T → List ℕ) (decode : List ℕ → Option T) (get_epoch : T → ℕ) (set_epoch : T → ℕ → T) (client : ℕ) (rows : List (JournalRow T)) (k : KeepsJournal names boundary ops n worlds listings many client rows) (part : Part T) (replays : Replays page encode decode get_epoch set_epoch client (pushed rows []) part)
        (taken_op : (c : ℕ) (reply : Reply) → ((worlds n).calls c).client ≡ client → ((worlds n).calls c).answer ≡ Some reply → ops_then c ≡ taker (few k.all) rows) (lost_op : (c : ℕ) → ((worlds n).calls c).answer ≡ None → ops_then c ≡ ops c) where
      abbrev front : List Taken
      front = take (few k.all) k.all

      abbrev all_then : List Taken
      all_then = map as_then front

      abbrev cut_rows : List (JournalRow T)
      cut_rows = cut (few k.all) rows

      own : (x : Taken) → Contains k.all x → Own x
      own (Called c) has = (k.its (Called c) has).0
      own (Listed l) has = (k.its (Listed l) has).0

      same_front : (x : Taken) → Contains front x → Same x
      same_front x has = same_of x (own x (take_has (few k.all) k.all x has)) (few_past k.all x has)

      in_front : (x : Taken) → Contains k.all x → is_past x ≡ true → Contains all_then (as_then x)
      in_front x has is = has_map as_then front x (few_has k.all k.in_turn own x has is)

      size : length all_then ≡ few k.all
      size = length-map front as_then ∙ length-take-le (few k.all) k.all (few_length k.all)

      client_of : (c : ℕ) → c < (before m).count → ((before m).calls c).client ≡ client → ((worlds n).calls c).client ≡ client
      client_of c low its = (on c low).1.client ∙ its

      last : (c : ℕ) → c < (before m).count → c < (worlds n).count
      last c low = let more = (on c low).0 in omega (arith, low, more)

      its_calls : (c : ℕ) (reply : Reply) → c < (before m).count → ((before m).calls c).client ≡ client → ((before m).calls c).answer ≡ Some reply → Contains all_then (Called c)
      its_calls c reply low its answer = by ((before m).calls c).ended refl
        where
          by : (o : Option ℕ) → ((before m).calls c).ended ≡ o → Contains all_then (Called c)
          by None at = absurd (let clash : None ≡ Some reply = sym ((timed c low).silent at) ∙ answer in cc)
          by (Some e) at =
              let frozen_is = (on c low).1.same e at in
              let has = k.calls c reply (last c low) (client_of c low its) (ap (λ (x : Call). x.answer) frozen_is ∙ answer) in
              in_front (Called c) has (ap (past_by m) (ap (λ (x : Call). x.ended) frozen_is ∙ at) ∙ lt-ltb e m ((timed c low).ended e at).1)

      its_lists : (j : ℕ) → j < many_then → (listings_then j).client ≡ client → Contains all_then (Listed j)
      its_lists j low its =
          let p = picked keep many j low in
          subst (λ (i : ℕ). Contains all_then (Listed i)) p.is (in_front (Listed (pick keep many j)) (k.lists (pick keep many j) p.below its) p.kept)

      abbrev Lost : ℕ → Type 0
      Lost c = IsLost names boundary ops_then m before listings_then many_then cut_rows all_then c

      -- a call whose reply is the next that the client took
      next_lost : (c : ℕ) (reply : Reply) → c < (before m).count → ((before m).calls c).client ≡ client → ((before m).calls c).answer ≡ None → IsChange (request_of names boundary ((before m).calls c).work) → ((worlds n).calls c).answer ≡ Some reply → Lost c
      next_lost c reply low its none change answer =
          let g = (on c low).1 in
          let has = k.calls c reply (last c low) (client_of c low its) answer in
          let next = few_next k.all k.in_turn (Called c) has (not_past (is_past (Called c)) refl has) (let was = g.began in let first = (timed c low).began in omega (arith, was, first)) in
          let told = told_at k.all (receipts_in rows) k.told (few k.all) (Called c) next in
          let asks : told.0.request ≡ request_of names boundary ((before m).calls c).work = told.2.0 ∙ g.request in
          record {
            before = few k.all;
            few = (let it = size in omega (arith, it));
            earlier = λ y at. (
                let was = map_has as_then front y (take_has (few k.all) all_then y at) in
                let past = past_then was.0 (began (Called c)) (same_front was.0 was.1) (turn_at k.all k.in_turn (few k.all) (Called c) next was.0 was.1) in
                subst (λ (v : Taken). PastThen v ((before m).calls c).began) was.2 (subst (PastThen (as_then was.0)) g.began past));
            later = λ y at. absurd (none_dropped (few k.all) all_then y (let it = size in omega (arith, it)) at);
            left = cut_leaves told.0 (request_of names boundary ((before m).calls c).work) (ops_then c) (few k.all) None rows (ap (λ (q : Request). may_be_loose (Store q)) asks ∙ change_loose (request_of names boundary ((before m).calls c).work) change) told.1 (sym (taken_op c reply (client_of c low its) answer));
          }
        where
          not_past : (b : Bool) → is_past (Called c) ≡ b → Contains k.all (Called c) → is_past (Called c) ≡ false
          not_past false is has = is
          not_past true is has =
              let same = same_of (Called c) (own (Called c) has) is in
              absurd (let clash : None ≡ Some reply = sym none ∙ ap (λ (x : Call). x.answer) same.1 ∙ answer in cc)

      -- a call that nobody is answered
      still_lost : (c : ℕ) → c < (before m).count → ((before m).calls c).client ≡ client → ((before m).calls c).answer ≡ None → IsChange (request_of names boundary ((before m).calls c).work) → ((worlds n).calls c).answer ≡ None → Lost c
      still_lost c low its none change answer =
          let g = (on c low).1 in
          let lost = k.lost c (last c low) (client_of c low its) answer (subst IsChange (sym g.request) change) in
          let first : ((worlds n).calls c).began < m = (let was = g.began in let it = (timed c low).began in omega (arith, was, it)) in
          let fits = few_most k.all lost.before lost.few (λ x has. is_past_of x ((worlds n).calls c).began (lost.earlier x has) (omega (arith, first))) in
          let kept = cut_keeps page encode decode get_epoch set_epoch client lost.before (few k.all) (ops c) (request_of names boundary ((worlds n).calls c).work) rows [] part fits replays lost.left in
          record {
            before = lost.before;
            few = (let it = size in omega (arith, it, fits));
            earlier = λ y at. (
                let was = map_has as_then (take lost.before front) y (subst (λ (l : List Taken). Contains l y) (take-map as_then lost.before front) at) in
                let early = subst (λ (l : List Taken). Contains l was.0) (take-take lost.before (few k.all) k.all fits) was.1 in
                let past = past_then was.0 ((worlds n).calls c).began (same_front was.0 (take_has lost.before front was.0 was.1)) (lost.earlier was.0 early) in
                subst (λ (v : Taken). PastThen v ((before m).calls c).began) was.2 (subst (PastThen (as_then was.0)) g.began past));
            later = λ y at. later_then c low lost y (map_has as_then (drop lost.before front) y (subst (λ (l : List Taken). Contains l y) (drop-map as_then lost.before front) at));
            left = subst (λ (o : ℕ). left_before lost.before o None cut_rows ≡ Some (request_of names boundary ((before m).calls c).work)) (sym (lost_op c answer)) (kept ∙ ap Some g.request);
          }
        where
          later_then : (c : ℕ) → c < (before m).count → (lost : IsLost names boundary ops n worlds listings many rows k.all c) → (y : Taken) → (x : Taken) × Contains (drop lost.before front) x × (as_then x ≡ y) → (end : ℕ) × (((before m).calls c).ended ≡ Some end) × (end < began_then y)
          later_then c low lost y was =
              let in_it = drop_has lost.before front was.0 was.1 in
              let after = lost.later was.0 (drop_take_has lost.before (few k.all) k.all was.0 was.1) in
              let less = after.2 in
              let first = began_low was.0 (own was.0 (take_has (few k.all) k.all was.0 in_it)) (few_past k.all was.0 in_it) in
              let same = began_same was.0 (same_front was.0 in_it) in (
                after.0,
                ap (λ (x : Call). x.ended) (frozen c after.0 low after.1 (omega (arith, less, first))) ∙ after.1,
                subst (λ (v : Taken). after.0 < began_then v) was.2 (omega (arith, less, same)),
              )

      its_lost : (c : ℕ) → c < (before m).count → ((before m).calls c).client ≡ client → ((before m).calls c).answer ≡ None → IsChange (request_of names boundary ((before m).calls c).work) → Lost c
      its_lost c low its none change = by ((worlds n).calls c).answer refl
        where
          by : (o : Option Reply) → ((worlds n).calls c).answer ≡ o → Lost c
          by (Some reply) at = next_lost c reply low its none change at
          by None at = still_lost c low its none change at

      -- it keeps its journal up to then
      pub keeps_then : KeepsJournal names boundary ops_then m before listings_then many_then client cut_rows
      keeps_then = record {
        all = all_then;
        told = subst (ToldThen all_then) (sym (cut_receipts (few k.all) rows)) (told_then front (take (few k.all) (receipts_in rows)) same_front (told_take (few k.all) k.all (receipts_in rows) k.told));
        in_turn = turn_then front same_front (turn_take (few k.all) k.all k.in_turn);
        its = λ y has. (
            let was = map_has as_then front y has in
            subst (λ (v : Taken). IsOf names boundary ops_then m before listings_then many_then client v) was.2 (is_of_then client was.0 (same_front was.0 was.1) (k.its was.0 (take_has (few k.all) k.all was.0 was.1))));
        calls = its_calls;
        lists = its_lists;
        lost = its_lost;
      }
