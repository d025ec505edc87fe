-- Of clients that keep journals: the log has their receipts, and their landings were left.
use Rattle.std.proofs.Common.{◌≡◌, ℕ, zero, suc, ◌<◌, ◌≤◌, if◌then◌else◌, Bool, true, false, List, [], ◌∷◌, ◌++◌, map, length, Some, refl, ap, sym, subst, ◌∙◌, arith, ◌⊎◌, inl, inr}
use Rattle.std.specs.Prelude.{Contains, nat_lt, reverse, take, drop}
use Rattle.std.proofs.lemmas.List.{append-nil, length-map, length-reverse, map-append, reverse-append, take-append-drop, length-take-le}
use Rattle.std.proofs.lemmas.List.Elements.{filter-append, Contains-append_cases, Contains-append_left, Contains-append_right}
use Rattle.txn_store.specs.Paths.{Segments}
use Rattle.txn_store.specs.VersionName.{Names}
use Rattle.txn_store.specs.declared.request.Reply.{Reply}
use Rattle.txn_client_journals.specs.declared.rows.LogRow.{LogRow}
use Rattle.txn_client_journals.specs.declared.rows.Receipt.{Receipt}
use Rattle.txn_client_journals.specs.declared.rows.JournalRow.{JournalRow}
use Rattle.txn_client_journals.specs.Verdict.{receipts_in}
use Rattle.txn_folder_model.specs.Worlds.{Call, World}
use Rattle.txn_folder_model.specs.Linear.{Point, IsLinearizable}
use Rattle.txn_folder_model.specs.Listings.{Listing}
use Rattle.txn_folder_model.specs.Clients.{Taken, Called, Listed, KeepsJournal, IsLost, InTurn, IsPast, AreTold, IsTold, began_of}
use Rattle.txn_folder_model.proofs.Taken.{Strict, below, here, below_all, below_none, split, few, here_has, here_of, none_has, only_one, rest_has, first_has, Hit, ListHit, moment, row, mine, rows, lists, no_rows, one_row, no_lists, one_list, log, mine_parts}

abbrev call_in : Taken → ℕ
call_in (Called c) = c
call_in (Listed j) = 0

abbrev list_in : Taken → ℕ
list_in (Called c) = 0
list_in (Listed j) = j

abbrev is_call : Taken → Bool
is_call (Called c) = true
is_call (Listed j) = false

module _ (names : Names) (boundary : Segments) (ops : ℕ → ℕ) (n : ℕ) (worlds : ℕ → World) (listings : ℕ → Listing) (many : ℕ) (lin : IsLinearizable names boundary ops n worlds listings many) where
  abbrev calls : ℕ → Call
  calls = (worlds n).calls

  abbrev count : ℕ
  count = (worlds n).count

  abbrev at : Taken → ℕ
  at = moment names boundary ops n worlds listings many lin

  abbrev pub its_row : Taken → LogRow
  its_row = row names boundary ops n worlds listings many lin

  abbrev log_to : ℕ → List LogRow
  log_to = log names boundary ops n worlds listings many lin

  abbrev rows_of_moment : ℕ → Bool → ℕ → List LogRow
  rows_of_moment = rows names boundary ops n worlds listings many lin

  abbrev lists_of_moment : ℕ → ℕ → List LogRow
  lists_of_moment = lists names boundary ops n worlds listings many lin

  abbrev taken_of : ℕ → List LogRow → List LogRow
  taken_of = mine names boundary ops n worlds listings many lin

  abbrev HitAt : ℕ → ℕ → Bool → ℕ → Type 0
  HitAt = Hit names boundary ops n worlds listings many lin

  abbrev ListHitAt : ℕ → ℕ → ℕ → Type 0
  ListHitAt = ListHit names boundary ops n worlds listings many lin

  abbrev Past : Taken → ℕ → Type 0
  Past = IsPast names boundary ops n worlds listings many

  abbrev began : Taken → ℕ
  began = began_of names boundary ops n worlds listings many

  pub point_at : (c : ℕ) (p : Point) → lin.points c ≡ Some p → p.at ≡ at (Called c)
  point_at c p is = rw is refl

  -- What one client took.
  module _ {T : Type 0} (client : ℕ) (journal : List (JournalRow T)) (k : KeepsJournal names boundary ops n worlds listings many client journal) where
    told_by : (all : List Taken) (receipts : List Receipt) (x : Taken) → AreTold names boundary ops n worlds listings many all receipts → Contains all x → (r : Receipt) × IsTold names boundary ops n worlds listings many x r
    told_by [] receipts x told has = absurd (none_has x has)
    told_by (y ∷ all) [] x told has = absurd told
    told_by (y ∷ all) (r ∷ receipts) x told (zero, low, is) = (r, subst (λ (z : Taken). IsTold names boundary ops n worlds listings many z r) is told.0)
    told_by (y ∷ all) (r ∷ receipts) x told (suc i, low, is) = told_by all receipts x told.1 (i, omega (arith, low), is)

    told_of : (x : Taken) → Contains k.all x → (r : Receipt) × IsTold names boundary ops n worlds listings many x r
    told_of x has = told_by k.all (receipts_in journal) x k.told has

    -- the point of a call whose reply it took
    point_of : (c : ℕ) → Contains k.all (Called c) → (told : Reply) × (p : Point) × ((calls c).answer ≡ Some told) × (lin.points c ≡ Some p) × (p.reply ≡ told)
    point_of c has =
        let r = told_of (Called c) has in
        let of = k.its (Called c) has in
        let p = lin.answered c r.0.reply of.0 r.1.1 in
        (r.0.reply, p.0, r.1.1, p.1, p.2)

    -- each takes place between its begin and its end
    since : (x : Taken) → Contains k.all x → began x ≤ at x
    since (Called c) has = let p = point_of c has in let of = k.its (Called c) has in let low = lin.begun c p.1 of.0 p.3 in let is = point_at c p.1 p.3 in omega (arith, low, is)
    since (Listed j) has = let of = k.its (Listed j) has in (lin.listed j of.0).0

    until : (x : Taken) (t : ℕ) → Contains k.all x → Past x t → at x < t
    until (Called c) t has past = let p = point_of c has in let of = k.its (Called c) has in let low = lin.ended c p.1 past.0 of.0 p.3 past.1 in let is = point_at c p.1 p.3 in let less = past.2 in omega (arith, low, is, less)
    until (Listed j) t has past = let of = k.its (Listed j) has in let low = (lin.listed j of.0).1 in omega (arith, low, past)

    in_log : (x : Taken) → Contains k.all x → at x < n
    in_log (Called c) has = let p = point_of c has in let of = k.its (Called c) has in let low = lin.past c p.1 of.0 p.3 in let is = point_at c p.1 p.3 in omega (arith, low, is)
    in_log (Listed j) has = let of = k.its (Listed j) has in (lin.listed j of.0).2

    strict_by : (xs : List Taken) → ((x : Taken) → Contains xs x → Contains k.all x) → InTurn names boundary ops n worlds listings many xs → Strict at xs
    strict_by [] all turn = tt
    strict_by (x ∷ xs) all turn = (
      λ y has. let before = until x (began y) (all x (first_has x xs)) (turn.0 y has) in let from = since y (all y (rest_has x y xs has)) in omega (arith, before, from),
      strict_by xs (λ y has. all y (rest_has x y xs has)) turn.1,
    )

    strict : Strict at k.all
    strict = strict_by k.all (λ x has. has) k.in_turn

    -- what takes place at a moment is what it took then
    pub hit_here : (t : ℕ) (writes : Bool) (c : ℕ) → c < count → HitAt client t writes c → Contains (here at t k.all) (Called c)
    hit_here t writes c low h = here_has at t (Called c) k.all (k.calls c h.told low h.its h.answer_is) (sym (point_at c h.point h.point_is) ∙ h.at_is)

    pub list_here : (t j : ℕ) → j < many → ListHitAt client t j → Contains (here at t k.all) (Listed j)
    list_here t j low h = here_has at t (Listed j) k.all (k.lists j low h.its) h.at_is

    none_then : (t : ℕ) → here at t k.all ≡ [] → (x : Taken) → ¬ (Contains (here at t k.all) x)
    none_then t none x has = none_has x (subst (λ (xs : List Taken). Contains xs x) none has)

    quiet : (t : ℕ) → here at t k.all ≡ [] → taken_of client (log_to (suc t)) ≡ taken_of client (log_to t)
    quiet t none =
        mine_parts names boundary ops n worlds listings many lin client t
        ∙ ap (λ (l : List LogRow). l ++ (taken_of client (rows_of_moment t false count) ++ (taken_of client (lists_of_moment t many) ++ taken_of client (log_to t)))) (no_rows names boundary ops n worlds listings many lin client t true count (λ c low h. none_then t none (Called c) (hit_here t true c low h)))
        ∙ ap (λ (l : List LogRow). l ++ (taken_of client (lists_of_moment t many) ++ taken_of client (log_to t))) (no_rows names boundary ops n worlds listings many lin client t false count (λ c low h. none_then t none (Called c) (hit_here t false c low h)))
        ∙ ap (λ (l : List LogRow). l ++ taken_of client (log_to t)) (no_lists names boundary ops n worlds listings many lin client t many (λ j low h. none_then t none (Listed j) (list_here t j low h)))

    only : (t : ℕ) (x y : Taken) → here at t k.all ≡ x ∷ [] → Contains (here at t k.all) y → x ≡ y
    only t x y one has = only_one x y (subst (λ (xs : List Taken). Contains xs y) one has)

    no_list_then : (t c : ℕ) → here at t k.all ≡ Called c ∷ [] → taken_of client (lists_of_moment t many) ≡ []
    no_list_then t c one = no_lists names boundary ops n worlds listings many lin client t many (λ j low h. let clash = ap is_call (only t (Called c) (Listed j) one (list_here t j low h)) in cc)

    no_rows_then : (t j : ℕ) (writes : Bool) → here at t k.all ≡ Listed j ∷ [] → taken_of client (rows_of_moment t writes count) ≡ []
    no_rows_then t j writes one = no_rows names boundary ops n worlds listings many lin client t writes count (λ c low h. let clash = ap is_call (only t (Listed j) (Called c) one (hit_here t writes c low h)) in cc)

    one_then : (t c : ℕ) (writes : Bool) → here at t k.all ≡ Called c ∷ [] → c < count → HitAt client t writes c → taken_of client (rows_of_moment t writes count) ≡ its_row (Called c) ∷ []
    one_then t c writes one low h = one_row names boundary ops n worlds listings many lin client t writes count c low h (λ d less other. sym (ap call_in (only t (Called c) (Called d) one (hit_here t writes d less other))))

    abbrev selects : Bool → Bool → Bool
    selects writes does = if writes then does else if does then false else true

    none_other : (t c : ℕ) (p : Point) (writes : Bool) → here at t k.all ≡ Called c ∷ [] → lin.points c ≡ Some p → selects writes p.writes ≡ false → taken_of client (rows_of_moment t writes count) ≡ []
    none_other t c p writes one is does = no_rows names boundary ops n worlds listings many lin client t writes count (λ d low h.
        let same : c ≡ d = ap call_in (only t (Called c) (Called d) one (hit_here t writes d low h)) in
        let point : p ≡ h.point = cc in
        let clash = sym does ∙ ap (λ (q : Point). selects writes q.writes) point ∙ h.writes_is in
        cc)

    hit_of : (t c : ℕ) (writes : Bool) (p : Point) (told : Reply) → (calls c).client ≡ client → (calls c).answer ≡ Some told → lin.points c ≡ Some p → p.at ≡ t → selects writes p.writes ≡ true → HitAt client t writes c
    hit_of t c writes p told its answer is when does = record { its = its; told = told; answer_is = answer; point = p; point_is = is; at_is = when; writes_is = does }

    called_by : (t c : ℕ) (p : Point) (told : Reply) → here at t k.all ≡ Called c ∷ [] → c < count → (calls c).client ≡ client → (calls c).answer ≡ Some told → lin.points c ≡ Some p → p.at ≡ t → (b : Bool) → p.writes ≡ b → taken_of client (log_to (suc t)) ≡ its_row (Called c) ∷ taken_of client (log_to t)
    called_by t c p told one low its answer is when true does =
        mine_parts names boundary ops n worlds listings many lin client t
        ∙ ap (λ (l : List LogRow). l ++ (taken_of client (rows_of_moment t false count) ++ (taken_of client (lists_of_moment t many) ++ taken_of client (log_to t)))) (one_then t c true one low (hit_of t c true p told its answer is when does))
        ∙ ap (λ (l : List LogRow). its_row (Called c) ∷ (l ++ (taken_of client (lists_of_moment t many) ++ taken_of client (log_to t)))) (none_other t c p false one is (rw does refl))
        ∙ ap (λ (l : List LogRow). its_row (Called c) ∷ (l ++ taken_of client (log_to t))) (no_list_then t c one)
    called_by t c p told one low its answer is when false does =
        mine_parts names boundary ops n worlds listings many lin client t
        ∙ ap (λ (l : List LogRow). l ++ (taken_of client (rows_of_moment t false count) ++ (taken_of client (lists_of_moment t many) ++ taken_of client (log_to t)))) (none_other t c p true one is does)
        ∙ ap (λ (l : List LogRow). l ++ (taken_of client (lists_of_moment t many) ++ taken_of client (log_to t))) (one_then t c false one low (hit_of t c false p told its answer is when (rw does refl)))
        ∙ ap (λ (l : List LogRow). its_row (Called c) ∷ (l ++ taken_of client (log_to t))) (no_list_then t c one)

    taken_then : (t : ℕ) (x : Taken) → here at t k.all ≡ x ∷ [] → taken_of client (log_to (suc t)) ≡ its_row x ∷ taken_of client (log_to t)
    taken_then t (Called c) one =
        let has = here_of at t (Called c) k.all (subst (λ (xs : List Taken). Contains xs (Called c)) (sym one) (first_has (Called c) [])) in
        let of = k.its (Called c) has.0 in
        let p = point_of c has.0 in
        called_by t c p.1 p.0 one of.0 of.1 p.2 p.3 (point_at c p.1 p.3 ∙ has.1) p.1.writes refl
    taken_then t (Listed j) one =
        let has = here_of at t (Listed j) k.all (subst (λ (xs : List Taken). Contains xs (Listed j)) (sym one) (first_has (Listed j) [])) in
        let of = k.its (Listed j) has.0 in
        mine_parts names boundary ops n worlds listings many lin client t
        ∙ ap (λ (l : List LogRow). l ++ (taken_of client (rows_of_moment t false count) ++ (taken_of client (lists_of_moment t many) ++ taken_of client (log_to t)))) (no_rows_then t j true one)
        ∙ ap (λ (l : List LogRow). l ++ (taken_of client (lists_of_moment t many) ++ taken_of client (log_to t))) (no_rows_then t j false one)
        ∙ ap (λ (l : List LogRow). l ++ taken_of client (log_to t)) (one_list names boundary ops n worlds listings many lin client t many j of.0 (record { its = of.1; at_is = has.1 }) (λ i low h. sym (ap list_in (only t (Listed j) (Listed i) one (list_here t i low h)))))

    abbrev newest_first : List Taken → List LogRow
    newest_first xs = reverse (map its_row xs)

    newest_append : (xs ys : List Taken) → newest_first (xs ++ ys) ≡ newest_first ys ++ newest_first xs
    newest_append xs ys = ap reverse (map-append its_row xs ys) ∙ reverse-append (map its_row xs) (map its_row ys)

    -- up to a moment, the newest first
    pub taken_is : (t : ℕ) → taken_of client (log_to t) ≡ newest_first (below at t k.all)
    taken_is zero = sym (ap newest_first (below_none at zero k.all (λ x has. omega arith)))
    taken_is (suc t) = by (few at t k.all strict) (taken_is t)
      where
        by : (here at t k.all ≡ []) ⊎ ((x : Taken) × (here at t k.all ≡ x ∷ [])) → taken_of client (log_to t) ≡ newest_first (below at t k.all) → taken_of client (log_to (suc t)) ≡ newest_first (below at (suc t) k.all)
        by (inl none) before = quiet t none ∙ before ∙ sym (ap newest_first (split at t k.all strict) ∙ newest_append (below at t k.all) (here at t k.all) ∙ ap (λ (xs : List Taken). newest_first xs ++ newest_first (below at t k.all)) none)
        by (inr one) before = taken_then t one.0 one.1 ∙ ap (λ (l : List LogRow). its_row one.0 ∷ l) before ∙ sym (ap newest_first (split at t k.all strict) ∙ newest_append (below at t k.all) (here at t k.all) ∙ ap (λ (xs : List Taken). newest_first xs ++ newest_first (below at t k.all)) one.1)

    pub all_taken : taken_of client (log_to n) ≡ newest_first k.all
    all_taken = taken_is n ∙ ap newest_first (below_all at n k.all in_log)

    -- What a call that nobody was answered left.
    module _ (c : ℕ) (p : Point) (low : c < count) (point : lin.points c ≡ Some p) (lost : IsLost names boundary ops n worlds listings many journal k.all c) where
      front : (x : Taken) → Contains (take lost.before k.all) x → Contains k.all x
      front x has = subst (λ (xs : List Taken). Contains xs x) (take-append-drop lost.before k.all) (Contains-append_left (take lost.before k.all) (drop lost.before k.all) x has)

      back : (x : Taken) → Contains (drop lost.before k.all) x → Contains k.all x
      back x has = subst (λ (xs : List Taken). Contains xs x) (take-append-drop lost.before k.all) (Contains-append_right (take lost.before k.all) (drop lost.before k.all) x has)

      earlier : (x : Taken) → Contains (take lost.before k.all) x → at x < p.at
      earlier x has = let before = until x (calls c).began (front x has) (lost.earlier x has) in let from = lin.begun c p low point in omega (arith, before, from)

      later : (x : Taken) → Contains (drop lost.before k.all) x → p.at < at x
      later x has =
          let end = lost.later x has in
          let most = lin.ended c p end.0 low point end.1 in
          let from = since x (back x has) in
          let less = end.2 in
          omega (arith, most, from, less)

      pub apart : (x : Taken) → Contains k.all x → ¬ (at x ≡ p.at)
      apart x has same = by (Contains-append_cases (take lost.before k.all) (drop lost.before k.all) x (subst (λ (xs : List Taken). Contains xs x) (sym (take-append-drop lost.before k.all)) has))
        where
          by : Contains (take lost.before k.all) x ⊎ Contains (drop lost.before k.all) x → ⊥
          by (inl first) = let less = earlier x first in omega (arith, less, same)
          by (inr rest) = let less = later x rest in omega (arith, less, same)

      below_is : below at p.at k.all ≡ take lost.before k.all
      below_is =
          ap (below at p.at) (sym (take-append-drop lost.before k.all))
          ∙ filter-append (λ x. nat_lt (at x) p.at) (take lost.before k.all) (drop lost.before k.all)
          ∙ ap (λ (xs : List Taken). xs ++ below at p.at (drop lost.before k.all)) (below_all at p.at (take lost.before k.all) earlier)
          ∙ ap (λ (xs : List Taken). take lost.before k.all ++ xs) (below_none at p.at (drop lost.before k.all) (λ x has. let less = later x has in omega (arith, less)))
          ∙ append-nil (take lost.before k.all)

      pub count_is : length (taken_of client (log_to p.at)) ≡ lost.before
      count_is =
          ap length (taken_is p.at ∙ ap newest_first below_is)
          ∙ length-reverse (map its_row (take lost.before k.all))
          ∙ length-map (take lost.before k.all) its_row
          ∙ length-take-le lost.before k.all lost.few
