-- Which rows of the log of a folder one client took: those of its calls and listings, in their order.
use Rattle.std.proofs.Common.{◌≡◌, ℕ, zero, suc, ◌<◌, ◌≤◌, ◌==◌, ◌&&◌, if◌then◌else◌, Bool, true, false, List, [], ◌∷◌, ◌++◌, Option, Some, None, Ok, refl, ap, sym, subst, ◌∙◌, arith, ◌⊎◌, inl, inr}
use Rattle.std.specs.Prelude.{Contains, nat_lt, filter}
use Rattle.std.proofs.lemmas.Bool.{eqb-true, eqb-false, eq-eqb, ltb-true, ltb-false, lt-ltb, le-ltb, ne_eqb}
use Rattle.std.proofs.lemmas.List.Elements.{filter-append}
use Rattle.txn_store.specs.Paths.{Segments}
use Rattle.txn_store.specs.VersionName.{Names}
use Rattle.txn_store.specs.declared.request.Reply.{Reply}
use Rattle.txn_store.specs.declared.request.Reply.TheVariants as replies
use Rattle.txn_client_journals.specs.declared.rows.LogRow.{LogRow}
use Rattle.txn_client_journals.specs.Verdict.{is_taken}
use Rattle.txn_folder_model.specs.Worlds.{Call, World}
use Rattle.txn_folder_model.specs.Linear.{Point, IsLinearizable, request_of, row_of, row_at, rows_at, listed_at, log_until}
use Rattle.txn_folder_model.specs.Listings.{Listing, listing_row}
use Rattle.txn_folder_model.specs.Clients.{Taken, Called, Listed}

-- Lists of what has numbers.

pub rest_has : {A : Type 0} (x y : A) (xs : List A) → Contains xs y → Contains (x ∷ xs) y
rest_has x y xs has = let low = has.1 in (suc has.0, omega (arith, low), has.2)

pub first_has : {A : Type 0} (x : A) (xs : List A) → Contains (x ∷ xs) x
first_has x xs = (0, omega arith, refl)

has_cases : {A : Type 0} (x y : A) (xs : List A) → Contains (x ∷ xs) y → (x ≡ y) ⊎ Contains xs y
has_cases x y xs (zero, low, is) = inl is
has_cases x y xs (suc k, low, is) = inr (k, omega (arith, low), is)

pub none_has : {A : Type 0} (y : A) → Contains [] y → ⊥
none_has y has = let low = has.1 in omega (arith, low)

pub filter_none : {A : Type 0} (p : A → Bool) (xs : List A) → ((x : A) → Contains xs x → p x ≡ false) → filter p xs ≡ []
filter_none p [] none = refl
filter_none p (x ∷ xs) none = rw (none x (first_has x xs)) (filter_none p xs (λ y has. none y (rest_has x y xs has)))

pub filter_all : {A : Type 0} (p : A → Bool) (xs : List A) → ((x : A) → Contains xs x → p x ≡ true) → filter p xs ≡ xs
filter_all p [] all = refl
filter_all p (x ∷ xs) all = rw (all x (first_has x xs)) (ap (λ ys. x ∷ ys) (filter_all p xs (λ y has. all y (rest_has x y xs has))))

filter_has_by : {A : Type 0} (p : A → Bool) (x y : A) (xs : List A) → p y ≡ true → (Contains xs y → Contains (filter p xs) y) → (b : Bool) → p x ≡ b → (x ≡ y) ⊎ Contains xs y → Contains (if b then x ∷ filter p xs else filter p xs) y
filter_has_by p x y xs is more true e (inl same) = subst (λ z. Contains (x ∷ filter p xs) z) same (first_has x (filter p xs))
filter_has_by p x y xs is more true e (inr rest) = rest_has x y (filter p xs) (more rest)
filter_has_by p x y xs is more false e (inl same) = let clash = sym e ∙ ap p same ∙ is in absurd (cc)
filter_has_by p x y xs is more false e (inr rest) = more rest

pub filter_has : {A : Type 0} (p : A → Bool) (y : A) (xs : List A) → p y ≡ true → Contains xs y → Contains (filter p xs) y
filter_has p y [] is has = absurd (none_has y has)
filter_has p y (x ∷ xs) is has = filter_has_by p x y xs is (filter_has p y xs is) (p x) refl (has_cases x y xs has)

filter_of_by : {A : Type 0} (p : A → Bool) (x y : A) (xs : List A) → (Contains (filter p xs) y → Contains xs y × (p y ≡ true)) → (b : Bool) → p x ≡ b → Contains (if b then x ∷ filter p xs else filter p xs) y → Contains (x ∷ xs) y × (p y ≡ true)
filter_of_by p x y xs more true e has = by (has_cases x y (filter p xs) has)
  where
    by : (x ≡ y) ⊎ Contains (filter p xs) y → Contains (x ∷ xs) y × (p y ≡ true)
    by (inl same) = (subst (λ z. Contains (x ∷ xs) z) same (first_has x xs), sym (ap p same) ∙ e)
    by (inr rest) = let got = more rest in (rest_has x y xs got.0, got.1)
filter_of_by p x y xs more false e has = let got = more has in (rest_has x y xs got.0, got.1)

pub filter_of : {A : Type 0} (p : A → Bool) (y : A) (xs : List A) → Contains (filter p xs) y → Contains xs y × (p y ≡ true)
filter_of p y [] has = absurd (none_has y has)
filter_of p y (x ∷ xs) has = filter_of_by p x y xs (filter_of p y xs) (p x) refl has

-- Things that each have a moment, one after another.
module _ {A : Type 0} (at : A → ℕ) where
  abbrev pub Strict : List A → Type 0
  Strict [] = Unit {0}
  Strict (x ∷ xs) = ((y : A) → Contains xs y → at x < at y) × Strict xs

  abbrev pub below : ℕ → List A → List A
  below t = filter (λ x. nat_lt (at x) t)

  abbrev pub here : ℕ → List A → List A
  here t = filter (λ x. at x == t)

  pub below_all : (t : ℕ) (xs : List A) → ((x : A) → Contains xs x → at x < t) → below t xs ≡ xs
  below_all t xs low = filter_all (λ x. nat_lt (at x) t) xs (λ x has. lt-ltb (at x) t (low x has))

  pub below_none : (t : ℕ) (xs : List A) → ((x : A) → Contains xs x → t ≤ at x) → below t xs ≡ []
  below_none t xs most = filter_none (λ x. nat_lt (at x) t) xs (λ x has. le-ltb (at x) t (most x has))

  here_none : (t : ℕ) (xs : List A) → ((x : A) → Contains xs x → ¬ (at x ≡ t)) → here t xs ≡ []
  here_none t xs other = filter_none (λ x. at x == t) xs (λ x has. ne_eqb (at x) t (other x has))

  order : (a t : ℕ) → (a < t) ⊎ ((a ≡ t) ⊎ (t < a))
  order a t = by (nat_lt a t) refl (a == t) refl
    where
      by : (x : Bool) → nat_lt a t ≡ x → (y : Bool) → (a == t) ≡ y → (a < t) ⊎ ((a ≡ t) ⊎ (t < a))
      by true is y e = inl (ltb-true a t is)
      by false is true e = inr (inl (eqb-true a t e))
      by false is false e = let most = ltb-false a t is in let other = eqb-false a t e in inr (inr (omega (arith, most, other)))

  split_by : (t : ℕ) (x : A) (xs : List A) → Strict (x ∷ xs) → below (suc t) xs ≡ below t xs ++ here t xs → (at x < t) ⊎ ((at x ≡ t) ⊎ (t < at x)) → below (suc t) (x ∷ xs) ≡ below t (x ∷ xs) ++ here t (x ∷ xs)
  split_by t x xs up more (inl less) = rw (lt-ltb (at x) (suc t) (omega (arith, less))) (rw (lt-ltb (at x) t less) (rw (ne_eqb (at x) t (λ e. omega (arith, e, less))) (ap (λ ys. x ∷ ys) more)))
  split_by t x xs up more (inr (inl same)) =
      let above = up.0 in
      rw (lt-ltb (at x) (suc t) (omega (arith, same))) (rw (le-ltb (at x) t (omega (arith, same))) (rw (eq-eqb (at x) t same)
      (ap (λ ys. x ∷ ys) (below_none (suc t) xs (λ y has. let up_here = above y has in omega (arith, up_here, same)))
      ∙ sym (ap (λ ys. ys ++ (x ∷ here t xs)) (below_none t xs (λ y has. let up_here = above y has in omega (arith, up_here, same)))
      ∙ ap (λ ys. x ∷ ys) (here_none t xs (λ y has e. let up_here = above y has in omega (arith, up_here, same, e)))))))
  split_by t x xs up more (inr (inr later)) = rw (le-ltb (at x) (suc t) (omega (arith, later))) (rw (le-ltb (at x) t (omega (arith, later))) (rw (ne_eqb (at x) t (λ e. omega (arith, e, later))) more))

  pub split : (t : ℕ) (xs : List A) → Strict xs → below (suc t) xs ≡ below t xs ++ here t xs
  split t [] up = refl
  split t (x ∷ xs) up = split_by t x xs up (split t xs up.1) (order (at x) t)

  few_by : (t : ℕ) (x : A) (xs : List A) → Strict (x ∷ xs) → (here t xs ≡ []) ⊎ ((y : A) × (here t xs ≡ y ∷ [])) → (b : Bool) → (at x == t) ≡ b → ((if b then x ∷ here t xs else here t xs) ≡ []) ⊎ ((y : A) × ((if b then x ∷ here t xs else here t xs) ≡ y ∷ []))
  few_by t x xs up more true is = let same = eqb-true (at x) t is in let above = up.0 in inr (x, ap (λ ys. x ∷ ys) (here_none t xs (λ y has e. let up_here = above y has in omega (arith, up_here, same, e))))
  few_by t x xs up more false is = more

  -- one at most is at a moment
  pub few : (t : ℕ) (xs : List A) → Strict xs → (here t xs ≡ []) ⊎ ((x : A) × (here t xs ≡ x ∷ []))
  few t [] up = inl refl
  few t (x ∷ xs) up = few_by t x xs up (few t xs up.1) (at x == t) refl

  pub here_has : (t : ℕ) (x : A) (xs : List A) → Contains xs x → at x ≡ t → Contains (here t xs) x
  here_has t x xs has is = filter_has (λ y. at y == t) x xs (eq-eqb (at x) t is) has

  pub here_of : (t : ℕ) (x : A) (xs : List A) → Contains (here t xs) x → Contains xs x × (at x ≡ t)
  here_of t x xs has = let got = filter_of (λ y. at y == t) x xs has in (got.0, eqb-true (at x) t got.1)

and_false : (b : Bool) → (b && false) ≡ false
and_false true = refl
and_false false = refl

pub only_one : {A : Type 0} (x y : A) → Contains (x ∷ []) y → x ≡ y
only_one x y has = by (has_cases x y [] has)
  where
    by : (x ≡ y) ⊎ Contains [] y → x ≡ y
    by (inl same) = same
    by (inr none) = absurd (none_has y none)

module _ (names : Names) (boundary : Segments) (ops : ℕ → ℕ) (n : ℕ) (worlds : ℕ → World) (listings : ℕ → Listing) (many : ℕ) (lin : IsLinearizable names boundary ops n worlds listings many) where
  abbrev calls : ℕ → Call
  calls = (worlds n).calls

  abbrev count : ℕ
  count = (worlds n).count

  abbrev at_of : Option Point → ℕ
  at_of None = 0
  at_of (Some p) = p.at

  abbrev reply_of : Option Point → Reply
  reply_of None = replies.Delete (Ok tt)
  reply_of (Some p) = p.reply

  -- where it takes place
  abbrev pub moment : Taken → ℕ
  moment (Called c) = at_of (lin.points c)
  moment (Listed j) = lin.moments j

  -- its row of the log
  abbrev pub row : Taken → LogRow
  row (Called c) = record { client = (calls c).client; request = request_of names boundary (calls c).work; reply = reply_of (lin.points c); landed = None }
  row (Listed j) = listing_row names (listings j)

  abbrev pub mine : ℕ → List LogRow → List LogRow
  mine client = filter (is_taken client)

  abbrev selects : Bool → Bool → Bool
  selects writes does = if writes then does else if does then false else true

  -- a call of the client answered, and takes place then
  pub record Hit (client t : ℕ) (writes : Bool) (c : ℕ) : Type 0 where
    pub its : (calls c).client ≡ client
    pub told : Reply
    pub answer_is : (calls c).answer ≡ Some told
    pub point : Point
    pub point_is : lin.points c ≡ Some point
    pub at_is : point.at ≡ t
    pub writes_is : selects writes point.writes ≡ true

  row_hit : (client t : ℕ) (writes : Bool) (c : ℕ) → Hit client t writes c → mine client (row_at names boundary ops t writes c (calls c) (lin.points c)) ≡ row (Called c) ∷ []
  row_hit client t writes c h = rw h.point_is (rw (eq-eqb h.point.at t h.at_is) (rw h.writes_is (rw h.answer_is (rw (eq-eqb (calls c).client client h.its) refl))))

  miss_client : (client c : ℕ) (reply told : Reply) → (calls c).answer ≡ Some told → ¬ ((calls c).client ≡ client) → mine client (row_of names boundary ops c (calls c) reply ∷ []) ≡ []
  miss_client client c reply told is other = rw is (rw (not_same ((calls c).client == client) refl) refl)
    where
      not_same : (b : Bool) → ((calls c).client == client) ≡ b → b ≡ false
      not_same true e = absurd (other (eqb-true (calls c).client client e))
      not_same false e = refl

  miss_answer : (client t : ℕ) (writes : Bool) (c : ℕ) (p : Point) → lin.points c ≡ Some p → p.at ≡ t → selects writes p.writes ≡ true → ¬ (Hit client t writes c) → (a : Option Reply) → (calls c).answer ≡ a → mine client (row_of names boundary ops c (calls c) p.reply ∷ []) ≡ []
  miss_answer client t writes c p is at does never None e = rw e (rw (and_false ((calls c).client == client)) refl)
  miss_answer client t writes c p is at does never (Some told) e = miss_client client c p.reply told e (λ its. never (record { its = its; told = told; answer_is = e; point = p; point_is = is; at_is = at; writes_is = does }))

  miss_at : (client t : ℕ) (writes : Bool) (c : ℕ) (p : Point) → lin.points c ≡ Some p → ¬ (Hit client t writes c) → (b : Bool) → (p.at == t) ≡ b → (s : Bool) → selects writes p.writes ≡ s → mine client (if b && s then row_of names boundary ops c (calls c) p.reply ∷ [] else []) ≡ []
  miss_at client t writes c p is never true at true does = miss_answer client t writes c p is (eqb-true p.at t at) does never (calls c).answer refl
  miss_at client t writes c p is never true at false does = refl
  miss_at client t writes c p is never false at s does = refl

  miss_point : (client t : ℕ) (writes : Bool) (c : ℕ) → ¬ (Hit client t writes c) → (o : Option Point) → lin.points c ≡ o → mine client (row_at names boundary ops t writes c (calls c) o) ≡ []
  miss_point client t writes c never None is = refl
  miss_point client t writes c never (Some p) is = miss_at client t writes c p is never (p.at == t) refl (selects writes p.writes) refl

  row_miss : (client t : ℕ) (writes : Bool) (c : ℕ) → ¬ (Hit client t writes c) → mine client (row_at names boundary ops t writes c (calls c) (lin.points c)) ≡ []
  row_miss client t writes c never = miss_point client t writes c never (lin.points c) refl

  abbrev pub rows : ℕ → Bool → ℕ → List LogRow
  rows t writes k = rows_at names boundary ops calls lin.points t writes k

  pub no_rows : (client t : ℕ) (writes : Bool) (k : ℕ) → ((c : ℕ) → c < k → ¬ (Hit client t writes c)) → mine client (rows t writes k) ≡ []
  no_rows client t writes zero never = refl
  no_rows client t writes (suc k) never =
      filter-append (is_taken client) (row_at names boundary ops t writes k (calls k) (lin.points k)) (rows t writes k)
      ∙ ap (λ (l : List LogRow). l ++ mine client (rows t writes k)) (row_miss client t writes k (never k (omega arith)))
      ∙ no_rows client t writes k (λ c low. never c (omega (arith, low)))

  one_row_by : (client t : ℕ) (writes : Bool) (k one : ℕ) → one < suc k → Hit client t writes one → ((c : ℕ) → c < suc k → Hit client t writes c → c ≡ one) → (one < k → mine client (rows t writes k) ≡ row (Called one) ∷ []) → (b : Bool) → (k == one) ≡ b → mine client (rows t writes (suc k)) ≡ row (Called one) ∷ []
  one_row_by client t writes k one low h alone more true e =
      let same : k ≡ one = eqb-true k one e in
      filter-append (is_taken client) (row_at names boundary ops t writes k (calls k) (lin.points k)) (rows t writes k)
      ∙ ap (λ (l : List LogRow). l ++ mine client (rows t writes k)) (row_hit client t writes k (subst (Hit client t writes) (sym same) h) ∙ ap (λ (c : ℕ). row (Called c) ∷ []) same)
      ∙ ap (λ (l : List LogRow). row (Called one) ∷ l) (no_rows client t writes k (λ c less hit. let is = alone c (omega (arith, less)) hit in omega (arith, less, is, same)))
  one_row_by client t writes k one low h alone more false e =
      let other = eqb-false k one e in
      filter-append (is_taken client) (row_at names boundary ops t writes k (calls k) (lin.points k)) (rows t writes k)
      ∙ ap (λ (l : List LogRow). l ++ mine client (rows t writes k)) (row_miss client t writes k (λ hit. other (alone k (omega arith) hit)))
      ∙ more (omega (arith, low, other))

  pub one_row : (client t : ℕ) (writes : Bool) (k one : ℕ) → one < k → Hit client t writes one → ((c : ℕ) → c < k → Hit client t writes c → c ≡ one) → mine client (rows t writes k) ≡ row (Called one) ∷ []
  one_row client t writes zero one low h alone = absurd (omega (arith, low))
  one_row client t writes (suc k) one low h alone = one_row_by client t writes k one low h alone (λ less. one_row client t writes k one less h (λ c less_c. alone c (omega (arith, less_c)))) (k == one) refl

  -- The same of listings.

  pub record ListHit (client t j : ℕ) : Type 0 where
    pub its : (listings j).client ≡ client
    pub at_is : lin.moments j ≡ t

  abbrev pub lists : ℕ → ℕ → List LogRow
  lists t k = listed_at names boundary ops (λ j. listing_row names (listings j)) lin.moments t k

  abbrev pub list_at : ℕ → ℕ → List LogRow
  list_at t j = if lin.moments j == t then listing_row names (listings j) ∷ [] else []

  list_hit : (client t j : ℕ) → ListHit client t j → mine client (list_at t j) ≡ row (Listed j) ∷ []
  list_hit client t j h = rw (eq-eqb (lin.moments j) t h.at_is) (rw (eq-eqb (listings j).client client h.its) refl)

  miss_list : (client t j : ℕ) → ¬ (ListHit client t j) → (b : Bool) → (lin.moments j == t) ≡ b → (x : Bool) → ((listings j).client == client) ≡ x → mine client (if b then listing_row names (listings j) ∷ [] else []) ≡ []
  miss_list client t j never true at true its = absurd (never (record { its = eqb-true (listings j).client client its; at_is = eqb-true (lin.moments j) t at }))
  miss_list client t j never true at false its = rw its refl
  miss_list client t j never false at x its = refl

  list_miss : (client t j : ℕ) → ¬ (ListHit client t j) → mine client (list_at t j) ≡ []
  list_miss client t j never = miss_list client t j never (lin.moments j == t) refl ((listings j).client == client) refl

  pub no_lists : (client t k : ℕ) → ((j : ℕ) → j < k → ¬ (ListHit client t j)) → mine client (lists t k) ≡ []
  no_lists client t zero never = refl
  no_lists client t (suc k) never =
      filter-append (is_taken client) (list_at t k) (lists t k)
      ∙ ap (λ (l : List LogRow). l ++ mine client (lists t k)) (list_miss client t k (never k (omega arith)))
      ∙ no_lists client t k (λ j low. never j (omega (arith, low)))

  one_list_by : (client t k one : ℕ) → one < suc k → ListHit client t one → ((j : ℕ) → j < suc k → ListHit client t j → j ≡ one) → (one < k → mine client (lists t k) ≡ row (Listed one) ∷ []) → (b : Bool) → (k == one) ≡ b → mine client (lists t (suc k)) ≡ row (Listed one) ∷ []
  one_list_by client t k one low h alone more true e =
      let same : k ≡ one = eqb-true k one e in
      filter-append (is_taken client) (list_at t k) (lists t k)
      ∙ ap (λ (l : List LogRow). l ++ mine client (lists t k)) (list_hit client t k (subst (ListHit client t) (sym same) h) ∙ ap (λ (j : ℕ). row (Listed j) ∷ []) same)
      ∙ ap (λ (l : List LogRow). row (Listed one) ∷ l) (no_lists client t k (λ j less hit. let is = alone j (omega (arith, less)) hit in omega (arith, less, is, same)))
  one_list_by client t k one low h alone more false e =
      let other = eqb-false k one e in
      filter-append (is_taken client) (list_at t k) (lists t k)
      ∙ ap (λ (l : List LogRow). l ++ mine client (lists t k)) (list_miss client t k (λ hit. other (alone k (omega arith) hit)))
      ∙ more (omega (arith, low, other))

  pub one_list : (client t k one : ℕ) → one < k → ListHit client t one → ((j : ℕ) → j < k → ListHit client t j → j ≡ one) → mine client (lists t k) ≡ row (Listed one) ∷ []
  one_list client t zero one low h alone = absurd (omega (arith, low))
  one_list client t (suc k) one low h alone = one_list_by client t k one low h alone (λ less. one_list client t k one less h (λ j less_j. alone j (omega (arith, less_j)))) (k == one) refl

  abbrev pub log : ℕ → List LogRow
  log t = log_until names boundary ops calls lin.points count (λ j. listing_row names (listings j)) lin.moments many t

  pub mine_parts : (client t : ℕ) → mine client (log (suc t)) ≡ mine client (rows t true count) ++ (mine client (rows t false count) ++ (mine client (lists t many) ++ mine client (log t)))
  mine_parts client t =
      filter-append (is_taken client) (rows t true count) (rows t false count ++ (lists t many ++ log t))
      ∙ ap (λ (l : List LogRow). mine client (rows t true count) ++ l)
      (filter-append (is_taken client) (rows t false count) (lists t many ++ log t)
      ∙ ap (λ (l : List LogRow). mine client (rows t false count) ++ l) (filter-append (is_taken client) (lists t many) (log t)))
