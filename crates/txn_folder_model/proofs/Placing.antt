-- Journals whose receipts are given their places in a log.
use Rattle.std.proofs.Common.{◌≡◌, ℕ, zero, suc, ◌+◌, ◌≤◌, if◌then◌else◌, not, Bool, true, false, List, [], ◌∷◌, ◌++◌, length, Option, None, refl, ap, sym, subst, ◌∙◌, arith, ◌⊎◌, inl, inr}
use Rattle.std.specs.Prelude.{nat_lt, filter, reverse, Vec}
use Rattle.std.proofs.lemmas.Bool.{lt-ltb, le-ltb}
use Rattle.std.proofs.lemmas.List.{append-nil, reverse-append}
use Rattle.std.proofs.lemmas.List.Elements.{filter-append}
use Rattle.std.specs.declared.alloc.Global.{Global}
use Rattle.txn_store.specs.declared.request.Request.{Request}
use Rattle.txn_client_journals.specs.declared.rows.LogRow.{LogRow}
use Rattle.txn_client_journals.specs.declared.rows.Receipt.{Receipt}
use Rattle.txn_history.specs.declared.event.Call.{Call}
use Rattle.txn_client_journals.specs.declared.rows.Left.{Left}
use Rattle.txn_client_journals.specs.declared.rows.Act.{Act}
use Rattle.txn_client_journals.specs.declared.rows.Act.TheVariants as acts
use Rattle.txn_client_journals.specs.declared.rows.Step.{Step}
use Rattle.txn_client_journals.specs.declared.rows.Step.TheVariants as steps
use Rattle.txn_client_journals.specs.declared.rows.JournalRow.{JournalRow}
use Rattle.txn_client_journals.specs.Journals.{left_in}
use Rattle.txn_client_journals.specs.Verdict.{received_by, receipts_in, receipt_at, is_taken, rows_of, stops_at, left_at}
use Rattle.txn_folder_model.specs.Clients.{takes_it, number_behind, left_before, IsSameStep, AreSameRows}

-- the same receipts, but for their places
abbrev pub Like : List Receipt → List Receipt → Type 0
Like [] [] = Unit {0}
Like (r ∷ rs) (s ∷ ss) = ((r.request ≡ s.request) × (r.reply ≡ s.reply)) × Like rs ss
Like rs ss = ⊥

-- how many receipts in front are of places before one
abbrev pub count_front : ℕ → List Receipt → ℕ
count_front place [] = 0
count_front place (r ∷ rs) = if nat_lt r.place place then suc (count_front place rs) else 0

takes_killed : (T : Type 0) (lefts : Vec Left Global) (number : ℕ) → (λ (s : Step T). takes_it number s ≡ false) (steps.Killed lefts)
takes_killed T lefts zero = refl
takes_killed T lefts (suc k) = refl

behind_killed : (T : Type 0) (lefts : Vec Left Global) (number : ℕ) → (λ (s : Step T). number_behind number s ≡ number) (steps.Killed lefts)
behind_killed T lefts zero = refl
behind_killed T lefts (suc k) = refl

module _ {T : Type 0} where
  abbrev put_in : Receipt → Step T → Step T
  put_in r (steps.Act op (acts.Receive old)) = steps.Act op (acts.Receive r)
  put_in r step = step

  abbrev rest_of : Receipt → List Receipt → Step T → List Receipt
  rest_of r rs (steps.Act op (acts.Receive old)) = rs
  rest_of r rs step = r ∷ rs

  abbrev pub placed : List Receipt → List (JournalRow T) → List (JournalRow T)
  placed rs [] = []
  placed [] (row ∷ rows) = row ∷ placed [] rows
  placed (r ∷ rs) (row ∷ rows) = record { step = put_in r row.step; answer = row.answer } ∷ placed (rest_of r rs row.step) rows

  -- a step that takes no receipt
  pub record Other (step : Step T) : Type 0 where
    pub received : (rs : List Receipt) → received_by step rs ≡ rs
    pub put : (r : Receipt) → put_in r step ≡ step
    pub rest : (r : Receipt) (rs : List Receipt) → rest_of r rs step ≡ r ∷ rs
    pub stops : (place : ℕ) → stops_at place step ≡ false
    pub takes : (number : ℕ) → takes_it number step ≡ false
    pub behind : (number : ℕ) → number_behind number step ≡ number
    pub same : IsSameStep step step

  abbrev look : ℕ → Step T
  look op = steps.Act op acts.Look

  abbrev lacks : ℕ → Step T
  lacks op = steps.Act op acts.Lacks

  abbrev gives : ℕ → Option Request → Step T
  gives op left = steps.Act op (acts.GiveUp left)

  abbrev fails : ℕ → Request → Step T
  fails op request = steps.Act op (acts.Fails request)

  abbrev begins : Call T → Step T
  begins call = steps.Begin call

  abbrev pub Receives : Step T → Type 0
  Receives step = (op : ℕ) × (old : Receipt) × (step ≡ steps.Act op (acts.Receive old))

  view_act : (op : ℕ) (act : Act) → Receives (steps.Act op act) ⊎ Other (steps.Act op act)
  view_act op acts.Look = inr (record { received = λ rs. refl; put = λ r. refl; rest = λ r rs. refl; stops = λ place. refl; takes = takes_look op; behind = behind_look op; same = refl })
    where
      takes_look : (op number : ℕ) → takes_it number (look op) ≡ false
      takes_look op zero = refl
      takes_look op (suc k) = refl

      behind_look : (op number : ℕ) → number_behind number (look op) ≡ number
      behind_look op zero = refl
      behind_look op (suc k) = refl
  view_act op (acts.Receive old) = inl (op, old, refl)
  view_act op acts.Lacks = inr (record { received = λ rs. refl; put = λ r. refl; rest = λ r rs. refl; stops = λ place. refl; takes = takes_lacks op; behind = behind_lacks op; same = refl })
    where
      takes_lacks : (op number : ℕ) → takes_it number (lacks op) ≡ false
      takes_lacks op zero = refl
      takes_lacks op (suc k) = refl

      behind_lacks : (op number : ℕ) → number_behind number (lacks op) ≡ number
      behind_lacks op zero = refl
      behind_lacks op (suc k) = refl
  view_act op (acts.GiveUp left) = inr (record { received = λ rs. refl; put = λ r. refl; rest = λ r rs. refl; stops = λ place. refl; takes = takes_gives op left; behind = behind_gives op left; same = refl })
    where
      takes_gives : (op : ℕ) (left : Option Request) (number : ℕ) → takes_it number (gives op left) ≡ false
      takes_gives op left zero = refl
      takes_gives op left (suc k) = refl

      behind_gives : (op : ℕ) (left : Option Request) (number : ℕ) → number_behind number (gives op left) ≡ number
      behind_gives op left zero = refl
      behind_gives op left (suc k) = refl
  view_act op (acts.Fails request) = inr (record { received = λ rs. refl; put = λ r. refl; rest = λ r rs. refl; stops = λ place. refl; takes = takes_fails op request; behind = behind_fails op request; same = refl })
    where
      takes_fails : (op : ℕ) (request : Request) (number : ℕ) → takes_it number (fails op request) ≡ false
      takes_fails op request zero = refl
      takes_fails op request (suc k) = refl

      behind_fails : (op : ℕ) (request : Request) (number : ℕ) → number_behind number (fails op request) ≡ number
      behind_fails op request zero = refl
      behind_fails op request (suc k) = refl

  takes_begin : (call : Call T) (number : ℕ) → takes_it number (begins call) ≡ false
  takes_begin call zero = refl
  takes_begin call (suc k) = refl

  behind_begin : (call : Call T) (number : ℕ) → number_behind number (begins call) ≡ number
  behind_begin call zero = refl
  behind_begin call (suc k) = refl

  pub view : (step : Step T) → Receives step ⊎ Other step
  view (steps.Begin call) = inr (record { received = λ rs. refl; put = λ r. refl; rest = λ r rs. refl; stops = λ place. refl; takes = takes_begin call; behind = behind_begin call; same = refl })
  view (steps.Act op act) = view_act op act
  view (steps.Killed lefts) = inr (record { received = λ rs. refl; put = λ r. refl; rest = λ r rs. refl; stops = λ place. refl; takes = takes_killed T lefts; behind = behind_killed T lefts; same = refl })

  -- the receipts of a journal that has these
  pub receipts_placed : (rs : List Receipt) (rows : List (JournalRow T)) → Like rs (receipts_in rows) → receipts_in (placed rs rows) ≡ rs
  receipts_placed [] [] like = refl
  receipts_placed (r ∷ rs) [] like = absurd like
  receipts_placed [] (row ∷ rows) like = none_by row rows like (receipts_placed [] rows) (view row.step)
    where
      none_by : (row : JournalRow T) (rows : List (JournalRow T)) → Like [] (received_by row.step (receipts_in rows)) → (Like [] (receipts_in rows) → receipts_in (placed [] rows) ≡ []) → Receives row.step ⊎ Other row.step → received_by row.step (receipts_in (placed [] rows)) ≡ []
      none_by row rows like more (inl (op, old, is)) = absurd (subst (λ (s : Step T). Like [] (received_by s (receipts_in rows))) is like)
      none_by row rows like more (inr o) = o.received (receipts_in (placed [] rows)) ∙ more (subst (Like []) (o.received (receipts_in rows)) like)
  receipts_placed (r ∷ rs) (row ∷ rows) like = by row rows like (receipts_placed rs rows) (receipts_placed (r ∷ rs) rows) (view row.step)
    where
      by : (row : JournalRow T) (rows : List (JournalRow T)) → Like (r ∷ rs) (received_by row.step (receipts_in rows)) → (Like rs (receipts_in rows) → receipts_in (placed rs rows) ≡ rs) → (Like (r ∷ rs) (receipts_in rows) → receipts_in (placed (r ∷ rs) rows) ≡ r ∷ rs) → Receives row.step ⊎ Other row.step → received_by (put_in r row.step) (receipts_in (placed (rest_of r rs row.step) rows)) ≡ r ∷ rs
      by row rows like less more (inl (op, old, is)) =
          subst (λ (s : Step T). received_by (put_in r s) (receipts_in (placed (rest_of r rs s) rows)) ≡ r ∷ rs) (sym is)
          (ap (λ (xs : List Receipt). r ∷ xs) (less (subst (λ (s : Step T). Like (r ∷ rs) (received_by s (receipts_in rows))) is like).1))
      by row rows like less more (inr o) =
          ap (λ (s : Step T). received_by s (receipts_in (placed (rest_of r rs row.step) rows))) (o.put r)
          ∙ o.received (receipts_in (placed (rest_of r rs row.step) rows))
          ∙ ap (λ (xs : List Receipt). receipts_in (placed xs rows)) (o.rest r rs)
          ∙ more (subst (Like (r ∷ rs)) (o.received (receipts_in rows)) like)

  -- what was left, by the places and by the numbers of receipts
  pub left_placed : (place op : ℕ) (found : Option Request) (rs : List Receipt) (rows : List (JournalRow T)) → Like rs (receipts_in rows) → left_at place op found (placed rs rows) ≡ left_before (count_front place rs) op found rows
  left_placed place op found rs [] like = refl
  left_placed place op found [] (row ∷ rows) like = none_by row rows like (λ f. left_placed place op f [] rows) (view row.step)
    where
      none_by : (row : JournalRow T) (rows : List (JournalRow T)) → Like [] (received_by row.step (receipts_in rows)) → ((f : Option Request) → Like [] (receipts_in rows) → left_at place op f (placed [] rows) ≡ left_before 0 op f rows) → Receives row.step ⊎ Other row.step → (if stops_at place row.step then found else left_at place op (left_in op row.step found) (placed [] rows)) ≡ (if takes_it 0 row.step then found else left_before (number_behind 0 row.step) op (left_in op row.step found) rows)
      none_by row rows like more (inl (o, old, is)) = absurd (subst (λ (s : Step T). Like [] (received_by s (receipts_in rows))) is like)
      none_by row rows like more (inr o) = rw (o.stops place) (rw (o.takes 0) (rw (o.behind 0) (more (left_in op row.step found) (subst (Like []) (o.received (receipts_in rows)) like))))
  left_placed place op found (r ∷ rs) (row ∷ rows) like = by row rows like (λ f. left_placed place op f rs rows) (λ f. left_placed place op f (r ∷ rs) rows) (view row.step)
    where
      taken : (o : ℕ) (old : Receipt) (rows : List (JournalRow T)) → left_at place op found (placed rs rows) ≡ left_before (count_front place rs) op found rows → (b : Bool) →
          (if not b then found else left_at place op found (placed rs rows)) ≡ left_before (if b then suc (count_front place rs) else 0) op found (record { step = steps.Act o (acts.Receive old); answer = None } ∷ rows)
      taken o old rows more true = more
      taken o old rows more false = refl

      by : (row : JournalRow T) (rows : List (JournalRow T)) → Like (r ∷ rs) (received_by row.step (receipts_in rows)) → ((f : Option Request) → Like rs (receipts_in rows) → left_at place op f (placed rs rows) ≡ left_before (count_front place rs) op f rows) → ((f : Option Request) → Like (r ∷ rs) (receipts_in rows) → left_at place op f (placed (r ∷ rs) rows) ≡ left_before (count_front place (r ∷ rs)) op f rows) → Receives row.step ⊎ Other row.step →
          (if stops_at place (put_in r row.step) then found else left_at place op (left_in op (put_in r row.step) found) (placed (rest_of r rs row.step) rows))
          ≡ (if takes_it (count_front place (r ∷ rs)) row.step then found else left_before (number_behind (count_front place (r ∷ rs)) row.step) op (left_in op row.step found) rows)
      by row rows like less more (inl (o, old, is)) =
          subst (λ (s : Step T). (if stops_at place (put_in r s) then found else left_at place op (left_in op (put_in r s) found) (placed (rest_of r rs s) rows)) ≡ (if takes_it (count_front place (r ∷ rs)) s then found else left_before (number_behind (count_front place (r ∷ rs)) s) op (left_in op s found) rows)) (sym is)
          (taken o old rows (less found (subst (λ (s : Step T). Like (r ∷ rs) (received_by s (receipts_in rows))) is like).1) (nat_lt r.place place))
      by row rows like less more (inr o) =
          rw (o.put r) (rw (o.stops place) (rw (o.takes (count_front place (r ∷ rs))) (rw (o.behind (count_front place (r ∷ rs))) (rw (o.rest r rs) (more (left_in op row.step found) (subst (Like (r ∷ rs)) (o.received (receipts_in rows)) like))))))

  -- they are the same but for places
  pub same_placed : (rs : List Receipt) (rows : List (JournalRow T)) → Like rs (receipts_in rows) → AreSameRows rows (placed rs rows)
  same_placed [] [] like = tt
  same_placed (r ∷ rs) [] like = absurd like
  same_placed [] (row ∷ rows) like = none_by row rows like (same_placed [] rows) (view row.step)
    where
      none_by : (row : JournalRow T) (rows : List (JournalRow T)) → Like [] (received_by row.step (receipts_in rows)) → (Like [] (receipts_in rows) → AreSameRows rows (placed [] rows)) → Receives row.step ⊎ Other row.step → AreSameRows (row ∷ rows) (row ∷ placed [] rows)
      none_by row rows like more (inl (op, old, is)) = absurd (subst (λ (s : Step T). Like [] (received_by s (receipts_in rows))) is like)
      none_by row rows like more (inr o) = (o.same, refl, more (subst (Like []) (o.received (receipts_in rows)) like))
  same_placed (r ∷ rs) (row ∷ rows) like = by row rows like (same_placed rs rows) (same_placed (r ∷ rs) rows) (view row.step)
    where
      by : (row : JournalRow T) (rows : List (JournalRow T)) → Like (r ∷ rs) (received_by row.step (receipts_in rows)) → (Like rs (receipts_in rows) → AreSameRows rows (placed rs rows)) → (Like (r ∷ rs) (receipts_in rows) → AreSameRows rows (placed (r ∷ rs) rows)) → Receives row.step ⊎ Other row.step → IsSameStep row.step (put_in r row.step) × (row.answer ≡ row.answer) × AreSameRows rows (placed (rest_of r rs row.step) rows)
      by row rows like less more (inl (op, old, is)) =
          let had = subst (λ (s : Step T). Like (r ∷ rs) (received_by s (receipts_in rows))) is like in
          subst (λ (s : Step T). IsSameStep s (put_in r s) × (row.answer ≡ row.answer) × AreSameRows rows (placed (rest_of r rs s) rows)) (sym is) ((refl, sym had.0.0, sym had.0.1), refl, less had.1)
      by row rows like less more (inr o) =
          (subst (IsSameStep row.step) (sym (o.put r)) o.same, refl, subst (λ (xs : List Receipt). AreSameRows rows (placed xs rows)) (sym (o.rest r rs)) (more (subst (Like (r ∷ rs)) (o.received (receipts_in rows)) like)))

-- The receipts of a client in a log.

pub rows_append : (client p : ℕ) (ys zs : List LogRow) → rows_of client p (ys ++ zs) ≡ rows_of client p ys ++ rows_of client (p + length ys) zs
rows_append client p [] zs = let same : p ≡ p + 0 = omega arith in ap (λ (n : ℕ). rows_of client n zs) same
rows_append client p (y ∷ ys) zs = by (is_taken client y) (rows_append client (p + 1) ys zs)
  where
    by : (b : Bool) → rows_of client (p + 1) (ys ++ zs) ≡ rows_of client (p + 1) ys ++ rows_of client ((p + 1) + length ys) zs → (if b then receipt_at p y ∷ rows_of client (p + 1) (ys ++ zs) else rows_of client (p + 1) (ys ++ zs)) ≡ (if b then receipt_at p y ∷ rows_of client (p + 1) ys else rows_of client (p + 1) ys) ++ rows_of client (p + suc (length ys)) zs
    by true more = let same : (p + 1) + length ys ≡ p + suc (length ys) = omega arith in ap (λ (l : List Receipt). receipt_at p y ∷ l) (more ∙ ap (λ (n : ℕ). rows_of client (p + 1) ys ++ rows_of client n zs) same)
    by false more = let same : (p + 1) + length ys ≡ p + suc (length ys) = omega arith in more ∙ ap (λ (n : ℕ). rows_of client (p + 1) ys ++ rows_of client n zs) same

count_all : (place client p : ℕ) (ys : List LogRow) (more : List Receipt) → p + length ys ≤ place → count_front place (rows_of client p ys ++ more) ≡ length (filter (is_taken client) ys) + count_front place more
count_all place client p [] more low = omega arith
count_all place client p (y ∷ ys) more low = by (is_taken client y) (count_all place client (p + 1) ys more (omega (arith, low)))
  where
    by : (b : Bool) → count_front place (rows_of client (p + 1) ys ++ more) ≡ length (filter (is_taken client) ys) + count_front place more → count_front place ((if b then receipt_at p y ∷ rows_of client (p + 1) ys else rows_of client (p + 1) ys) ++ more) ≡ length (if b then y ∷ filter (is_taken client) ys else filter (is_taken client) ys) + count_front place more
    by true rest = rw (lt-ltb p place (omega (arith, low))) (omega (arith, rest))
    by false rest = rest

count_none : (place client p : ℕ) (zs : List LogRow) → place ≤ p → count_front place (rows_of client p zs) ≡ 0
count_none place client p [] most = refl
count_none place client p (z ∷ zs) most = by (is_taken client z) (count_none place client (p + 1) zs (omega (arith, most)))
  where
    by : (b : Bool) → count_front place (rows_of client (p + 1) zs) ≡ 0 → count_front place (if b then receipt_at p z ∷ rows_of client (p + 1) zs else rows_of client (p + 1) zs) ≡ 0
    by true rest = rw (le-ltb p place most) refl
    by false rest = rest

-- of the receipts before a place there are as many as rows that the client took before it
pub count_is : (client : ℕ) (ys zs : List LogRow) → count_front (length ys) (rows_of client 0 (ys ++ zs)) ≡ length (filter (is_taken client) ys)
count_is client ys zs =
    ap (count_front (length ys)) (rows_append client 0 ys zs)
    ∙ count_all (length ys) client 0 ys (rows_of client (0 + length ys) zs) (omega arith)
    ∙ ap (λ (n : ℕ). length (filter (is_taken client) ys) + n) (count_none (length ys) client (0 + length ys) zs (omega arith))
    ∙ omega arith

pub reverse_first : {A : Type 0} (x : A) (xs : List A) → reverse (x ∷ xs) ≡ reverse xs ++ x ∷ []
reverse_first x xs = reverse-append (x ∷ []) xs

pub filter_reverse : {A : Type 0} (p : A → Bool) (xs : List A) → filter p (reverse xs) ≡ reverse (filter p xs)
filter_reverse p [] = refl
filter_reverse p (x ∷ xs) = ap (filter p) (reverse_first x xs) ∙ filter-append p (reverse xs) (x ∷ []) ∙ by (p x) (filter_reverse p xs)
  where
    by : (b : Bool) → filter p (reverse xs) ≡ reverse (filter p xs) → filter p (reverse xs) ++ (if b then x ∷ [] else []) ≡ reverse (if b then x ∷ filter p xs else filter p xs)
    by true more = ap (λ ys. ys ++ x ∷ []) more ∙ sym (reverse_first x (filter p xs))
    by false more = append-nil (filter p (reverse xs)) ∙ more
