-- Calls whose points are right where they lie are those of one honest store.
use Rattle.std.proofs.Common.{◌≡◌, ℕ, zero, suc, ◌+◌, ◌<◌, ◌≤◌, ◌==◌, ◌&&◌, Bool, true, false, if◌then◌else◌, List, [], ◌∷◌, ◌++◌, Option, Some, None, refl, ap, sym, subst, ◌∙◌, append_assoc, arith, ◌⊎◌, inl, inr}
use Rattle.std.proofs.lemmas.Bool.{eqb-true, eqb-false, eq-eqb}
use Rattle.txn_store.specs.Paths.{Segments}
use Rattle.txn_store.specs.VersionName.{Names}
use Rattle.txn_client_journals.specs.declared.rows.LogRow.{LogRow}
use Rattle.txn_client_journals.specs.Logs.{IsLog}
use Rattle.txn_folder_model.specs.Worlds.{Call}
use Rattle.txn_folder_model.specs.Linear.{Point, request_of, row_of, row_at, rows_at, listed_at, log_until}
use Rattle.txn_folder_model.proofs.Ghosts.{Ghost, store_of, ReadsSo, WritesSo}

module _ (names : Names) (boundary : Segments) (calls : ℕ → Call) (points : ℕ → Option Point) (count : ℕ) (ghosts : ℕ → Ghost) where
  -- a log that leads to the store of a moment
  abbrev pub LogTo : List LogRow → Ghost → Type 0
  LogTo log g = (k : ℕ) × IsLog log (store_of g k)

  -- no call below a number writes at a moment
  abbrev pub NoneWrites : ℕ → ℕ → Type 0
  NoneWrites t below = (c : ℕ) (p : Point) → c < below → points c ≡ Some p → p.at ≡ t → p.writes ≡ true → ⊥

  -- one call writes at a moment, and no other
  pub record OneWrites (t : ℕ) : Type 0 where
    pub call : ℕ
    pub within : call < count
    pub point : Point
    pub has : points call ≡ Some point
    pub at : point.at ≡ t
    pub writes : point.writes ≡ true
    pub right : WritesSo (ghosts t) (request_of names boundary (calls call).work) point.reply (ghosts (suc t))
    pub alone : (c : ℕ) (p : Point) → c < count → points c ≡ Some p → p.at ≡ t → p.writes ≡ true → c ≡ call

  -- what happens at a moment is right
  pub record IsRight (t : ℕ) : Type 0 where
    pub reads : (c : ℕ) (p : Point) → c < count → points c ≡ Some p → p.at ≡ t → p.writes ≡ false → ReadsSo (ghosts t) (request_of names boundary (calls c).work) p.reply
    pub writes : ((ghosts (suc t) ≡ ghosts t) × NoneWrites t count) ⊎ OneWrites t

  module _ (ops : ℕ → ℕ) where
    read_row_by : (t n : ℕ) (log : List LogRow) (p : Point) → (p.at ≡ t → p.writes ≡ false → ReadsSo (ghosts t) (request_of names boundary (calls n).work) p.reply) → LogTo log (ghosts t) →
        (b : Bool) → (p.at == t) ≡ b → (w : Bool) → p.writes ≡ w → LogTo ((if b && (if false then w else if w then false else true) then row_of names boundary ops n (calls n) p.reply ∷ [] else []) ++ log) (ghosts t)
    read_row_by t n log p right (k, so) true is false reads = (k + 1, (store_of (ghosts t) k, so, right (eqb-true p.at t is) reads k, refl))
    read_row_by t n log p right so true is true writes = so
    read_row_by t n log p right so false is w writes = so

    read_row : (t n : ℕ) (log : List LogRow) (o : Option Point) → ((p : Point) → o ≡ Some p → p.at ≡ t → p.writes ≡ false → ReadsSo (ghosts t) (request_of names boundary (calls n).work) p.reply) → LogTo log (ghosts t) → LogTo (row_at names boundary ops t false n (calls n) o ++ log) (ghosts t)
    read_row t n log None right so = so
    read_row t n log (Some p) right so = read_row_by t n log p (right p refl) so (p.at == t) refl p.writes refl

    read_rows : (t n : ℕ) (log : List LogRow) → n ≤ count → IsRight t → LogTo log (ghosts t) → LogTo (rows_at names boundary ops calls points t false n ++ log) (ghosts t)
    read_rows t zero log most right so = so
    read_rows t (suc n) log most right so =
        subst (λ (l : List LogRow). LogTo l (ghosts t)) (sym (append_assoc (row_at names boundary ops t false n (calls n) (points n)) (rows_at names boundary ops calls points t false n) log))
        (read_row t n (rows_at names boundary ops calls points t false n ++ log) (points n) (λ p. right.reads n p (omega (arith, most))) (read_rows t n log (omega (arith, most)) right so))

    no_row_by : (t n : ℕ) (p : Point) → (p.at ≡ t → p.writes ≡ true → ⊥) → (b : Bool) → (p.at == t) ≡ b → (w : Bool) → p.writes ≡ w → (if b && (if true then w else if w then false else true) then row_of names boundary ops n (calls n) p.reply ∷ [] else []) ≡ []
    no_row_by t n p none true is true writes = absurd (none (eqb-true p.at t is) writes)
    no_row_by t n p none true is false writes = refl
    no_row_by t n p none false is w writes = refl

    no_row : (t n : ℕ) (o : Option Point) → ((p : Point) → o ≡ Some p → p.at ≡ t → p.writes ≡ true → ⊥) → row_at names boundary ops t true n (calls n) o ≡ []
    no_row t n None none = refl
    no_row t n (Some p) none = no_row_by t n p (none p refl) (p.at == t) refl p.writes refl

    no_rows : (t n : ℕ) → NoneWrites t n → rows_at names boundary ops calls points t true n ≡ []
    no_rows t zero none = refl
    no_rows t (suc n) none =
        ap (λ (l : List LogRow). l ++ rows_at names boundary ops calls points t true n) (no_row t n (points n) (λ p. none n p (omega arith)))
        ∙ no_rows t n (λ c p below. none c p (omega (arith, below)))

    write_row : (t n : ℕ) (o : Option Point) (p : Point) → o ≡ Some p → p.at ≡ t → p.writes ≡ true → row_at names boundary ops t true n (calls n) o ≡ row_of names boundary ops n (calls n) p.reply ∷ []
    write_row t n o p has at writes = rw has (rw at (rw writes (rw (eq-eqb t t refl) refl)))

    one_row_by : (t : ℕ) (one : OneWrites t) (n : ℕ) → suc n ≤ count → one.call < suc n → (one.call < n → rows_at names boundary ops calls points t true n ≡ row_of names boundary ops one.call (calls one.call) one.point.reply ∷ []) →
        (b : Bool) → (n == one.call) ≡ b → rows_at names boundary ops calls points t true (suc n) ≡ row_of names boundary ops one.call (calls one.call) one.point.reply ∷ []
    one_row_by t one n most low more true is =
        let same : n ≡ one.call = eqb-true n one.call is in
        ap (λ (l : List LogRow). l ++ rows_at names boundary ops calls points t true n) (subst (λ (c : ℕ). row_at names boundary ops t true c (calls c) (points c) ≡ row_of names boundary ops one.call (calls one.call) one.point.reply ∷ []) (sym same) (write_row t one.call (points one.call) one.point one.has one.at one.writes))
        ∙ ap (λ (l : List LogRow). row_of names boundary ops one.call (calls one.call) one.point.reply ∷ l) (no_rows t n (λ c p below has at writes. let e = one.alone c p (omega (arith, below, most)) has at writes in omega (arith, below, e, same)))
    one_row_by t one n most low more false is =
        let other = eqb-false n one.call is in
        ap (λ (l : List LogRow). l ++ rows_at names boundary ops calls points t true n) (no_row t n (points n) (λ p has at writes. let e = one.alone n p (omega (arith, most)) has at writes in absurd (omega (arith, other, e))))
        ∙ more (omega (arith, low, other))

    one_row : (t : ℕ) (one : OneWrites t) (n : ℕ) → n ≤ count → one.call < n → rows_at names boundary ops calls points t true n ≡ row_of names boundary ops one.call (calls one.call) one.point.reply ∷ []
    one_row t one zero most low = absurd (omega (arith, low))
    one_row t one (suc n) most low = one_row_by t one n most low (λ below. one_row t one n (omega (arith, most)) below) (n == one.call) refl

    write_rows : (t : ℕ) (log : List LogRow) → IsRight t → LogTo log (ghosts t) → LogTo (rows_at names boundary ops calls points t true count ++ log) (ghosts (suc t))
    write_rows t log right so = by right.writes
      where
        by : ((ghosts (suc t) ≡ ghosts t) × NoneWrites t count) ⊎ OneWrites t → LogTo (rows_at names boundary ops calls points t true count ++ log) (ghosts (suc t))
        by (inl quiet) = subst (λ (l : List LogRow). LogTo (l ++ log) (ghosts (suc t))) (sym (no_rows t count quiet.1)) (subst (LogTo log) (sym quiet.0) so)
        by (inr one) =
            subst (λ (l : List LogRow). LogTo (l ++ log) (ghosts (suc t))) (sym (one_row t one count (omega arith) one.within))
            (so.0 + 1, (store_of (ghosts t) so.0, so.1, one.right so.0, refl))

    -- with listings, each of which has a row, and a moment at which it takes place
    module _ (rows : ℕ → LogRow) (moments : ℕ → ℕ) (many : ℕ) where
      -- what the listings of a moment tell is right there
      abbrev pub ListsRight : ℕ → Type 0
      ListsRight t = (j : ℕ) → j < many → moments j ≡ t → ReadsSo (ghosts t) (rows j).request (rows j).reply

      listed_row : (t j : ℕ) (log : List LogRow) → (moments j ≡ t → ReadsSo (ghosts t) (rows j).request (rows j).reply) → LogTo log (ghosts t) → (b : Bool) → (moments j == t) ≡ b → LogTo ((if b then rows j ∷ [] else []) ++ log) (ghosts t)
      listed_row t j log right (k, so) true is = (k + 1, (store_of (ghosts t) k, so, right (eqb-true (moments j) t is) k, refl))
      listed_row t j log right so false is = so

      listed_rows : (t j : ℕ) (log : List LogRow) → j ≤ many → ListsRight t → LogTo log (ghosts t) → LogTo (listed_at names boundary ops rows moments t j ++ log) (ghosts t)
      listed_rows t zero log most right so = so
      listed_rows t (suc j) log most right so =
          subst (λ (l : List LogRow). LogTo l (ghosts t)) (sym (append_assoc (if moments j == t then rows j ∷ [] else []) (listed_at names boundary ops rows moments t j) log))
          (listed_row t j (listed_at names boundary ops rows moments t j ++ log) (right j (omega (arith, most))) (listed_rows t j log (omega (arith, most)) right so) (moments j == t) refl)

      pub honest : (t : ℕ) → LogTo [] (ghosts zero) → ((s : ℕ) → s < t → IsRight s) → ((s : ℕ) → s < t → ListsRight s) → LogTo (log_until names boundary ops calls points count rows moments many t) (ghosts t)
      honest zero first right lists = first
      honest (suc t) first right lists =
          let now = right t (omega arith) in
          let before = log_until names boundary ops calls points count rows moments many t in
          let listed = listed_at names boundary ops rows moments t many ++ before in
          write_rows t (rows_at names boundary ops calls points t false count ++ listed) now
          (read_rows t count listed (omega arith) now
          (listed_rows t many before (omega arith) (lists t (omega arith)) (honest t first (λ s below. right s (omega (arith, below))) (λ s below. lists s (omega (arith, below))))))
