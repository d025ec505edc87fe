-- Two answers that tell a version as their own are one.
use Rattle.std.proofs.Common.{◌≡◌, ℕ, suc, ◌<◌, List, [], ◌∷◌, ◌++◌, take, slice_get, ◌==◌, Bool, true, false, cond, Option, Some, inl, inr, refl, sym, ◌∙◌, ap, subst, arith}
use Rattle.std.proofs.lemmas.List.Folds.{list_any-append}
use Rattle.std.proofs.lemmas.Bool.{both_ways, eq-eqb, cases_lt}
use Rattle.std.proofs.lemmas.Option.{slice_get_within, get_or_from_slice_get, same_Some}
use Rattle.txn_store.specs.declared.request.Request.{Request}
use Rattle.txn_history.specs.declared.trace.RowOf.{RowOf}
use Rattle.txn_history.specs.declared.trace.RowOf.TheVariants.{Effect, Begun, Answered}
use Rattle.txn_history.specs.History.{Version, created, has_id, with_version, versions_of}
use Rattle.txn_history.specs.Calls.{ends, was_answered, IsCall}
use Rattle.txn_history.specs.Facts.{Entered}
use Rattle.txn_history.proofs.Lists.{any_true, any_last}
use Rattle.txn_history.proofs.Rows.{row_op, front_more, versions_of-more, versions_grow}
use Rattle.txn_history.proofs.Fronts.{later_at, of_front, front_of}
use Rattle.txn_history.proofs.Numbered.{AreNumbered, one_call}

has_with : (versions : List Version) (id : ℕ) (bytes : List ℕ) (b : Bool) → has_id versions id ≡ b → has_id (cond b versions (versions ++ (id, bytes) ∷ [])) id ≡ true
has_with versions id bytes true e = e
has_with versions id bytes false e = any_last (λ (v : Version). v.0 == id) versions (id, bytes) (eq-eqb id id refl)

module _ {C A T : Type 0} (decode : List ℕ → Option T) where
  -- a write that was answered was entered before
  pub record Wrote (rows : List (RowOf C A)) (j op id : ℕ) : Type 0 where
    pub place : ℕ
    pub request : Request
    pub bytes : List ℕ
    pub effect : slice_get rows place ≡ Some (Effect op request)
    pub creates : created request ≡ Some (id, bytes)
    pub first : has_id (versions_of (take place rows)) id ≡ false
    pub fresh : was_answered (take j rows) op ≡ false

  pub entered_wrote : (rows : List (RowOf C A)) (j op id : ℕ) (value : T) → was_answered (take j rows) op ≡ false → Entered decode (take j rows) op id value → Wrote rows j op id
  entered_wrote rows j op id value fresh e =
      let c = e.create in
      let there = of_front rows j c.place (Effect op c.request) c.effect in
      record {
        place = c.place;
        request = c.request;
        bytes = c.bytes;
        effect = there.0;
        creates = c.creates;
        first = subst (λ (front : List (RowOf C A)). has_id (versions_of front) id ≡ false) (front_of rows j c.place (omega (arith, there.1))) e.first;
        fresh = fresh;
      }

  -- an answer of a call that fits it, and is then its own version, wrote it
  pub answer_wrote : (rows : List (RowOf C A)) → AreNumbered rows → (k op id : ℕ) (fits : C → Type 0) (call said : C) → IsCall (take k rows) op call → IsCall rows op said → was_answered (take k rows) op ≡ false → fits call → (fits said → (v : T) × Entered decode (take k rows) op id v) → Wrote rows k op id
  answer_wrote rows numbered k op id fits call said called began once h own =
      let same = one_call rows numbered op call said (called.0, (of_front rows k called.0 (Begun op call) called.1).0) began in
      let e = own (subst fits same h) in
      entered_wrote rows k op id e.0 once e.1

  has_more : (rows : List (RowOf C A)) (row : RowOf C A) (id : ℕ) → has_id (versions_of rows) id ≡ true → has_id (versions_of (rows ++ row ∷ [])) id ≡ true
  has_more rows row id h = let g = versions_grow rows row in rw (g.1, list_any-append (λ (v : Version). v.0 == id) (versions_of rows) g.0, h) refl

  has_created : (rows : List (RowOf C A)) (op id : ℕ) (request : Request) (bytes : List ℕ) → created request ≡ Some (id, bytes) → has_id (versions_of (rows ++ Effect op request ∷ [])) id ≡ true
  has_created rows op id request bytes e =
      subst (λ (vs : List Version). has_id vs id ≡ true) (sym (versions_of-more rows (Effect op request) ∙ ap (with_version (versions_of rows)) e)) (has_with (versions_of rows) id bytes (has_id (versions_of rows) id) refl)

  -- what was created before place p is there at it
  has_before : (rows : List (RowOf C A)) (op id p q : ℕ) (request : Request) (bytes : List ℕ) → slice_get rows p ≡ Some (Effect op request) → created request ≡ Some (id, bytes) → p < q → has_id (versions_of (take q rows)) id ≡ true
  has_before rows op id p q request bytes e creates lt =
      let next : take (suc p) rows ≡ take p rows ++ Effect op request ∷ [] = front_more rows p (Effect op request) (slice_get_within rows p (Effect op request) e) (get_or_from_slice_get rows p (Effect op request) (Effect op request) e) in
      later_at (λ front. has_id (versions_of front) id ≡ true) rows (λ k row _ h. has_more (take k rows) row id h) (suc p) q (omega (arith, lt)) (subst (λ (front : List (RowOf C A)). has_id (versions_of front) id ≡ true) (sym next) (has_created (take p rows) op id request bytes creates))

  one_place : (rows : List (RowOf C A)) (j k op other id : ℕ) → (a : Wrote rows j op id) → (b : Wrote rows k other id) → a.place ≡ b.place
  one_place rows j k op other id a b =
      elim (cases_lt a.place b.place) [
        | inl lt ↦ absurd (both_ways _ b.first (has_before rows op id a.place b.place a.request a.bytes a.effect a.creates lt))
        | inr ge ↦ elim (cases_lt b.place a.place) [
          | inl lt ↦ absurd (both_ways _ a.first (has_before rows other id b.place a.place b.request b.bytes b.effect b.creates lt))
          | inr le ↦ omega (arith, ge, le)
        ]
      ]

  one_op : (rows : List (RowOf C A)) (j k op other id : ℕ) → Wrote rows j op id → Wrote rows k other id → op ≡ other
  one_op rows j k op other id a b =
      let same : Effect op a.request ≡ Effect other b.request = same_Some _ _ (sym a.effect ∙ (ap (slice_get rows) (one_place rows j k op other id a b) ∙ b.effect)) in
      ap row_op same

  answered_before : (rows : List (RowOf C A)) (j k op : ℕ) (answer : A) → slice_get rows j ≡ Some (Answered op answer) → j < k → was_answered (take k rows) op ≡ true
  answered_before rows j k op answer e lt =
      let row : RowOf C A = Answered op answer in
      let next : take (suc j) rows ≡ take j rows ++ row ∷ [] = front_more rows j row (slice_get_within rows j row e) (get_or_from_slice_get rows j row row e) in
      later_at (λ front. was_answered front op ≡ true) rows (λ n r _ h. any_true (ends op) (take n rows) r h) (suc j) k (omega (arith, lt)) (subst (λ (front : List (RowOf C A)). was_answered front op ≡ true) (sym next) (any_last (ends op) (take j rows) row (eq-eqb op op refl)))

  -- rows that tell one version as their own, by operations not answered before, are one row
  pub one_row : (rows : List (RowOf C A)) (j k op other id : ℕ) (answer said : A) → slice_get rows j ≡ Some (Answered op answer) → slice_get rows k ≡ Some (Answered other said) → Wrote rows j op id → Wrote rows k other id → j ≡ k
  one_row rows j k op other id answer said e e' a b =
      let same = one_op rows j k op other id a b in
      elim (cases_lt j k) [
        | inl lt ↦ absurd (both_ways _ (subst (λ (o : ℕ). was_answered (take k rows) o ≡ false) (sym same) b.fresh) (answered_before rows j k op answer e lt))
        | inr ge ↦ elim (cases_lt k j) [
          | inl lt ↦ absurd (both_ways _ (subst (λ (o : ℕ). was_answered (take j rows) o ≡ false) same a.fresh) (answered_before rows k j other said e' lt))
          | inr le ↦ omega (arith, ge, le)
        ]
      ]
