-- What more rows do to what a trace says.
use Rattle.std.proofs.Common.{◌≡◌, ◌≢◌, ℕ, zero, suc, ◌+◌, ◌<◌, ◌≤◌, ◌⊎◌, List, [], ◌∷◌, ◌++◌, length, take, map, slice_get, Bool, true, false, Option, Some, inl, inr, refl, sym, ◌∙◌, ap, subst, arith}
use Rattle.std.proofs.lemmas.List.{append_assoc, append-nil, length-append, take-append-le, take_all}
use Rattle.std.proofs.lemmas.List.Folds.{list_any-append}
use Rattle.std.proofs.lemmas.Bool.{ne_eqb}
use Rattle.std.proofs.lemmas.Option.{slice_get_within}
use Rattle.txn_store.specs.declared.request.Request.{Request}
use Rattle.txn_history.specs.declared.trace.RowOf.{RowOf}
use Rattle.txn_history.specs.declared.trace.RowOf.TheVariants.{Effect, Begun, Answered}
use Rattle.txn_history.specs.Lists.{numbered}
use Rattle.txn_history.specs.History.{Version, created, has_id, versions_of, newest, put_count, epoch_in, epoch_at}
use Rattle.txn_history.specs.Calls.{begins, ends, was_begun, IsCall, AtRow, begun_count}
use Rattle.txn_history.specs.Facts.{Created, Entered}
use Rattle.txn_history.proofs.Lists.{get_more, get_kept, numbered_kept}
use Rattle.txn_history.proofs.Rows.{row_op, versions_grow}

-- an element within the first of two lists
get_within : {A B : Type 0} (f : A → B) (xs ys : List A) (k : ℕ) → k < length xs → slice_get (map f (xs ++ ys)) k ≡ slice_get (map f xs) k
get_within f [] ys k lt = absurd (omega (arith, lt))
get_within f (x ∷ xs) ys zero lt = refl
get_within f (x ∷ xs) ys (suc k) lt = get_within f xs ys k (omega (arith, lt))

numbered_within : {A B : Type 0} (f : A → B) (xs ys : List A) (n : ℕ) → n ≤ length xs → numbered (map f (xs ++ ys)) n ≡ numbered (map f xs) n
numbered_within f xs ys zero le = refl
numbered_within f xs ys (suc n) le = get_within f xs ys n (omega (arith, le))

module _ {C A : Type 0} where
  -- more rows

  -- they change the versions at their end alone
  pub versions_grow_by : (rows more : List (RowOf C A)) → (added : List Version) × (versions_of (rows ++ more) ≡ versions_of rows ++ added)
  versions_grow_by rows [] = ([], ap (λ (rs : List (RowOf C A)). versions_of rs) (append-nil rows) ∙ sym (append-nil (versions_of rows)))
  versions_grow_by rows (row ∷ more) =
      let first = versions_grow rows row in
      let rest = versions_grow_by (rows ++ row ∷ []) more in
      (first.0 ++ rest.0, ap (λ (rs : List (RowOf C A)). versions_of rs) (sym (append_assoc rows (row ∷ []) more)) ∙ (rest.1 ∙ (ap (λ (vs : List Version). vs ++ rest.0) first.1 ∙ append_assoc (versions_of rows) first.0 rest.0)))

  pub newest_grows_by : (rows more : List (RowOf C A)) → newest rows ≤ newest (rows ++ more)
  newest_grows_by rows more = let g = versions_grow_by rows more in rw g.1 (omega (arith, length-append (versions_of rows) g.0))

  pub version_kept_by : (rows more : List (RowOf C A)) (n : ℕ) (version : Version) → numbered (versions_of rows) n ≡ Some version → numbered (versions_of (rows ++ more)) n ≡ Some version
  version_kept_by rows more n version e = let g = versions_grow_by rows more in subst (λ (vs : List Version). numbered vs n ≡ Some version) (sym g.1) (numbered_kept (versions_of rows) g.0 n version e)

  pub call_kept : (rows more : List (RowOf C A)) (op : ℕ) (call : C) → IsCall rows op call → IsCall (rows ++ more) op call
  call_kept rows more op call h = (h.0, get_kept rows more h.0 (Begun op call) h.1)

  pub begun_kept : (rows more : List (RowOf C A)) (op : ℕ) → was_begun rows op ≡ true → was_begun (rows ++ more) op ≡ true
  begun_kept rows more op e = rw (list_any-append (begins op) rows more, e) refl

  -- a row of a call, seen with more rows
  pub at_kept : (rows more : List (RowOf C A)) (op : ℕ) (holds : List (RowOf C A) → Type 0) → AtRow rows op holds → AtRow (rows ++ more) op holds
  at_kept rows more op holds a =
      let same : take a.place (rows ++ more) ≡ take a.place rows = take-append-le a.place rows more a.within in
      record {
        place = a.place;
        within = omega (arith, a.within, length-append rows more);
        begun = subst (λ (front : List (RowOf C A)). was_begun front op ≡ true) (sym same) a.begun;
        there = subst holds (sym same) a.there;
      }

  -- the rows before an effect, seen with more rows
  front_kept : (rows more : List (RowOf C A)) (place : ℕ) (row : RowOf C A) → slice_get rows place ≡ Some row → take place (rows ++ more) ≡ take place rows
  front_kept rows more place row e = take-append-le place rows more (omega (arith, slice_get_within rows place row e))

  -- the same row at the same place, after the same rows
  abbrev created_at : (rows rows' : List (RowOf C A)) (op n : ℕ) → (c : Created rows op n) → slice_get rows' c.place ≡ Some (Effect op c.request) → take c.place rows' ≡ take c.place rows → Created rows' op n
  created_at rows rows' op n c effect front =
      record {
        place = c.place;
        request = c.request;
        bytes = c.bytes;
        effect = effect;
        creates = c.creates;
        begun = subst (λ (rs : List (RowOf C A)). was_begun rs op ≡ true) (sym front) c.begun;
      }

  pub created_kept : (rows more : List (RowOf C A)) (op n : ℕ) → Created rows op n → Created (rows ++ more) op n
  created_kept rows more op n c = created_at rows (rows ++ more) op n c (get_kept rows more c.place (Effect op c.request) c.effect) (front_kept rows more c.place (Effect op c.request) c.effect)

module _ {C A T : Type 0} (decode : List ℕ → Option T) where
  entered_at : (rows rows' : List (RowOf C A)) (op n : ℕ) (value : T) → (e : Entered decode rows op n value) → slice_get rows' e.create.place ≡ Some (Effect op e.create.request) → take e.create.place rows' ≡ take e.create.place rows → Entered decode rows' op n value
  entered_at rows rows' op n value e effect front =
      record {
        create = created_at rows rows' op n e.create effect front;
        first = subst (λ (rs : List (RowOf C A)). has_id (versions_of rs) n ≡ false) (sym front) e.first;
        reads = e.reads;
      }

  pub entered_kept : (rows more : List (RowOf C A)) (op n : ℕ) (value : T) → Entered decode rows op n value → Entered decode (rows ++ more) op n value
  entered_kept rows more op n value e = entered_at rows (rows ++ more) op n value e (get_kept rows more e.create.place (Effect op e.create.request) e.create.effect) (front_kept rows more e.create.place (Effect op e.create.request) e.create.effect)

  -- an entry with one more row is one of before, or of that row
  pub entered_back : (rows : List (RowOf C A)) (row : RowOf C A) (op n : ℕ) (value : T) → Entered decode (rows ++ row ∷ []) op n value → Entered decode rows op n value ⊎ ((request : Request) × (bytes : List ℕ) × (row ≡ Effect op request) × (created request ≡ Some (n, bytes)))
  entered_back rows row op n value e =
      let c = e.create in
      elim (get_more rows row c.place (Effect op c.request) c.effect) [
        | inl old ↦ inl (entered_at (rows ++ row ∷ []) rows op n value e old (sym (front_kept rows (row ∷ []) c.place (Effect op c.request) old)))
        | inr last ↦ inr (c.request, c.bytes, last.1, c.creates)
      ]

module _ {C A T : Type 0} (decode : List ℕ → Option T) (get_epoch : T → ℕ) where
  pub epoch_kept : (rows more : List (RowOf C A)) (n : ℕ) → n ≤ newest rows → epoch_at decode get_epoch (rows ++ more) n ≡ epoch_at decode get_epoch rows n
  epoch_kept rows more n le =
      let g = versions_grow_by rows more in
      ap (λ (vs : List Version). epoch_in get_epoch (numbered (map (λ (v : Version). decode v.1) vs) n)) g.1
      ∙ ap (epoch_in get_epoch) (numbered_within (λ (v : Version). decode v.1) (versions_of rows) g.0 n le)

module _ {C A : Type 0} where
  -- one more row

  -- the end of the rows is a row of a call that began
  pub AtRow-now : (rows : List (RowOf C A)) (op : ℕ) (holds : List (RowOf C A) → Type 0) → was_begun rows op ≡ true → holds rows → AtRow rows op holds
  AtRow-now rows op holds begun h =
      let all : take (length rows) rows ≡ rows = take_all (length rows) rows (omega arith) in
      record {
        place = length rows;
        within = omega arith;
        begun = subst (λ (front : List (RowOf C A)). was_begun front op ≡ true) (sym all) begun;
        there = subst holds (sym all) h;
      }

  pub IsCall-more : (rows : List (RowOf C A)) (row : RowOf C A) (op : ℕ) (call : C) → IsCall rows op call → IsCall (rows ++ row ∷ []) op call
  IsCall-more rows row op call h = call_kept rows (row ∷ []) op call h

  pub begins_other : (op : ℕ) (row : RowOf C A) → row_op row ≢ op → begins op row ≡ false
  begins_other op (Begun o call) h = ne_eqb o op h
  begins_other op (Effect o request) h = refl
  begins_other op (Answered o answer) h = refl

  pub ends_other : (op : ℕ) (row : RowOf C A) → row_op row ≢ op → ends op row ≡ false
  ends_other op (Answered o answer) h = ne_eqb o op h
  ends_other op (Effect o request) h = refl
  ends_other op (Begun o call) h = refl

  abbrev pub is_begun : RowOf C A → Bool
  is_begun (Begun op call) = true
  is_begun (Effect op request) = false
  is_begun (Answered op answer) = false

  pub no_begin : (op : ℕ) (row : RowOf C A) → is_begun row ≡ false → begins op row ≡ false
  no_begin op (Begun o call) h = cc
  no_begin op (Effect o request) h = refl
  no_begin op (Answered o answer) h = refl

  pub begun_count-more : (rows : List (RowOf C A)) (row : RowOf C A) → is_begun row ≡ false → begun_count (rows ++ row ∷ []) ≡ begun_count rows
  begun_count-more [] (Begun op call) h = cc
  begun_count-more [] (Effect op request) h = refl
  begun_count-more [] (Answered op answer) h = refl
  begun_count-more (Begun o call ∷ rows) row h = ap (λ n. 1 + n) (begun_count-more rows row h)
  begun_count-more (Effect o request ∷ rows) row h = begun_count-more rows row h
  begun_count-more (Answered o answer ∷ rows) row h = begun_count-more rows row h

  pub begun_count-begun : (rows : List (RowOf C A)) (op : ℕ) (call : C) → begun_count (rows ++ Begun op call ∷ []) ≡ begun_count rows + 1
  begun_count-begun [] op call = refl
  begun_count-begun (Begun o c ∷ rows) op call = omega (arith, begun_count-begun rows op call)
  begun_count-begun (Effect o request ∷ rows) op call = begun_count-begun rows op call
  begun_count-begun (Answered o answer ∷ rows) op call = begun_count-begun rows op call

  -- how many tokens one row took
  pub put_count-more : (rows : List (RowOf C A)) (row : RowOf C A) → put_count (rows ++ row ∷ []) ≡ put_count rows + put_count (row ∷ [])
  put_count-more [] row = omega arith
  put_count-more (Begun o call ∷ rows) row = put_count-more rows row
  put_count-more (Answered o answer ∷ rows) row = put_count-more rows row
  put_count-more (Effect o request ∷ rows) row = let rest = put_count-more rows row in omega (arith, rest)
