-- What follows where each effect is a move: the boundary, and what is above it.
use Rattle.std.proofs.Common.{◌≡◌, ℕ, zero, suc, ◌+◌, ◌-◌, ◌<◌, ◌≤◌, List, [], ◌∷◌, ◌++◌, take, slice_get, Bool, true, false, cond, if◌then◌else◌, Option, Some, None, unwrap_or, inl, inr, refl, sym, ◌∙◌, ap, subst, arith}
use Rattle.std.specs.FinMap.{get, get-insert, get-remove}
use Rattle.std.specs.Ordering.{eq_by_cmp}
use Rattle.std.specs.Cmp.{eq_by_cmp_equiv}
use Rattle.std.proofs.lemmas.List.{take_all}
use Rattle.std.proofs.lemmas.Option.{slice_get_cases}
use Rattle.txn_store.specs.Paths.{Segments, path_cmp}
use Rattle.txn_store.specs.VersionOf.{version_of}
use Rattle.txn_store.specs.declared.request.Request.{Request}
use Rattle.txn_store.specs.declared.request.Request.TheVariants as requests
use Rattle.txn_store.specs.declared.store.PutMode.{PutMode}
use Rattle.txn_store.proofs.FileLemmas.{path_cmp_total}
use Rattle.txn_store.specs.types.BoundaryText.{boundary_read}
use Rattle.txn_history.specs.declared.trace.RowOf.{RowOf}
use Rattle.txn_history.specs.declared.trace.RowOf.TheVariants.{Effect, Begun, Answered}
use Rattle.txn_history.specs.Names.{world_names, world_boundary}
use Rattle.txn_history.specs.History.{Contents, is_boundary, created, removed, stored, boundary, boundary_said, erases}
use Rattle.txn_history.specs.Laws.{NeverFalls, KeepsAbove}
use Rattle.txn_history.proofs.Rows.{is_id_some, front_more, stored-more, boundary-same}
use Rattle.txn_history.proofs.Moves.{GoesUp, IsReached, IsPut, IsMove, AreMoves}
use Rattle.txn_history.proofs.Apart.{boundary_no_version, raise_creates, is_boundary_path}

-- the boundary after a request that changed the store, by the boundary before it
abbrev boundary_after : ℕ → Request → ℕ
boundary_after before (requests.Put path bytes mode) = if is_boundary path then boundary_said (Some bytes) else before
boundary_after before (requests.Get path known) = before
boundary_after before (requests.List prefix after limit) = before
boundary_after before (requests.Delete path) = if is_boundary path then 0 else before

same_tie : (path : Segments) → eq_by_cmp path_cmp world_boundary path ≡ is_boundary path
same_tie path = (eq_by_cmp_equiv path_cmp_total).symm world_boundary path

said_put : (b : Bool) (bytes : List ℕ) (found : Option (List ℕ)) → boundary_said (cond b (Some bytes) found) ≡ cond b (boundary_said (Some bytes)) (boundary_said found)
said_put true bytes found = refl
said_put false bytes found = refl

said_removed : (b : Bool) (found : Option (List ℕ)) → boundary_said (cond b None found) ≡ cond b 0 (boundary_said found)
said_removed true found = refl
said_removed false found = refl

module _ {C A : Type 0} where
  -- fronts of a list

  -- what each row keeps, later fronts have
  later : (P : List (RowOf C A) → Type 0) (rows : List (RowOf C A)) → ((k : ℕ) (row : RowOf C A) → slice_get rows k ≡ Some row → P (take k rows) → P (take k rows ++ row ∷ [])) → (i n : ℕ) → P (take i rows) → P (take (n + i) rows)
  later P rows step i zero h = let same : i ≡ 0 + i = omega arith in subst (λ (n : ℕ). P (take n rows)) same h
  later P rows step i (suc n) h =
      let before = later P rows step i n h in
      let next : suc (n + i) ≡ suc n + i = omega arith in
      subst (λ (m : ℕ). P (take m rows)) next (
      elim (slice_get_cases rows (n + i)).1 [
        | inl there ↦ subst P (sym (front_more rows (n + i) there.0 there.1 there.3)) (step (n + i) there.0 there.2 before)
        | inr past ↦
            let more : take (suc (n + i)) rows ≡ take (n + i) rows = take_all (suc (n + i)) rows (omega (arith, past.0)) ∙ sym (take_all (n + i) rows past.0) in
            subst P (sym more) before
      ])

  pub later_at : (P : List (RowOf C A) → Type 0) (rows : List (RowOf C A)) → ((k : ℕ) (row : RowOf C A) → slice_get rows k ≡ Some row → P (take k rows) → P (take k rows ++ row ∷ [])) → (i j : ℕ) → i ≤ j → P (take i rows) → P (take j rows)
  later_at P rows step i j le h =
      let sum : (j - i) + i ≡ j = omega (arith, le) in
      subst (λ (n : ℕ). P (take n rows)) sum (later P rows step i (j - i) h)

  -- a front of a front
  pub of_front : (rows : List (RowOf C A)) (j p : ℕ) (row : RowOf C A) → slice_get (take j rows) p ≡ Some row → (slice_get rows p ≡ Some row) × (p < j)
  of_front [] zero p row e = cc
  of_front [] (suc j) p row e = cc
  of_front (r ∷ rows) zero p row e = cc
  of_front (r ∷ rows) (suc j) zero row e = (e, omega arith)
  of_front (r ∷ rows) (suc j) (suc p) row e = let rest = of_front rows j p row e in (rest.0, omega (arith, rest.1))

  pub front_of : (rows : List (RowOf C A)) (j p : ℕ) → p ≤ j → take p (take j rows) ≡ take p rows
  front_of rows j zero le = refl
  front_of rows zero (suc p) le = absurd (omega (arith, le))
  front_of [] (suc j) (suc p) le = refl
  front_of (r ∷ rows) (suc j) (suc p) le = ap (λ (rs : List (RowOf C A)). r ∷ rs) (front_of rows j p (omega (arith, le)))

  begun_reached : (rows : List (RowOf C A)) (op : ℕ) (call : C) → boundary (rows ++ Begun op call ∷ []) ≡ boundary rows
  begun_reached rows op call = boundary-same rows (Begun op call) (stored-more rows (Begun op call))

  answered_reached : (rows : List (RowOf C A)) (op : ℕ) (answer : A) → boundary (rows ++ Answered op answer ∷ []) ≡ boundary rows
  answered_reached rows op answer = boundary-same rows (Answered op answer) (stored-more rows (Answered op answer))

  pub effect_reached : (rows : List (RowOf C A)) (op : ℕ) (request : Request) → boundary (rows ++ Effect op request ∷ []) ≡ boundary_after (boundary rows) request
  effect_reached rows op (requests.Put path bytes mode) =
      ap (λ (contents : Contents). boundary_said (get contents world_boundary)) (stored-more rows (Effect op (requests.Put path bytes mode)))
      ∙ (ap boundary_said (get-insert path_cmp_total (stored rows) path bytes world_boundary ∙ ap (λ b. cond b (Some bytes) (get (stored rows) world_boundary)) (same_tie path))
      ∙ said_put (is_boundary path) bytes (get (stored rows) world_boundary))
  effect_reached rows op (requests.Get path known) = boundary-same rows (Effect op (requests.Get path known)) (stored-more rows (Effect op (requests.Get path known)))
  effect_reached rows op (requests.List prefix after limit) = boundary-same rows (Effect op (requests.List prefix after limit)) (stored-more rows (Effect op (requests.List prefix after limit)))
  effect_reached rows op (requests.Delete path) =
      ap (λ (contents : Contents). boundary_said (get contents world_boundary)) (stored-more rows (Effect op (requests.Delete path)))
      ∙ (ap boundary_said (get-remove path_cmp_total (stored rows) path world_boundary ∙ ap (λ b. cond b None (get (stored rows) world_boundary)) (same_tie path))
      ∙ said_removed (is_boundary path) (get (stored rows) world_boundary))

module _ {C A : Type 0} where
  -- the boundary

  put_up : (rows : List (RowOf C A)) (at : ℕ) (said : Option ℕ) → at ≡ boundary rows → GoesUp rows said → at ≤ unwrap_or said 0
  put_up rows at None e up = absurd up
  put_up rows at (Some to) e up = omega (arith, up, e)

  removed_none : (rows : List (RowOf C A)) (path : Segments) → is_boundary path ≡ true → IsReached rows (version_of world_names path) → ⊥
  removed_none rows path e gone = subst (IsReached rows) (ap (version_of world_names) (is_boundary_path path e) ∙ boundary_no_version) gone

module _ {C A T : Type 0} (decode : List ℕ → Option T) (get_epoch : T → ℕ) where
  put_none : (rows : List (RowOf C A)) (path : Segments) (bytes : List ℕ) (mode : PutMode) → is_boundary path ≡ true → IsPut decode get_epoch rows (created (requests.Put path bytes mode)) → ⊥
  put_none rows path bytes mode e put = subst (IsPut decode get_epoch rows) (ap (λ p. created (requests.Put p bytes mode)) (is_boundary_path path e) ∙ raise_creates bytes mode) put

  -- a put of the boundary goes up
  put_rises : (rows : List (RowOf C A)) (path : Segments) (bytes : List ℕ) (mode : PutMode) (b : Bool) → is_boundary path ≡ b → IsMove decode get_epoch rows (requests.Put path bytes mode) → boundary rows ≤ cond b (boundary_said (Some bytes)) (boundary rows)
  put_rises rows path bytes mode false e move = omega arith
  put_rises rows path bytes mode true e (inl put) = absurd (put_none rows path bytes mode e put)
  put_rises rows path bytes mode true e (inr (inl up)) = put_up rows (boundary rows) (boundary_read bytes) refl (subst (λ (b : Bool). GoesUp rows (cond b (boundary_read bytes) None)) e up)
  put_rises rows path bytes mode true e (inr (inr gone)) = absurd gone

  delete_keeps : (rows : List (RowOf C A)) (path : Segments) (b : Bool) → is_boundary path ≡ b → IsMove decode get_epoch rows (requests.Delete path) → boundary rows ≤ cond b 0 (boundary rows)
  delete_keeps rows path false e move = omega arith
  delete_keeps rows path true e (inl put) = absurd put
  delete_keeps rows path true e (inr (inl up)) = absurd up
  delete_keeps rows path true e (inr (inr gone)) = absurd (removed_none rows path e gone)

  effect_rises : (rows : List (RowOf C A)) (request : Request) → IsMove decode get_epoch rows request → boundary rows ≤ boundary_after (boundary rows) request
  effect_rises rows (requests.Put path bytes mode) move = put_rises rows path bytes mode (is_boundary path) refl move
  effect_rises rows (requests.Get path known) move = omega arith
  effect_rises rows (requests.List prefix after limit) move = omega arith
  effect_rises rows (requests.Delete path) move = delete_keeps rows path (is_boundary path) refl move

  row_rises : (all : List (RowOf C A)) → AreMoves decode get_epoch all → (k : ℕ) (row : RowOf C A) → slice_get all k ≡ Some row → boundary (take k all) ≤ boundary (take k all ++ row ∷ [])
  row_rises all moves k (Begun op call) e = let same = begun_reached (take k all) op call in omega (arith, same)
  row_rises all moves k (Answered op answer) e = let same = answered_reached (take k all) op answer in omega (arith, same)
  row_rises all moves k (Effect op request) e =
      let is = effect_reached (take k all) op request in
      let up = effect_rises (take k all) request (moves k op request e) in
      omega (arith, is, up)

  pub never_falls : (rows : List (RowOf C A)) → AreMoves decode get_epoch rows → NeverFalls rows
  never_falls rows moves early late le = later_at (λ front. boundary (take early rows) ≤ boundary front) rows (λ k row e h. let up = row_rises rows moves k row e in omega (arith, h, up)) early late le (omega arith)

  -- removals

  removes_below : (rows : List (RowOf C A)) (id : ℕ) (request : Request) → removed request ≡ Some id → IsMove decode get_epoch rows request → id ≤ boundary rows
  removes_below rows id (requests.Put path bytes mode) e move = cc
  removes_below rows id (requests.Get path known) e move = cc
  removes_below rows id (requests.List prefix after limit) e move = cc
  removes_below rows id (requests.Delete path) e (inl put) = absurd put
  removes_below rows id (requests.Delete path) e (inr (inl up)) = absurd up
  removes_below rows id (requests.Delete path) e (inr (inr gone)) = subst (IsReached rows) e gone

  row_removes : (all : List (RowOf C A)) → AreMoves decode get_epoch all → (k id : ℕ) (row : RowOf C A) → slice_get all k ≡ Some row → erases id row ≡ true → id ≤ boundary (take k all)
  row_removes all moves k id (Begun op call) e removes = cc
  row_removes all moves k id (Answered op answer) e removes = cc
  row_removes all moves k id (Effect op request) e removes = removes_below (take k all) id request (is_id_some id (removed request) removes) (moves k op request e)

  pub keeps_above : (rows : List (RowOf C A)) → AreMoves decode get_epoch rows → KeepsAbove rows
  keeps_above rows moves k id row e removes = row_removes rows moves k id row e removes
