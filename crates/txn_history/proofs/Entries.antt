-- The entries at each front of one history: they count up from 1, all are read, and their epochs never fall.
use Rattle.std.proofs.Common.{◌≡◌, ℕ, zero, suc, ◌+◌, ◌<◌, ◌≤◌, ◌==◌, List, [], ◌∷◌, ◌++◌, length, take, map, slice_get, Bool, true, false, cond, Option, Some, None, ◌⊎◌, inl, inr, refl, sym, ◌∙◌, ap, subst, arith}
use Rattle.std.proofs.lemmas.List.{map-append, length-map, length-append, take_all}
use Rattle.std.proofs.lemmas.Bool.{both_ways, ne_eqb, cases_lt}
use Rattle.std.proofs.lemmas.Option.{slice_get_within, get_or_from_slice_get, same_Some}
use Rattle.txn_store.specs.declared.store.PutMode.{PutMode}
use Rattle.txn_store.specs.declared.request.Request.{Request}
use Rattle.txn_store.specs.declared.request.Request.TheVariants as requests
use Rattle.txn_store.specs.types.BoundaryText.{boundary_read}
use Rattle.txn_history.specs.declared.trace.RowOf.{RowOf}
use Rattle.txn_history.specs.declared.trace.RowOf.TheVariants.{Effect, Begun, Answered}
use Rattle.txn_history.specs.Lists.{numbered}
use Rattle.txn_history.specs.History.{Version, is_boundary, created, created_by, has_id, with_version, versions_of, IsEntry, epoch_in}
use Rattle.txn_history.specs.Facts.{Entered, WasNewest}
use Rattle.txn_history.proofs.Lists.{get_more, numbered_kept, numbered_more, numbered_last}
use Rattle.txn_history.proofs.Rows.{front_more, versions_of-more, versions_grow}
use Rattle.txn_history.proofs.Apart.{raise_creates, is_boundary_path}
use Rattle.txn_history.proofs.Moves.{GoesUp, IsPut, IsMove, AreMoves}
use Rattle.txn_history.proofs.Fronts.{later_at, of_front, front_of}

abbrev pub AreCounted : List Version → Type 0
AreCounted versions = (k : ℕ) (version : Version) → slice_get versions k ≡ Some version → version.0 ≡ k + 1

get_within : {A : Type 0} (xs : List A) (k : ℕ) (y : A) → slice_get xs k ≡ Some y → k < length xs
get_within [] k y e = cc
get_within (x ∷ xs) zero y e = omega arith
get_within (x ∷ xs) (suc k) y e = let rest = get_within xs k y e in omega (arith, rest)

numbered_within : {A : Type 0} (xs : List A) (n : ℕ) (y : A) → numbered xs n ≡ Some y → (0 < n) × (n ≤ length xs)
numbered_within xs zero y e = cc
numbered_within xs (suc n) y e = let lt = get_within xs n y e in (omega arith, omega (arith, lt))

get_there : {A : Type 0} (xs : List A) (k : ℕ) → k < length xs → (y : A) × (slice_get xs k ≡ Some y)
get_there [] k lt = absurd (omega (arith, lt))
get_there (x ∷ xs) zero lt = (x, refl)
get_there (x ∷ xs) (suc k) lt = get_there xs k (omega (arith, lt))

numbered_there : {A : Type 0} (xs : List A) (n : ℕ) → 0 < n → n ≤ length xs → (y : A) × (numbered xs n ≡ Some y)
numbered_there xs zero p le = absurd (omega (arith, p))
numbered_there xs (suc n) p le = get_there xs n (omega (arith, le))

module _ {T : Type 0} (decode : List ℕ → Option T) (get_epoch : T → ℕ) where
  abbrev pub read_all : List Version → List (Option T)
  read_all versions = map (λ (v : Version). decode v.1) versions

  -- an entry of these versions
  abbrev pub Reads : List Version → ℕ → T → Type 0
  Reads versions n value = numbered (read_all versions) n ≡ Some (Some value)

  pub record Front (versions : List Version) : Type 0 where
    pub counted : AreCounted versions
    pub reads : (n : ℕ) → 0 < n → n ≤ length versions → (value : T) × Reads versions n value
    pub rising : (n m : ℕ) (v w : T) → n ≤ m → Reads versions n v → Reads versions m w → get_epoch v ≤ get_epoch w

  empty_front : Front []
  empty_front = record { counted = λ k v e. cc; reads = λ n p le. absurd (omega (arith, p, le)); rising = λ n m v w le e f. absurd (none_read n v e) }
    where
      none_read : (n : ℕ) (v : T) → Reads [] n v → ⊥
      none_read zero v e = cc
      none_read (suc n) v e = cc

  read_split : (versions : List Version) (version : Version) (n : ℕ) (v value : T) → decode version.1 ≡ Some value → Reads (versions ++ version ∷ []) n v → Reads versions n v ⊎ ((n ≡ length versions + 1) × (v ≡ value))
  read_split versions version n v value e h =
      let h' : numbered (read_all versions ++ decode version.1 ∷ []) n ≡ Some (Some v) = subst (λ (os : List (Option T)). numbered os n ≡ Some (Some v)) (map-append (λ (u : Version). decode u.1) versions (version ∷ [])) h in
      elim (numbered_more (read_all versions) (decode version.1) n (Some v) h') [
        | inl old ↦ inl old
        | inr new ↦ inr (omega (arith, new.0, length-map versions (λ (u : Version). decode u.1)), same_Some v value (sym new.1 ∙ e))
      ]

  read_kept : (versions more : List Version) (n : ℕ) (v : T) → Reads versions n v → Reads (versions ++ more) n v
  read_kept versions more n v h =
      subst (λ (os : List (Option T)). numbered os n ≡ Some (Some v)) (sym (map-append (λ (u : Version). decode u.1) versions more)) (numbered_kept (read_all versions) (read_all more) n (Some v) h)

  read_last : (versions : List Version) (version : Version) (value : T) → decode version.1 ≡ Some value → Reads (versions ++ version ∷ []) (length versions + 1) value
  read_last versions version value e =
      let at : numbered (read_all versions ++ decode version.1 ∷ []) (suc (length (read_all versions))) ≡ Some (decode version.1) = numbered_last (read_all versions) (decode version.1) in
      let len : suc (length (read_all versions)) ≡ length versions + 1 = omega (arith, length-map versions (λ (u : Version). decode u.1)) in
      subst (λ (os : List (Option T)). numbered os (length versions + 1) ≡ Some (Some value)) (sym (map-append (λ (u : Version). decode u.1) versions (version ∷ [])))
      (subst (λ (n : ℕ). numbered (read_all versions ++ decode version.1 ∷ []) n ≡ Some (Some value)) len (at ∙ ap Some e))

  pub read_within : (versions : List Version) (n : ℕ) (v : T) → Reads versions n v → (0 < n) × (n ≤ length versions)
  read_within versions n v h = let w = numbered_within (read_all versions) n (Some v) h in (w.0, omega (arith, w.1, length-map versions (λ (u : Version). decode u.1)))

  -- the last entry has an epoch of at most this
  last_below : (versions : List Version) → Front versions → (value : T) → epoch_in get_epoch (numbered (read_all versions) (length versions)) ≤ get_epoch value → (n : ℕ) (v : T) → Reads versions n v → get_epoch v ≤ get_epoch value
  last_below versions f value le n v h =
      let w = read_within versions n v h in
      let top = f.reads (length versions) (omega (arith, w.0, w.1)) (omega arith) in
      let up = f.rising n (length versions) v top.0 w.1 h top.1 in
      let at : epoch_in get_epoch (numbered (read_all versions) (length versions)) ≡ get_epoch top.0 = ap (epoch_in get_epoch) top.1 in
      omega (arith, up, at, le)

  -- one entry more
  next_front : (versions : List Version) (version : Version) (value : T) → Front versions → version.0 ≡ length versions + 1 → decode version.1 ≡ Some value → epoch_in get_epoch (numbered (read_all versions) (length versions)) ≤ get_epoch value → Front (versions ++ version ∷ [])
  next_front versions version value f next e le =
      record {
        counted = λ k v is. elim (get_more versions version k v is) [
          | inl h ↦ f.counted k v h
          | inr h ↦ (let same = ap (λ (u : Version). u.0) h.1 in omega (arith, same, h.0, next))
        ];
        reads = λ n p top. elim (cases n top) [
          | inl low ↦ (let r = f.reads n p low in (r.0, read_kept versions (version ∷ []) n r.0 r.1))
          | inr same ↦ (value, subst (λ (m : ℕ). Reads (versions ++ version ∷ []) m value) (sym same) (read_last versions version value e))
        ];
        rising = λ n m v w up hv hw. elim (read_split versions version m w value e hw) [
          | inl old ↦ elim (read_split versions version n v value e hv) [
            | inl older ↦ f.rising n m v w up older old
            | inr new ↦ absurd (let b = (read_within versions m w old).1 in omega (arith, new.0, b, up))
          ]
          | inr new ↦ elim (read_split versions version n v value e hv) [
            | inl older ↦ (let lo = last_below versions f value le n v older in let eq = ap get_epoch new.1 in omega (arith, lo, eq))
            | inr newer ↦ (let a = ap get_epoch new.1 in let b = ap get_epoch newer.1 in omega (arith, a, b))
          ]
        ];
      }
    where
      cases : (n : ℕ) → n ≤ length (versions ++ version ∷ []) → (n ≤ length versions) ⊎ (n ≡ length versions + 1)
      cases n top =
          let len : length (versions ++ version ∷ []) ≡ length versions + 1 = omega (arith, length-append versions (version ∷ [])) in
          elim (cases_lt n (length versions + 1)) [ inl lt ↦ inl (omega (arith, lt)) | inr ge ↦ inr (omega (arith, ge, top, len)) ]

-- no id above the versions of ids that count up is one of theirs
pub lacks_counted : (m : ℕ) (versions : List Version) (id : ℕ) → ((k : ℕ) (version : Version) → slice_get versions k ≡ Some version → version.0 ≡ m + k + 1) → m + length versions < id → has_id versions id ≡ false
lacks_counted m [] id c above = refl
lacks_counted m (v ∷ versions) id c above =
    let first = c 0 v refl in
    let other : (v.0 == id) ≡ false = ne_eqb v.0 id (λ e. omega (arith, e, first, above)) in
    rw other (lacks_counted (m + 1) versions id (λ k w e. omega (arith, c (suc k) w e)) (omega (arith, above)))

module _ {C A T : Type 0} (decode : List ℕ → Option T) (get_epoch : T → ℕ) where
  not_raised : (rows : List (RowOf C A)) (path : List (List ℕ)) (bytes : List ℕ) (mode : PutMode) (version : Version) (b : Bool) → is_boundary path ≡ b → created (requests.Put path bytes mode) ≡ Some version → GoesUp rows (cond b (boundary_read bytes) None) → ⊥
  not_raised rows path bytes mode version true e creates up =
      let none : created (requests.Put path bytes mode) ≡ None = ap (λ p. created (requests.Put p bytes mode)) (is_boundary_path path e) ∙ raise_creates bytes mode in
      let clash = sym none ∙ creates in
      cc
  not_raised rows path bytes mode version false e creates up = up

  pub move_create : (rows : List (RowOf C A)) (request : Request) (version : Version) → created request ≡ Some version → IsMove decode get_epoch rows request → IsPut decode get_epoch rows (Some version)
  move_create rows (requests.Put path bytes mode) version e (inl put) = subst (IsPut decode get_epoch rows) e put
  move_create rows (requests.Put path bytes mode) version e (inr (inl up)) = absurd (not_raised rows path bytes mode version (is_boundary path) refl e up)
  move_create rows (requests.Put path bytes mode) version e (inr (inr gone)) = absurd gone
  move_create rows (requests.Get path known) version e move = cc
  move_create rows (requests.List prefix after limit) version e move = cc
  move_create rows (requests.Delete path) version e move = cc

  put_front : (rows : List (RowOf C A)) (version : Version) → Front decode get_epoch (versions_of rows) → IsPut decode get_epoch rows (Some version) → Front decode get_epoch (with_version (versions_of rows) (Some version))
  put_front rows version f (inl a) =
      let next = a.next in
      let lacks = lacks_counted 0 (versions_of rows) version.0 (λ k v e. omega (arith, f.counted k v e)) (omega (arith, next)) in
      rw lacks (next_front decode get_epoch (versions_of rows) version a.value f next a.reads a.rises)
  put_front rows version f (inr again) = rw again f

  effect_front : (rows : List (RowOf C A)) (request : Request) (found : Option Version) → created request ≡ found → Front decode get_epoch (versions_of rows) → IsMove decode get_epoch rows request → Front decode get_epoch (with_version (versions_of rows) found)
  effect_front rows request None e f move = f
  effect_front rows request (Some version) e f move = put_front rows version f (move_create rows request version e move)

  row_front : (all : List (RowOf C A)) → AreMoves decode get_epoch all → (k : ℕ) (row : RowOf C A) → slice_get all k ≡ Some row → Front decode get_epoch (versions_of (take k all)) → Front decode get_epoch (versions_of (take k all ++ row ∷ []))
  row_front all moves k (Begun op call) e f = subst (Front decode get_epoch) (sym (versions_of-more (take k all) (Begun op call))) f
  row_front all moves k (Answered op answer) e f = subst (Front decode get_epoch) (sym (versions_of-more (take k all) (Answered op answer))) f
  row_front all moves k (Effect op request) e f = subst (Front decode get_epoch) (sym (versions_of-more (take k all) (Effect op request))) (effect_front (take k all) request (created request) refl f (moves k op request e))

  -- what stands at each front, where each effect is a move
  pub fronts_of : (rows : List (RowOf C A)) → AreMoves decode get_epoch rows → (k : ℕ) → Front decode get_epoch (versions_of (take k rows))
  fronts_of rows moves k = later_at (λ front. Front decode get_epoch (versions_of front)) rows (λ n row e f. row_front rows moves n row e f) 0 k (omega arith) (empty_front decode get_epoch)

  -- an entry stays one
  pub entry_more : (rows : List (RowOf C A)) (row : RowOf C A) (n : ℕ) (v : T) → IsEntry decode rows n v → IsEntry decode (rows ++ row ∷ []) n v
  entry_more rows row n v h =
      let g = versions_grow rows row in
      subst (λ (vs : List Version). Reads decode get_epoch vs n v) (sym g.1) (read_kept decode get_epoch (versions_of rows) g.0 n v h)

  pub entry_later : (rows : List (RowOf C A)) (i j n : ℕ) (v : T) → i ≤ j → IsEntry decode (take i rows) n v → IsEntry decode (take j rows) n v
  entry_later rows i j n v le h = later_at (λ front. IsEntry decode front n v) rows (λ k row e g. entry_more (take k rows) row n v g) i j le h

  entered_put : (rows : List (RowOf C A)) (n : ℕ) (bytes : List ℕ) (v : T) → has_id (versions_of rows) n ≡ false → decode bytes ≡ Some v → (row : RowOf C A) → created_by row ≡ Some (n, bytes) → IsPut decode get_epoch rows (Some (n, bytes)) → IsEntry decode (rows ++ row ∷ []) n v
  entered_put rows n bytes v lacks reads row creates (inr again) = absurd (both_ways (has_id (versions_of rows) n) lacks again)
  entered_put rows n bytes v lacks reads row creates (inl a) =
      let versions : versions_of (rows ++ row ∷ []) ≡ versions_of rows ++ (n, bytes) ∷ [] = versions_of-more rows row ∙ (ap (with_version (versions_of rows)) creates ∙ ap (λ (b : Bool). cond b (versions_of rows) (versions_of rows ++ (n, bytes) ∷ [])) lacks) in
      let next : n ≡ length (versions_of rows) + 1 = a.next in
      subst (λ (vs : List Version). Reads decode get_epoch vs n v) (sym versions) (subst (λ (m : ℕ). Reads decode get_epoch (versions_of rows ++ (n, bytes) ∷ []) m v) (sym next) (read_last decode get_epoch (versions_of rows) (n, bytes) v reads))

  -- what was entered is an entry
  pub entered_entry : (rows : List (RowOf C A)) → AreMoves decode get_epoch rows → (k op n : ℕ) (v : T) → Entered decode (take k rows) op n v → IsEntry decode (take k rows) n v
  entered_entry rows moves k op n v e =
      let c = e.create in
      let there = of_front rows k c.place (Effect op c.request) c.effect in
      let row : RowOf C A = Effect op c.request in
      let same = front_of rows k c.place (omega (arith, there.1)) in
      let lacks : has_id (versions_of (take c.place rows)) n ≡ false = subst (λ (front : List (RowOf C A)). has_id (versions_of front) n ≡ false) same e.first in
      let next : take (suc c.place) rows ≡ take c.place rows ++ row ∷ [] = front_more rows c.place row (slice_get_within rows c.place row there.0) (get_or_from_slice_get rows c.place row row there.0) in
      let at = entered_put (take c.place rows) n c.bytes v lacks e.reads row c.creates (move_create (take c.place rows) c.request (n, c.bytes) c.creates (moves c.place op c.request there.0)) in
      entry_later rows (suc c.place) k n v (omega (arith, there.1)) (subst (λ (front : List (RowOf C A)). IsEntry decode front n v) (sym next) at)

  -- what was newest at a row of a call is an entry
  pub newest_entry : (rows : List (RowOf C A)) (k op n : ℕ) (v : T) → WasNewest decode (take k rows) op n v → IsEntry decode (take k rows) n v
  newest_entry rows k op n v a =
      elim (cases_lt a.place k) [
        | inl lt ↦ entry_later rows a.place k n v (omega (arith, lt)) (subst (λ (front : List (RowOf C A)). IsEntry decode front n v) (front_of rows k a.place (omega (arith, lt))) a.there.1)
        | inr ge ↦ (
            let len = take_short rows k in
            subst (λ (front : List (RowOf C A)). IsEntry decode front n v) (take_all a.place (take k rows) (omega (arith, len, ge))) a.there.1
            )
      ]
    where
      take_short : (rows : List (RowOf C A)) (k : ℕ) → length (take k rows) ≤ k
      take_short rows zero = omega arith
      take_short [] (suc k) = omega arith
      take_short (row ∷ rows) (suc k) = let rest = take_short rows k in omega (arith, rest)
