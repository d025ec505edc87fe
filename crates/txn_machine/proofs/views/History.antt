-- What one history says of its rows now: entries, the boundary, and one's own entries.
use Rattle.std.proofs.Common.{◌≡◌, ℕ, suc, ◌<◌, ◌≤◌, List, [], ◌∷◌, ◌++◌, length, take, true, false, Option, Some, None, inl, inr, refl, sym, ◌∙◌, ap, subst, arith}
use Rattle.std.proofs.lemmas.List.{length-append, take-append-le, take_all}
use Rattle.std.proofs.lemmas.Bool.{both_ways}
use Rattle.std.proofs.lemmas.Option.{slice_get_within, get_or_from_slice_get}
use Rattle.txn_store.specs.declared.request.Request.{Request}
use Rattle.txn_history.specs.declared.trace.RowOf.TheVariants.{Effect}
use Rattle.txn_history.specs.Lists.{numbered}
use Rattle.txn_history.specs.History.{history, created, has_id, with_version, versions_of, newest, boundary, IsEntry, epoch_in, epoch_at}
use Rattle.txn_history.specs.Calls.{begins, was_begun, AtRow}
use Rattle.txn_history.specs.Facts.{Entered, WasNewest}
use Rattle.txn_history.proofs.Lists.{get_more, any_true}
use Rattle.txn_history.proofs.Rows.{front_more, versions_of-more}
use Rattle.txn_history.proofs.Moves.{IsPut, IsMove}
use Rattle.txn_history.proofs.Fronts.{never_falls}
use Rattle.txn_history.proofs.Entries.{read_within, entered_entry, newest_entry, move_create}
use Rattle.txn_history.specs.Trace.{Row}
use Rattle.txn_history.specs.OneHistory.{Fits, IsOneHistory}
use Rattle.txn_history.proofs.Legal.{are_moves}
use Rattle.txn_history.proofs.Begins.{now_front}

module _ {T : Type 0} where
  pub whole_front : (rows : List (Row T)) → take (length rows) rows ≡ rows
  whole_front rows = take_all (length rows) rows (omega arith)

  -- the rows before the last
  pub front_before : (rows : List (Row T)) (row : Row T) (k : ℕ) → k ≤ length rows → take k (rows ++ row ∷ []) ≡ take k rows
  front_before rows row k le = take-append-le k rows (row ∷ []) le

  pub front_all : (rows : List (Row T)) (row : Row T) (k : ℕ) → length rows < k → take k (rows ++ row ∷ []) ≡ rows ++ row ∷ []
  front_all rows row k lt = take_all k (rows ++ row ∷ []) (omega (arith, lt, length-append rows (row ∷ [])))

module _ {T : Type 0} (decode : List ℕ → Option T) (get_epoch : T → ℕ) (set_epoch : T → ℕ → T) (failed : List ℕ) where
  -- one more row that fits
  pub one_history-more : (rows : List (Row T)) (row : Row T) → IsOneHistory decode get_epoch set_epoch failed rows → Fits decode get_epoch set_epoch failed rows row → IsOneHistory decode get_epoch set_epoch failed (rows ++ row ∷ [])
  one_history-more rows row good fits k r e =
      elim (get_more rows row k r e) [
        | inl h ↦
            let within : k ≤ length rows = omega (arith, slice_get_within rows k r h) in
            subst (λ (front : List (Row T)). Fits decode get_epoch set_epoch failed front r) (sym (take-append-le k rows (row ∷ []) within)) (good k r h)
        | inr h ↦
            let all : take k (rows ++ row ∷ []) ≡ rows = take-append-le k rows (row ∷ []) (omega (arith, h.0)) ∙ take_all k rows (omega (arith, h.0)) in
            subst (λ (front : List (Row T)). Fits decode get_epoch set_epoch failed front r) (sym all) (subst (λ (r' : Row T). Fits decode get_epoch set_epoch failed rows r') h.1 fits)
      ]

  -- the boundary does not fall with a row that fits
  pub boundary_up : (rows : List (Row T)) (row : Row T) → IsOneHistory decode get_epoch set_epoch failed (rows ++ row ∷ []) → boundary rows ≤ boundary (rows ++ row ∷ [])
  boundary_up rows row good =
      let all = rows ++ row ∷ [] in
      let up = never_falls decode get_epoch all (are_moves decode get_epoch set_epoch failed all good) (length rows) (suc (length rows)) (omega arith) in
      let low : take (length rows) all ≡ rows = front_before rows row (length rows) (omega arith) ∙ whole_front rows in
      let high : take (suc (length rows)) all ≡ all = front_all rows row (suc (length rows)) (omega arith) in
      subst (λ (front : List (Row T)). boundary front ≤ boundary all) low (subst (λ (front : List (Row T)). boundary (take (length rows) all) ≤ boundary front) high up)

  -- entries have ids from 1 to the newest
  pub entry_within : (rows : List (Row T)) (n : ℕ) (v : T) → IsEntry decode rows n v → (0 < n) × (n ≤ newest rows)
  entry_within rows n v e = read_within decode get_epoch (versions_of rows) n v e

  -- epochs never fall
  pub entries_rise : (rows : List (Row T)) → IsOneHistory decode get_epoch set_epoch failed rows → (n m : ℕ) (v w : T) → n ≤ m → IsEntry decode rows n v → IsEntry decode rows m w → get_epoch v ≤ get_epoch w
  entries_rise rows good n m v w le hv hw = (now_front decode get_epoch set_epoch failed rows good).rising n m v w le hv hw

  pub epoch_is : (rows : List (Row T)) (n : ℕ) (v : T) → IsEntry decode rows n v → epoch_at decode get_epoch rows n ≡ get_epoch v
  epoch_is rows n v e = ap (epoch_in get_epoch) e

  -- no entry has a greater epoch than the newest
  pub top_epoch : (rows : List (Row T)) → IsOneHistory decode get_epoch set_epoch failed rows → (n : ℕ) → epoch_at decode get_epoch rows n ≤ epoch_at decode get_epoch rows (newest rows)
  top_epoch rows good n = by (numbered (history decode rows) n) refl
    where
      by : (found : Option (Option T)) → numbered (history decode rows) n ≡ found → epoch_in get_epoch (numbered (history decode rows) n) ≤ epoch_at decode get_epoch rows (newest rows)
      by None e = rw e (omega arith)
      by (Some None) e = rw e (omega arith)
      by (Some (Some v)) e =
          let within = entry_within rows n v e in
          let top = (now_front decode get_epoch set_epoch failed rows good).reads (newest rows) (omega (arith, within.0, within.1)) (omega arith) in
          let up = entries_rise rows good n (newest rows) v top.0 within.1 e top.1 in
          let at = epoch_is rows (newest rows) top.0 top.1 in
          let here = epoch_is rows n v e in
          omega (arith, up, at, here)

  -- what was entered is an entry
  pub entered_now : (rows : List (Row T)) → IsOneHistory decode get_epoch set_epoch failed rows → (op n : ℕ) (v : T) → Entered decode rows op n v → IsEntry decode rows n v
  entered_now rows good op n v e =
      let all = whole_front rows in
      subst (λ (front : List (Row T)). IsEntry decode front n v) all
      (entered_entry decode get_epoch rows (are_moves decode get_epoch set_epoch failed rows good) (length rows) op n v (subst (λ (front : List (Row T)). Entered decode front op n v) (sym all) e))

  -- and so is what was newest at a row of a call
  pub newest_now : (rows : List (Row T)) → IsOneHistory decode get_epoch set_epoch failed rows → (op n : ℕ) (v : T) → WasNewest decode rows op n v → IsEntry decode rows n v
  newest_now rows good op n v w =
      let all = whole_front rows in
      subst (λ (front : List (Row T)). IsEntry decode front n v) all
      (newest_entry decode get_epoch rows (length rows) op n v (subst (λ (front : List (Row T)). WasNewest decode front op n v) (sym all) w))

  -- a create of a new name makes the newest entry
  put_newest : (rows : List (Row T)) (op n : ℕ) (request : Request) (bytes : List ℕ) → created request ≡ Some (n, bytes) → has_id (versions_of rows) n ≡ false → IsPut decode get_epoch rows (Some (n, bytes)) → newest (rows ++ Effect op request ∷ []) ≡ n
  put_newest rows op n request bytes creates first (inr again) = absurd (both_ways (has_id (versions_of rows) n) first again)
  put_newest rows op n request bytes creates first (inl a) =
      let versions : versions_of (rows ++ Effect op request ∷ []) ≡ versions_of rows ++ (n, bytes) ∷ [] =
      versions_of-more rows (Effect op request) ∙ (ap (with_version (versions_of rows)) creates ∙ rw first refl)
      in
      let next = a.next in
      ap length versions ∙ omega (arith, length-append (versions_of rows) ((n, bytes) ∷ []), next)

  -- one's own entry was the newest at a row of the call
  pub was_newest : (rows : List (Row T)) → IsOneHistory decode get_epoch set_epoch failed rows → (op n : ℕ) (v : T) → Entered decode rows op n v → AtRow rows op (λ front. newest front ≡ n)
  was_newest rows good op n v e =
      let c = e.create in
      let row : Row T = Effect op c.request in
      let lt = slice_get_within rows c.place row c.effect in
      let next : take (suc c.place) rows ≡ take c.place rows ++ row ∷ [] = front_more rows c.place row lt (get_or_from_slice_get rows c.place row row c.effect) in
      let move : IsMove decode get_epoch (take c.place rows) c.request = are_moves decode get_epoch set_epoch failed rows good c.place op c.request c.effect in
      let put = move_create decode get_epoch (take c.place rows) c.request (n, c.bytes) c.creates move in
      record {
        place = suc c.place;
        within = omega (arith, lt);
        begun = subst (λ (front : List (Row T)). was_begun front op ≡ true) (sym next) (any_true (begins op) (take c.place rows) row c.begun);
        there = subst (λ (front : List (Row T)). newest front ≡ n) (sym next) (put_newest (take c.place rows) op n c.request c.bytes c.creates e.first put);
      }
