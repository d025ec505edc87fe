-- Rows and recordings that are renamed in their places, one more at a time, and replies that are pages.
use Rattle.std.proofs.Common.{◌≡◌, ℕ, ◌+◌, ◌-◌, ◌<◌, ◌≤◌, Bool, List, [], ◌∷◌, ◌++◌, length, map, take, drop, get_or, Option, None, Ok, Err, Result, refl, sym, ap, subst, ◌∙◌, arith}
use Rattle.std.specs.List.{AllZip}
use Rattle.std.specs.Prelude.{OnOk}
use Rattle.std.proofs.Math.ListN.{set}
use Rattle.std.proofs.lemmas.List.{length-drop, drop-drop, drop-set-lt, get_or-drop, take_all, take_more, take_more_set, map-append}
use Rattle.std.proofs.Math.Seq.{take-append_seam}
use Rattle.std.proofs.lemmas.List.Elements.{AllZip-push}
use Rattle.txn_store.specs.Paths.{Segments}
use Rattle.txn_store.specs.declared.page.Page.{Page}
use Rattle.txn_store.specs.declared.store.StoreError.{StoreError}
use Rattle.txn_store.specs.declared.request.Request.{Request}
use Rattle.txn_store.specs.declared.request.Reply.{Reply}
use Rattle.txn_store.specs.declared.request.Reply.TheVariants as replies
use Rattle.txn_audit_recordings.specs.declared.row.RecordedRow.{RecordedRow}
use Rattle.txn_audit_recordings.specs.declared.row.RecordedRow.TheVariants as kinds
use Rattle.txn_audit_recordings.specs.Tokens.{Renaming, RenamesRequest, RenamesMeta, RenamesReply, RenamesRow, RenamesRows, path_asked}

-- What follows of a call that is done.
pub on_ok : {A E : Type 0} (r : Result A E) (P Q : Type 0) → (P → Q) → OnOk r P → OnOk r Q
on_ok (Ok done) P Q follows told = follows told
on_ok (Err error) P Q follows told = tt

module _ {X : Type 0} (was now : List X) (i : ℕ) (same : drop i now ≡ drop i was) where
  -- The item at a place is as it was, where none from there on has changed.
  pub item_stays : (d : X) → get_or now i d ≡ get_or was i d
  item_stays d =
      let at : i + 0 ≡ i = omega arith in
      subst (λ (k : ℕ). get_or now k d ≡ get_or was k d) at (sym (get_or-drop i now 0 d) ∙ ap (λ (l : List X). get_or l 0 d) same ∙ get_or-drop i was 0 d)

  -- So are those behind it, whatever is put there.
  pub rest_stays : (y : X) → drop (i + 1) (set now i y) ≡ drop (i + 1) was
  rest_stays y = drop-set-lt (i + 1) now i y (omega arith) ∙ (sym (drop-drop 1 i now) ∙ (ap (λ (l : List X). drop 1 l) same ∙ drop-drop 1 i was))

  -- The place is one of both.
  pub place_stays : i < length was → i < length now
  place_stays lt =
      let long : length now - i ≡ length was - i = sym (length-drop i now) ∙ (ap (λ (l : List X). length l) same ∙ length-drop i was) in
      omega (arith, lt, long)

  -- The first items, and the one at the place.
  pub front_was : (x : X) → i < length was → x ≡ get_or now i x → take (i + 1) was ≡ take i was ++ x ∷ []
  front_was x lt is = take_more was i x lt ∙ ap (λ (y : X). take i was ++ y ∷ []) (sym (is ∙ item_stays x))

  pub front_now : (y : X) → i < length was → take (i + 1) (set now i y) ≡ take i now ++ y ∷ []
  front_now y lt = take_more_set now i y (place_stays lt)

  -- Lists are alike up to the place, and then behind it.
  pub zip_more : {Y : Type 0} (f : X → Y) (R : Y → Y → Type 0) (x y : X) → i < length was → x ≡ get_or now i x → AllZip R (map f (take i was)) (map f (take i now)) → R (f (get_or now i x)) (f y) → AllZip R (map f (take (i + 1) was)) (map f (take (i + 1) (set now i y)))
  zip_more f R x y lt is before this =
      let it = subst (λ (z : X). R (f z) (f y)) (sym is) this in
      let were = ap (map f) (front_was x lt is) ∙ map-append f (take i was) (x ∷ []) in
      let are = ap (map f) (front_now y lt) ∙ map-append f (take i now) (y ∷ []) in
      rw were (rw are (AllZip-push R (map f (take i was)) (map f (take i now)) (f x) (f y) before it))

-- At the end lists are alike, the first of which are the old items, and the others what is left in their place.
pub zip_end : {X Y : Type 0} (f : X → Y) (R : Y → Y → Type 0) (old was now : List X) (i n : ℕ) → was ≡ old → length was ≤ i → length now ≡ length was → length was ≡ n → AllZip R (map f (take i was)) (map f (take i now)) → AllZip R (map f old) (map f (take n (now ++ drop (length now) old)))
zip_end {X} f R old was now i n is le alike len all =
    let first = subst (λ (l : List X). AllZip R (map f l) (map f (take i now))) (take_all i was le ∙ is) all in
    let whole : length now ≤ i = omega (arith, alike, le) in
    let count : n ≡ length now = sym (alike ∙ len) in
    let left : take i now ≡ take n (now ++ drop (length now) old) = take_all i now whole ∙ sym (ap (λ (k : ℕ). take k (now ++ drop (length now) old)) count ∙ take-append_seam now (drop (length now) old)) in
    subst (λ (l : List X). AllZip R (map f old) (map f l)) left first

module _ {T : Type 0} where
  -- the path of the file that the last of these rows asks about, where they stand behind one that asks about this
  abbrev pub path_behind : Option Segments → List (RecordedRow T) → Option Segments
  path_behind path [] = path
  path_behind path (row ∷ rows) = path_behind (path_asked row) rows

  behind_last : (path : Option Segments) (rows : List (RecordedRow T)) (row : RecordedRow T) → path_behind path (rows ++ row ∷ []) ≡ path_asked row
  behind_last path [] row = refl
  behind_last path (x ∷ xs) row = behind_last (path_asked x) xs row

  -- The last row of those so far is the one at the place.
  pub path_more : (was now : List (RecordedRow T)) (i : ℕ) (row : RecordedRow T) → drop i now ≡ drop i was → i < length was → row ≡ get_or now i row → path_asked (get_or now i row) ≡ path_behind None (take (i + 1) was)
  path_more was now i row same lt is = ap (λ (r : RecordedRow T). path_asked r) (sym is) ∙ sym (ap (path_behind None) (front_was was now i same row lt is) ∙ behind_last None (take i was) row)

  module _ (becomes : Renaming) where
    rows_behind : (path : Option Segments) (rows renamed : List (RecordedRow T)) (row new : RecordedRow T) → RenamesRows becomes path rows renamed → RenamesRow becomes (path_behind path rows) row new → RenamesRows becomes path (rows ++ row ∷ []) (renamed ++ new ∷ [])
    rows_behind path [] [] row new before this = (this, tt)
    rows_behind path [] (y ∷ ys) row new before this = absurd before
    rows_behind path (x ∷ xs) [] row new before this = absurd before
    rows_behind path (x ∷ xs) (y ∷ ys) row new (first, rest) this = (first, rows_behind (path_asked x) xs ys row new rest this)

    -- One row more is renamed, by the path that the row before it asks about.
    pub row_more : (was now : List (RecordedRow T)) (i : ℕ) (row new : RecordedRow T) → drop i now ≡ drop i was → i < length was → row ≡ get_or now i row → RenamesRows becomes None (take i was) (take i now) → RenamesRow becomes (path_behind None (take i was)) (get_or now i row) new → RenamesRows becomes None (take (i + 1) was) (take (i + 1) (set now i new))
    row_more was now i row new same lt is before this = let it = subst (λ (r : RecordedRow T). RenamesRow becomes (path_behind None (take i was)) r new) (sym is) this in rw (front_was was now i same row lt is) (rw (front_now was now i same new lt) (rows_behind None (take i was) (take i now) row new before it))

module _ (becomes : Renaming) where
  -- A reply that is a page, whose files are renamed.
  pub page_renamed : (path : Option Segments) (reply : Reply) (answer : Result Page StoreError) (page new : Page) → reply ≡ replies.List answer → answer ≡ Ok page → AllZip (RenamesMeta becomes) page.metas new.metas → new.more ≡ page.more → RenamesReply becomes path reply (replies.List (Ok new))
  page_renamed path reply answer page new is at metas more = rw is (rw at (new.metas, metas, ap (λ (follows : Bool). replies.List (Ok (record new { more = follows }))) more))

  module _ {T : Type 0} where
    pub ask_renamed : (path : Option Segments) (row : RecordedRow T) (op at : ℕ) (request new : Request) → row ≡ kinds.Ask op at request → RenamesRequest becomes request new → RenamesRow becomes path row (kinds.Ask op at new)
    ask_renamed path row op at request new is renamed = rw is (new, renamed, refl)

    pub reply_renamed : (path : Option Segments) (row : RecordedRow T) (op at : ℕ) (reply new : Reply) → row ≡ kinds.Reply op at reply → RenamesReply becomes path reply new → RenamesRow becomes path row (kinds.Reply op at new)
    reply_renamed path row op at reply new is renamed = rw is (new, renamed, refl)
