-- How far replies show that puts went, and how many are lost beyond that, one row and one recording more.
use Rattle.std.proofs.Common.{◌≡◌, ◌≤◌, ◌<◌, ◌+◌, ℕ, suc, max, min, Bool, true, false, cond, List, length, map, get_or, Option, Some, unwrap_or, slice_get, refl, ap, ◌∙◌, arith}
use Rattle.std.proofs.lemmas.Option.{slice_get-map, slice_get_read}
use Rattle.std.specs.Option.{option_map}
use Rattle.txn_audit_recordings.specs.declared.row.RecordedRow.{RecordedRow}
use Rattle.txn_audit.specs.recordings.Undecided.{FilePut, shown_at, lost_at, greatest_in, greatest_at, greatest_of, goes_beyond, lost_in, lost_here, lost_of}

one_more : (n : ℕ) → n + 1 ≡ suc n
one_more n = omega arith

abbrev counted : Bool → ℕ
counted b = cond b 1 0

module _ {T : Type 0} where
  -- one row more
  pub shown_more : (measure : FilePut → ℕ) (rows : List (RecordedRow T)) (place start before now : ℕ) (file : Option FilePut) → file ≡ shown_at rows place → before ≡ max start (greatest_in measure rows place) → now ≡ max before (unwrap_or (option_map measure file) 0) → now ≡ max start (greatest_in measure rows (place + 1))
  shown_more measure rows place start before now file is so_far next =
      let here : unwrap_or (option_map measure file) 0 ≡ unwrap_or (option_map measure (shown_at rows place)) 0 = ap (λ file. unwrap_or (option_map measure file) 0) is in
      let more : greatest_in measure rows (place + 1) ≡ greatest_in measure rows (suc place) = ap (greatest_in measure rows) (one_more place) in
      omega (arith, here, so_far, next, more)

  -- one row more of which nothing is lost beyond, or one
  pub lost_more : (version boundary : ℕ) (rows : List (RecordedRow T)) (place before now : ℕ) (file : Option FilePut) (is : Bool) → file ≡ lost_at rows place → is ≡ goes_beyond version boundary file → before ≡ lost_in version boundary rows place → before ≤ place → now ≡ before + counted is → (now ≡ lost_in version boundary rows (place + 1)) × (now ≤ place + 1)
  lost_more version boundary rows place before now file is at beyond so_far le next =
      let here : counted is ≡ counted (goes_beyond version boundary (lost_at rows place)) = ap counted (beyond ∙ ap (goes_beyond version boundary) at) in
      let more : lost_in version boundary rows (place + 1) ≡ lost_in version boundary rows (suc place) = ap (lost_in version boundary rows) (one_more place) in
      (omega (arith, here, so_far, next, more), omega (arith, le, next, one is))
    where
      one : (b : Bool) → counted b ≤ 1
      one true = omega arith
      one false = omega arith

  module _ {V : Type 0} (rows_of : V → List (RecordedRow T)) (recordings : List V) (i : ℕ) (v : V) (lt : i < length recordings) (at : v ≡ get_or recordings i v) where
    found : slice_get (map rows_of recordings) i ≡ Some (rows_of v)
    found = slice_get-map rows_of recordings i ∙ ap (option_map rows_of) (slice_get_read recordings (length recordings) i v refl lt at)

    -- one recording more
    pub greatest_more : (measure : FilePut → ℕ) (before now : ℕ) → before ≡ greatest_of measure (map rows_of recordings) i → now ≡ max before (greatest_in measure (rows_of v) (length (rows_of v))) → now ≡ greatest_of measure (map rows_of recordings) (i + 1)
    greatest_more measure before now so_far next =
        let here : greatest_at measure (slice_get (map rows_of recordings) i) ≡ greatest_in measure (rows_of v) (length (rows_of v)) = ap (greatest_at measure) found in
        let more : greatest_of measure (map rows_of recordings) (i + 1) ≡ greatest_of measure (map rows_of recordings) (suc i) = ap (greatest_of measure (map rows_of recordings)) (one_more i) in
        omega (arith, here, so_far, next, more)

    pub all_lost_more : (version boundary before now most : ℕ) → before ≡ min (lost_of version boundary (map rows_of recordings) i) most → now ≡ min (before + lost_in version boundary (rows_of v) (length (rows_of v))) most → now ≡ min (lost_of version boundary (map rows_of recordings) (i + 1)) most
    all_lost_more version boundary before now most so_far next =
        let here : lost_here version boundary (slice_get (map rows_of recordings) i) ≡ lost_in version boundary (rows_of v) (length (rows_of v)) = ap (lost_here version boundary) found in
        let more : lost_of version boundary (map rows_of recordings) (i + 1) ≡ lost_of version boundary (map rows_of recordings) (suc i) = ap (lost_of version boundary (map rows_of recordings)) (one_more i) in
        omega (arith, here, so_far, next, more)
