-- The counts of each worker's rows, row by row.
use Rattle.std.proofs.Common.{◌≡◌, ℕ, ◌+◌, ◌-◌, ◌<◌, ◌≤◌, List, length, get_or, take, replicate, nat_eq, if◌then◌else◌, slice_get, slice_index, Some, sym, ◌∙◌, ap, subst, arith}
use Rattle.std.specs.List.{All}
use Rattle.std.proofs.lemmas.List.{length-take, length-replicate, get_or-replicate}
use Rattle.std.proofs.lemmas.List.Sums.{sum_by_more, count_by-le-length}
use Rattle.std.proofs.lemmas.Option.{get_or_from_slice_get, slice_get-get_or}
use Rattle.txn_world_threads.specs.declared.kept.EventRow.{EventRow}
use Rattle.txn_world_threads.specs.Lists.{AreEach}
use Rattle.txn_world_threads.specs.Kept.{rows_of, AreCounts, AreZeros}

-- as many copies of 0 as there are workers
pub zeros : (n none : ℕ) (counts : List ℕ) → none ≡ 0 → counts ≡ replicate n none → AreZeros n counts
zeros n none counts is are = subst (λ (xs : List ℕ). AreZeros n xs) (sym are) (record {
  all = length-replicate n none;
  each = λ k below. slice_get-get_or (replicate n none) k none (omega (arith, below, length-replicate n none)) ∙ ap Some (get_or-replicate n k none none below ∙ is);
})

-- one more where the row is that worker's
abbrev pub with_row : List ℕ → ℕ → ℕ → ℕ
with_row counts worker k = slice_index counts k + (if nat_eq worker (k + 1) then 1 else 0)

module _ {T : Type 0} where
  -- before the first row
  pub counts_none : (n : ℕ) (journal : List (EventRow T)) (counts : List ℕ) → AreZeros n counts → AreCounts n (take 0 journal) counts
  counts_none n journal counts are = record { all = are.all; each = λ k below. are.each k below }

  -- after one row more
  pub counts_further : (n i : ℕ) (journal : List (EventRow T)) (row : EventRow T) (old new : List ℕ) → i < length journal → row ≡ get_or journal i row → AreCounts n (take i journal) old → AreEach (with_row old row.worker) (length old) new → AreCounts n (take (i + 1) journal) new
  counts_further n i journal row old new small is are more = record {
    all = more.all ∙ are.all;
    each = λ k below.
        let here : slice_get new k ≡ Some (with_row old row.worker k) = more.each k (omega (arith, are.all)) in
        let were : slice_index old k ≡ rows_of (take i journal) (k + 1) = get_or_from_slice_get old k _ 0 (are.each k below) in
        let now : rows_of (take (i + 1) journal) (k + 1) ≡ rows_of (take i journal) (k + 1) + (if nat_eq (get_or journal i row).worker (k + 1) then 1 else 0) = sum_by_more _ journal i row small in
        here ∙ ap Some (ap (λ m. m + (if nat_eq row.worker (k + 1) then 1 else 0)) were ∙ (ap (λ (r : EventRow T). rows_of (take i journal) (k + 1) + (if nat_eq r.worker (k + 1) then 1 else 0)) is ∙ sym now));
  }

  -- no count is more than the rows so far
  pub counts_small : (n i most : ℕ) (journal : List (EventRow T)) (counts : List ℕ) → i < length journal → length journal ≤ most → AreCounts n (take i journal) counts → All (λ count. count < most) counts
  counts_small n i most journal counts small short are k d below =
      let is : get_or counts k d ≡ rows_of (take i journal) (k + 1) = get_or_from_slice_get counts k _ d (are.each k (omega (arith, are.all))) in
      omega (arith, is, length-take i journal, count_by-le-length (λ (row : EventRow T). nat_eq row.worker (k + 1)) (take i journal))

  -- counts that stand for as many workers, of the same rows, in a list that holds them
  pub counts_of_same : (n m : ℕ) (rows journal : List (EventRow T)) (counts held : List ℕ) → n ≡ m → rows ≡ journal → held ≡ counts → AreCounts n rows counts → AreCounts m journal held
  counts_of_same n m rows journal counts held same is holds are =
      subst (λ k. AreCounts k journal held) same
      (subst (λ (xs : List (EventRow T)). AreCounts n xs held) is
      (subst (λ (xs : List ℕ). AreCounts n rows xs) (sym holds) are))

  -- the count at a worker's place
  pub count_at : (workers worker : ℕ) (journal : List (EventRow T)) (counts : List ℕ) → AreCounts workers journal counts → 1 ≤ worker → worker ≤ workers → slice_index counts (worker - 1) ≡ rows_of journal worker
  count_at workers worker journal counts are from to =
      let place : worker - 1 + 1 ≡ worker = omega arith in
      get_or_from_slice_get counts (worker - 1) _ 0 (are.each (worker - 1) (omega arith)) ∙ ap (rows_of journal) place
