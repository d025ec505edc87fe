-- Shares that are held against the counts are held against the journal.
use Rattle.std.proofs.Common.{◌≡◌, ◌↔◌, ℕ, ◌-◌, ◌<◌, ◌≤◌, List, length, get_or, slice_index, sym, ◌∙◌, subst}
use Rattle.std.proofs.lemmas.Option.{get_or_from_slice_get, slice_get-get_or, slice_get_within}
use Rattle.txn_world_threads.specs.declared.kept.EventRow.{EventRow}
use Rattle.txn_world_threads.specs.declared.kept.Share.{Share}
use Rattle.txn_world_threads.specs.Kept.{Agree, AreAmong, AreCounted, AreCounts}
use Rattle.txn_world_threads.proofs.Counting.{count_at}

module _ {T : Type 0} (workers : ℕ) (journal : List (EventRow T)) where
  from_counts : (shares : List Share) (counts : List ℕ) → AreAmong workers shares → AreCounts workers journal counts → AreCounted counts shares → Agree journal shares
  from_counts shares counts among are held k share at =
      let is : get_or shares k share ≡ share = get_or_from_slice_get shares k share share at in
      let within : k < length shares = slice_get_within shares k share at in
      let one : (1 ≤ share.worker) × (share.worker ≤ workers) = subst (λ (s : Share). (1 ≤ s.worker) × (s.worker ≤ workers)) is (among k share within) in
      subst (λ (s : Share). s.count ≡ slice_index counts (s.worker - 1)) is (held k share within) ∙ count_at workers share.worker journal counts are one.0 one.1

  from_journal : (shares : List Share) (counts : List ℕ) → AreAmong workers shares → AreCounts workers journal counts → Agree journal shares → AreCounted counts shares
  from_journal shares counts among are agree k d within =
      let share = get_or shares k d in
      let one : (1 ≤ share.worker) × (share.worker ≤ workers) = among k d within in
      agree k share (slice_get-get_or shares k d within) ∙ sym (count_at workers share.worker journal counts are one.0 one.1)

  -- shares and counts as they are lent
  pub exactly : (shares lent : List Share) (counts those : List ℕ) → AreAmong workers shares → AreCounts workers journal counts → lent ≡ shares → those ≡ counts → AreCounted those lent ↔ Agree journal shares
  exactly shares lent counts those among are is same =
      let P : List ℕ → List Share → Type 0 = λ ns xs. AreCounted ns xs ↔ Agree journal shares in
      subst (λ ns. P ns lent) (sym same) (subst (λ (xs : List Share). P counts xs) (sym is) (from_counts shares counts among are, from_journal shares counts among are))
