-- Two successful claims never have the same epoch.
use Rattle.std.proofs.Common.{◌≡◌, ℕ, ◌+◌, ◌<◌, ◌≤◌, List, take, Option, Some, inl, inr, refl, subst, arith}
use Rattle.std.proofs.lemmas.Bool.{cases_lt}
use Rattle.txn_history.specs.declared.trace.RowOf.TheVariants.{Answered}
use Rattle.txn_history.proofs.Entries.{fronts_of, entry_later, entered_entry}
use Rattle.txn_history.proofs.Writers.{Wrote, entered_wrote, one_row}
use Rattle.txn_history.specs.declared.event.ViewCall.TheVariants as view_calls
use Rattle.txn_history.specs.declared.event.Call.{Call}
use Rattle.txn_history.specs.declared.event.Call.TheVariants as any
use Rattle.txn_history.specs.declared.event.Answer.TheVariants as answers
use Rattle.txn_history.specs.Calls.{view_used}
use Rattle.txn_history.specs.Trace.{Row}
use Rattle.txn_history.specs.OneHistory.{Shows, Holds, AnswerFits, IsOneHistory}
use Rattle.txn_history.specs.Laws.{HasOneClaimer}
use Rattle.txn_history.proofs.Legal.{are_moves}

module _ {T : Type 0} (decode : List ℕ → Option T) (get_epoch : T → ℕ) (set_epoch : T → ℕ → T) (failed : List ℕ) where
  -- a claim that is held: its call used a view, which it shows, and it holds
  pub held_says : (before : List (Row T)) (op view n epoch : ℕ) (value : T) (call : Call T) → AnswerFits decode get_epoch failed before op call (answers.Held view n value epoch) → ((used : ℕ) × (view_used call ≡ Some used) × Shows before used view n) × Holds decode get_epoch before op n value epoch
  held_says before op view n epoch value (any.View (view_calls.Claim w)) h = ((w, refl, h.0), h.1)
  held_says before op view n epoch value (any.View (view_calls.ClaimAt w at)) h = ((w, refl, h.0), h.1)
  held_says before op view n epoch value (any.Plain call) h = absurd h
  held_says before op view n epoch value (any.View (view_calls.Init v)) h = absurd h
  held_says before op view n epoch value (any.View view_calls.Load) h = absurd h
  held_says before op view n epoch value (any.View (view_calls.Refresh w)) h = absurd h
  held_says before op view n epoch value (any.View (view_calls.Update w v)) h = absurd h
  held_says before op view n epoch value (any.View (view_calls.HolderRefresh w)) h = absurd h
  held_says before op view n epoch value (any.View (view_calls.HolderUpdate w v)) h = absurd h

  pub held_fits : (before : List (Row T)) (op view n epoch : ℕ) (value : T) (call : Call T) → AnswerFits decode get_epoch failed before op call (answers.Held view n value epoch) → Holds decode get_epoch before op n value epoch
  held_fits before op view n epoch value call h = (held_says before op view n epoch value call h).1

  -- of two claims that are held with one epoch, neither entry is above the other
  not_above : (rows : List (Row T)) → IsOneHistory decode get_epoch set_epoch failed rows → (i j k op other n m epoch : ℕ) (v u : T) → j ≤ i → k ≤ i → Holds decode get_epoch (take j rows) op n v epoch → Holds decode get_epoch (take k rows) other m u epoch → n < m → ⊥
  not_above rows good i j k op other n m epoch v u jle kle h g lt =
      let moves = are_moves decode get_epoch set_epoch failed rows good in
      let low = entry_later decode get_epoch rows j i n v jle (entered_entry decode get_epoch rows moves j op n v h.entered) in
      let high = entry_later decode get_epoch rows k i g.base g.old kle g.entry in
      let up = (fronts_of decode get_epoch rows moves i).rising n g.base v g.old (let next = g.next in omega (arith, lt, next)) low high in
      let has = h.has in
      let less = g.smaller in
      omega (arith, up, has, less)

  pub one_claimer : (rows : List (Row T)) → IsOneHistory decode get_epoch set_epoch failed rows → HasOneClaimer rows
  one_claimer rows good j k op other view another n m epoch value found e e' =
      let a = good j (Answered op (answers.Held view n value epoch)) e in
      let b = good k (Answered other (answers.Held another m found epoch)) e' in
      let h = held_fits (take j rows) op view n epoch value a.call a.fits in
      let g = held_fits (take k rows) other another m epoch found b.call b.fits in
      let same : n ≡ m = elim (cases_lt n m) [
        | inl lt ↦ absurd (not_above rows good (j + k) j k op other n m epoch value found (omega arith) (omega arith) h g lt)
        | inr ge ↦ elim (cases_lt m n) [
          | inl lt ↦ absurd (not_above rows good (j + k) k j other op m n epoch found value (omega arith) (omega arith) g h lt)
          | inr le ↦ omega (arith, ge, le)
        ]
      ] in
      one_row decode rows j k op other m (answers.Held view n value epoch) (answers.Held another m found epoch) e e'
      (subst (λ (id : ℕ). Wrote decode rows j op id) same (entered_wrote decode rows j op n value a.once h.entered)) (entered_wrote decode rows k other m found b.once g.entered)
