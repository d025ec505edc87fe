-- Ids that were answered are those of entries.
use Rattle.std.proofs.Common.{◌≡◌, ℕ, suc, ◌<◌, ◌≤◌, List, [], ◌∷◌, take, drop, slice_get, nat_eq, ◌||◌, Bool, true, false, Option, Some, refl, sym, subst, arith}
use Rattle.std.specs.List.{list_any}
use Rattle.std.proofs.lemmas.Bool.{eqb-true}
use Rattle.std.proofs.lemmas.List.{take-append-drop}
use Rattle.txn_history.specs.declared.event.PlainAnswer.{PlainAnswer}
use Rattle.txn_history.specs.declared.event.PlainAnswer.TheVariants as plain_answers
use Rattle.txn_history.specs.declared.event.PlainCall.{PlainCall}
use Rattle.txn_history.specs.declared.event.PlainCall.TheVariants as calls
use Rattle.txn_history.specs.declared.trace.RowOf.TheVariants.{Effect, Begun, Answered}
use Rattle.txn_history.specs.History.{newest}
use Rattle.txn_history.specs.Facts as facts
use Rattle.txn_history.specs.Facts.{Entered, WasNewest}
use Rattle.txn_history.proofs.More.{newest_grows_by}
use Rattle.txn_history.proofs.Entries.{entered_entry, newest_entry}
use Rattle.txn_history.specs.declared.event.ViewCall.{ViewCall}
use Rattle.txn_history.specs.declared.event.ViewCall.TheVariants as view_calls
use Rattle.txn_history.specs.declared.event.Call.{Call}
use Rattle.txn_history.specs.declared.event.Call.TheVariants as any
use Rattle.txn_history.specs.declared.event.Answer.{Answer}
use Rattle.txn_history.specs.declared.event.Answer.TheVariants as answers
use Rattle.txn_history.specs.Trace.{Row}
use Rattle.txn_history.specs.Calls.{tells_id, tells, was_told}
use Rattle.txn_history.specs.OneHistory.{Succeeds, AnswerFits, IsOneHistory}
use Rattle.txn_history.proofs.Legal.{are_moves}
use Rattle.txn_history.proofs.Claimers.{held_fits}
use Rattle.txn_machine.proofs.views.History.{entry_within}

module _ {A : Type 0} where
  -- an element that passes
  pub any_at : (p : A → Bool) (xs : List A) → list_any p xs ≡ true → (k : ℕ) × (x : A) × (slice_get xs k ≡ Some x) × (p x ≡ true)
  any_at p [] e = cc
  any_at p (x ∷ xs) e = by (p x) refl e (λ h. any_at p xs h)
    where
      by : (b : Bool) → p x ≡ b → (b || list_any p xs) ≡ true → (list_any p xs ≡ true → (k : ℕ) × (y : A) × (slice_get xs k ≡ Some y) × (p y ≡ true)) → (k : ℕ) × (y : A) × (slice_get (x ∷ xs) k ≡ Some y) × (p y ≡ true)
      by true is h rest = (0, x, refl, is)
      by false is h rest = (let r = rest h in (suc r.0, r.1, r.2, r.3))

module _ {T : Type 0} where
  -- ids at a front of the rows are ids of them all
  pub front_newest : (rows : List (Row T)) (k : ℕ) → newest (take k rows) ≤ newest rows
  front_newest rows k = subst (λ (all : List (Row T)). newest (take k rows) ≤ newest all) (take-append-drop k rows) (newest_grows_by (take k rows) (drop k rows))

module _ {T : Type 0} (decode : List ℕ → Option T) (get_epoch : T → ℕ) (set_epoch : T → ℕ → T) (failed : List ℕ) where
  module _ (rows : List (Row T)) (good : IsOneHistory decode get_epoch set_epoch failed rows) (k op : ℕ) where
    abbrev IsId : ℕ → Type 0
    IsId n = (0 < n) × (n ≤ newest (take k rows))

    entered_id : (n : ℕ) (v : T) → Entered decode (take k rows) op n v → IsId n
    entered_id n v e = entry_within decode get_epoch set_epoch failed (take k rows) n v (entered_entry decode get_epoch rows (are_moves decode get_epoch set_epoch failed rows good) k op n v e)

    newest_id : (n : ℕ) (v : T) → WasNewest decode (take k rows) op n v → IsId n
    newest_id n v e = entry_within decode get_epoch set_epoch failed (take k rows) n v (newest_entry decode get_epoch rows k op n v e)

    same_id : (n m : ℕ) → nat_eq n m ≡ true → IsId m → IsId n
    same_id n m e h = subst IsId (sym (eqb-true n m e)) h

    wrote_id : (id : ℕ) (call : PlainCall T) → facts.PlainSucceeds decode (take k rows) op call (plain_answers.Wrote id) → IsId id
    wrote_id id (calls.Write base value) h = entered_id id value h
    wrote_id id (calls.WriteUnchecked base value) h = (let next = h.1 in (omega (arith, next), h.2))
    wrote_id id _ h = absurd h

    read_id : (id : ℕ) (v : T) (call : PlainCall T) → facts.PlainSucceeds decode (take k rows) op call (plain_answers.Read (Some (id, v))) → IsId id
    read_id id v calls.Read h = newest_id id v h
    read_id id v _ h = absurd h

    listed_id : (n : ℕ) (ids : List ℕ) (call : PlainCall T) → facts.PlainSucceeds decode (take k rows) op call (plain_answers.Ids ids) → list_any (nat_eq n) ids ≡ true → IsId n
    listed_id n ids (calls.ListIds from to) a e =
        let h = a.there.there n e in
        let up = front_newest (take k rows) a.place in
        let top = h.0.1 in
        (h.0.0, omega (arith, top, up))
    listed_id n ids _ h e = absurd h

    shown_id : (w id : ℕ) (v : T) (call : Call T) → AnswerFits decode get_epoch failed (take k rows) op call (answers.View w id v) → IsId id
    shown_id w id v (any.View (view_calls.Init x)) h = entered_id id v h.1
    shown_id w id v (any.View view_calls.Load) h = newest_id id v h.1
    shown_id w id v (any.View (view_calls.Refresh view)) h = newest_id id v h.1
    shown_id w id v (any.View (view_calls.Update view x)) h = entered_id id v h.1
    shown_id w id v (any.View (view_calls.HolderRefresh view)) h = newest_id id v h.1
    shown_id w id v (any.View (view_calls.HolderUpdate view x)) h = entered_id id v h.1
    shown_id w id v (any.View (view_calls.Claim view)) h = absurd h
    shown_id w id v (any.View (view_calls.ClaimAt view epoch)) h = absurd h
    shown_id w id v (any.Plain call) h = absurd h

    -- a call on a view is answered with a view
    no_plain : (call : ViewCall T) (answer : PlainAnswer T) → Succeeds decode get_epoch (take k rows) op (any.View call) (answers.Plain answer) → ⊥
    no_plain (view_calls.Init v) answer h = h
    no_plain view_calls.Load answer h = h
    no_plain (view_calls.Refresh view) answer h = h
    no_plain (view_calls.Update view v) answer h = h
    no_plain (view_calls.Claim view) answer h = h
    no_plain (view_calls.ClaimAt view epoch) answer h = h
    no_plain (view_calls.HolderRefresh view) answer h = h
    no_plain (view_calls.HolderUpdate view v) answer h = h

    told_id : (n : ℕ) (call : Call T) (answer : Answer T) → tells_id (nat_eq n) answer ≡ true → AnswerFits decode get_epoch failed (take k rows) op call answer → IsId n
    told_id n (any.Plain call) (answers.Plain (plain_answers.Wrote id)) e h = same_id n id e (wrote_id id call h)
    told_id n (any.Plain call) (answers.Plain (plain_answers.Read (Some found))) e h = same_id n found.0 e (read_id found.0 found.1 call h)
    told_id n (any.Plain call) (answers.Plain (plain_answers.Ids ids)) e h = listed_id n ids call h e
    told_id n (any.View call) (answers.Plain (plain_answers.Wrote id)) e h = absurd (no_plain call (plain_answers.Wrote id) h)
    told_id n (any.View call) (answers.Plain (plain_answers.Read found)) e h = absurd (no_plain call (plain_answers.Read found) h)
    told_id n (any.View call) (answers.Plain (plain_answers.Ids ids)) e h = absurd (no_plain call (plain_answers.Ids ids) h)
    told_id n call (answers.View w id v) e h = same_id n id e (shown_id w id v call h)
    told_id n call (answers.Held w id v epoch) e h = same_id n id e (entered_id id v (held_fits decode get_epoch set_epoch failed (take k rows) op w id epoch v call h).entered)
    told_id n call _ e h = cc

  pub told_within : (rows : List (Row T)) → IsOneHistory decode get_epoch set_epoch failed rows → (n : ℕ) → was_told rows n ≡ true → (0 < n) × (n ≤ newest rows)
  told_within rows good n told = (let at = any_at (tells (nat_eq n)) rows told in by at.0 at.1 at.2 at.3)
    where
      by : (k : ℕ) (row : Row T) → slice_get rows k ≡ Some row → tells (nat_eq n) row ≡ true → (0 < n) × (n ≤ newest rows)
      by k (Effect op request) e h = cc
      by k (Begun op call) e h = cc
      by k (Answered op answer) e h =
          let a = good k (Answered op answer) e in
          let i = told_id rows good k op n a.call answer h a.fits in
          let up = front_newest rows k in
          let top = i.1 in
          (i.0, omega (arith, top, up))
