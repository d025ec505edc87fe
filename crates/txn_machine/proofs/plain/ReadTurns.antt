-- What a look or a serve leaves a read of the newest version with, once its parts are known.
use Rattle.std.proofs.Common.{◌≡◌, nat_eq, ℕ, List, [], ◌∷◌, Bool, true, Option, Some, None, Ok, Err, Result, inl, inr, refl, sym, subst}
use Rattle.std.specs.List.{list_any}
use Rattle.std.proofs.lemmas.Bool.{or_cases, or_left, or_right, eq-eqb}
use Rattle.txn_store.specs.Store.{State as StoreState}
use Rattle.txn_steps.specs.declared.boundary.caches.CachedBoundary.{CachedBoundary}
use Rattle.txn_steps.specs.declared.boundary.boundary_read.BoundaryRead.{BoundaryRead}
use Rattle.txn_steps.specs.declared.boundary.boundary_read.BoundaryRead.TheVariants as reading
use Rattle.txn_steps.specs.declared.boundary.check.CheckOp.{CheckOp}
use Rattle.txn_steps.specs.declared.boundary.turned.Turned.{Turned}
use Rattle.txn_steps.specs.declared.boundary.turned.Turned.TheVariants.{Goes, Done}
use Rattle.txn_steps.specs.declared.latest.LatestOp.{LatestOp}
use Rattle.txn_steps.specs.declared.read.ReadOp.TheVariants as reads
use Rattle.txn_steps.specs.declared.listing.ListOp.{ListOp}
use Rattle.txn_steps.specs.Latest.{ReadAnswer}
use Rattle.txn_steps.specs.Listed.{Listed}
use Rattle.txn_steps.specs.Reads.{read_started, reads_turned, checks_turned, IsInRange}
use Rattle.txn_history.specs.declared.event.PlainCall.{PlainCall}
use Rattle.txn_history.specs.declared.event.PlainCall.TheVariants as calls
use Rattle.txn_history.specs.declared.event.PlainAnswer.{PlainAnswer}
use Rattle.txn_history.specs.declared.event.PlainAnswer.TheVariants as answers
use Rattle.txn_history.specs.Trace.{PlainRow}
use Rattle.txn_history.specs.Names.{world_boundary}
use Rattle.txn_history.specs.Facts.{WasNewest}
use Rattle.txn_machine.specs.plain.PlainHistory.{AnswerFits}
use Rattle.txn_machine.specs.declared.plain.doing.PlainDoing.TheVariants.{Read, ListIds}
use Rattle.txn_machine.specs.plain.Doing.{ids_of, read_next, ids_next}
use Rattle.txn_machine.proofs.plain.Stands.{IsKnown, TellsKnown, Runs, TurnStands}
use Rattle.txn_machine.proofs.plain.Turns.{no_id, one_id, ended, goes_on, lacking, CheckTells, LatestTells, ListTells}

module _ {T : Type 0} (decode : List ℕ → Option T) (get_epoch : T → ℕ) (failed : List ℕ) (rows : List (PlainRow T)) (store : StoreState) (cached : Option CachedBoundary) (op : ℕ) (call : PlainCall T) (r : Runs decode get_epoch rows op call) where
  -- a read's answer, for the call that is a read
  reads_answer : (answer : PlainAnswer T) → call ≡ calls.Read → AnswerFits decode get_epoch failed rows op calls.Read answer → AnswerFits decode get_epoch failed rows op call answer
  reads_answer answer is fits = subst (λ (c : PlainCall T). AnswerFits decode get_epoch failed rows op c answer) (sym is) fits

  -- after a step of the read without its check
  pub latest_told : (told : LatestOp T × Turned (ReadAnswer T)) (boundary : BoundaryRead) → boundary ≡ reading.Looks world_boundary → call ≡ calls.Read → IsInRange (reads_turned boundary told).0 → LatestTells decode rows op told →
      TurnStands decode get_epoch failed rows store cached op call (read_next (reads_turned boundary told))
  latest_told (latest, Goes) boundary at is range h = goes_on decode get_epoch failed rows store cached op call (Read (reads.Reads latest boundary)) r range (is, (h, at))
  latest_told (latest, Done (Ok None)) boundary at is range h = ended decode get_epoch failed rows store cached op call (answers.Read None) r (reads_answer (answers.Read None) is h) (no_id rows (answers.Read None) (λ test. refl))
  latest_told (latest, Done (Ok (Some found))) boundary at is range h = goes_on decode get_epoch failed rows store cached op call (Read (reads_turned boundary (latest, Done (Ok (Some found)))).0) r range (is, (h.0, (refl, (at, h.1))))
  latest_told (latest, Done (Err number)) boundary at is range h =
      subst (λ (m : ℕ). TurnStands decode get_epoch failed rows store cached op call (read_next (reads_turned boundary (latest, Done (Err m))))) (sym h) (lacking decode get_epoch failed rows store cached op call r)

  -- after a step of its check
  pub read_checked : (told : CheckOp × Turned (Result (Unit {0}) ℕ)) (id : ℕ) (value : T) → call ≡ calls.Read → IsKnown rows id → CheckTells rows store cached id (WasNewest decode rows op id value) told →
      TurnStands decode get_epoch failed rows store cached op call (read_next (checks_turned world_boundary id value told))
  read_checked (check, Goes) id value is known h = goes_on decode get_epoch failed rows store cached op call (Read (reads.Checks id value check)) r tt (is, (known, h))
  read_checked (check, Done (Ok accepted)) id value is known h =
      let answer : PlainAnswer T = answers.Read (Some (id, value)) in
      ended decode get_epoch failed rows store cached op call answer r (reads_answer answer is h) (one_id rows answer id known (λ test. refl))
  read_checked (check, Done (Err number)) id value is known (inl h) =
      subst (λ (m : ℕ). TurnStands decode get_epoch failed rows store cached op call (read_next (checks_turned world_boundary id value (check, Done (Err m))))) (sym h.0)
      (goes_on decode get_epoch failed rows store cached op call (Read (read_started world_boundary)) r tt (is, (tt, refl)))
  read_checked (check, Done (Err number)) id value is known (inr h) =
      subst (λ (m : ℕ). TurnStands decode get_epoch failed rows store cached op call (read_next (checks_turned world_boundary id value (check, Done (Err m))))) (sym h) (lacking decode get_epoch failed rows store cached op call r)

  -- after a page of a listing of ids

  lists_known : (found : List Listed) → ((n : ℕ) → list_any (nat_eq n) (ids_of found) ≡ true → IsKnown rows n) → TellsKnown rows (answers.Ids (ids_of found))
  lists_known found known test e = let at = any_one test (ids_of found) e in (at.0, at.1, known at.0 at.2)
    where
      any_one : (test : ℕ → Bool) (ns : List ℕ) → list_any test ns ≡ true → (n : ℕ) × (test n ≡ true) × (list_any (nat_eq n) ns ≡ true)
      any_one test [] h = cc
      any_one test (n ∷ ns) h = elim (or_cases (test n) (list_any test ns) h) [
        | inl here ↦ (n, here, or_left (nat_eq n n) (list_any (nat_eq n) ns) (eq-eqb n n refl))
        | inr rest ↦ (let at = any_one test ns rest in (at.0, at.1, or_right (nat_eq at.0 n) (list_any (nat_eq at.0) ns) at.2))
      ]

  pub list_told : (told : ListOp × Turned (Result (List Listed) ℕ)) → call ≡ calls.ListIds told.0.from told.0.to → ListTells decode rows op told → TurnStands decode get_epoch failed rows store cached op call (ids_next told)
  list_told (list, Goes) is h = goes_on decode get_epoch failed rows store cached op call (ListIds list) r tt (is, h)
  list_told (list, Done (Ok found)) is h =
      ended decode get_epoch failed rows store cached op call (answers.Ids (ids_of found)) r (subst (λ (c : PlainCall T). AnswerFits decode get_epoch failed rows op c (answers.Ids (ids_of found))) (sym is) h.0) (lists_known found h.1)
  list_told (list, Done (Err number)) is h = subst (λ (m : ℕ). TurnStands decode get_epoch failed rows store cached op call (ids_next (list, Done (Err m)))) (sym h) (lacking decode get_epoch failed rows store cached op call r)
