-- A journal with one row more replays to where its last event leads.
use Rattle.std.proofs.Common.{◌≡◌, ℕ, List, [], ◌∷◌, ◌++◌, Option, sym, subst}
use Rattle.std.proofs.lemmas.List.{map-append}
use Rattle.txn_history.specs.Trace.{Event, Told}
use Rattle.txn_world_threads.specs.declared.kept.EventRow.{EventRow}
use Rattle.txn_machine.specs.Machine.{State, opening, Takes, Runs}
use Rattle.txn_world_threads.specs.Kept.{taken_of, Replays}
use Rattle.txn_machine.proofs.Runs.{runs_more, takes_same}

module _ {T : Type 0} (encode : T → List ℕ) (decode : List ℕ → Option T) (get_epoch : T → ℕ) (set_epoch : T → ℕ → T) where
  replays_row : (journal : List (EventRow T)) (old new : State T) (row : EventRow T) → Replays encode decode get_epoch set_epoch journal old → Takes encode decode get_epoch set_epoch old row.event row.told new → Replays encode decode get_epoch set_epoch (journal ++ row ∷ []) new
  replays_row journal old new row r t =
      subst (λ (n : ℕ). Runs encode decode get_epoch set_epoch (opening new.clients n) (taken_of (journal ++ row ∷ [])) new) (sym (takes_same encode decode get_epoch set_epoch old row.event row.told new t).1)
      (subst (λ (n : ℕ). Runs encode decode get_epoch set_epoch (opening n old.page) (taken_of (journal ++ row ∷ [])) new) (sym (takes_same encode decode get_epoch set_epoch old row.event row.told new t).0)
      (subst (λ (taken : List (Event T × Told T)). Runs encode decode get_epoch set_epoch (opening old.clients old.page) taken new) (sym (map-append _ journal (row ∷ [])))
      (runs_more encode decode get_epoch set_epoch (opening old.clients old.page) (taken_of journal) old row.event row.told new r t)))

  pub replays_push : (journal items : List (EventRow T)) (old new : State T) (worker : ℕ) (event copy : Event T) (told : Told T) → Replays encode decode get_epoch set_epoch journal old → Takes encode decode get_epoch set_epoch old event told new → copy ≡ event → items ≡ journal ++ record { worker = worker; event = copy; told = told } ∷ [] → Replays encode decode get_epoch set_epoch items new
  replays_push journal items old new worker event copy told r t e i =
      subst (λ (rows : List (EventRow T)). Replays encode decode get_epoch set_epoch rows new) (sym i)
      (replays_row journal old new (record { worker = worker; event = copy; told = told }) r (subst (λ (ev : Event T). Takes encode decode get_epoch set_epoch old ev told new) (sym e) t))
