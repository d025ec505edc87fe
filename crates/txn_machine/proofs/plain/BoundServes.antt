-- What a look and a serve leave a check, a delete and an advance with, and what they ask.
use Rattle.std.proofs.Common.{◌≡◌, ℕ, ◌≤◌, List, ◌++◌, length, take, Bool, true, false, is_some, Option, Some, None, Ok, Err, Result, inl, inr, refl, sym, ◌∙◌, ap, subst, arith}
use Rattle.std.specs.Option.{option_map}
use Rattle.std.specs.FinMap.{get}
use Rattle.std.proofs.lemmas.List.{append-nil, take_all}
use Rattle.std.proofs.lemmas.Option.{same_Some}
use Rattle.txn_store.specs.VersionName.{version_path}
use Rattle.txn_store.specs.Store.{Files, State as StoreState, Removed, Deletes}
use Rattle.txn_store.specs.Requests.{Serves}
use Rattle.txn_store.specs.declared.store.Got.{Got}
use Rattle.txn_store.specs.declared.store.StoreError.{StoreError}
use Rattle.txn_store.specs.declared.store.StoreError.TheVariants as errors
use Rattle.txn_store.specs.declared.request.Request.{Request}
use Rattle.txn_store.specs.declared.request.Reply.{Reply}
use Rattle.txn_store.specs.declared.request.Reply.TheVariants as replies
use Rattle.txn_store.proofs.FileLemmas.{get-remove_same}
use Rattle.txn_steps.specs.declared.boundary.caches.Caches.{Caches}
use Rattle.txn_steps.specs.declared.boundary.caches.CachedBoundary.{CachedBoundary}
use Rattle.txn_steps.specs.declared.boundary.check.CheckOp.{CheckOp}
use Rattle.txn_steps.specs.declared.boundary.advance.BoundaryAdvance.{BoundaryAdvance}
use Rattle.txn_steps.specs.declared.boundary.advance.BoundaryAdvance.TheVariants as raising
use Rattle.txn_steps.specs.declared.boundary.advance.AdvanceOp.{AdvanceOp}
use Rattle.txn_steps.specs.declared.boundary.advance.AdvanceOp.TheVariants as advances
use Rattle.txn_steps.specs.declared.boundary.turned.Turned.{Turned}
use Rattle.txn_steps.specs.declared.boundary.turned.Turned.TheVariants as turns
use Rattle.txn_steps.specs.boundary.Checks.{check_asked, check_turned, check_caches}
use Rattle.txn_steps.specs.boundary.BoundaryAdvances.{boundary_advance_asked, boundary_advance_turned, boundary_advance_cached}
use Rattle.txn_steps.specs.boundary.Advances.{advance_asked, advance_caches, raises_turned}
use Rattle.txn_steps.specs.declared.delete.RemovalStep.{RemovalStep}
use Rattle.txn_steps.specs.declared.delete.RemovalStep.TheVariants as removals
use Rattle.txn_steps.specs.declared.delete.DeleteUncheckedOp.{DeleteUncheckedOp}
use Rattle.txn_steps.specs.declared.delete.DeleteStep.{DeleteStep}
use Rattle.txn_steps.specs.declared.delete.DeleteStep.TheVariants as deletes
use Rattle.txn_steps.specs.declared.delete.DeleteOp.{DeleteOp}
use Rattle.txn_steps.specs.Deletes.{removal_started, removal_asked_at, removed, removal_replied, removal_turned_at, removal_latest_at, delete_asked, delete_asked_at, checks_turned as delete_checked, removes_turned, delete_turned_at, delete_caches_at}
use Rattle.txn_history.specs.declared.event.PlainCall.{PlainCall}
use Rattle.txn_history.specs.declared.event.PlainCall.TheVariants as calls
use Rattle.txn_history.specs.declared.event.PlainAnswer.{PlainAnswer}
use Rattle.txn_history.specs.declared.event.PlainAnswer.TheVariants as answers
use Rattle.txn_history.specs.Trace.{PlainRow}
use Rattle.txn_history.specs.declared.trace.RowOf.TheVariants.{Effect}
use Rattle.txn_history.specs.Names.{world_names, world_boundary}
use Rattle.txn_history.specs.History.{newest, boundary, is_stored}
use Rattle.txn_history.specs.Calls.{was_begun, IsCall, AtRow}
use Rattle.txn_machine.specs.plain.PlainHistory.{AnswerFits}
use Rattle.txn_history.specs.Seen.{Store, Look}
use Rattle.txn_history.specs.Added.{effect_rows}
use Rattle.txn_history.proofs.Rows.{newest_grows}
use Rattle.txn_machine.specs.declared.plain.doing.PlainDoing.{PlainDoing}
use Rattle.txn_machine.specs.declared.plain.doing.PlainDoing.TheVariants.{Delete, Check, Advance}
use Rattle.txn_machine.specs.plain.Doing.{Next, ask_of, asked, turned, plain_caches_after, delete_next, check_next, advance_next}
use Rattle.txn_machine.specs.plain.Machine.{effect_of}
use Rattle.txn_machine.proofs.plain.Stands.{remove_version, IsQuiet, Frame, Room, PutStands, RaiseStands, WasAbove, WasGone, RemovalStands, DeleteStepStands, CachesStand, KnowStands, Asks, Runs, DoingStands, TurnStands}
use Rattle.txn_machine.proofs.plain.Turns.{stays, CheckTells, RaiseTells, LooksTo, no_id, ends_with, ended, goes_on, fails_with, lacking, may_lack}
use Rattle.txn_machine.proofs.plain.Windows.{above_fits, without_fits}
use Rattle.txn_machine.proofs.plain.Parts.{with_boundary, check_kept, raise_kept, quiet_rows, reading_asks, getting_quiet, raise_looks, raise_serves, check_asks, check_looks, check_serves}
use Rattle.txn_machine.proofs.plain.Faults.{ruled_out}

-- what is asked, as a request or a look

pub asks_request : (request : Option Request) (r : Request) → Some (ask_of request) ≡ Some (Store r) → request ≡ Some r
asks_request None r e = cc
asks_request (Some request) r e = cc

pub asks_look : (request : Option Request) → Some (ask_of request) ≡ Some Look → request ≡ None
asks_look None e = refl
asks_look (Some request) e = cc

-- an operation that asks leaves the caches

removal_kept : (caches : Caches) (step : RemovalStep) (removal : DeleteUncheckedOp) (request : Request) → removal_asked_at step removal ≡ Some request → with_boundary (removal_latest_at step removal.id caches.latest) caches.boundary ≡ caches
removal_kept caches removals.Removes removal request asks = refl
removal_kept caches removals.Drops removal request asks = cc

delete_kept_at : (caches : Caches) (step : DeleteStep) (delete : DeleteOp) (request : Request) → delete_asked_at step delete ≡ Some request → delete_caches_at step delete caches ≡ caches
delete_kept_at caches deletes.Checks delete request asks = check_kept caches delete.check request asks
delete_kept_at caches deletes.Removes delete request asks = removal_kept caches delete.removal.step delete.removal request asks

advance_kept : (caches : Caches) (advance : AdvanceOp) (request : Request) → advance_asked advance ≡ Some request → advance_caches advance caches ≡ caches
advance_kept caches (advances.Raises target raise) request asks = ap (with_boundary caches.latest) (raise_kept caches.boundary raise request asks)
advance_kept caches (advances.Drops target) request asks = cc

module _ {T : Type 0} where
  pub check_op_keeps : (caches : Caches) (state : CheckOp) (request : Request) (answer : Option (PlainAnswer T)) → asked {T = T} (Check state) ≡ Some (Store request) → plain_caches_after (Check state) caches answer ≡ caches
  check_op_keeps caches state request answer asks = check_kept caches state request (asks_request (check_asked state) request asks)

  pub delete_op_keeps : (caches : Caches) (state : DeleteOp) (request : Request) (answer : Option (PlainAnswer T)) → asked {T = T} (Delete state) ≡ Some (Store request) → plain_caches_after (Delete state) caches answer ≡ caches
  delete_op_keeps caches state request answer asks = delete_kept_at caches state.step state request (asks_request (delete_asked state) request asks)

  pub advance_op_keeps : (caches : Caches) (state : AdvanceOp) (request : Request) (answer : Option (PlainAnswer T)) → asked {T = T} (Advance state) ≡ Some (Store request) → plain_caches_after (Advance state) caches answer ≡ caches
  advance_op_keeps caches state request answer asks = advance_kept caches state request (asks_request (advance_asked state) request asks)

  -- the rows after a request that reached the store
  abbrev pub rows_after : List (PlainRow T) → ℕ → StoreState → Request → Reply → List (PlainRow T)
  rows_after rows op old request reply = rows ++ effect_rows op (effect_of old.files request reply)

  -- the end of the rows is a row of the call
  pub at_now : (rows : List (PlainRow T)) (op : ℕ) (holds : List (PlainRow T) → Type 0) → was_begun rows op ≡ true → holds rows → AtRow rows op holds
  at_now rows op holds begun h =
      let all : take (length rows) rows ≡ rows = take_all (length rows) rows (omega arith) in
      record {
        place = length rows;
        within = omega arith;
        begun = subst (λ (front : List (PlainRow T)). was_begun front op ≡ true) (sym all) begun;
        there = subst holds (sym all) h;
      }

  -- the newest only rises
  newest_rises : (rows : List (PlainRow T)) (op : ℕ) (effect : Option Request) → newest rows ≤ newest (rows ++ effect_rows op effect)
  newest_rises rows op None = subst (λ (rs : List (PlainRow T)). newest rows ≤ newest rs) (sym (append-nil rows)) (omega arith)
  newest_rises rows op (Some request) = newest_grows rows (Effect op request)

  room_later : (rows : List (PlainRow T)) (op target : ℕ) (effect : Option Request) → Room rows target → Room (rows ++ effect_rows op effect) target
  room_later rows op target effect (inl zero) = inl zero
  room_later rows op target effect (inr under) = (let rises = newest_rises rows op effect in inr (omega (arith, under, rises)))

module _ {T : Type 0} (decode : List ℕ → Option T) (get_epoch : T → ℕ) where
  -- what a quiet request leaves, of the rows before it
  pub quiet_turn : (failed : List ℕ) (rows : List (PlainRow T)) (old new : StoreState) (cached : Option CachedBoundary) (op : ℕ) (call : PlainCall T) (request : Request) (reply : Reply) (next : Next T) → IsQuiet request → Runs decode get_epoch (rows_after rows op old request reply) op call →
      (Runs decode get_epoch rows op call → TurnStands decode get_epoch failed rows new cached op call next) → TurnStands decode get_epoch failed (rows_after rows op old request reply) new cached op call next
  quiet_turn failed rows old new cached op call request reply next quiet r turn =
      let same = quiet_rows rows op old.files request reply quiet in
      subst (λ (rs : List (PlainRow T)). TurnStands decode get_epoch failed rs new cached op call next) (sym same) (turn (subst (λ (rs : List (PlainRow T)). Runs decode get_epoch rs op call) same r))

  -- a check, after its turn

  check_turn : (failed : List ℕ) (rows : List (PlainRow T)) (store : StoreState) (cached : Option CachedBoundary) (op : ℕ) (call : PlainCall T) (id : ℕ) (turn : CheckOp × Turned (Result (Unit {0}) ℕ)) → Runs decode get_epoch rows op call → call ≡ calls.Check id →
      CheckTells rows store cached id (WasAbove rows op id) turn → TurnStands decode get_epoch failed rows store cached op call (check_next turn)
  check_turn failed rows store cached op call id (check, turns.Goes) r is h = goes_on decode get_epoch failed rows store cached op call (Check check) r tt (id, is, h)
  check_turn failed rows store cached op call id (check, turns.Done (Ok accepted)) r is h =
      ended decode get_epoch failed rows store cached op call answers.Done r (subst (λ (c : PlainCall T). AnswerFits decode get_epoch failed rows op c answers.Done) (sym is) h) (no_id rows answers.Done (λ test. refl))
  check_turn failed rows store cached op call id (check, turns.Done (Err number)) r is (inl h) =
      ended decode get_epoch failed rows store cached op call (answers.Refused number) r (subst (λ (c : PlainCall T). AnswerFits decode get_epoch failed rows op c (answers.Refused number)) (sym is) (inl h)) (no_id rows (answers.Refused number) (λ test. refl))
  check_turn failed rows store cached op call id (check, turns.Done (Err number)) r is (inr lacks) = fails_with decode get_epoch failed rows store cached op call number r (inr lacks)

  -- a delete, after a turn of its check

  abbrev checking : CheckOp → DeleteUncheckedOp → DeleteOp
  checking check removal = record { step = deletes.Checks; check = check; removal = removal }

  abbrev removing : CheckOp → DeleteUncheckedOp → DeleteOp
  removing check removal = record { step = deletes.Removes; check = check; removal = removal }

  abbrev Removing : List (PlainRow T) → ℕ → ℕ → DeleteUncheckedOp → Type 0
  Removing rows op id removal = (removal.id ≡ id) × RemovalStands rows op id removal.step removal.request

  delete_refused : (failed : List ℕ) (rows : List (PlainRow T)) (store : StoreState) (cached : Option CachedBoundary) (op : ℕ) (call : PlainCall T) (id : ℕ) → Runs decode get_epoch rows op call → call ≡ calls.Delete id → WasAbove rows op id →
      TurnStands decode get_epoch failed rows store cached op call (ends_with decode get_epoch (answers.Refused 7))
  delete_refused failed rows store cached op call id r is above =
      ended decode get_epoch failed rows store cached op call (answers.Refused 7) r (subst (λ (c : PlainCall T). AnswerFits decode get_epoch failed rows op c (answers.Refused 7)) (sym is) (inl (refl, above))) (no_id rows (answers.Refused 7) (λ test. refl))

  delete_checks : (failed : List ℕ) (rows : List (PlainRow T)) (store : StoreState) (cached : Option CachedBoundary) (op : ℕ) (call : PlainCall T) (id : ℕ) (check : CheckOp) (removal : DeleteUncheckedOp) (turn : CheckOp × Turned (Result (Unit {0}) ℕ)) → Runs decode get_epoch rows op call → call ≡ calls.Delete id →
      removal ≡ removal_started world_names id → CheckTells rows store cached id (WasAbove rows op id) turn → TurnStands decode get_epoch failed rows store cached op call (delete_next (delete_checked (checking check removal) turn))
  delete_checks failed rows store cached op call id check removal (after, turns.Goes) r is starts h = goes_on decode get_epoch failed rows store cached op call (Delete (checking after removal)) r tt (id, is, (h, starts))
  delete_checks failed rows store cached op call id check removal (after, turns.Done (Ok accepted)) r is starts h = delete_refused failed rows store cached op call id r is h
  delete_checks failed rows store cached op call id check removal (after, turns.Done (Err number)) r is starts (inl h) =
      subst (λ (n : ℕ). TurnStands decode get_epoch failed rows store cached op call (delete_next (delete_checked (checking check removal) (after, turns.Done (Err n))))) (sym h.0)
      (goes_on decode get_epoch failed rows store cached op call (Delete (removing after removal)) r tt (id, is, subst (λ (m : DeleteUncheckedOp). Removing rows op id m) (sym starts) (refl, (refl, h.1))))
  delete_checks failed rows store cached op call id check removal (after, turns.Done (Err number)) r is starts (inr lacks) =
      subst (λ (n : ℕ). TurnStands decode get_epoch failed rows store cached op call (delete_next (delete_checked (checking check removal) (after, turns.Done (Err n))))) (sym lacks)
      (lacking decode get_epoch failed rows store cached op call r)

  -- a delete, after its removal

  is_gone : (failed : List ℕ) (rows : List (PlainRow T)) (old new : StoreState) (id : ℕ) → KnowStands decode get_epoch failed rows new → Removed (version_path world_names id) old new → is_stored rows id ≡ false
  is_gone failed rows old new id k gone =
      let path = version_path world_names id in
      let none : get new.files path ≡ None = ap (λ (files : Files). get files path) gone.files ∙ get-remove_same old.files path in
      ap is_some (sym (k.files.kept path) ∙ ap (option_map (λ (g : Got). g.bytes)) none)

  was_gone : (failed : List ℕ) (rows : List (PlainRow T)) (old new : StoreState) (op : ℕ) (call : PlainCall T) (id : ℕ) → KnowStands decode get_epoch failed rows new → Runs decode get_epoch rows op call → id ≤ boundary rows → Removed (version_path world_names id) old new → WasGone rows op id
  was_gone failed rows old new op call id k r below gone = at_now rows op (λ front. (id ≤ boundary front) × (is_stored front id ≡ false)) r.begun (below, is_gone failed rows old new id k gone)

  removed_turn : (failed : List ℕ) (rows : List (PlainRow T)) (old new : StoreState) (cached : Option CachedBoundary) (op : ℕ) (call : PlainCall T) (id : ℕ) (check : CheckOp) (removal : DeleteUncheckedOp) (answer : Result (Unit {0}) StoreError) → KnowStands decode get_epoch failed rows new →
      Runs decode get_epoch rows op call → call ≡ calls.Delete id → removal.id ≡ id → id ≤ boundary rows → Deletes (version_path world_names id) old answer new → new.failures ≡ 0 →
      TurnStands decode get_epoch failed rows new cached op call (delete_next (removes_turned (removing check removal) (removed removal answer)))
  removed_turn failed rows old new cached op call id check removal (Ok done) k r is same below d honest =
      let after : DeleteUncheckedOp = record { id = removal.id; step = removals.Drops; request = removal.request } in
      goes_on decode get_epoch failed rows new cached op call (Delete (removing check after)) r tt (id, is, (same, was_gone failed rows old new op call id k r below d.removed))
  removed_turn failed rows old new cached op call id check removal (Err errors.NoMemory) k r is same below d honest = lacking decode get_epoch failed rows new cached op call r
  removed_turn failed rows old new cached op call id check removal (Err errors.Failed) k r is same below d honest = ruled_out old new honest d.err.0
  removed_turn failed rows old new cached op call id check removal (Err errors.TokensExhausted) k r is same below d honest = absurd d.err
  removed_turn failed rows old new cached op call id check removal (Err errors.NotFound) k r is same below d honest = let none = d.err.0 in absurd (cc)
  removed_turn failed rows old new cached op call id check removal (Err errors.AlreadyExists) k r is same below d honest = let none = d.err.0 in absurd (cc)
  removed_turn failed rows old new cached op call id check removal (Err errors.Precondition) k r is same below d honest = let none = d.err.0 in absurd (cc)
  removed_turn failed rows old new cached op call id check removal (Err errors.NotModified) k r is same below d honest = let none = d.err.0 in absurd (cc)

  removal_served : (failed : List ℕ) (rows : List (PlainRow T)) (old new : StoreState) (cached : Option CachedBoundary) (op : ℕ) (call : PlainCall T) (id : ℕ) (check : CheckOp) (removal : DeleteUncheckedOp) (reply : Reply) → KnowStands decode get_epoch failed rows new →
      Runs decode get_epoch rows op call → call ≡ calls.Delete id → removal.id ≡ id → id ≤ boundary rows → Serves (remove_version id) old reply new → new.failures ≡ 0 →
      TurnStands decode get_epoch failed rows new cached op call (delete_next (removes_turned (removing check removal) (removal_replied removal (Some reply))))
  removal_served failed rows old new cached op call id check removal (replies.Delete answer) k r is same below s honest = removed_turn failed rows old new cached op call id check removal answer k r is same below s honest
  removal_served failed rows old new cached op call id check removal (replies.Put answer) k r is same below s honest = absurd s
  removal_served failed rows old new cached op call id check removal (replies.Get answer) k r is same below s honest = absurd s
  removal_served failed rows old new cached op call id check removal (replies.List answer) k r is same below s honest = absurd s

  -- an advance, after a turn of its raise

  advanced : (failed : List ℕ) (rows : List (PlainRow T)) (store : StoreState) (cached : Option CachedBoundary) (op : ℕ) (call : PlainCall T) (target : ℕ) → Runs decode get_epoch rows op call → call ≡ calls.Advance target → target ≤ boundary rows →
      TurnStands decode get_epoch failed rows store cached op call (ends_with decode get_epoch answers.Done)
  advanced failed rows store cached op call target r is up =
      ended decode get_epoch failed rows store cached op call answers.Done r (subst (λ (c : PlainCall T). AnswerFits decode get_epoch failed rows op c answers.Done) (sym is) up) (no_id rows answers.Done (λ test. refl))

  raise_turn : (failed : List ℕ) (rows : List (PlainRow T)) (store : StoreState) (cached : Option CachedBoundary) (op : ℕ) (call : PlainCall T) (target : ℕ) (turn : BoundaryAdvance × Turned (Result (Unit {0}) ℕ)) → Runs decode get_epoch rows op call → call ≡ calls.Advance target → Room rows target →
      RaiseTells rows store cached target turn → TurnStands decode get_epoch failed rows store cached op call (advance_next (raises_turned target turn))
  raise_turn failed rows store cached op call target (raise, turns.Goes) r is room h = goes_on decode get_epoch failed rows store cached op call (Advance (advances.Raises target raise)) r tt (is, room, h)
  raise_turn failed rows store cached op call target (raise, turns.Done (Ok done)) r is room h = goes_on decode get_epoch failed rows store cached op call (Advance (advances.Drops target)) r tt (is, h)
  raise_turn failed rows store cached op call target (raise, turns.Done (Err number)) r is room (inl h) =
      ended decode get_epoch failed rows store cached op call (answers.Refused number) r (subst (λ (c : PlainCall T). AnswerFits decode get_epoch failed rows op c (answers.Refused number)) (sym is) (inl h)) (no_id rows (answers.Refused number) (λ test. refl))
  raise_turn failed rows store cached op call target (raise, turns.Done (Err number)) r is room (inr lacks) = fails_with decode get_epoch failed rows store cached op call number r (inr lacks)

  -- what is left of an operation after a serve
  abbrev pub ServesTo : ℕ → Bool → List ℕ → List (PlainRow T) → StoreState → StoreState → Caches → ℕ → PlainCall T → PlainDoing T → Request → Reply → Type 0
  ServesTo page refused failed rows old new caches op call doing request reply = TurnStands decode get_epoch failed (rows_after rows op old request reply) new caches.boundary op call (turned page decode refused doing caches (Some reply))

  -- what is left of it and of its client's caches after a look
  abbrev pub LooksFrom : ℕ → Bool → List ℕ → List (PlainRow T) → StoreState → Caches → ℕ → PlainCall T → PlainDoing T → Type 0
  LooksFrom page refused failed rows store caches op call doing =
      let next = turned page decode refused doing caches None in
      LooksTo decode get_epoch failed rows store caches (plain_caches_after doing caches next.1) op call next

  -- a check

  pub check_op_asks : (rows : List (PlainRow T)) (store : StoreState) (cached : Option CachedBoundary) (op : ℕ) (call : PlainCall T) (state : CheckOp) (request : Request) → Runs decode get_epoch rows op call → DoingStands decode get_epoch rows store cached op call (Check state) →
      asked {T = T} (Check state) ≡ Some (Store request) → Asks decode get_epoch rows store op request
  check_op_asks rows store cached op call state request r h asks = inr (inr (inr (check_asks rows store cached h.0 (WasAbove rows op h.0) state request h.2 (asks_request (check_asked state) request asks))))

  pub check_op_serves : (refused : Bool) (failed : List ℕ) (rows : List (PlainRow T)) (old new : StoreState) (caches : Caches) (op : ℕ) (call : PlainCall T) (state : CheckOp) (request : Request) (reply : Reply) (page : ℕ) → KnowStands decode get_epoch failed rows old →
      KnowStands decode get_epoch failed (rows_after rows op old request reply) new → Frame rows old (rows_after rows op old request reply) new → Runs decode get_epoch (rows_after rows op old request reply) op call → DoingStands decode get_epoch rows old caches.boundary op call (Check state) →
      asked {T = T} (Check state) ≡ Some (Store request) → Serves request old reply new → new.failures ≡ 0 → ServesTo page refused failed rows old new caches op call (Check state) request reply
  check_op_serves refused failed rows old new caches op call state request reply page k k' frame r h asks s honest =
      let Q = WasAbove rows op h.0 in
      let asked' : check_asked state ≡ Some request = asks_request (check_asked state) request asks in
      let quiet = check_asks rows old caches.boundary h.0 Q state request h.2 asked' in
      let tells = check_serves decode get_epoch failed rows old new caches h.0 Q state request reply k h.2 asked' s honest in
      quiet_turn failed rows old new caches.boundary op call request reply (check_next (check_turned state caches (Some reply))) quiet r
      (λ (r' : Runs decode get_epoch rows op call). check_turn failed rows new caches.boundary op call h.0 (check_turned state caches (Some reply)) r' h.1 tells)

  pub check_op_looks : (refused : Bool) (failed : List ℕ) (rows : List (PlainRow T)) (store : StoreState) (caches : Caches) (op : ℕ) (call : PlainCall T) (state : CheckOp) (page : ℕ) → KnowStands decode get_epoch failed rows store → Runs decode get_epoch rows op call → CachesStand decode rows store caches →
      DoingStands decode get_epoch rows store caches.boundary op call (Check state) → asked {T = T} (Check state) ≡ Some Look → LooksFrom page refused failed rows store caches op call (Check state)
  check_op_looks refused failed rows store caches op call state page k r fits h asks =
      let looks = check_looks decode rows store caches h.0 (WasAbove rows op h.0) state fits h.2 (asks_look (check_asked state) asks) in
      record { fits = looks.fits; more = looks.more; turn = check_turn failed rows store (check_caches state caches).boundary op call h.0 (check_turned state caches None) r h.1 looks.told }

  -- a delete

  -- at a step of it
  abbrev delete_at : DeleteStep → CheckOp → DeleteUncheckedOp → DeleteOp
  delete_at step check removal = record { step = step; check = check; removal = removal }

  removal_asks : (rows : List (PlainRow T)) (store : StoreState) (op : ℕ) (call : PlainCall T) (id : ℕ) (step : RemovalStep) (removal : DeleteUncheckedOp) (request : Request) → Runs decode get_epoch rows op call → call ≡ calls.Delete id → RemovalStands rows op id step removal.request → removal_asked_at step removal ≡ Some request →
      Asks decode get_epoch rows store op request
  removal_asks rows store op call id removals.Removes removal request r is h asks =
      inr (inr (inl (record { id = id; called = subst (λ (c : PlainCall T). IsCall rows op c) is r.called; asks = sym (same_Some removal.request request asks) ∙ h.0; below = h.1 })))
  removal_asks rows store op call id removals.Drops removal request r is h asks = cc

  delete_asks_at : (rows : List (PlainRow T)) (store : StoreState) (cached : Option CachedBoundary) (op : ℕ) (call : PlainCall T) (id : ℕ) (step : DeleteStep) (check : CheckOp) (removal : DeleteUncheckedOp) (request : Request) → Runs decode get_epoch rows op call → call ≡ calls.Delete id →
      DeleteStepStands rows store cached op id step (delete_at step check removal) → delete_asked_at step (delete_at step check removal) ≡ Some request → Asks decode get_epoch rows store op request
  delete_asks_at rows store cached op call id deletes.Checks check removal request r is h asks = inr (inr (inr (check_asks rows store cached id (WasAbove rows op id) check request h.0 asks)))
  delete_asks_at rows store cached op call id deletes.Removes check removal request r is h asks = removal_asks rows store op call id removal.step removal request r is h.1 asks

  pub delete_op_asks : (rows : List (PlainRow T)) (store : StoreState) (cached : Option CachedBoundary) (op : ℕ) (call : PlainCall T) (state : DeleteOp) (request : Request) → Runs decode get_epoch rows op call → DoingStands decode get_epoch rows store cached op call (Delete state) →
      asked {T = T} (Delete state) ≡ Some (Store request) → Asks decode get_epoch rows store op request
  delete_op_asks rows store cached op call state request r h asks = delete_asks_at rows store cached op call h.0 state.step state.check state.removal request r h.1 h.2 (asks_request (delete_asked state) request asks)

  removal_serves : (failed : List ℕ) (rows : List (PlainRow T)) (old new : StoreState) (cached : Option CachedBoundary) (op : ℕ) (call : PlainCall T) (id : ℕ) (check : CheckOp) (step : RemovalStep) (removal : DeleteUncheckedOp) (request : Request) (reply : Reply) →
      KnowStands decode get_epoch failed (rows_after rows op old request reply) new → Frame rows old (rows_after rows op old request reply) new → Runs decode get_epoch (rows_after rows op old request reply) op call → call ≡ calls.Delete id → removal.id ≡ id → RemovalStands rows op id step removal.request →
      removal_asked_at step removal ≡ Some request → Serves request old reply new → new.failures ≡ 0 →
      TurnStands decode get_epoch failed (rows_after rows op old request reply) new cached op call (delete_next (removes_turned (removing check removal) (removal_turned_at step removal (Some reply))))
  removal_serves failed rows old new cached op call id check removals.Removes removal request reply k frame r is same h asks s honest =
      let request_is : request ≡ remove_version id = sym (same_Some removal.request request asks) ∙ h.0 in
      let up = frame.up in
      removal_served failed (rows_after rows op old request reply) old new cached op call id check removal reply k r is same (omega (arith, up, h.1)) (subst (λ (q : Request). Serves q old reply new) request_is s) honest
  removal_serves failed rows old new cached op call id check removals.Drops removal request reply k frame r is same h asks s honest = cc

  delete_serves_at : (failed : List ℕ) (rows : List (PlainRow T)) (old new : StoreState) (caches : Caches) (op : ℕ) (call : PlainCall T) (id : ℕ) (step : DeleteStep) (check : CheckOp) (removal : DeleteUncheckedOp) (request : Request) (reply : Reply) → KnowStands decode get_epoch failed rows old →
      KnowStands decode get_epoch failed (rows_after rows op old request reply) new → Frame rows old (rows_after rows op old request reply) new → Runs decode get_epoch (rows_after rows op old request reply) op call → call ≡ calls.Delete id →
      DeleteStepStands rows old caches.boundary op id step (delete_at step check removal) → delete_asked_at step (delete_at step check removal) ≡ Some request → Serves request old reply new → new.failures ≡ 0 →
      TurnStands decode get_epoch failed (rows_after rows op old request reply) new caches.boundary op call (delete_next (delete_turned_at step (delete_at step check removal) caches (Some reply)))
  delete_serves_at failed rows old new caches op call id deletes.Checks check removal request reply k k' frame r is h asks s honest =
      let Q = WasAbove rows op id in
      let turn = check_turned check caches (Some reply) in
      let quiet = check_asks rows old caches.boundary id Q check request h.0 asks in
      let tells = check_serves decode get_epoch failed rows old new caches id Q check request reply k h.0 asks s honest in
      quiet_turn failed rows old new caches.boundary op call request reply (delete_next (delete_checked (checking check removal) turn)) quiet r
      (λ (r' : Runs decode get_epoch rows op call). delete_checks failed rows new caches.boundary op call id check removal turn r' is h.1 tells)
  delete_serves_at failed rows old new caches op call id deletes.Removes check removal request reply k k' frame r is h asks s honest =
      removal_serves failed rows old new caches.boundary op call id check removal.step removal request reply k' frame r is h.0 h.1 asks s honest

  pub delete_op_serves : (refused : Bool) (failed : List ℕ) (rows : List (PlainRow T)) (old new : StoreState) (caches : Caches) (op : ℕ) (call : PlainCall T) (state : DeleteOp) (request : Request) (reply : Reply) (page : ℕ) → KnowStands decode get_epoch failed rows old →
      KnowStands decode get_epoch failed (rows_after rows op old request reply) new → Frame rows old (rows_after rows op old request reply) new → Runs decode get_epoch (rows_after rows op old request reply) op call → DoingStands decode get_epoch rows old caches.boundary op call (Delete state) →
      asked {T = T} (Delete state) ≡ Some (Store request) → Serves request old reply new → new.failures ≡ 0 → ServesTo page refused failed rows old new caches op call (Delete state) request reply
  delete_op_serves refused failed rows old new caches op call state request reply page k k' frame r h asks s honest =
      delete_serves_at failed rows old new caches op call h.0 state.step state.check state.removal request reply k k' frame r h.1 h.2 (asks_request (delete_asked state) request asks) s honest

  -- a look of a delete leaves this
  abbrev DeleteLooks : List ℕ → List (PlainRow T) → StoreState → Caches → ℕ → PlainCall T → DeleteStep → DeleteOp → Type 0
  DeleteLooks failed rows store caches op call step delete = LooksTo decode get_epoch failed rows store caches (delete_caches_at step delete caches) op call (delete_next (delete_turned_at step delete caches None))

  removal_looks : (failed : List ℕ) (rows : List (PlainRow T)) (store : StoreState) (caches : Caches) (op : ℕ) (call : PlainCall T) (id : ℕ) (check : CheckOp) (step : RemovalStep) (removal : DeleteUncheckedOp) → Runs decode get_epoch rows op call → CachesStand decode rows store caches →
      call ≡ calls.Delete id → RemovalStands rows op id step removal.request → removal_asked_at step removal ≡ None →
      LooksTo decode get_epoch failed rows store caches (record { latest = removal_latest_at step removal.id caches.latest; boundary = caches.boundary }) op call (delete_next (removes_turned (removing check removal) (removal_turned_at step removal None)))
  removal_looks failed rows store caches op call id check removals.Removes removal r fits is h asks = cc
  removal_looks failed rows store caches op call id check removals.Drops removal r fits is h asks =
      record {
        fits = record { latest = without_fits decode rows removal.id caches.latest fits.latest; boundary = fits.boundary };
        more = stays caches.boundary;
        turn = ended decode get_epoch failed rows store caches.boundary op call answers.Done r (subst (λ (c : PlainCall T). AnswerFits decode get_epoch failed rows op c answers.Done) (sym is) h) (no_id rows answers.Done (λ test. refl));
      }

  delete_looks_at : (failed : List ℕ) (rows : List (PlainRow T)) (store : StoreState) (caches : Caches) (op : ℕ) (call : PlainCall T) (id : ℕ) (step : DeleteStep) (check : CheckOp) (removal : DeleteUncheckedOp) → Runs decode get_epoch rows op call → CachesStand decode rows store caches → call ≡ calls.Delete id →
      DeleteStepStands rows store caches.boundary op id step (delete_at step check removal) → delete_asked_at step (delete_at step check removal) ≡ None → DeleteLooks failed rows store caches op call step (delete_at step check removal)
  delete_looks_at failed rows store caches op call id deletes.Checks check removal r fits is h asks =
      let looks = check_looks decode rows store caches id (WasAbove rows op id) check fits h.0 asks in
      record { fits = looks.fits; more = looks.more; turn = delete_checks failed rows store (check_caches check caches).boundary op call id check removal (check_turned check caches None) r is h.1 looks.told }
  delete_looks_at failed rows store caches op call id deletes.Removes check removal r fits is h asks = removal_looks failed rows store caches op call id check removal.step removal r fits is h.1 asks

  pub delete_op_looks : (refused : Bool) (failed : List ℕ) (rows : List (PlainRow T)) (store : StoreState) (caches : Caches) (op : ℕ) (call : PlainCall T) (state : DeleteOp) (page : ℕ) → KnowStands decode get_epoch failed rows store → Runs decode get_epoch rows op call → CachesStand decode rows store caches →
      DoingStands decode get_epoch rows store caches.boundary op call (Delete state) → asked {T = T} (Delete state) ≡ Some Look → LooksFrom page refused failed rows store caches op call (Delete state)
  delete_op_looks refused failed rows store caches op call state page k r fits h asks = delete_looks_at failed rows store caches op call h.0 state.step state.check state.removal r fits h.1 h.2 (asks_look (delete_asked state) asks)

  -- an advance

  raise_asks : (rows : List (PlainRow T)) (store : StoreState) (cached : Option CachedBoundary) (op : ℕ) (call : PlainCall T) (target : ℕ) (raise : BoundaryAdvance) (request : Request) → Runs decode get_epoch rows op call → call ≡ calls.Advance target → Room rows target → RaiseStands rows store cached target raise →
      boundary_advance_asked raise ≡ Some request → Asks decode get_epoch rows store op request
  raise_asks rows store cached op call target (raising.Looks t) request r is room h asks = cc
  raise_asks rows store cached op call target (raising.Reads t again read) request r is room h asks = inr (inr (inr (getting_quiet rows store cached 0 ⊥ request (reading_asks rows store cached 0 ⊥ read request h.1 asks))))
  raise_asks rows store cached op call target (raising.Puts t put) request r is room h asks =
      inr (inl (record { to = target; called = subst (λ (c : PlainCall T). IsCall rows op c) is r.called; room = room; put = subst (λ (q : Request). PutStands rows store target q) (same_Some put request asks) h.1 }))
  raise_asks rows store cached op call target (raising.Keeps t token) request r is room h asks = cc

  pub advance_op_asks : (rows : List (PlainRow T)) (store : StoreState) (cached : Option CachedBoundary) (op : ℕ) (call : PlainCall T) (state : AdvanceOp) (request : Request) → Runs decode get_epoch rows op call → DoingStands decode get_epoch rows store cached op call (Advance state) →
      asked {T = T} (Advance state) ≡ Some (Store request) → Asks decode get_epoch rows store op request
  advance_op_asks rows store cached op call (advances.Raises target raise) request r h asks = raise_asks rows store cached op call target raise request r h.0 h.1 h.2 (asks_request (boundary_advance_asked raise) request asks)
  advance_op_asks rows store cached op call (advances.Drops target) request r h asks = cc

  pub advance_op_serves : (refused : Bool) (failed : List ℕ) (rows : List (PlainRow T)) (old new : StoreState) (caches : Caches) (op : ℕ) (call : PlainCall T) (state : AdvanceOp) (request : Request) (reply : Reply) (page : ℕ) → KnowStands decode get_epoch failed rows old →
      KnowStands decode get_epoch failed (rows_after rows op old request reply) new → Frame rows old (rows_after rows op old request reply) new → Runs decode get_epoch (rows_after rows op old request reply) op call → DoingStands decode get_epoch rows old caches.boundary op call (Advance state) →
      asked {T = T} (Advance state) ≡ Some (Store request) → Serves request old reply new → new.failures ≡ 0 → ServesTo page refused failed rows old new caches op call (Advance state) request reply
  advance_op_serves refused failed rows old new caches op call (advances.Raises target raise) request reply page k k' frame r h asks s honest =
      let rows' = rows_after rows op old request reply in
      let turn = boundary_advance_turned world_boundary raise caches.boundary (Some reply) in
      let tells = raise_serves decode get_epoch failed rows old new caches.boundary op target raise request reply k k' h.1 h.2 (asks_request (boundary_advance_asked raise) request asks) s honest in
      may_lack decode get_epoch refused failed rows' new caches.boundary op call (advance_next (raises_turned target turn)) r
      (raise_turn failed rows' new caches.boundary op call target turn r h.0 (room_later rows op target (effect_of old.files request reply) h.1) tells)
  advance_op_serves refused failed rows old new caches op call (advances.Drops target) request reply page k k' frame r h asks s honest = cc

  pub advance_op_looks : (refused : Bool) (failed : List ℕ) (rows : List (PlainRow T)) (store : StoreState) (caches : Caches) (op : ℕ) (call : PlainCall T) (state : AdvanceOp) (page : ℕ) → KnowStands decode get_epoch failed rows store → Runs decode get_epoch rows op call → CachesStand decode rows store caches →
      DoingStands decode get_epoch rows store caches.boundary op call (Advance state) → asked {T = T} (Advance state) ≡ Some Look → LooksFrom page refused failed rows store caches op call (Advance state)
  advance_op_looks refused failed rows store caches op call (advances.Raises target raise) page k r fits h asks =
      let looks = raise_looks rows store caches.boundary target raise fits.boundary h.2 (asks_look (boundary_advance_asked raise) asks) in
      let after = boundary_advance_cached raise caches.boundary in
      let turn = boundary_advance_turned world_boundary raise caches.boundary None in
      record {
        fits = record { latest = fits.latest; boundary = looks.fits };
        more = looks.more;
        turn = may_lack decode get_epoch refused failed rows store after op call (advance_next (raises_turned target turn)) r (raise_turn failed rows store after op call target turn r h.0 h.1 looks.told);
      }
  advance_op_looks refused failed rows store caches op call (advances.Drops target) page k r fits h asks =
      record {
        fits = record { latest = above_fits decode rows target caches.latest fits.latest; boundary = fits.boundary };
        more = stays caches.boundary;
        turn = may_lack decode get_epoch refused failed rows store caches.boundary op call (ends_with decode get_epoch answers.Done) r (advanced failed rows store caches.boundary op call target r h.0 h.1);
      }
