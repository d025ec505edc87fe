-- A boundary that stands goes on standing: no request removes its file.
use Rattle.std.proofs.Common.{◌≡◌, ℕ, List, true, Option, Result, Ok, Err, is_some, inl, inr, sym, ◌∙◌, ap, subst}
use Rattle.std.specs.FinMap.{get}
use Rattle.std.specs.Fmt.{decimal}
use Rattle.std.proofs.lemmas.Bool.{both_ways}
use Rattle.txn_store.specs.Paths.{is_below}
use Rattle.txn_store.specs.VersionName.{version_path}
use Rattle.txn_store.specs.Store.{Files, State as StoreState, Puts, Deletes}
use Rattle.txn_store.specs.Requests.{Serves}
use Rattle.txn_store.specs.declared.store.PutMode.{PutMode}
use Rattle.txn_store.specs.declared.store.PutMode.TheVariants.{Create}
use Rattle.txn_store.specs.declared.store.StoreError.{StoreError}
use Rattle.txn_store.specs.declared.request.Request.{Request}
use Rattle.txn_store.specs.declared.request.Reply.{Reply}
use Rattle.txn_store.specs.declared.request.Reply.TheVariants as replies
use Rattle.txn_store.proofs.FileLemmas.{get-insert_same, get-insert_other, get-remove_other}
use Rattle.txn_store.proofs.VersionOfLemmas.{version_below}
use Rattle.txn_steps.specs.boundary.BoundaryAdvances.{raise_mode}
use Rattle.txn_history.specs.declared.event.EventOf.TheVariants as events
use Rattle.txn_history.specs.declared.event.Failure.{Failure}
use Rattle.txn_history.specs.declared.event.Failure.TheVariants as failures
use Rattle.txn_history.specs.Names.{world_names, world_boundary}
use Rattle.txn_history.specs.Seen.{Store}
use Rattle.txn_history.specs.Trace.{PlainRow, Event, Told}
use Rattle.txn_machine.specs.plain.Machine as machine
use Rattle.txn_machine.proofs.plain.Effects.{boundary_outside}
use Rattle.txn_machine.proofs.plain.Events.{acts_run}
use Rattle.txn_machine.proofs.plain.Faults.{put_kept, delete_kept}
use Rattle.txn_machine.proofs.plain.Operations.{asks_of}
use Rattle.txn_machine.proofs.plain.Stands.{create, raise, remove_version, Asks}
use Rattle.txn_machine.specs.Machine.{State, seen_operation, Fails, TakesOrLacks, IsReached}
use Rattle.txn_machine.proofs.Joined.{as_fine}
use Rattle.txn_machine.proofs.Joining.{nothing, reached_joins}
use Rattle.txn_machine.proofs.Serving.{asking}
use Rattle.txn_world.proofs.finishing.Quiet.{quiet_files}

-- it is no version's file
apart : (id : ℕ) → world_boundary ≡ version_path world_names id → ⊥
apart id e = both_ways (is_below world_names.dir world_boundary) boundary_outside (ap (is_below world_names.dir) e ∙ version_below world_names id)

-- some advance has put its file
abbrev pub Stands : StoreState → Type 0
Stands store = is_some (get store.files world_boundary) ≡ true

abbrev pub IsRaised : {T : Type 0} → State T → Type 0
IsRaised s = Stands s.store

stands_by : (old new : StoreState) → get new.files world_boundary ≡ get old.files world_boundary → Stands old → Stands new
stands_by old new e h = ap is_some e ∙ h

created_stands : (id : ℕ) (bytes : List ℕ) (old new : StoreState) (answer : Result ℕ StoreError) → Puts (version_path world_names id) bytes Create old answer new → new.failures ≡ 0 → Stands old → Stands new
created_stands id bytes old new (Ok token) p honest h = stands_by old new (ap (λ (files : Files). get files world_boundary) p.placed.files ∙ get-insert_other old.files (version_path world_names id) world_boundary (record { bytes = bytes; token = token }) (apart id)) h
created_stands id bytes old new (Err error) p honest h = stands_by old new (ap (λ (files : Files). get files world_boundary) (put_kept (version_path world_names id) bytes Create old new error p honest).files) h

raised_stands : (bytes : List ℕ) (mode : PutMode) (old new : StoreState) (answer : Result ℕ StoreError) → Puts world_boundary bytes mode old answer new → new.failures ≡ 0 → Stands old → Stands new
raised_stands bytes mode old new (Ok token) p honest h = ap is_some (ap (λ (files : Files). get files world_boundary) p.placed.files ∙ get-insert_same old.files world_boundary (record { bytes = bytes; token = token }))
raised_stands bytes mode old new (Err error) p honest h = stands_by old new (ap (λ (files : Files). get files world_boundary) (put_kept world_boundary bytes mode old new error p honest).files) h

removed_stands : (id : ℕ) (old new : StoreState) (answer : Result (Unit {0}) StoreError) → Deletes (version_path world_names id) old answer new → new.failures ≡ 0 → Stands old → Stands new
removed_stands id old new (Ok done) d honest h = stands_by old new (ap (λ (files : Files). get files world_boundary) d.removed.files ∙ get-remove_other old.files (version_path world_names id) world_boundary (apart id)) h
removed_stands id old new (Err error) d honest h = stands_by old new (ap (λ (files : Files). get files world_boundary) (delete_kept (version_path world_names id) old new error d honest).files) h

create_serves : (id : ℕ) (bytes : List ℕ) (old new : StoreState) (reply : Reply) → Serves (create id bytes) old reply new → new.failures ≡ 0 → Stands old → Stands new
create_serves id bytes old new (replies.Put answer) s honest h = created_stands id bytes old new answer s honest h
create_serves id bytes old new (replies.Get answer) s honest h = absurd s
create_serves id bytes old new (replies.List answer) s honest h = absurd s
create_serves id bytes old new (replies.Delete answer) s honest h = absurd s

raise_serves : (to : ℕ) (token : Option ℕ) (old new : StoreState) (reply : Reply) → Serves (raise to token) old reply new → new.failures ≡ 0 → Stands old → Stands new
raise_serves to token old new (replies.Put answer) s honest h = raised_stands (decimal to) (raise_mode token) old new answer s honest h
raise_serves to token old new (replies.Get answer) s honest h = absurd s
raise_serves to token old new (replies.List answer) s honest h = absurd s
raise_serves to token old new (replies.Delete answer) s honest h = absurd s

remove_serves : (id : ℕ) (old new : StoreState) (reply : Reply) → Serves (remove_version id) old reply new → new.failures ≡ 0 → Stands old → Stands new
remove_serves id old new (replies.Delete answer) s honest h = removed_stands id old new answer s honest h
remove_serves id old new (replies.Get answer) s honest h = absurd s
remove_serves id old new (replies.List answer) s honest h = absurd s
remove_serves id old new (replies.Put answer) s honest h = absurd s

module _ {T : Type 0} (decode : List ℕ → Option T) (get_epoch : T → ℕ) where
  asks_stand : (rows : List (PlainRow T)) (old new : StoreState) (op : ℕ) (request : Request) (reply : Reply) → Asks decode get_epoch rows old op request → Serves request old reply new → new.failures ≡ 0 → Stands old → Stands new
  asks_stand rows old new op request reply asks s honest h =
      elim asks [
        | inl a ↦ create_serves a.version.id a.version.bytes old new reply (subst (λ (r : Request). Serves r old reply new) a.asks s) honest h
        | inr (inl a) ↦ raise_serves a.to a.put.token old new reply (subst (λ (r : Request). Serves r old reply new) a.put.asks s) honest h
        | inr (inr (inl a)) ↦ remove_serves a.id old new reply (subst (λ (r : Request). Serves r old reply new) a.asks s) honest h
        | inr (inr (inr quiet)) ↦ stands_by old new (ap (λ (files : Files). get files world_boundary) (quiet_files request reply old new quiet s honest)) h
      ]

module _ {T : Type 0} (encode : T → List ℕ) (decode : List ℕ → Option T) (get_epoch : T → ℕ) (set_epoch : T → ℕ → T) where
  -- a request of an operation, and a loose one

  call_stands : (old : State T) (op : ℕ) → IsReached encode decode get_epoch set_epoch old → (c : machine.CallReaches seen_operation old op) → Stands old.store → Stands c.store
  call_stands old op r c h =
      let j = reached_joins encode decode get_epoch set_epoch old r in
      let a = asking encode decode get_epoch set_epoch nothing old j op c.operation (Store c.request) c.caches c.acts in
      let fine = as_fine c.operation.client a.held.doing in
      let run = acts_run decode get_epoch j.fine (j.now op) fine (Store c.request) c.caches a.acts j.stands in
      let asks = asks_of decode get_epoch j.fine.trace j.fine.store c.caches.boundary (j.now op) run.0 c.request run.1.runs a.held.doing run.1.stands a.acts.asks in
      asks_stand decode get_epoch j.fine.trace old.store c.store (j.now op) c.request c.reply (subst (λ (st : StoreState). Asks decode get_epoch j.fine.trace st (j.now op) c.request) j.tie.store asks) c.reaches.serves c.reaches.honest h

  loose_stands : (old : State T) (k : ℕ) → IsReached encode decode get_epoch set_epoch old → (l : machine.LooseReaches old k) → Stands old.store → Stands l.store
  loose_stands old k r l h =
      let j = reached_joins encode decode get_epoch set_epoch old r in
      let at = j.rest.loose k l.op l.request l.found in
      let asks = (j.stands.loose at.place at.n l.request at.there).asks in
      asks_stand decode get_epoch j.fine.trace old.store l.store at.n l.request l.reply (subst (λ (st : StoreState). Asks decode get_epoch j.fine.trace st at.n l.request) j.tie.store asks) l.reaches.serves l.reaches.honest h

  fails_stand : (failure : Failure) (old : State T) (op : ℕ) (said : Told T) (new : State T) → IsReached encode decode get_epoch set_epoch old → Fails old op failure said new → IsRaised old → IsRaised new
  fails_stand failures.Before old op said new r v h = subst (λ (s : State T). IsRaised s) (sym v.state) h
  fails_stand failures.After old op said new r v h = subst (λ (s : State T). IsRaised s) (sym v.state) (call_stands old op r v.call h)
  fails_stand failures.Loose old op said new r v h = subst (λ (s : State T). IsRaised s) (sym v.state) h

  pub raised_stays : (old : State T) (event : Event T) (said : Told T) (new : State T) → IsReached encode decode get_epoch set_epoch old → TakesOrLacks encode decode get_epoch set_epoch old event said new → IsRaised old → IsRaised new
  raised_stays old (events.Begin client call) said new r t h = subst (λ (s : State T). IsRaised s) (sym t.step.state) h
  raised_stays old (events.Look op) said new r t h = subst (λ (s : State T). IsRaised s) (sym t.step.state) h
  raised_stays old (events.Serve op) said new r t h = elim t.step [
    | inl v ↦ subst (λ (s : State T). IsRaised s) (sym v.state) (call_stands old op r v.call h)
    | inr v ↦ subst (λ (s : State T). IsRaised s) (sym v.state) h
  ]
  raised_stays old (events.Fail op failure) said new r t h = fails_stand failure old op said new r t.step h
  raised_stays old (events.GiveUp op) said new r t h = subst (λ (s : State T). IsRaised s) (sym t.step.state) h
  raised_stays old (events.Land k) said new r t h = subst (λ (s : State T). IsRaised s) (sym t.step.state) (loose_stands old k r t.step.loose h)
  raised_stays old (events.Crash client) said new r t h = subst (λ (s : State T). IsRaised s) (sym t.step.state) h
