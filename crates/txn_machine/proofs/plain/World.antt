-- Every state that events lead to stands.
use Rattle.std.proofs.Common.{◌≡◌, ◌≢◌, ℕ, zero, suc, ◌+◌, ◌<◌, ◌≤◌, List, [], ◌∷◌, ◌++◌, length, replicate, is_some, cond, Bool, true, false, Option, Some, None, inl, inr, refl, sym, ◌∙◌, ap, subst, arith}
use Rattle.std.specs.Option.{option_map}
use Rattle.std.specs.FinMap.{empty, get, get-empty}
use Rattle.std.proofs.lemmas.List.{length-append, length-replicate, append-nil}
use Rattle.std.proofs.lemmas.Bool.{both_ways, ltb-true}
use Rattle.txn_store.specs.Paths.{Segments, path_cmp}
use Rattle.txn_store.specs.VersionName.{version_path}
use Rattle.txn_store.specs.declared.store.Got.{Got}
use Rattle.txn_steps.specs.declared.boundary.caches.Caches.{Caches}
use Rattle.txn_history.specs.declared.event.PlainCall.{PlainCall}
use Rattle.txn_history.specs.declared.event.PlainAnswer.{PlainAnswer}
use Rattle.txn_history.specs.Trace.{PlainTold, PlainEvent, PlainRow}
use Rattle.txn_history.specs.declared.event.EventOf.TheVariants as events
use Rattle.txn_history.specs.declared.event.EventFault.{EventFault}
use Rattle.txn_history.specs.declared.event.EventFault.TheVariants as faults
use Rattle.txn_history.specs.declared.trace.RowOf.TheVariants.{Begun, Answered}
use Rattle.txn_history.specs.Lists.{numbered}
use Rattle.txn_history.specs.Names.{world_names, world_boundary}
use Rattle.txn_history.specs.History.{boundary_said, boundary}
use Rattle.txn_history.specs.Calls.{begun_count, plain_base_of}
use Rattle.txn_machine.specs.plain.PlainHistory.{is_known_base, has_low_boundary, keeps_epoch, PlainOpens}
use Rattle.txn_history.specs.Allowed.{is_client, first_fault}
use Rattle.txn_machine.specs.plain.PlainAllowed.{fault_of}
use Rattle.txn_history.proofs.Lists.{numbered_more}
use Rattle.txn_machine.proofs.plain.PlainBegins.{opens_next}
use Rattle.txn_machine.specs.declared.plain.doing.PlainDoing.{PlainDoing}
use Rattle.txn_machine.specs.declared.plain.doing.PlainOperation.{PlainOperation}
use Rattle.txn_machine.specs.plain.Doing.{Next}
use Rattle.txn_machine.specs.plain.Machine.{State, no_caches, opening, next_op, begun_as, seen_of, PlainBegins, Takes, Runs, IsReached}
use Rattle.txn_machine.proofs.plain.Lists.{within, numbered_there}
use Rattle.txn_history.proofs.More.{begun_count-more, begun_count-begun}
use Rattle.txn_machine.proofs.plain.Stands.{AreOthers, Frame, CachesStand, OpStands, TurnStands, AtClient, StandsBut, Stands}
use Rattle.txn_machine.proofs.plain.Effects.{begun_know, begun_frame, answered_know, answered_frame}
use Rattle.txn_machine.proofs.plain.Frames.{begun_more, caches_more, asks_more, op_more, fresh_more, zero_more}
use Rattle.txn_machine.proofs.plain.States.{framed_by, close, framed_but, running}
use Rattle.txn_machine.proofs.plain.Begins.{start_turn}
use Rattle.txn_machine.proofs.plain.Events.{look_keeps, serve_keeps, fail_keeps, give_up_keeps, land_keeps}
use Rattle.txn_machine.proofs.plain.Crashes.{crash_keeps}

-- clients are numbered from 1
pub client_within : (clients client : ℕ) → is_client clients client ≡ true → (0 < client) × (client ≤ clients)
client_within clients zero e = cc
client_within clients (suc n) e = (omega arith, (let lt = ltb-true n clients e in omega (arith, lt)))

pub first_true : (b : Bool) (fault : EventFault) (rest : List (Bool × EventFault)) → first_fault ((b, fault) ∷ rest) ≡ None → b ≡ true
first_true true fault rest e = refl
first_true false fault rest e = cc

-- a test that passed
pub tested : (b : Bool) (fault : EventFault) → cond b None (Some fault) ≡ None → b ≡ true
tested true fault e = refl
tested false fault e = cc

module _ {T : Type 0} (encode : T → List ℕ) (decode : List ℕ → Option T) (get_epoch : T → ℕ) where
  -- begins

  begun_others : (op n : ℕ) (call : PlainCall T) → n ≢ op → AreOthers n (Begun op call ∷ [])
  begun_others op n call ne = ((λ e. ne (sym e)), tt)

  answer_others : (op n : ℕ) (answer : PlainAnswer T) → n ≢ op → AreOthers n (Answered op answer ∷ [])
  answer_others op n answer ne = ((λ e. ne (sym e)), tt)

  module _ (s : State T) (client : ℕ) (call : PlainCall T) (st : Stands decode get_epoch s) (opens : PlainOpens decode get_epoch s.trace (next_op s) call) (caches : Caches) (there : numbered s.caches client ≡ Some caches) where
    abbrev rows : List (PlainRow T)
    rows = s.trace ++ Begun (next_op s) call ∷ []

    abbrev frame : Frame s.trace s.store rows s.store
    frame = framed_by (Begun (next_op s) call ∷ []) (begun_frame s.trace s.store (next_op s) call)

    -- with the new operation, which is open
    begun_but : (doing : PlainDoing T) → StandsBut decode get_epoch (record s { operations = s.operations ++ record { client = client; doing = doing } ∷ []; trace = rows }) (next_op s)
    begun_but doing =
        let o : PlainOperation T = record { client = client; doing = doing } in
        let more : length (s.operations ++ o ∷ []) ≡ length s.operations + 1 = length-append s.operations (o ∷ []) in
        record {
          paged = st.paged;
          know = begun_know decode get_epoch s.failed s.trace s.store (next_op s) call st.know opens;
          wide = st.wide;
          caches = λ c held e. caches_more decode get_epoch s.trace s.store rows s.store frame held (st.caches c held e);
          count = more ∙ (ap (λ n. n + 1) st.count ∙ sym (begun_count-begun s.trace (next_op s) call));
          zero = zero_more decode get_epoch s.trace s.store rows s.store frame 0 (begun_others (next_op s) 0 call (λ e. omega (arith, e))) st.zero;
          fresh = λ n h. fresh_more decode get_epoch s.trace s.store rows s.store frame n (begun_others (next_op s) n call (λ e. omega (arith, h, more, e))) (st.fresh n (omega (arith, h, more)));
          loose = λ k n request e. (let l = st.loose k n request e in
              record {
                asks = asks_more decode get_epoch s.trace s.store rows s.store frame n request l.asks;
                begun = begun_more decode get_epoch s.trace s.store rows s.store frame n l.begun;
                ended = λ o' e'. elim (numbered_more s.operations o n o' e') [
                  | inl old ↦ l.ended o' old
                  | inr new ↦ absurd (both_ways _ (st.fresh n (omega (arith, new.0))).begun l.begun)
                ];
              });
          each = λ n o' ne e. elim (numbered_more s.operations o n o' e) [
            | inl old ↦ (let a = st.each n o' (λ z. omega (arith, z, (within s.operations n o' old).0)) old in (a.0, a.1, op_more decode get_epoch s.trace s.store rows s.store frame n (begun_others (next_op s) n call ne) a.0.boundary o'.doing a.2))
            | inr new ↦ absurd (ne new.0)
          ];
        }

    -- its place
    at_end : (o o' : PlainOperation T) → numbered (s.operations ++ o ∷ []) (next_op s) ≡ Some o' → o ≡ o'
    at_end o o' e = elim (numbered_more s.operations o (next_op s) o' e) [ inl old ↦ absurd (let h = within s.operations (next_op s) o' old in omega (arith, h.1)) | inr new ↦ new.1 ]

    -- it goes on, or is answered at once
    begun_stands : (doing : PlainDoing T) (answer : Option (PlainAnswer T)) → TurnStands decode get_epoch s.failed rows s.store caches.boundary (next_op s) call (doing, answer) →
        Stands decode get_epoch (begun_as s client call (doing, answer))
    begun_stands doing None turn =
        let o : PlainOperation T = record { client = client; doing = doing } in
        let s' : State T = record s { operations = s.operations ++ o ∷ []; trace = rows } in
        subst (λ (t : List (PlainRow T)). Stands decode get_epoch (record s { operations = s.operations ++ o ∷ []; trace = t })) (sym (append-nil rows))
        (close decode get_epoch s' (next_op s) (begun_but doing)
        (λ o' e. subst (λ (x : PlainOperation T). AtClient decode get_epoch s' (next_op s) x) (at_end o o' e) (caches, there, running decode get_epoch rows s.store caches.boundary (next_op s) call doing turn)))
    begun_stands doing (Some answer) turn =
        let op = next_op s in
        let o : PlainOperation T = record { client = client; doing = doing } in
        let s' : State T = record s { operations = s.operations ++ o ∷ []; trace = rows } in
        let row : PlainRow T = Answered op answer in
        let r = turn.runs in
        let k = answered_know decode get_epoch s.failed rows s.store op answer (begun_know decode get_epoch s.failed s.trace s.store op call st.know opens) (record { call = call; called = r.called; once = r.running; fits = turn.fits }) turn.tells in
        let f = framed_by (row ∷ []) (answered_frame rows s.store op answer) in
        let most : op ≤ length (s.operations ++ o ∷ []) = omega (arith, length-append s.operations (o ∷ [])) in
        let open' = framed_but decode get_epoch s' op s.failed (rows ++ row ∷ []) s.store f (λ n ne. answer_others op n answer ne) (begun_count-more rows row refl) (omega arith) most k (begun_but doing) in
        let begun = begun_more decode get_epoch rows s.store (rows ++ row ∷ []) s.store f op r.begun in
        close decode get_epoch (record s' { trace = rows ++ row ∷ [] }) op open'
        (λ o' e. subst (λ (x : PlainOperation T). AtClient decode get_epoch (record s' { trace = rows ++ row ∷ [] }) op x) (at_end o o' e)
        (caches, there, subst (λ (d : PlainDoing T). OpStands decode get_epoch (rows ++ row ∷ []) s.store caches.boundary op d) (sym turn.is_end) begun))

  -- a call of a client of the world opens the next operation
  pub opened_keeps : (old : State T) (client : ℕ) (call : PlainCall T) (said : PlainTold T) (new : State T) → 0 < client → client ≤ old.clients → PlainOpens decode get_epoch old.trace (next_op old) call → PlainBegins encode decode old client call said new → Stands decode get_epoch old → Stands decode get_epoch new
  opened_keeps old client call said new some most opens v st =
      let caches = numbered_there old.caches client some (let wide = st.wide in omega (arith, most, wide)) in
      let turn' = start_turn encode decode get_epoch old.failed old.trace old.store (next_op old) st.know (st.fresh (next_op old) (omega arith)) caches.0.boundary old.page st.paged call opens v.reads_back v.word in
      let turn = subst (λ (n : Next T). TurnStands decode get_epoch old.failed (old.trace ++ Begun (next_op old) call ∷ []) old.store caches.0.boundary (next_op old) call n) (sym v.starts) turn' in
      subst (λ (s : State T). Stands decode get_epoch s) (sym v.state) (begun_stands old client call st opens caches.0 caches.1 v.next.0 v.next.1 turn)

  begin_keeps : (old : State T) (client : ℕ) (call : PlainCall T) (said : PlainTold T) (new : State T) → fault_of decode get_epoch (seen_of old) old.trace (events.Begin client call) ≡ None → PlainBegins encode decode old client call said new → Stands decode get_epoch old → Stands decode get_epoch new
  begin_keeps old client call said new allowed v st =
      let is = client_within old.clients client (first_true (is_client old.clients client) faults.UnknownNumber ((is_known_base old.trace (plain_base_of call), faults.UnknownBase) ∷ (has_low_boundary old.trace call, faults.BoundaryTooHigh) ∷ (keeps_epoch decode get_epoch old.trace call, faults.EpochLowered) ∷ []) allowed) in
      let opens' = opens_next decode get_epoch old.trace (seen_of old) client call allowed in
      let same : begun_count old.trace + 1 ≡ next_op old = ap (λ n. n + 1) (sym st.count) in
      opened_keeps old client call said new is.0 is.1 (subst (λ (n : ℕ). PlainOpens decode get_epoch old.trace n call) same opens') v st

  -- runs

  nothing_at : (path : Segments) → option_map (λ (got : Got). got.bytes) (get (empty {X = Got} {R = path_cmp}) path) ≡ None
  nothing_at path = ap (option_map (λ (got : Got). got.bytes)) (get-empty path_cmp path)

  none_there : (n : ℕ) → is_some (get (empty {X = Got} {R = path_cmp}) (version_path world_names n)) ≡ false
  none_there n = ap is_some (get-empty path_cmp (version_path world_names n))

  none_numbered : {A P : Type 0} (op : ℕ) (x : A) → numbered [] op ≡ Some x → P
  none_numbered zero x e = cc
  none_numbered (suc op) x e = cc

  empty_caches : (n client : ℕ) (caches : Caches) → numbered (replicate n no_caches) client ≡ Some caches → caches ≡ no_caches
  empty_caches n zero caches e = cc
  empty_caches zero (suc client) caches e = cc
  empty_caches (suc n) (suc zero) caches e = cc
  empty_caches (suc n) (suc (suc client)) caches e = empty_caches n (suc client) caches e

  pub opening_stands : (clients page : ℕ) → 1 ≤ page → Stands decode get_epoch (opening clients page)
  opening_stands clients page room =
      let nothing : boundary {C = PlainCall T} {A = PlainAnswer T} [] ≡ 0 = ap boundary_said (get-empty path_cmp world_boundary) in
      record {
        paged = room;
        know = record {
          history = record {
            good = λ k row e. cc;
            ids = λ k version e. cc;
            reads = λ k version e. cc;
            small = omega arith;
            gap = inr (refl, nothing);
            told = λ test e. cc;
          };
          files = record {
            within = λ n small e. absurd (both_ways _ (none_there n) e);
            there = λ n above most. absurd (omega (arith, above, most));
            decodes = λ n bytes small e. absurd (let none = nothing_at (version_path world_names n) in let clash = sym none ∙ e in cc);
            gone = λ n some most e. absurd (omega (arith, some, most));
            says = λ got e. absurd (let clash = sym (get-empty path_cmp world_boundary) ∙ e in cc);
            given = λ path got e. absurd (let clash = sym (get-empty path_cmp path) ∙ e in cc);
            versions = λ path got below e. absurd (let clash = sym (get-empty path_cmp path) ∙ e in cc);
            kept = λ path. nothing_at path ∙ sym (get-empty path_cmp path);
            left = refl;
            honest = refl;
          };
        };
        wide = length-replicate clients no_caches;
        caches = λ c held e. subst (λ (d : Caches). CachesStand decode [] (opening {T = T} clients page).store d) (sym (empty_caches clients c held e)) (record { latest = tt; boundary = tt });
        count = refl;
        zero = refl;
        fresh = λ op h. record { begun = refl; answered = refl; none = refl };
        loose = λ k op request e. none_numbered k (op, request) e;
        each = λ op o ne e. none_numbered op o e;
      }

  pub takes_keeps : (old : State T) (event : PlainEvent T) (said : PlainTold T) (new : State T) → Takes encode decode get_epoch old event said new → Stands decode get_epoch old → Stands decode get_epoch new
  takes_keeps old (events.Begin client call) said new t st = begin_keeps old client call said new t.allowed t.step st
  takes_keeps old (events.Look op) said new t st = look_keeps decode get_epoch old op said new t.step st
  takes_keeps old (events.Serve op) said new t st = serve_keeps decode get_epoch old op said new t.step st
  takes_keeps old (events.Fail op failure) said new t st = fail_keeps decode get_epoch failure old op said new t.step st
  takes_keeps old (events.GiveUp op) said new t st = give_up_keeps decode get_epoch old op said new t.step st
  takes_keeps old (events.Land k) said new t st = land_keeps decode get_epoch old k said new t.step st
  takes_keeps old (events.Crash client) said new t st =
      crash_keeps decode get_epoch old client st (client_within old.clients client (tested (is_client old.clients client) faults.UnknownNumber t.allowed)).0 said new t.step

  pub runs_keep : (old : State T) (taken : List (PlainEvent T × PlainTold T)) (new : State T) → Runs encode decode get_epoch old taken new → Stands decode get_epoch old → Stands decode get_epoch new
  runs_keep old [] new r st = subst (λ (s : State T). Stands decode get_epoch s) (sym r) st
  runs_keep old (t ∷ taken) new r st = runs_keep r.0 taken new r.2 (takes_keeps old t.0 t.1 r.0 r.1 st)

  pub reached_stands : (s : State T) → IsReached encode decode get_epoch s → Stands decode get_epoch s
  reached_stands s r = runs_keep (opening s.clients s.page) r.0 s r.1 (opening_stands s.clients s.page r.2)
