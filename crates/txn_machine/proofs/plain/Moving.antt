-- How a state goes on where a read of it alone moves: the read goes on or has ended, and the trace and the files stay.
use Rattle.std.proofs.Common.{◌≡◌, ℕ, suc, List, [], ◌∷◌, ◌++◌, length, Bool, true, false, Option, Some, None, Ok, Err, ◌⊎◌, inl, inr, refl, sym, ◌∙◌, ap, subst, arith}
use Rattle.std.proofs.lemmas.List.{append-nil}
use Rattle.std.proofs.lemmas.Option.{same_Some}
use Rattle.txn_store.specs.Store.{State as StoreState}
use Rattle.txn_store.specs.Requests.{Serves}
use Rattle.txn_store.specs.declared.request.Request.{Request}
use Rattle.txn_store.specs.declared.request.Request.TheVariants as requests
use Rattle.txn_store.specs.declared.request.Reply.{Reply}
use Rattle.txn_store.specs.declared.request.Reply.TheVariants as replies
use Rattle.txn_steps.specs.declared.boundary.caches.Caches.{Caches}
use Rattle.txn_steps.specs.declared.boundary.turned.Turned.{Turned}
use Rattle.txn_steps.specs.declared.boundary.turned.Turned.TheVariants.{Goes, Done}
use Rattle.txn_steps.specs.declared.read.ReadOp.{ReadOp}
use Rattle.txn_steps.specs.declared.read.ReadOp.TheVariants as reads
use Rattle.txn_steps.specs.Latest.{ReadAnswer}
use Rattle.txn_steps.specs.Reads.{read_started, read_asked, read_turned, read_caches_after}
use Rattle.txn_history.specs.declared.event.PlainCall.TheVariants as calls
use Rattle.txn_history.specs.Trace.{PlainTold, PlainEvent, PlainRow}
use Rattle.txn_history.specs.declared.event.EventOf.TheVariants as events
use Rattle.txn_history.specs.Lists.{numbered}
use Rattle.txn_history.specs.Names.{world_names, world_boundary}
use Rattle.txn_history.specs.Facts.{WasNewest}
use Rattle.txn_history.specs.Seen.{Store, Look}
use Rattle.txn_history.proofs.Lists.{numbered_last}
use Rattle.txn_machine.specs.declared.plain.doing.PlainDoing.{PlainDoing}
use Rattle.txn_machine.specs.declared.plain.doing.PlainDoing.TheVariants.{Read, Ended}
use Rattle.txn_machine.specs.declared.plain.doing.PlainOperation.{PlainOperation}
use Rattle.txn_machine.specs.plain.Doing.{Next, asked, or_no_memory, read_next, turned, plain_caches_after}
use Rattle.txn_machine.specs.plain.Machine.{State, opening, acted, effected, next_op, Looks, Served, Takes, IsReached}
use Rattle.txn_machine.specs.plain.Alone.{IsWindow, doing_of, doing_in, Moves}
use Rattle.txn_machine.proofs.plain.Lists.{numbered_here}
use Rattle.txn_machine.proofs.plain.Stands.{IsQuiet, CachesStand, OpStands, ReadStands, Stands}
use Rattle.txn_machine.proofs.plain.Faults.{get_kept, listed_kept}
use Rattle.txn_machine.proofs.plain.Parts.{quiet_rows, check_asks}
use Rattle.txn_machine.proofs.plain.States.{asks_runs, at_place}
use Rattle.txn_machine.proofs.plain.BoundServes.{asks_request, asks_look}
use Rattle.txn_machine.proofs.plain.Serves.{latest_quiet}
use Rattle.txn_machine.proofs.plain.World.{takes_keeps, reached_stands}
use Rattle.txn_machine.proofs.plain.Windowed.{AllWindows, numbered_window, takes_windowed, runs_windowed, opening_windowed}
use Rattle.txn_machine.proofs.plain.Resting.{Given}

-- a request that changes nothing leaves the files
quiet_files : (request : Request) (reply : Reply) (old new : StoreState) → IsQuiet request → Serves request old reply new → new.failures ≡ 0 → new.files ≡ old.files
quiet_files (requests.Get path known) (replies.Get answer) old new q s honest = (get_kept path known old new answer s honest).files
quiet_files (requests.List prefix after limit) (replies.List answer) old new q s honest = (listed_kept prefix after limit old new answer s honest).files
quiet_files (requests.Put path bytes mode) reply old new q s honest = absurd q
quiet_files (requests.Delete path) reply old new q s honest = absurd q
quiet_files _ _ old new q s honest = absurd s

module _ {T : Type 0} where
  -- a read that runs, and what its client keeps
  pub record Reading (s : State T) (op : ℕ) (read : ReadOp T) (caches : Caches) : Type 0 where
    pub operation : PlainOperation T
    pub there : numbered s.operations op ≡ Some operation
    pub doing : operation.doing ≡ Read read
    pub kept : numbered s.caches operation.client ≡ Some caches

  pub does : (s : State T) (op : ℕ) (read : ReadOp T) (caches : Caches) → Reading s op read caches → doing_in s op ≡ Read read
  does s op read caches r = ap doing_of r.there ∙ r.doing

  -- it goes on: so much of a move concerns it
  pub record GoesTo (decode : List ℕ → Option T) (old new : State T) (op : ℕ) (read : ReadOp T) (caches : Caches) : Type 0 where
    pub next : ReadOp T
    pub reply : Option Reply
    pub given : Given read old.store reply new.store
    pub turn : read_turned world_names world_boundary old.page decode read caches reply ≡ (next, Goes)
    pub at : Reading new op next (read_caches_after read caches Goes)
    pub trace : new.trace ≡ old.trace
    pub files : new.store.files ≡ old.store.files
    pub page : new.page ≡ old.page

  -- after its turn the read goes on, or the operation has ended
  next_cases : (refused : Bool) (told : ReadOp T × Turned (ReadAnswer T)) → ((or_no_memory refused (read_next told)).0 ≡ Ended) ⊎ ((told ≡ (told.0, Goes)) × (or_no_memory refused (read_next told) ≡ (Read told.0, None)))
  next_cases true told = inl refl
  next_cases false (read, Goes) = inr (refl, refl)
  next_cases false (read, Done (Ok found)) = inl refl
  next_cases false (read, Done (Err number)) = inl refl

  acted_ends : (s : State T) (op : ℕ) (o : PlainOperation T) (next : Next T) (after : Caches) → numbered s.operations op ≡ Some o → next.0 ≡ Ended → doing_in (acted s op o next after) op ≡ Ended
  acted_ends s op o next after there e = let o' : PlainOperation T = record { client = o.client; doing = next.0 } in ap doing_of (numbered_here s.operations op o' o there) ∙ e

  acted_reads : (s : State T) (op : ℕ) (o : PlainOperation T) (next : ReadOp T) (caches after : Caches) → numbered s.operations op ≡ Some o → numbered s.caches o.client ≡ Some caches → Reading (acted s op o (Read next, None) after) op next after
  acted_reads s op o next caches after there kept =
      let o' : PlainOperation T = record { client = o.client; doing = Read next } in
      record { operation = o'; there = numbered_here s.operations op o' o there; doing = refl; kept = numbered_here s.caches o.client after caches kept }

module _ {T : Type 0} (decode : List ℕ → Option T) where
  -- what it asks for changes nothing
  read_quiet : (rows : List (PlainRow T)) (store : StoreState) (caches : Caches) (op : ℕ) (read : ReadOp T) (request : Request) → ReadStands decode rows store caches.boundary op read → read_asked read ≡ Some request → IsQuiet request
  read_quiet rows store caches op (reads.Reads latest ahead) request h e = latest_quiet decode rows op request latest h.0 e
  read_quiet rows store caches op (reads.Checks id value check) request h e = check_asks rows store caches.boundary id (WasNewest decode rows op id value) check request h.1 e
  read_quiet rows store caches op reads.Ended request h e = cc

  -- a move leads to its end, or to what it does next
  abbrev pub Outcome : State T → ℕ → ReadOp T → Caches → State T → Type 0
  Outcome old op read caches new = (doing_in new op ≡ Ended) ⊎ GoesTo decode old new op read caches

  -- what a reply leads to
  replied : (old : State T) (op : ℕ) (o : PlainOperation T) (read : ReadOp T) (caches : Caches) (reply : Option Reply) (refused : Bool) (next : Next T) (middle : State T) → numbered middle.operations op ≡ Some o → numbered middle.caches o.client ≡ Some caches →
      Given read old.store reply middle.store → middle.trace ≡ old.trace → middle.store.files ≡ old.store.files → middle.page ≡ old.page → next ≡ turned old.page decode refused (Read read) caches reply → Outcome old op read caches (acted middle op o next (plain_caches_after (Read read) caches next.1))
  replied old op o read caches reply refused next middle there kept given trace files page turn =
      let told = read_turned world_names world_boundary old.page decode read caches reply in
      elim (next_cases refused told) [
        | inl ends ↦ inl (acted_ends middle op o next (plain_caches_after (Read read) caches next.1) there (ap (λ (n : Next T). n.0) turn ∙ ends))
        | inr goes ↦
            let is : next ≡ (Read told.0, None) = turn ∙ goes.1 in
            subst (λ (n : Next T). Outcome old op read caches (acted middle op o n (plain_caches_after (Read read) caches n.1))) (sym is)
            (inr (record {
              next = told.0;
              reply = reply;
              given = given;
              turn = goes.0;
              at = acted_reads middle op o told.0 caches (read_caches_after read caches Goes) there kept;
              trace = append-nil middle.trace ∙ trace;
              files = files;
              page = page;
            }))
      ]

module _ {T : Type 0} (encode : T → List ℕ) (decode : List ℕ → Option T) (get_epoch : T → ℕ) where
  -- what stands of a state that was reached
  pub record Standing (s : State T) : Type 0 where
    pub stands : Stands decode get_epoch s
    pub windows : AllWindows s.caches

  pub reached_standing : (s : State T) → IsReached encode decode get_epoch s → Standing s
  reached_standing s r = record { stands = reached_stands encode decode get_epoch s r; windows = runs_windowed encode decode get_epoch (opening s.clients s.page) r.0 s r.1 (opening_windowed encode decode get_epoch s.clients s.page) }

  pub takes_standing : (old : State T) (event : PlainEvent T) (said : PlainTold T) (new : State T) → Takes encode decode get_epoch old event said new → Standing old → Standing new
  takes_standing old event said new t h = record { stands = takes_keeps encode decode get_epoch old event said new t h.stands; windows = takes_windowed encode decode get_epoch old event said new t h.windows }

  pub moves_standing : (op : ℕ) (old new : State T) → Moves encode decode get_epoch op old new → Standing old → Standing new
  moves_standing op old new m h = elim m.1 [ inl t ↦ takes_standing old (events.Look op) m.0 new t h | inr t ↦ takes_standing old (events.Serve op) m.0 new t h ]

  module _ (op : ℕ) (read : ReadOp T) (caches : Caches) where
    -- what stands of the read, of its client's caches and of their versions
    pub read_stands : (s : State T) → Standing s → Reading s op read caches → ReadStands decode s.trace s.store caches.boundary op read
    read_stands s h r =
        let at = at_place decode get_epoch s op r.operation h.stands r.there in
        let is : at.0 ≡ caches = same_Some at.0 caches (sym at.1 ∙ r.kept) in
        let own : OpStands decode get_epoch s.trace s.store at.0.boundary op (Read read) = subst (λ (d : PlainDoing T). OpStands decode get_epoch s.trace s.store at.0.boundary op d) r.doing at.2 in
        let own' : OpStands decode get_epoch s.trace s.store caches.boundary op (Read read) = subst (λ (c : Caches). OpStands decode get_epoch s.trace s.store c.boundary op (Read read)) is own in
        own'.1.stands.1

    pub caches_stand : (s : State T) → Standing s → Reading s op read caches → CachesStand decode s.trace s.store caches
    caches_stand s h r = h.stands.caches r.operation.client caches r.kept

    pub is_window : (s : State T) → Standing s → Reading s op read caches → IsWindow caches.latest
    is_window s h r = numbered_window s.caches r.operation.client caches r.kept h.windows

    -- the operation that acts is the read, and these are its client's caches
    record IsRead (s : State T) (o : PlainOperation T) (held : Caches) : Type 0 where
      doing : o.doing ≡ Read read
      same : held ≡ caches
      kept : numbered s.caches o.client ≡ Some caches

    is_read : (s : State T) (o : PlainOperation T) (held : Caches) → Reading s op read caches → numbered s.operations op ≡ Some o → numbered s.caches o.client ≡ Some held → IsRead s o held
    is_read s o held r there kept =
        let is : r.operation ≡ o = same_Some r.operation o (sym r.there ∙ there) in
        let own : numbered s.caches o.client ≡ Some caches = subst (λ (x : PlainOperation T). numbered s.caches x.client ≡ Some caches) is r.kept in
        record { doing = ap (λ (x : PlainOperation T). x.doing) (sym is) ∙ r.doing; same = same_Some held caches (sym kept ∙ own); kept = own }

    look_moves : (old : State T) (said : PlainTold T) (new : State T) → Looks decode old op said new → Reading old op read caches → Outcome decode old op read caches new
    look_moves old said new v r =
        let i = is_read old v.operation v.caches r v.acts.found v.acts.kept in
        let turn : v.next ≡ turned old.page decode v.refused (Read read) caches None = v.turns ∙ (ap (λ (d : PlainDoing T). turned old.page decode v.refused d v.caches None) i.doing ∙ ap (λ (c : Caches). turned old.page decode v.refused (Read read) c None) i.same) in
        let left : plain_caches_after v.operation.doing v.caches v.next.1 ≡ plain_caches_after (Read read) caches v.next.1 = ap (λ (d : PlainDoing T). plain_caches_after d v.caches v.next.1) i.doing ∙ ap (λ (c : Caches). plain_caches_after (Read read) c v.next.1) i.same in
        let is : new ≡ acted old op v.operation v.next (plain_caches_after (Read read) caches v.next.1) = v.state ∙ ap (λ (c : Caches). acted old op v.operation v.next c) left in
        let looks = asks_look (read_asked read) (sym (ap asked i.doing) ∙ v.acts.asks) in
        subst (λ (s : State T). Outcome decode old op read caches s) (sym is)
        (replied decode old op v.operation read caches None v.refused v.next old v.acts.found i.kept (looks, refl) refl refl refl turn)

    serve_moves : (old : State T) (said : PlainTold T) (new : State T) → Standing old → Served decode old op said new → Reading old op read caches → Outcome decode old op read caches new
    serve_moves old said new h v r =
        let i = is_read old v.call.operation v.call.caches r v.call.acts.found v.call.acts.kept in
        let turn : v.next ≡ turned old.page decode v.refused (Read read) caches (Some v.call.reply) = v.turns ∙ (ap (λ (d : PlainDoing T). turned old.page decode v.refused d v.call.caches (Some v.call.reply)) i.doing ∙ ap (λ (c : Caches). turned old.page decode v.refused (Read read) c (Some v.call.reply)) i.same) in
        let left : plain_caches_after v.call.operation.doing v.call.caches v.next.1 ≡ plain_caches_after (Read read) caches v.next.1 = ap (λ (d : PlainDoing T). plain_caches_after d v.call.caches v.next.1) i.doing ∙ ap (λ (c : Caches). plain_caches_after (Read read) c v.next.1) i.same in
        let middle = effected old op v.call.request v.call.reply v.call.store in
        let is : new ≡ acted middle op v.call.operation v.next (plain_caches_after (Read read) caches v.next.1) = v.state ∙ ap (λ (c : Caches). acted middle op v.call.operation v.next c) left in
        let asks = asks_request (read_asked read) v.call.request (sym (ap asked i.doing) ∙ v.call.acts.asks) in
        let quiet = read_quiet decode old.trace old.store caches op read v.call.request (read_stands old h r) asks in
        subst (λ (s : State T). Outcome decode old op read caches s) (sym is)
        (replied decode old op v.call.operation read caches (Some v.call.reply) v.refused v.next middle v.call.acts.found i.kept (v.call.request, asks, v.call.reaches.serves, v.call.reaches.honest)
        (quiet_rows old.trace op old.store.files v.call.request v.call.reply quiet) (quiet_files v.call.request v.call.reply old.store v.call.store quiet v.call.reaches.serves v.call.reaches.honest) refl turn)

    -- a move of a read
    pub moves : (old new : State T) → Moves encode decode get_epoch op old new → Standing old → Reading old op read caches → Outcome decode old op read caches new
    moves old new m h r = elim m.1 [ inl t ↦ look_moves old m.0 new t.step r | inr t ↦ serve_moves old m.0 new h t.step r ]

  -- an operation that has ended does not move
  pub ended_still : (op : ℕ) (old new : State T) → doing_in old op ≡ Ended → Moves encode decode get_epoch op old new → ⊥
  ended_still op old new e m =
      elim m.1 [
        | inl t ↦ asks_runs t.step.operation.doing Look t.step.acts.asks (sym (ap doing_of t.step.acts.found) ∙ e)
        | inr t ↦ asks_runs t.step.call.operation.doing (Store t.step.call.request) t.step.call.acts.asks (sym (ap doing_of t.step.call.acts.found) ∙ e)
      ]

  -- where it begins
  pub begins : (s : State T) (client : ℕ) (said : PlainTold T) (first : State T) → Takes encode decode get_epoch s (events.Begin client calls.Read) said first → Standing s → (caches : Caches) × Reading first (next_op s) (read_started world_boundary) caches
  begins s client said first t h =
      let v = t.step in
      let o : PlainOperation T = record { client = client; doing = Read (read_started world_boundary) } in
      let is : first.operations ≡ s.operations ++ o ∷ [] = ap (λ (x : State T). x.operations) v.state ∙ ap (λ (n : Next T). s.operations ++ record { client = client; doing = n.0 } ∷ []) v.starts in
      let last : suc (length s.operations) ≡ next_op s = omega arith in
      let there : numbered first.operations (next_op s) ≡ Some o = ap (λ (xs : List (PlainOperation T)). numbered xs (next_op s)) is ∙ subst (λ (n : ℕ). numbered (s.operations ++ o ∷ []) n ≡ Some o) last (numbered_last s.operations o) in
      let at = at_place decode get_epoch first (next_op s) o (takes_standing s (events.Begin client calls.Read) said first t h).stands there in
      (at.0, record { operation = o; there = there; doing = refl; kept = at.1 })
