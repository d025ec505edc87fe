-- A read that nothing disturbs, of a call without a view or on one, is one of the machine of plain calls, state by state.
use Rattle.std.proofs.Common.{◌≡◌, ℕ, ◌+◌, ◌*◌, ◌-◌, ◌≤◌, ◌&&◌, List, [], ◌∷◌, set, Bool, true, false, not, cond, Option, Some, None, Result, Ok, Err, ◌⊎◌, inl, inr, refl, sym, ◌∙◌, ap, subst, arith}
use Rattle.std.proofs.lemmas.Bool.{and_parts}
use Rattle.std.proofs.lemmas.Option.{same_Some}
use Rattle.txn_store.specs.Store.{State as StoreState}
use Rattle.txn_store.specs.Requests.{Serves}
use Rattle.txn_store.specs.declared.request.Reply.{Reply}
use Rattle.txn_steps.specs.declared.boundary.caches.Caches.{Caches}
use Rattle.txn_steps.specs.declared.boundary.turned.Turned.{Turned}
use Rattle.txn_steps.specs.declared.boundary.turned.Turned.TheVariants.{Goes, Done}
use Rattle.txn_steps.specs.boundary.Asking.{unless_lacking}
use Rattle.txn_steps.specs.declared.read.ReadOp.{ReadOp}
use Rattle.txn_steps.specs.declared.read.ReadOp.TheVariants as reads
use Rattle.txn_steps.specs.Latest.{ReadAnswer}
use Rattle.txn_steps.specs.Reads.{read_started, read_turned, read_caches_after}
use Rattle.txn_history.specs.declared.event.PlainCall.TheVariants as calls
use Rattle.txn_history.specs.declared.event.EventFault.TheVariants as faults
use Rattle.txn_history.specs.declared.event.EventOf.TheVariants as events
use Rattle.txn_history.specs.declared.event.ToldOf.TheVariants as told
use Rattle.txn_history.specs.Allowed.{is_client, ask_fault, first_fault, may_use, is_busy, base_seen}
use Rattle.txn_history.specs.Lists.{numbered}
use Rattle.txn_history.specs.Names.{world_names, world_boundary}
use Rattle.txn_history.specs.Seen.{Ask, Store, Look, asks_in, asks_of}
use Rattle.txn_machine.specs.declared.plain.doing.PlainDoing.{PlainDoing}
use Rattle.txn_machine.specs.declared.plain.doing.PlainDoing.TheVariants as doings
use Rattle.txn_machine.specs.declared.plain.doing.PlainOperation as machine_operation
use Rattle.txn_machine.specs.plain.Alone as fine_alone
use Rattle.txn_machine.specs.plain.Alone.{HasPages, begins_pass, is_turn}
use Rattle.txn_machine.specs.plain.Doing as plain
use Rattle.txn_machine.specs.plain.Machine as machine
use Rattle.txn_machine.proofs.plain.Lists.{numbered_here, numbered_new, numbered_of_map}
use Rattle.txn_machine.proofs.plain.Moving.{Standing}
use Rattle.txn_machine.proofs.plain.Passes.{counts_none, two_passes_from}
use Rattle.txn_machine.proofs.plain.AllTurns.{turns_from}
use Rattle.txn_machine.proofs.plain.Windowed.{AllWindows}
use Rattle.txn_machine.proofs.plain.World.{first_true}
use Rattle.txn_steps_views.specs.declared.op.ViewOp.{ViewOp}
use Rattle.txn_steps_views.specs.declared.op.ViewOp.TheVariants as ops
use Rattle.txn_steps_views.specs.declared.outcome.Outcome.{Outcome}
use Rattle.txn_steps_views.specs.declared.view_read.Purpose.{Purpose}
use Rattle.txn_steps_views.specs.declared.view_read.Purpose.TheVariants as purposes
use Rattle.txn_steps_views.specs.Readings.{seen}
use Rattle.txn_steps_views.specs.ViewOps.{held}
use Rattle.txn_steps_views.specs.ViewReads.{as_view_read, shown}
use Rattle.txn_history.specs.declared.event.ViewCall.TheVariants as view_calls
use Rattle.txn_history.specs.declared.event.Call.{Call}
use Rattle.txn_history.specs.declared.event.Call.TheVariants as any
use Rattle.txn_history.specs.Trace.{Told}
use Rattle.txn_history.specs.Calls.{view_used, is_holders}
use Rattle.txn_history.specs.OneHistory.{is_known_base, has_low_boundary, keeps_epoch}
use Rattle.txn_history.specs.Views.{View}
use Rattle.txn_machine.specs.declared.doing.Doing.{Doing}
use Rattle.txn_machine.specs.declared.doing.Doing.TheVariants as does
use Rattle.txn_machine.specs.declared.doing.Operation.{Operation}
use Rattle.txn_machine.specs.Alone.{IsReading, read_of, read_by, read_in, passes, turns, Moves, MovesAlone, ReadsAlone}
use Rattle.txn_machine.specs.Doing.{Next, ended, asked, plain_next, view_next, next_of, started, turned, caches_after}
use Rattle.txn_machine.specs.plain.Machine.{next_op}
use Rattle.txn_machine.specs.Machine.{State, refusal_of, seen_of, doing_next, with_doing, new_operation, view_now, Looks, Served, IsReached}
use Rattle.txn_machine.proofs.Joined.{as_fine}
use Rattle.txn_machine.proofs.Joining.{reached_joins}
use Rattle.txn_machine.proofs.Windowed.{reached_windows}

module _ {T : Type 0} where
  -- what a turn of an operation that makes this read is: its end, or where the read goes on, itself with that
  abbrev Follows : (ReadOp T → Doing T) → ReadOp T × Turned (ReadAnswer T) → Next T → Type 0
  Follows whole told next = (next.0 ≡ ended) ⊎ ((told ≡ (told.0, Goes)) × (next ≡ (whole told.0, None)))

  plain_follows : (refused : Bool) (told : ReadOp T × Turned (ReadAnswer T)) → Follows (λ read. does.Plain (doings.Read read)) told (plain_next (plain.or_no_memory refused (plain.read_next told)))
  plain_follows true told = inl refl
  plain_follows false (read, Goes) = inr (refl, refl)
  plain_follows false (read, Done (Ok found)) = inl refl
  plain_follows false (read, Done (Err number)) = inl refl

  done_ends : (op : Doing T) (answer : Result (Outcome T) ℕ) → (next_of op (Done answer)).0 ≡ ended
  done_ends op (Ok outcome) = refl
  done_ends op (Err number) = refl

  view_follows : {O : Type 0} (as_read : ReadOp T → O) (whole : O → ViewOp T) (gone : O) (see : Option (ℕ × T) → Result (Outcome T) ℕ) (lacking : Bool) (told : ReadOp T × Turned (ReadAnswer T)) →
      Follows (λ read. does.View (whole (as_read read))) told (view_next (held whole (unless_lacking lacking gone (seen as_read see told))))
  view_follows as_read whole gone see true told = inl refl
  view_follows as_read whole gone see false (read, Goes) = inr (refl, refl)
  view_follows as_read whole gone see false (read, Done (Ok found)) = inl (done_ends (does.View (whole (as_read reads.Ended))) (see found))
  view_follows as_read whole gone see false (read, Done (Err number)) = inl refl

module _ {T : Type 0} (encode : T → List ℕ) (decode : List ℕ → Option T) (get_epoch : T → ℕ) (set_epoch : T → ℕ → T) where
  abbrev told_by : ℕ → ReadOp T → Caches → Option Reply → ReadOp T × Turned (ReadAnswer T)
  told_by page read caches reply = read_turned world_names world_boundary page decode read caches reply

  -- An operation that makes a read and nothing more.
  record IsRead (whole : ReadOp T → Doing T) : Type 0 where
    pub is : (read : ReadOp T) → read_of (whole read) ≡ doings.Read read
    pub asks : (read : ReadOp T) → asked (whole read) ≡ plain.asked (doings.Read read)
    pub follows : (page : ℕ) (refused : Bool) (read : ReadOp T) (caches : Caches) (reply : Option Reply) → Follows whole (told_by page read caches reply) (turned page encode decode get_epoch set_epoch refused (whole read) caches reply)
    pub leaves : (read : ReadOp T) (caches : Caches) → caches_after (whole read) caches None ≡ read_caches_after read caches Goes

  plain_read : IsRead (λ read. does.Plain (doings.Read read))
  plain_read = record {
    is = λ read. refl;
    asks = λ read. refl;
    follows = λ page refused read caches reply. plain_follows refused (told_by page read caches reply);
    leaves = λ read caches. refl;
  }

  view_read : (purpose : Purpose) → IsRead (λ read. does.View (ops.Reads (as_view_read purpose read)))
  view_read purpose = record {
    is = λ read. refl;
    asks = λ read. refl;
    follows = λ page refused read caches reply. view_follows (as_view_read purpose) ops.Reads _ (shown get_epoch purpose) refused (told_by page read caches reply);
    leaves = λ read caches. refl;
  }

  -- A state of plain calls whose operation makes the same read over the same store and the same caches.
  record Mirrors (whole : ReadOp T → Doing T) (s : State T) (op : ℕ) (f : machine.State T) (n : ℕ) (read : ReadOp T) : Type 0 where
    pub operation : Operation T
    pub there : numbered s.operations op ≡ Some operation
    pub doing : operation.doing ≡ whole read
    pub fine : numbered f.operations n ≡ Some (as_fine operation.client (doings.Read read))
    pub caches : f.caches ≡ s.caches
    pub store : f.store ≡ s.store
    pub page : f.page ≡ s.page

  abbrev FineMoves : ℕ → machine.State T → machine.State T → Type 0
  FineMoves n f g = fine_alone.Moves encode decode get_epoch n f g

  -- an operation that has ended
  abbrev Gone : State T → ℕ → Type 0
  Gone s op = (o : Operation T) × (numbered s.operations op ≡ Some o) × (o.doing ≡ ended)

  -- a move leads to its end, or is one of the mirrored state
  abbrev Mirrored : (ReadOp T → Doing T) → ℕ → machine.State T → ℕ → State T → Type 0
  Mirrored whole op f n new = Gone new op ⊎ ((g : machine.State T) × (read : ReadOp T) × FineMoves n f g × Mirrors whole new op g n read)

  module _ (whole : ReadOp T → Doing T) (w : IsRead whole) (old : State T) (op : ℕ) (f : machine.State T) (n : ℕ) (read : ReadOp T) (m : Mirrors whole old op f n read) where
    abbrev own : Operation T
    own = m.operation

    abbrev fine_own : machine_operation.PlainOperation T
    fine_own = as_fine own.client (doings.Read read)

    -- the operation that acts is this one
    acts_own : (o : Operation T) → numbered old.operations op ≡ Some o → o ≡ own
    acts_own o found = same_Some o own (sym found ∙ m.there)

    ends_there : (new : State T) (o : Operation T) (next : Next T) → numbered old.operations op ≡ Some o → new.operations ≡ with_doing old.operations op o next.0 → next.0 ≡ ended → Gone new op
    ends_there new o next found is e = (doing_next o next.0, ap (λ (os : List (Operation T)). numbered os op) is ∙ numbered_here old.operations op (doing_next o next.0) o found, e)

    -- where the read goes on, so does that of the mirrored state
    goes_on : (new : State T) (g : machine.State T) (o : Operation T) (caches : Caches) (next : ReadOp T) → numbered old.operations op ≡ Some o → numbered old.caches o.client ≡ Some caches → new.operations ≡ with_doing old.operations op o (whole next) →
        new.caches ≡ set old.caches (o.client - 1) (read_caches_after read caches Goes) → new.page ≡ old.page → g.operations ≡ machine.with_doing f.operations n fine_own (doings.Read next) → g.caches ≡ set f.caches (own.client - 1) (read_caches_after read caches Goes) → g.store ≡ new.store → g.page ≡ f.page →
        Mirrors whole new op g n next
    goes_on new g o caches next found kept operations new_caches page fine fine_caches store fine_page =
        let same = acts_own o found in
        record {
          operation = doing_next o (whole next);
          there = ap (λ (os : List (Operation T)). numbered os op) operations ∙ numbered_here old.operations op (doing_next o (whole next)) o found;
          doing = refl;
          fine = ap (λ (os : List (machine_operation.PlainOperation T)). numbered os n) fine ∙ (numbered_here f.operations n (as_fine own.client (doings.Read next)) fine_own m.fine ∙ ap (λ (x : Operation T). Some (as_fine x.client (doings.Read next))) (sym same));
          caches = fine_caches ∙ (ap (λ (cs : List Caches). set cs (own.client - 1) (read_caches_after read caches Goes)) m.caches ∙ (ap (λ (x : Operation T). set old.caches (x.client - 1) (read_caches_after read caches Goes)) (sym same) ∙ sym new_caches));
          store = store;
          page = fine_page ∙ (m.page ∙ sym page);
        }

    fine_kept : (o : Operation T) (caches : Caches) → numbered old.operations op ≡ Some o → numbered old.caches o.client ≡ Some caches → numbered f.caches own.client ≡ Some caches
    fine_kept o caches found kept = ap (λ (cs : List Caches). numbered cs own.client) m.caches ∙ (ap (λ (x : Operation T). numbered old.caches x.client) (sym (acts_own o found)) ∙ kept)

    fine_asks : (o : Operation T) (ask : Ask) → numbered old.operations op ≡ Some o → asked o.doing ≡ Some ask → plain.asked (doings.Read read) ≡ Some ask
    fine_asks o ask found asks = sym (w.asks read) ∙ (ap asked (sym m.doing) ∙ (ap (λ (x : Operation T). asked x.doing) (sym (acts_own o found)) ∙ asks))

    seen_asks : (ask : Ask) → plain.asked (doings.Read read) ≡ Some ask → asks_of (machine.seen_of f) n ≡ Some ask
    seen_asks ask e = ap asks_in (numbered_of_map machine.seen_operation f.operations n fine_own m.fine) ∙ e

    look_mirrors : (said : Told T) (new : State T) → Looks encode decode get_epoch set_epoch old op said new → Mirrored whole op f n new
    look_mirrors said new v =
        let o = v.operation in
        let found = v.acts.found in
        let does_this : o.doing ≡ whole read = ap (λ (x : Operation T). x.doing) (acts_own o found) ∙ m.doing in
        let turn : v.next ≡ turned old.page encode decode get_epoch set_epoch v.turns.refused (whole read) v.caches None = v.turns.turns ∙ ap (λ (d : Doing T). turned old.page encode decode get_epoch set_epoch v.turns.refused d v.caches None) does_this in
        let t = told_by old.page read v.caches None in
        elim (subst (Follows whole t) (sym turn) (w.follows old.page v.turns.refused read v.caches None)) [
          | inl ends ↦ inl (ends_there new o v.next found (ap (λ (s : State T). s.operations) v.state) ends)
          | inr goes ↦ (
              let g = machine.acted f n fine_own (doings.Read t.0, None) (read_caches_after read v.caches Goes) in
              let asks = fine_asks o Look found v.acts.asks in
              let kept = fine_kept o v.caches found v.acts.kept in
              let fine_turn : ◌≡◌ {A = plain.Next T} (doings.Read t.0, None) (plain.turned f.page decode false (doings.Read read) v.caches None) =
              subst (λ (page : ℕ). ◌≡◌ {A = plain.Next T} (doings.Read t.0, None) (plain.turned page decode false (doings.Read read) v.caches None)) (sym m.page) (ap plain.read_next (sym goes.0)) in
              let left : caches_after o.doing v.caches v.next.1 ≡ read_caches_after read v.caches Goes = ap (λ (d : Doing T). caches_after d v.caches v.next.1) does_this ∙ (ap (λ (x : Next T). caches_after (whole read) v.caches x.1) goes.1 ∙ w.leaves read v.caches) in
              inr (
                g,
                t.0,
                (
                  told.Went n,
                  inl (record {
                    allowed = ap (ask_fault false) (seen_asks Look asks);
                    step = record { operation = fine_own; caches = v.caches; acts = record { found = m.fine; asks = asks; kept = kept }; refused = false; next = (doings.Read t.0, None); turns = fine_turn; tells = refl; state = refl };
                  }),
                ),
                goes_on new g o v.caches t.0 found v.acts.kept (ap (λ (s : State T). s.operations) v.state ∙ ap (λ (x : Next T). with_doing old.operations op o x.0) goes.1)
                    (ap (λ (s : State T). s.caches) v.state ∙ ap (λ (c : Caches). set old.caches (o.client - 1) c) left) (ap (λ (s : State T). s.page) v.state) refl refl (m.store ∙ sym (ap (λ (s : State T). s.store) v.state)) refl,
              )
              )
        ]

    serve_mirrors : (said : Told T) (new : State T) → Served encode decode get_epoch set_epoch old op said new → Mirrored whole op f n new
    serve_mirrors said new v =
        let o = v.call.operation in
        let found = v.call.acts.found in
        let does_this : o.doing ≡ whole read = ap (λ (x : Operation T). x.doing) (acts_own o found) ∙ m.doing in
        let turn : v.next ≡ turned old.page encode decode get_epoch set_epoch v.turns.refused (whole read) v.call.caches (Some v.call.reply) = v.turns.turns ∙ ap (λ (d : Doing T). turned old.page encode decode get_epoch set_epoch v.turns.refused d v.call.caches (Some v.call.reply)) does_this in
        let t = told_by old.page read v.call.caches (Some v.call.reply) in
        elim (subst (Follows whole t) (sym turn) (w.follows old.page v.turns.refused read v.call.caches (Some v.call.reply))) [
          | inl ends ↦ inl (ends_there new o v.next found (ap (λ (s : State T). s.operations) v.state) ends)
          | inr goes ↦ (
              let g = machine.acted (machine.effected f n v.call.request v.call.reply v.call.store) n fine_own (doings.Read t.0, None) (read_caches_after read v.call.caches Goes) in
              let asks = fine_asks o (Store v.call.request) found v.call.acts.asks in
              let kept = fine_kept o v.call.caches found v.call.acts.kept in
              let fine_turn : ◌≡◌ {A = plain.Next T} (doings.Read t.0, None) (plain.turned f.page decode false (doings.Read read) v.call.caches (Some v.call.reply)) =
              subst (λ (page : ℕ). ◌≡◌ {A = plain.Next T} (doings.Read t.0, None) (plain.turned page decode false (doings.Read read) v.call.caches (Some v.call.reply))) (sym m.page) (ap plain.read_next (sym goes.0)) in
              let left : caches_after o.doing v.call.caches v.next.1 ≡ read_caches_after read v.call.caches Goes = ap (λ (d : Doing T). caches_after d v.call.caches v.next.1) does_this ∙ (ap (λ (x : Next T). caches_after (whole read) v.call.caches x.1) goes.1 ∙ w.leaves read v.call.caches) in
              inr (
                g,
                t.0,
                (
                  told.Went n,
                  inr (record {
                    allowed = ap (ask_fault true) (seen_asks (Store v.call.request) asks);
                    step = record {
                      call = record {
                        operation = fine_own;
                        request = v.call.request;
                        caches = v.call.caches;
                        acts = record { found = m.fine; asks = asks; kept = kept };
                        reply = v.call.reply;
                        store = v.call.store;
                        reaches = record { serves = subst (λ (store : StoreState). Serves v.call.request store v.call.reply v.call.store) (sym m.store) v.call.reaches.serves; honest = v.call.reaches.honest };
                      };
                      refused = false;
                      next = (doings.Read t.0, None);
                      turns = fine_turn;
                      tells = refl;
                      state = refl;
                    };
                  }),
                ),
                goes_on new g o v.call.caches t.0 found v.call.acts.kept (ap (λ (s : State T). s.operations) v.state ∙ ap (λ (x : Next T). with_doing old.operations op o x.0) goes.1)
                    (ap (λ (s : State T). s.caches) v.state ∙ ap (λ (c : Caches). set old.caches (o.client - 1) c) left) (ap (λ (s : State T). s.page) v.state) refl refl (sym (ap (λ (s : State T). s.store) v.state)) refl,
              )
              )
        ]

    move_mirrors : (new : State T) → Moves encode decode get_epoch set_epoch op old new → Mirrored whole op f n new
    move_mirrors new moved = elim moved.1 [ inl t ↦ look_mirrors moved.0 new t.step | inr t ↦ serve_mirrors moved.0 new t.step ]

    -- both make the same read
    reads_same : read_in old op ≡ fine_alone.doing_in f n
    reads_same = ap read_by m.there ∙ (ap read_of m.doing ∙ (w.is read ∙ sym (ap fine_alone.doing_of m.fine)))

  -- an operation that has ended does not move, and begins no pass

  gone_read : (s : State T) (op : ℕ) → Gone s op → read_in s op ≡ doings.Ended
  gone_read s op g = ap read_by g.1 ∙ ap read_of g.2

  gone_still : (op : ℕ) (old new : State T) → Gone old op → Moves encode decode get_epoch set_epoch op old new → ⊥
  gone_still op old new g moved =
      elim moved.1 [
        | inl t ↦ asks_nothing t.step.operation Look t.step.acts.found t.step.acts.asks
        | inr t ↦ asks_nothing t.step.call.operation (Store t.step.call.request) t.step.call.acts.found t.step.call.acts.asks
      ]
    where
      asks_nothing : (o : Operation T) (ask : Ask) → numbered old.operations op ≡ Some o → asked o.doing ≡ Some ask → ⊥
      asks_nothing o ask found asks =
          let is : o.doing ≡ ended = ap (λ (x : Operation T). x.doing) (same_Some o g.0 (sym found ∙ g.1)) ∙ g.2 in
          let none : None ≡ Some ask = sym (ap asked is) ∙ asks in
          cc

  gone_passes : (op : ℕ) (s : State T) (states : List (State T)) → Gone s op → MovesAlone encode decode get_epoch set_epoch op s states → passes op (s ∷ states) ≡ 0
  gone_passes op s [] g a = (let none = counts_none (begins_pass (read_in s op)) (ap begins_pass (gone_read s op g)) in omega (arith, none))
  gone_passes op s (next ∷ states) g a = absurd (gone_still op s next g a.0)

  gone_turns : (op : ℕ) (before s : State T) (states : List (State T)) → Gone s op → MovesAlone encode decode get_epoch set_epoch op s states → turns op before (s ∷ states) ≡ 0
  gone_turns op before s [] g a = (let none = counts_none (is_turn (read_in before op) (read_in s op)) (ap (is_turn (read_in before op)) (gone_read s op g)) in omega (arith, none))
  gone_turns op before s (next ∷ states) g a = absurd (gone_still op s next g a.0)

  -- all the states of a read that nothing disturbs

  abbrev FineAlone : ℕ → machine.State T → List (machine.State T) → Type 0
  FineAlone n f gs = fine_alone.MovesAlone encode decode get_epoch n f gs

  all_mirror : (states : List (State T)) (whole : ReadOp T → Doing T) (w : IsRead whole) (s : State T) (op : ℕ) (f : machine.State T) (n : ℕ) (read : ReadOp T) → Mirrors whole s op f n read → MovesAlone encode decode get_epoch set_epoch op s states →
      (gs : List (machine.State T)) × FineAlone n f gs × (passes op states ≡ fine_alone.passes n gs) × (turns op s states ≡ fine_alone.turns n f gs)
  all_mirror [] whole w s op f n read m a = ([], tt, refl, refl)
  all_mirror (next ∷ states) whole w s op f n read m a =
      elim (move_mirrors whole w s op f n read m next a.0) [
        | inl gone ↦ ([], tt, gone_passes op next states gone a.1, gone_turns op s next states gone a.1)
        | inr on ↦ (
            let rest = all_mirror states whole w next op on.0 n on.1 on.3 a.1 in
            let before = reads_same whole w s op f n read m in
            let after = reads_same whole w next op on.0 n on.1 on.3 in (
              on.0 ∷ rest.0,
              (on.2, rest.1),
              ap (λ (d : PlainDoing T). cond {A = ℕ} (begins_pass d) 1 0 + passes op states) after ∙ ap (λ (k : ℕ). cond {A = ℕ} (begins_pass (fine_alone.doing_in on.0 n)) 1 0 + k) rest.2,
              ap (λ (d : PlainDoing T). cond {A = ℕ} (is_turn d (read_in next op)) 1 0 + turns op next states) before
                  ∙ (ap (λ (d : PlainDoing T). cond {A = ℕ} (is_turn (fine_alone.doing_in f n) d) 1 0 + turns op next states) after
                  ∙ ap (λ (k : ℕ). cond {A = ℕ} (is_turn (fine_alone.doing_in f n) (fine_alone.doing_in on.0 n)) 1 0 + k) rest.3),
            )
            )
      ]

  -- where it begins

  abbrev Start : ℕ → Call T → Option (View T) → Next T
  Start page call view = started page encode get_epoch set_epoch call view

  begins_reading : (page : ℕ) (call : Call T) → IsReading call → (view : Option (View T)) → ((whole : ReadOp T → Doing T) × IsRead whole × (Start page call view ≡ (whole (read_started world_boundary), None))) ⊎ ((Start page call view).0 ≡ ended)
  begins_reading page (any.Plain calls.Read) is view = inl (_, plain_read, refl)
  begins_reading page (any.View view_calls.Load) is view = inl (_, view_read purposes.Load, refl)
  begins_reading page (any.View (view_calls.Refresh number)) is view = inl (_, view_read purposes.Refresh, refl)
  begins_reading page (any.View (view_calls.HolderRefresh number)) is None = inr refl
  begins_reading page (any.View (view_calls.HolderRefresh number)) is (Some view) = by view.epoch refl
    where
      by : (local : Option ℕ) → view.epoch ≡ local → ((whole : ReadOp T → Doing T) × IsRead whole × (Start page (any.View (view_calls.HolderRefresh number)) (Some view) ≡ (whole (read_started world_boundary), None))) ⊎ ((Start page (any.View (view_calls.HolderRefresh number)) (Some view)).0 ≡ ended)
      by None e = inr (rw e refl)
      by (Some local) e = inl (_, view_read (purposes.HolderRefresh local), rw e refl)
  begins_reading page (any.Plain (calls.Write base value)) is view = absurd is
  begins_reading page (any.Plain (calls.WriteUnchecked base value)) is view = absurd is
  begins_reading page (any.Plain (calls.ReadUnchecked id)) is view = absurd is
  begins_reading page (any.Plain (calls.ReadSeen id)) is view = absurd is
  begins_reading page (any.Plain (calls.ListIds from to)) is view = absurd is
  begins_reading page (any.Plain (calls.Delete id)) is view = absurd is
  begins_reading page (any.Plain (calls.Check id)) is view = absurd is
  begins_reading page (any.Plain (calls.Advance to)) is view = absurd is
  begins_reading page (any.View (view_calls.Init value)) is view = absurd is
  begins_reading page (any.View (view_calls.Update number value)) is view = absurd is
  begins_reading page (any.View (view_calls.Claim number)) is view = absurd is
  begins_reading page (any.View (view_calls.ClaimAt number epoch)) is view = absurd is
  begins_reading page (any.View (view_calls.HolderUpdate number value)) is view = absurd is

  -- What the bounds of plain calls say of such a read, over the files and pages of the state.
  record Bounds (s : State T) (op : ℕ) (states : List (State T)) : Type 0 where
    pub passes_few : passes op states ≤ 2
    pub turns_few : (more : ℕ) → HasPages s.store.files s.page more → turns op s states ≤ 2 * (more + 1)

  module _ (s : State T) (reached : IsReached encode decode get_epoch set_epoch s) (client : ℕ) (call : Call T) where
    known_client : refusal_of encode decode get_epoch set_epoch s (events.Begin client call) ≡ None → is_client s.clients client ≡ true
    known_client allowed =
        let known = is_client s.clients client in
        let may = may_use (seen_of s) client (is_holders call) (view_used call) in
        let later = (not (is_busy (seen_of s) s.trace (view_used call)), faults.ViewBusy) ∷ (is_known_base s.trace (base_seen (seen_of s) call), faults.UnknownBase) ∷ (has_low_boundary s.trace call, faults.BoundaryTooHigh) ∷ (keeps_epoch decode get_epoch s.trace (base_seen (seen_of s) call) call, faults.EpochLowered) ∷ [] in
        (and_parts known may (first_true (known && may) faults.UnknownNumber later allowed)).0

  read_bounds : (s : State T) (reached : IsReached encode decode get_epoch set_epoch s) (client : ℕ) (call : Call T) → IsReading call → (states : List (State T)) → ReadsAlone encode decode get_epoch set_epoch s client call states → Bounds s (next_op s) states
  read_bounds s reached client call is [] a = record { passes_few = omega arith; turns_few = λ more pages. omega arith }
  read_bounds s reached client call is (first ∷ states) a =
      let t = a.0.1 in
      let v = t.step in
      let op = next_op s in
      let one : Operation T = new_operation client call v.next.0 in
      let there : numbered first.operations op ≡ Some one = ap (λ (x : State T). numbered x.operations op) v.state ∙ numbered_new s.operations one in
      elim (begins_reading s.page call is (view_now s call)) [
        | inr ends ↦ (
            let gone : Gone first op = (one, there, ap (λ (x : Next T). x.0) v.starts ∙ ends) in
            let none = gone_passes op first states gone a.1 in
            let no_turns = gone_turns op s first states gone a.1 in
            record { passes_few = omega (arith, none); turns_few = λ more pages. omega (arith, no_turns) }
            )
        | inl starts ↦ (
            let j = reached_joins encode decode get_epoch set_epoch s reached in
            let f = j.fine in
            let n = machine.next_op f in
            let start = read_started world_boundary in
            let next : plain.Next T = (doings.Read start, None) in
            let g = machine.begun_as f client calls.Read next in
            let client_known : is_client f.clients client ≡ true = ap (λ (count : ℕ). is_client count client) j.tie.clients ∙ known_client s reached client call t.allowed in
            let stands : Standing encode decode get_epoch f = record { stands = j.stands; windows = subst AllWindows (sym j.caches) (reached_windows encode decode get_epoch set_epoch s reached) } in
            let m : Mirrors starts.0 first op g n start = record {
              operation = one;
              there = there;
              doing = ap (λ (x : Next T). x.0) (v.starts ∙ starts.2);
              fine = numbered_new f.operations (as_fine client (doings.Read start));
              caches = j.caches ∙ sym (ap (λ (x : State T). x.caches) v.state);
              store = j.tie.store ∙ sym (ap (λ (x : State T). x.store) v.state);
              page = j.tie.page ∙ sym (ap (λ (x : State T). x.page) v.state);
            } in
            let all = all_mirror states starts.0 starts.1 first op g n start m a.1 in
            let alone : fine_alone.ReadsAlone encode decode get_epoch f client (g ∷ all.0) = (
              (told.Began n, record { allowed = ap (λ (b : Bool). first_fault ((b, faults.UnknownNumber) ∷ [])) client_known; step = record { reads_back = tt; word = tt; next = next; starts = refl; tells = refl; state = refl } }),
              all.1,
            ) in
            let same = reads_same starts.0 starts.1 first op g n start m in
            let few = two_passes_from encode decode get_epoch f client (g ∷ all.0) stands alone in
            let first_pass : ◌≡◌ {A = ℕ} (cond (begins_pass (read_in first op)) 1 0) (cond (begins_pass (fine_alone.doing_in g n)) 1 0) = ap (λ (d : PlainDoing T). cond {A = ℕ} (begins_pass d) 1 0) same in
            let is_start : read_in first op ≡ doings.Read start = same ∙ ap fine_alone.doing_of m.fine in
            let own_turn : ◌≡◌ {A = ℕ} (cond (is_turn (read_in s op) (read_in first op)) 1 0) 1 = ap (λ (d : PlainDoing T). cond {A = ℕ} (is_turn (read_in s op) d) 1 0) is_start in
            let fine_turn : ◌≡◌ {A = ℕ} (cond (is_turn (fine_alone.doing_in f n) (fine_alone.doing_in g n)) 1 0) 1 = ap (λ (d : PlainDoing T). cond {A = ℕ} (is_turn (fine_alone.doing_in f n) d) 1 0) (ap fine_alone.doing_of m.fine) in
            record {
              passes_few = omega (arith, few, first_pass, all.2);
              turns_few = λ more pages. (
                  let fine_pages : HasPages f.store.files f.page more = subst (λ (page : ℕ). HasPages f.store.files page more) (sym j.tie.page) (subst (λ (store : StoreState). HasPages store.files s.page more) (sym j.tie.store) pages) in
                  let bound = turns_from encode decode get_epoch f client more (g ∷ all.0) stands alone fine_pages in
                  omega (arith, bound, own_turn, fine_turn, all.3)
                  );
            }
            )
      ]

  pub two_passes : (s : State T) (client : ℕ) (call : Call T) (states : List (State T)) → IsReached encode decode get_epoch set_epoch s → IsReading call → ReadsAlone encode decode get_epoch set_epoch s client call states → passes (next_op s) states ≤ 2
  two_passes s client call states reached is a = (read_bounds s reached client call is states a).passes_few

  pub turns_at_rest : (s : State T) (client : ℕ) (call : Call T) (more : ℕ) (states : List (State T)) → IsReached encode decode get_epoch set_epoch s → IsReading call → ReadsAlone encode decode get_epoch set_epoch s client call states → HasPages s.store.files s.page more → turns (next_op s) s states ≤ 2 * (more + 1)
  turns_at_rest s client call more states reached is a pages = (read_bounds s reached client call is states a).turns_few more pages
