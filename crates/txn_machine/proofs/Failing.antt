-- Store calls that fail keep a world joined.
use Rattle.std.proofs.Common.{◌≡◌, ℕ, suc, ◌+◌, ◌-◌, ◌<◌, ◌≤◌, ◌==◌, ◌&&◌, List, [], ◌∷◌, ◌++◌, length, slice_get, slice_set, Bool, true, false, if◌then◌else◌, Option, Some, None, inl, inr, refl, sym, ap, subst}
use Rattle.std.proofs.lemmas.List.{append-nil}
use Rattle.txn_store.specs.Store.{State as StoreState}
use Rattle.txn_store.specs.Requests.{Serves}
use Rattle.txn_store.specs.declared.request.Request.{Request}
use Rattle.txn_steps.specs.declared.boundary.caches.Caches.{Caches}
use Rattle.txn_history.specs.declared.event.PlainAnswer.TheVariants as plain_answers
use Rattle.txn_history.specs.declared.event.Failure.{Failure}
use Rattle.txn_history.specs.declared.event.Failure.TheVariants as failures
use Rattle.txn_history.specs.declared.event.ToldOf.TheVariants as told
use Rattle.txn_history.specs.declared.trace.RowOf.TheVariants.{Answered}
use Rattle.txn_history.specs.Lists.{numbered}
use Rattle.txn_history.specs.Seen.{Store}
use Rattle.txn_history.specs.GoesOn.{left_loose}
use Rattle.txn_history.specs.Added.{effect_rows}
use Rattle.txn_history.proofs.Lists.{numbered_kept}
use Rattle.txn_machine.specs.declared.plain.doing.PlainDoing.TheVariants as doings
use Rattle.txn_machine.specs.plain.Machine as machine
use Rattle.txn_machine.proofs.plain.Lists.{numbered_append, none_got}
use Rattle.txn_machine.proofs.plain.Stands as machine_stands
use Rattle.txn_machine.proofs.plain.Events as machine_events
use Rattle.txn_history.specs.declared.event.ViewCall.{ViewCall}
use Rattle.txn_history.specs.declared.event.ViewCall.TheVariants as view_calls
use Rattle.txn_history.specs.declared.event.Call.{Call}
use Rattle.txn_history.specs.declared.event.Call.TheVariants as any
use Rattle.txn_history.specs.Trace.{Row, Told, PlainRow}
use Rattle.txn_history.specs.Calls.{view_used}
use Rattle.txn_machine.specs.views.Layer as layer
use Rattle.txn_machine.specs.views.Layer.{Inner, Starts, Writes, Reads, Acts, Change, Keeps, Next, Goes, Ends, look_up, local_of, set_at, turned}
use Rattle.txn_machine.specs.views.Parts as parts
use Rattle.txn_machine.specs.views.Parts.{Inside, is_claim_call, refusing, HasEpoch}
use Rattle.txn_machine.proofs.views.Stands as layer_stands
use Rattle.txn_machine.proofs.views.Takes.{take_stands}
use Rattle.txn_machine.proofs.views.Runs.{tell_stands, step_keeps}
use Rattle.txn_machine.proofs.views.Tables.{set_here}
use Rattle.txn_machine.specs.declared.doing.Operation.{Operation}
use Rattle.txn_machine.specs.declared.doing.Ending.TheVariants as endings
use Rattle.txn_machine.specs.Doing.{refused}
use Rattle.txn_machine.specs.plain.Machine.{effected, failing}
use Rattle.txn_machine.specs.Machine.{State, acted, let_go, FailsFirst, FailsAfter, Fails}
use Rattle.txn_machine.proofs.Joined.{Past, as_laid, as_fine, IsAtWork, Held, LooseAt, Core, Joined, Mid}
use Rattle.txn_machine.proofs.Rows.{core_failed, does_fine, does_row}
use Rattle.txn_machine.proofs.Ending.{end_joins_with, loose_row, gone_on}
use Rattle.txn_machine.proofs.GivingUp.{left_told}
use Rattle.txn_machine.proofs.Goings.{begun_of}
use Rattle.txn_machine.proofs.Matched.{fine_call}
use Rattle.txn_machine.proofs.Leaving.{left_one, leaves_one, numbered_past}
use Rattle.txn_machine.proofs.Reaching.{laid_on, effect_over, core_after, reach_mid, reach_loose, reach_now}
use Rattle.txn_machine.proofs.Serving.{asking}

module _ {T : Type 0} where
  abbrev ends_with : ℕ → Change T → Next T
  ends_with number change = Ends (layer.refused number) change

  abbrev reads_next : Next T
  reads_next = Goes Reads

  abbrev failed_inside : Inside T
  failed_inside = parts.Refused 2

  -- a call on a view is refused, and frees its view, or ends that of a claim
  pub refusing_is : (call : ViewCall T) (number : ℕ) → refusing (any.View call) number ≡ ends_with number (let_go (is_claim_call (any.View call)))
  refusing_is (view_calls.Init value) number = refl
  refusing_is view_calls.Load number = refl
  refusing_is (view_calls.Refresh view) number = refl
  refusing_is (view_calls.Update view value) number = refl
  refusing_is (view_calls.Claim view) number = refl
  refusing_is (view_calls.ClaimAt view epoch) number = refl
  refusing_is (view_calls.HolderRefresh view) number = refl
  refusing_is (view_calls.HolderUpdate view value) number = refl

  pub refusing_epoch : (get_epoch : T → ℕ) (call : ViewCall T) (number : ℕ) → HasEpoch get_epoch (refusing (any.View call) number)
  refusing_epoch get_epoch call number = subst (HasEpoch get_epoch) (sym (refusing_is call number)) tt

  -- what a failed store call makes of it
  failure_is : (get_epoch : T → ℕ) (set_epoch : T → ℕ → T) (call : ViewCall T) (local : Option ℕ) (inner : Inner T) → IsAtWork inner → refusing (any.View call) 2 ≡ parts.taken get_epoch set_epoch (any.View call) local inner (failed_inside)
  failure_is get_epoch set_epoch call local (Writes base value epoch) work = sym (by (is_claim_call (any.View call)))
    where
      by : (claims : Bool) → (if claims && (2 == 5) then reads_next else refusing (any.View call) 2) ≡ refusing (any.View call) 2
      by true = refl
      by false = refl
  failure_is get_epoch set_epoch call local Reads work = refl
  failure_is get_epoch set_epoch call local Starts work = absurd work
  failure_is get_epoch set_epoch call local Acts work = absurd work

module _ {T : Type 0} (decode : List ℕ → Option T) (get_epoch : T → ℕ) (set_epoch : T → ℕ → T) (past : Past T) (s : State T) (op : ℕ) (operation : Operation T) (left : Caches) where
  -- An operation is told that its store call failed. It may leave its request loose.
  failed_joins : (call : Call T) (inner : Inner T) (m : Mid decode get_epoch set_epoch past s op operation call inner machine.told_failure (slice_set s.caches (operation.client - 1) left)) (loose : List (ℕ × Request)) →
      ((k o : ℕ) (request : Request) → numbered loose k ≡ Some (o, request) → LooseAt decode get_epoch m.opened.fine.loose m.opened.fine.trace (m.opened.l.rows ++ Answered op (layer.refused 2) ∷ []) m.opened.owner (set_at m.opened.l.ops op None) m.opened.l.asked o request) →
      Joined decode get_epoch set_epoch past (record (acted s op operation (refused 2) left) { loose = loose })
  failed_joins (any.Plain call) inner m loose loosed =
      let h = m.opened in
      end_joins_with decode get_epoch set_epoch past s op operation (any.Plain call) inner left h (endings.Answers (plain_answers.Refused 2)) (layer.refused 2) Keeps (λ count. refl) refl (λ e client. refl)
      (tell_stands decode get_epoch set_epoch h.l (turned h.l op (as_laid operation.client (any.Plain call) inner) (Ends (layer.refused 2) Keeps)) (record { of = record { op = op; client = operation.client; call = call; inner = inner; runs = h.rest.runs }; answer = plain_answers.Refused 2; fits = m.owes.0; new = refl }))
      m.owes.1 h.core.seen loose loosed
  failed_joins (any.View call) inner m loose loosed =
      let h = m.opened in
      let laid = as_laid operation.client (any.View call) inner in
      let change : Change T = let_go (is_claim_call (any.View call)) in
      let t = take_stands decode get_epoch set_epoch h.l (turned h.l op laid (refusing (any.View call) 2)) h.over
      (record { of = record { op = op; client = operation.client; call = call; inner = inner; runs = h.rest.runs }; answer = failed_inside; fits = m.owes.0; next = refusing (any.View call) 2; makes = inl (failure_is get_epoch set_epoch call (local_of (look_up h.l.views (view_used (any.View call)))) inner m.does.first); has = refusing_epoch get_epoch call 2; new = refl }) in
      let stands = subst (λ (n : Next T). layer_stands.NextStands decode get_epoch set_epoch h.l.failed h.l.rows h.l.views h.l.count op laid n) (refusing_is call 2) t in
      end_joins_with decode get_epoch set_epoch past s op operation (any.View call) inner left h (endings.Answers (plain_answers.Refused 2)) (layer.refused 2) change (λ count. refl) refl (λ e client. refl) stands
      (λ test e. let clash : false ≡ true = e in cc) (left_told h.fine.trace h.l.views (view_used (any.View call)) (is_claim_call (any.View call)) h.core.seen) loose loosed

module _ {T : Type 0} (encode : T → List ℕ) (decode : List ℕ → Option T) (get_epoch : T → ℕ) (set_epoch : T → ℕ → T) (past : Past T) (s : State T) (j : Joined decode get_epoch set_epoch past s) (op : ℕ) (operation : Operation T) (found : numbered s.operations op ≡ Some operation) (held : Held decode get_epoch j.fine.operations j.fine.trace j.l.rows j.owner j.now j.l.ops j.l.views j.l.asked op operation)
    (client : (0 < operation.client) × (operation.client ≤ j.fine.clients)) (caches : Caches) (effect : Option Request) (store' : StoreState) (more : List (ℕ × Request)) where
  abbrev n : ℕ
  n = j.now op

  abbrev kept : List Caches
  kept = slice_set s.caches (operation.client - 1) caches

  abbrev fine' : machine.State T
  fine' = record j.fine { store = store'; caches = kept; operations = machine.with_doing j.fine.operations n (as_fine operation.client held.doing) doings.Ended; loose = j.fine.loose ++ more; failed = j.fine.failed ++ n ∷ []; trace = (j.fine.trace ++ effect_rows n effect) ++ Answered n (plain_answers.Refused 2) ∷ [] }

  abbrev failed' : List ℕ
  failed' = s.failed ++ op ∷ []

  abbrev s' : State T
  s' = record s { store = store'; failed = failed'; trace = s.trace ++ effect_rows op effect }

  -- its fine operation was told so
  fails_mid : (stands : machine_stands.Stands decode get_epoch fine') → Mid decode get_epoch set_epoch past s' op operation held.call held.inner machine.told_failure kept
  fails_mid stands =
      let was = laid_on decode get_epoch set_epoch j.l op effect j.l.failed in
      let over = step_keeps decode get_epoch set_epoch was (record was { failed = was.failed ++ op ∷ [] }) (effect_over decode get_epoch set_epoch past s j op operation found held effect machine.told_failure store' kept (j.fine.loose ++ more) (j.fine.failed ++ n ∷ []) failed' stands)
      (inr (inr (inr (inr (inr (inr (inr (inr (record { op = op; new = refl }))))))))) in
      let begun = begun_of (j.fine.trace ++ effect_rows n effect) n (fine_call held.call held.inner) (does_fine get_epoch j.fine.trace (effect_rows n effect) j.l.rows j.l.asked n op held.call held.inner held.does).called in
      let core = core_failed (j.fine.trace ++ effect_rows n effect) j.fine.failed (j.l.rows ++ effect_rows op effect) j.l.views j.l.failed j.owner (core_after decode get_epoch set_epoch past s j op operation found held effect machine.told_failure store' kept (j.fine.loose ++ more) (j.fine.failed ++ n ∷ []) failed') n op held.owned begun in
      reach_mid decode get_epoch set_epoch past s j op operation found held effect machine.told_failure store' kept (j.fine.loose ++ more) (j.fine.failed ++ n ∷ []) failed' stands
      (subst (λ (f : List ℕ). layer_stands.Stands decode get_epoch set_epoch (laid_on decode get_epoch set_epoch j.l op effect (f ++ op ∷ []))) j.tie.failed over)
      (subst (λ (f : List ℕ). Core (j.fine.trace ++ effect_rows n effect) (j.fine.failed ++ n ∷ []) (j.l.rows ++ effect_rows op effect) j.l.views (f ++ op ∷ []) j.owner) j.tie.failed core)
      (λ k m request e. numbered_kept j.fine.loose more k (m, request) e) client
      (record { clients = j.tie.clients; page = j.tie.page; store = refl; rows = ap (λ (rs : List (Row T)). rs ++ effect_rows op effect) j.tie.rows; failed = refl; views = j.tie.views; count = j.tie.count; next = j.tie.next })

  fails_loose : (stands : machine_stands.Stands decode get_epoch fine') → (fails_mid stands).opened.fine.loose ≡ j.fine.loose ++ more
  unfolding fails_mid
  fails_loose stands = reach_loose decode get_epoch set_epoch past s j op operation found held effect machine.told_failure store' kept (j.fine.loose ++ more) (j.fine.failed ++ n ∷ []) failed' stands _ _ _ _ _

  fails_now : (stands : machine_stands.Stands decode get_epoch fine') → (fails_mid stands).opened.now op ≡ n
  unfolding fails_mid
  fails_now stands = reach_now decode get_epoch set_epoch past s j op operation found held effect machine.told_failure store' kept (j.fine.loose ++ more) (j.fine.failed ++ n ∷ []) failed' stands _ _ _ _ _

  -- the machine as its step leaves it
  stood_as : (store : StoreState) (loose : List (ℕ × Request)) (rows : List (PlainRow T)) → store ≡ store' → loose ≡ j.fine.loose ++ more → rows ≡ j.fine.trace ++ effect_rows n effect →
      machine_stands.Stands decode get_epoch (record j.fine { store = store; caches = slice_set j.fine.caches (operation.client - 1) caches; operations = machine.with_doing j.fine.operations n (as_fine operation.client held.doing) doings.Ended; loose = loose; failed = j.fine.failed ++ n ∷ []; trace = rows ++ Answered n (plain_answers.Refused 2) ∷ [] }) →
      machine_stands.Stands decode get_epoch fine'
  stood_as store loose rows is_store is_loose is_rows st =
      subst (λ (x : StoreState). machine_stands.Stands decode get_epoch (record fine' { store = x })) is_store
      (subst (λ (x : List (ℕ × Request)). machine_stands.Stands decode get_epoch (record fine' { store = store; loose = x })) is_loose
      (subst (λ (x : List (PlainRow T)). machine_stands.Stands decode get_epoch (record fine' { store = store; loose = loose; trace = x ++ Answered n (plain_answers.Refused 2) ∷ [] })) is_rows
      (subst (λ (x : List Caches). machine_stands.Stands decode get_epoch (record fine' { store = store; caches = slice_set x (operation.client - 1) caches; loose = loose; trace = rows ++ Answered n (plain_answers.Refused 2) ∷ [] })) j.caches st)))

  -- it is told so, and leaves these requests loose
  fails_joins : (laid : List (ℕ × Request)) → ((i o : ℕ) (request : Request) → slice_get laid i ≡ Some (o, request) → (o ≡ op) × ((k : ℕ) × (slice_get more k ≡ Some (n, request)))) → (stands : machine_stands.Stands decode get_epoch fine') →
      Joined decode get_epoch set_epoch past (record (acted s' op operation (refused 2) caches) { loose = s.loose ++ laid })
  fails_joins laid mores stands =
      let m = fails_mid stands in
      failed_joins decode get_epoch set_epoch past s' op operation caches held.call held.inner m (s.loose ++ laid)
      (λ k o request e. elim (numbered_append s.loose laid k (o, request) e) [
        | inl old ↦ loose_row decode get_epoch set_epoch past s' op operation held.call held.inner caches m.opened (Answered op (layer.refused 2)) (set_at m.opened.l.ops op None) (gone_on decode get_epoch set_epoch past s' op operation held.call held.inner caches m.opened) k o request old
        | inr new ↦ one_more m (fails_loose stands) (fails_now stands) new.0 o request (mores new.0 o request new.1)
      ])
    where
      one_more : (m : Mid decode get_epoch set_epoch past s' op operation held.call held.inner machine.told_failure kept) → m.opened.fine.loose ≡ j.fine.loose ++ more → m.opened.now op ≡ n → (i o : ℕ) (request : Request) → (o ≡ op) × ((k : ℕ) × (slice_get more k ≡ Some (n, request))) →
          LooseAt decode get_epoch m.opened.fine.loose m.opened.fine.trace (m.opened.l.rows ++ Answered op (layer.refused 2) ∷ []) m.opened.owner (set_at m.opened.l.ops op None) m.opened.l.asked o request
      one_more m is now_is i o request found =
          subst (λ (o' : ℕ). LooseAt decode get_epoch m.opened.fine.loose m.opened.fine.trace (m.opened.l.rows ++ Answered op (layer.refused 2) ∷ []) m.opened.owner (set_at m.opened.l.ops op None) m.opened.l.asked o' request) (sym found.0)
          (record {
            place = suc (length j.fine.loose + found.1.0);
            n = m.opened.now op;
            there = subst (λ (ls : List (ℕ × Request)). numbered ls (suc (length j.fine.loose + found.1.0)) ≡ Some (m.opened.now op, request)) (sym is) (subst (λ (i' : ℕ). numbered (j.fine.loose ++ more) (suc (length j.fine.loose + found.1.0)) ≡ Some (i', request)) (sym now_is) (numbered_past j.fine.loose more found.1.0 (n, request) found.1.1));
            owned = m.owned;
            gone = set_here m.opened.l.ops op None;
            call = held.call;
            inner = held.inner;
            does = does_row get_epoch m.opened.fine.trace m.opened.l.rows (Answered op (layer.refused 2) ∷ []) m.opened.l.asked (m.opened.now op) op held.call held.inner m.does;
          })

module _ {T : Type 0} (encode : T → List ℕ) (decode : List ℕ → Option T) (get_epoch : T → ℕ) (set_epoch : T → ℕ → T) (past : Past T) (s : State T) (j : Joined decode get_epoch set_epoch past s) (op : ℕ) (said : Told T) (new : State T) where
  first_joins : (looses : Bool) → FailsFirst s op said looses new → Joined decode get_epoch set_epoch past new
  first_joins false v =
      let operation = v.operation in
      let h = asking encode decode get_epoch set_epoch past s j op operation (Store v.request) v.caches v.acts in
      let n = j.now op in
      let o = as_fine operation.client h.held.doing in
      let fine = machine.acted (machine.failing j.fine n) n o machine.told_failure v.caches in
      let stood = machine_events.fail_keeps decode get_epoch failures.Before j.fine n (told.Answered n (plain_answers.Refused 2)) fine (record { operation = o; request = v.request; caches = v.caches; acts = h.acts; tells = refl; state = refl }) j.stands in
      let stands = stood_as encode decode get_epoch set_epoch past s j op operation v.acts.found h.held h.client v.caches None s.store [] j.fine.store j.fine.loose j.fine.trace j.tie.store (sym (append-nil j.fine.loose)) (sym (append-nil j.fine.trace)) stood in
      let joined = fails_joins encode decode get_epoch set_epoch past s j op operation v.acts.found h.held h.client v.caches None s.store [] [] (λ i o request e. none_got i (o, request) e) stands in
      subst (λ (x : State T). Joined decode get_epoch set_epoch past x) (sym v.state)
      (subst (λ (ls : List (ℕ × Request)). Joined decode get_epoch set_epoch past (record (acted (failing s op) op operation (refused 2) v.caches) { loose = ls })) (append-nil s.loose)
      (subst (λ (rs : List (Row T)). Joined decode get_epoch set_epoch past (record (acted (record (failing s op) { trace = rs }) op operation (refused 2) v.caches) { loose = s.loose ++ [] })) (append-nil s.trace) joined))
  first_joins true v =
      let operation = v.operation in
      let h = asking encode decode get_epoch set_epoch past s j op operation (Store v.request) v.caches v.acts in
      let n = j.now op in
      let o = as_fine operation.client h.held.doing in
      let fine = machine.acted (machine.failing (machine.loosened j.fine n (Store v.request)) n) n o machine.told_failure v.caches in
      let stood = machine_events.fail_keeps decode get_epoch failures.Loose j.fine n (told.Answered n (plain_answers.Refused 2)) fine (record { operation = o; request = v.request; caches = v.caches; acts = h.acts; tells = refl; state = refl }) j.stands in
      let stands = stood_as encode decode get_epoch set_epoch past s j op operation v.acts.found h.held h.client v.caches None s.store (left_loose n (Some (Store v.request))) j.fine.store (j.fine.loose ++ left_loose n (Some (Store v.request))) j.fine.trace j.tie.store refl (sym (append-nil j.fine.trace)) stood in
      let joined = fails_joins encode decode get_epoch set_epoch past s j op operation v.acts.found h.held h.client v.caches None s.store (left_loose n (Some (Store v.request))) (left_loose op (Some (Store v.request)))
      (λ i o request e. let is = left_one op (Some (Store v.request)) i o request e in (is.0, (0, leaves_one n (Some (Store v.request)) request is.1))) stands
      in
      subst (λ (x : State T). Joined decode get_epoch set_epoch past x) (sym v.state)
      (subst (λ (rs : List (Row T)). Joined decode get_epoch set_epoch past (record (acted (record (failing s op) { trace = rs }) op operation (refused 2) v.caches) { loose = s.loose ++ left_loose op (Some (Store v.request)) })) (append-nil s.trace) joined)

  after_joins : FailsAfter s op said new → Joined decode get_epoch set_epoch past new
  after_joins v =
      let operation = v.call.operation in
      let h = asking encode decode get_epoch set_epoch past s j op operation (Store v.call.request) v.call.caches v.call.acts in
      let n = j.now op in
      let o = as_fine operation.client h.held.doing in
      let serves : Serves v.call.request j.fine.store v.call.reply v.call.store = subst (λ (st : StoreState). Serves v.call.request st v.call.reply v.call.store) (sym j.tie.store) v.call.reaches.serves in
      let effect = machine.effect_of s.store.files v.call.request v.call.reply in
      let fine = machine.acted (machine.failing (machine.effected j.fine n v.call.request v.call.reply v.call.store) n) n o machine.told_failure v.call.caches in
      let stood = machine_events.fail_keeps decode get_epoch failures.After j.fine n (told.Answered n (plain_answers.Refused 2)) fine (record { call = record { operation = o; request = v.call.request; caches = v.call.caches; acts = h.acts; reply = v.call.reply; store = v.call.store; reaches = record { serves = serves; honest = v.call.reaches.honest } }; tells = refl; state = refl }) j.stands in
      let rows = ap (λ (st : StoreState). j.fine.trace ++ effect_rows n (machine.effect_of st.files v.call.request v.call.reply)) j.tie.store in
      let stands = stood_as encode decode get_epoch set_epoch past s j op operation v.call.acts.found h.held h.client v.call.caches effect v.call.store [] v.call.store j.fine.loose (j.fine.trace ++ effect_rows n (machine.effect_of j.fine.store.files v.call.request v.call.reply)) refl (sym (append-nil j.fine.loose)) rows stood in
      let joined = fails_joins encode decode get_epoch set_epoch past s j op operation v.call.acts.found h.held h.client v.call.caches effect v.call.store [] [] (λ i o request e. none_got i (o, request) e) stands in
      subst (λ (x : State T). Joined decode get_epoch set_epoch past x) (sym v.state)
      (subst (λ (ls : List (ℕ × Request)). Joined decode get_epoch set_epoch past (record (acted (failing (effected s op v.call.request v.call.reply v.call.store) op) op operation (refused 2) v.call.caches) { loose = ls })) (append-nil s.loose) joined)

  pub fail_joins : (failure : Failure) → Fails s op failure said new → Joined decode get_epoch set_epoch past new
  fail_joins failures.Before v = first_joins false v
  fail_joins failures.After v = after_joins v
  fail_joins failures.Loose v = first_joins true v
