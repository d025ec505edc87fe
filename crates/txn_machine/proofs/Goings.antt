-- An operation of the world goes on to its next fine operation, which begins.
use Rattle.std.proofs.Common.{◌≡◌, ◌≢◌, ℕ, suc, List, [], ◌∷◌, ◌++◌, length, slice_get, true, Option, Some, None, refl, sym, ◌∙◌, ap, subst, arith}
use Rattle.std.proofs.lemmas.List.Folds.{list_any_at}
use Rattle.std.proofs.lemmas.Bool.{both_ways, eq-eqb, eqb-true}
use Rattle.std.proofs.lemmas.Option.{slice_get_within, get_or_from_slice_get}
use Rattle.txn_store.specs.declared.request.Request.{Request}
use Rattle.txn_steps.specs.declared.boundary.caches.Caches.{Caches}
use Rattle.txn_history.specs.declared.event.PlainCall.{PlainCall}
use Rattle.txn_history.specs.declared.event.ToldOf.TheVariants as told
use Rattle.txn_history.specs.declared.trace.RowOf.{RowOf}
use Rattle.txn_history.specs.declared.trace.RowOf.TheVariants.{Effect, Begun}
use Rattle.txn_history.specs.Trace.{PlainRow}
use Rattle.txn_history.specs.Lists.{numbered}
use Rattle.txn_history.specs.Calls.{begins, was_begun, IsCall}
use Rattle.txn_machine.specs.plain.PlainHistory as plain_history
use Rattle.txn_history.specs.Facts.{Entered}
use Rattle.txn_history.specs.Added.{told_of, answer_rows}
use Rattle.txn_history.proofs.Lists.{get_last, numbered_kept, numbered_last}
use Rattle.txn_machine.specs.plain.Doing as plain
use Rattle.txn_machine.specs.plain.Machine as machine
use Rattle.txn_machine.proofs.plain.Stands as machine_stands
use Rattle.txn_machine.proofs.plain.World.{opened_keeps}
use Rattle.txn_history.specs.declared.event.Call.{Call}
use Rattle.txn_machine.specs.views.Layer.{Inner, Layer, Goes, noted, set_at, turned}
use Rattle.txn_machine.proofs.views.Inner.{entered_by_owner}
use Rattle.txn_machine.proofs.views.Stands as layer_stands
use Rattle.txn_machine.proofs.views.Stands.{OwnFenced}
use Rattle.txn_machine.proofs.views.Tables.{set_here, set_other, op_of}
use Rattle.txn_machine.proofs.views.Tied.{same_boundary}
use Rattle.txn_machine.proofs.views.Turns as layer_turns
use Rattle.txn_machine.specs.declared.doing.Operation.{Operation}
use Rattle.txn_machine.specs.Machine.{State}
use Rattle.txn_machine.proofs.Matched.{fine_call}
use Rattle.txn_machine.proofs.Joined.{Past, as_laid, as_fine, DoesFirst, Does, PastAt, At, LooseAt, Core, Open, Mid}
use Rattle.txn_machine.proofs.Renamed.{renamed, renamed_here, renamed_other, Unused}
use Rattle.txn_machine.proofs.Rows.{core_fine, core_named, past_fine, past_named, noted_now, does_fine, does_noted}
use Rattle.txn_machine.proofs.Moved.{at_on, loose_on}
use Rattle.txn_machine.proofs.Going.{core_answer, past_answer, owes_for}

module _ {C A : Type 0} where
  pub begun_of : (rows : List (RowOf C A)) (n : ℕ) (call : C) → IsCall rows n call → was_begun rows n ≡ true
  begun_of rows n call c = list_any_at (begins n) rows c.0 (Begun n call) (slice_get_within rows c.0 (Begun n call) c.1) (rw (get_or_from_slice_get rows c.0 (Begun n call) (Begun n call) c.1) (eq-eqb n n refl))

module _ {T : Type 0} where
  has_one : (rows : List (PlainRow T)) (k op : ℕ) (request : Request) → slice_get rows k ≡ Some (Effect op request) → machine_stands.has_effect rows op ≡ true
  has_one rows k op request e = list_any_at (machine_stands.affects op) rows k (Effect op request) (slice_get_within rows k (Effect op request) e) (rw (get_or_from_slice_get rows k (Effect op request) (Effect op request) e) (eq-eqb op op refl))

module _ {T : Type 0} (decode : List ℕ → Option T) (get_epoch : T → ℕ) where
  -- a number that was not given out is of no row
  pub unused_next : (fine : machine.State T) → machine_stands.Stands decode get_epoch fine → Unused fine.trace (machine.next_op fine)
  unused_next fine st =
      let f = st.fresh (machine.next_op fine) (omega arith) in
      record { begun = f.begun; none = λ k request e. both_ways (machine_stands.has_effect fine.trace (machine.next_op fine)) f.none (has_one fine.trace k (machine.next_op fine) request e) }

module _ {T : Type 0} (encode : T → List ℕ) (decode : List ℕ → Option T) (get_epoch : T → ℕ) (set_epoch : T → ℕ → T) (past : Past T) (s : State T) (op : ℕ) (operation : Operation T) (call : Call T) (was inner : Inner T) (left : List Caches) (h : Open decode get_epoch set_epoch past s op operation call was left)
    (start : plain.Next T) (starts : start ≡ plain.started h.fine.page encode (fine_call call inner)) (opens : plain_history.PlainOpens decode get_epoch h.fine.trace (machine.next_op h.fine) (fine_call call inner)) (back : plain.ReadsBack encode decode (fine_call call inner)) (word : plain.FitsWord (fine_call call inner))
    (first : DoesFirst get_epoch call inner) (next : layer_stands.NextStands decode get_epoch set_epoch h.l.failed h.l.rows h.l.views h.l.count op (as_laid operation.client call was) (Goes inner)) (fenced : OwnFenced decode get_epoch set_epoch h.l.rows op) where
  abbrev n : ℕ
  n = machine.next_op h.fine

  abbrev fcall : PlainCall T
  fcall = fine_call call inner

  abbrev fine' : machine.State T
  fine' = machine.begun_as h.fine operation.client fcall start

  abbrev begun : List (PlainRow T)
  begun = h.fine.trace ++ Begun n fcall ∷ []

  abbrev l' : Layer T
  l' = turned h.l op (as_laid operation.client call was) (Goes inner)

  abbrev owner' : ℕ → ℕ
  owner' = renamed h.owner n op

  abbrev now' : ℕ → ℕ
  now' = renamed h.now op n

  unused : Unused h.fine.trace n
  unused = unused_next decode get_epoch h.fine h.stands

  owns : owner' n ≡ op
  owns = renamed_here h.owner n op

  nows : now' op ≡ n
  nows = renamed_here h.now op n

  begun_now : was_begun h.l.rows op ≡ true
  begun_now = (op_of decode get_epoch set_epoch h.l h.over op (as_laid operation.client call was) h.rest.runs).begun

  begun_call : IsCall h.l.rows op call
  begun_call = (op_of decode get_epoch set_epoch h.l h.over op (as_laid operation.client call was) h.rest.runs).called

  stands' : machine_stands.Stands decode get_epoch fine'
  stands' = opened_keeps encode decode get_epoch h.fine operation.client fcall (told_of (told.Began n) n start.1) fine' h.rest.client.0 h.rest.client.1 opens (record { reads_back = back; word = word; next = start; starts = starts; tells = refl; state = refl }) h.stands

  core_begun : Core begun h.fine.failed h.l.rows h.l.views h.l.failed owner'
  core_begun =
      core_fine h.fine.trace h.fine.failed h.l.rows h.l.views h.l.failed owner' (core_named h.fine.trace h.fine.failed h.l.rows h.l.views h.l.failed h.owner h.core n op unused) (Begun n fcall) refl
      (λ m e. subst (λ (o : ℕ). was_begun h.l.rows o ≡ true) (sym (ap owner' (sym (eqb-true n m e)) ∙ owns)) begun_now)

  does_begun : Does get_epoch begun h.l.rows (noted op inner h.l.asked) n op call inner
  does_begun = record { own = begun_call; called = (length h.fine.trace, get_last h.fine.trace (Begun n fcall)); first = first; noted = noted_now h.l.asked op inner }

  past_begun : PastAt decode owner' begun op n
  past_begun = past_fine decode owner' h.fine.trace (Begun n fcall) op n refl by
    where
      by : PastAt decode owner' h.fine.trace op n
      by m k value own ne e =
          let was_own : h.owner m ≡ op = sym (renamed_other h.owner n op m ne) ∙ own in
          let low = same_boundary h.owner h.fine.trace h.l.rows h.core.tied.top in
          let le = fenced k value (subst (λ (o : ℕ). Entered decode h.l.rows o k value) was_own (entered_by_owner decode h.owner h.fine.trace h.l.rows h.core.tied m k value e)) in
          omega (arith, low, le)

  not_next : (m o : ℕ) (c : Call T) (i : Inner T) → Does get_epoch h.fine.trace h.l.rows h.l.asked m o c i → m ≢ n
  not_next m o c i d e = both_ways (was_begun h.fine.trace n) unused.begun (subst (λ (j : ℕ). was_begun h.fine.trace j ≡ true) e (begun_of h.fine.trace m (fine_call c i) d.called))

  fine_grown : (m o : ℕ) (c : Call T) (i : Inner T) → Does get_epoch h.fine.trace h.l.rows h.l.asked m o c i → Does get_epoch fine'.trace h.l.rows (noted op inner h.l.asked) m o c i
  fine_grown m o c i d = does_noted get_epoch fine'.trace h.l.rows h.l.asked m o c i op inner (does_fine get_epoch begun (answer_rows n start.1) h.l.rows h.l.asked m o c i (does_fine get_epoch h.fine.trace (Begun n fcall ∷ []) h.l.rows h.l.asked m o c i d))

  others' : (o : ℕ) → o ≢ op → At decode get_epoch fine'.operations fine'.trace h.l.rows owner' now' (set_at h.l.ops op (Some (as_laid operation.client call inner))) h.l.views (noted op inner h.l.asked) o (numbered s.operations o)
  others' o ne =
      let same : now' o ≡ h.now o = renamed_other h.now op n o ne in
      at_on decode get_epoch h.fine.operations fine'.operations h.fine.trace fine'.trace h.l.rows h.l.rows h.owner owner' h.now now' h.l.ops (set_at h.l.ops op (Some (as_laid operation.client call inner))) h.l.views h.l.views h.l.asked (noted op inner h.l.asked) o (numbered s.operations o)
      (λ gone. set_other h.l.ops op (Some (as_laid operation.client call inner)) o ne ∙ gone)
      (λ client c i w. record {
        runs = set_other h.l.ops op (Some (as_laid operation.client call inner)) o ne ∙ w.runs;
        there = λ doing e. subst (λ (j : ℕ). numbered fine'.operations j ≡ Some (as_fine client doing)) (sym same) (numbered_kept h.fine.operations (as_fine operation.client start.0 ∷ []) (h.now o) (as_fine client doing) e);
        owned = ap owner' same ∙ (renamed_other h.owner n op (h.now o) (not_next (h.now o) o c i w.does) ∙ w.owned);
        local = refl;
        does = subst (λ (j : ℕ). Does get_epoch fine'.trace h.l.rows (noted op inner h.l.asked) j o c i) (sym same) (fine_grown (h.now o) o c i w.does);
        past = subst (λ (j : ℕ). PastAt decode owner' fine'.trace o j) (sym same) (past_answer decode get_epoch begun n owner' o (h.now o) start.1 (past_fine decode owner' h.fine.trace (Begun n fcall) o (h.now o) refl (past_named decode h.owner h.fine.trace n op o (h.now o) unused w.past)));
      })
      (h.rest.others o ne)

  loose' : (k o : ℕ) (request : Request) → numbered s.loose k ≡ Some (o, request) → LooseAt decode get_epoch fine'.loose fine'.trace h.l.rows owner' (set_at h.l.ops op (Some (as_laid operation.client call inner))) (noted op inner h.l.asked) o request
  loose' k o request e =
      loose_on decode get_epoch h.fine.loose fine'.loose h.fine.trace fine'.trace h.l.rows h.l.rows h.owner owner' h.l.ops (set_at h.l.ops op (Some (as_laid operation.client call inner))) h.l.asked (noted op inner h.l.asked) o request
      (λ j m there. there)
      (λ m c i d own. renamed_other h.owner n op m (not_next m o c i d) ∙ own)
      (λ m c i d gone. (
      let apart : o ≢ op = (λ q. let clash : None ≡ Some (as_laid operation.client call was) = sym gone ∙ (ap h.l.ops q ∙ h.rest.runs) in cc) in
      set_other h.l.ops op (Some (as_laid operation.client call inner)) o apart ∙ gone
      ))
      (λ m c i d. fine_grown m o c i d)
      (h.rest.loose k o request e)

  pub fine_begins : Mid decode get_epoch set_epoch past s op operation call inner start left
  fine_begins =
      record {
        opened = record {
          fine = fine';
          l = l';
          owner = owner';
          now = now';
          stands = stands';
          over = layer_turns.turn_keeps decode get_epoch set_epoch h.l op (as_laid operation.client call was) (Goes inner) h.over h.rest.runs next;
          tie = record { clients = h.tie.clients; page = h.tie.page; store = h.tie.store; rows = h.tie.rows; failed = h.tie.failed; views = h.tie.views; count = h.tie.count; next = h.tie.next };
          goes = h.goes;
          grown = h.grown;
          caches = h.caches;
          core = core_answer decode get_epoch begun n h.fine.failed h.l.rows h.l.views h.l.failed owner' start.1 core_begun;
          rest = record {
            found = h.rest.found;
            runs = set_here h.l.ops op (Some (as_laid operation.client call inner));
            view = h.rest.view;
            claims = h.rest.claims;
            others = others';
            loose = loose';
            client = h.rest.client;
          };
        };
        there = subst (λ (j : ℕ). numbered fine'.operations j ≡ Some (as_fine operation.client start.0)) (sym nows) (place (numbered_last h.fine.operations (as_fine operation.client start.0)));
        owned = ap owner' nows ∙ owns;
        does = subst (λ (j : ℕ). Does get_epoch fine'.trace h.l.rows (noted op inner h.l.asked) j op call inner) (sym nows) (does_fine get_epoch begun (answer_rows n start.1) h.l.rows (noted op inner h.l.asked) n op call inner does_begun);
        past = subst (λ (j : ℕ). PastAt decode owner' fine'.trace op j) (sym nows) (past_answer decode get_epoch begun n owner' op n start.1 past_begun);
        owes = owes_for decode get_epoch begun n h.fine.failed l' owner' op core_begun owns call inner does_begun past_begun start.1 stands'.know.history.good;
      }
    where
      place : numbered fine'.operations (suc (length h.fine.operations)) ≡ Some (as_fine operation.client start.0) → numbered fine'.operations n ≡ Some (as_fine operation.client start.0)
      place e = (let one : suc (length h.fine.operations) ≡ n = omega arith in subst (λ (j : ℕ). numbered fine'.operations j ≡ Some (as_fine operation.client start.0)) one e)

  -- it leaves the views, and the size of a page

  pub fine_begins_views : fine_begins.opened.l.views ≡ h.l.views
  unfolding fine_begins
  fine_begins_views = refl

  pub fine_begins_page : fine_begins.opened.fine.page ≡ h.fine.page
  unfolding fine_begins
  fine_begins_page = refl
