-- An operation ends: the world, the machine and the layer stay joined.
use Rattle.std.proofs.Common.{◌≡◌, ◌≢◌, ℕ, ◌+◌, ◌-◌, ◌<◌, List, [], ◌∷◌, ◌++◌, length, set, slice_set, Bool, true, ◌==◌, Option, Some, None, inl, inr, refl, sym, ◌∙◌, ap, subst, arith}
use Rattle.std.specs.List.{list_any}
use Rattle.std.proofs.lemmas.List.{append-nil, length-set}
use Rattle.std.proofs.lemmas.Bool.{cases_Bool, cases_eq, eq-eqb, ne_eqb}
use Rattle.txn_store.specs.declared.request.Request.{Request}
use Rattle.txn_steps.specs.declared.boundary.caches.Caches.{Caches}
use Rattle.txn_history.specs.declared.trace.RowOf.TheVariants.{Answered}
use Rattle.txn_history.specs.Lists.{numbered}
use Rattle.txn_machine.specs.plain.PlainHistory.{tells as plain_tells}
use Rattle.txn_machine.proofs.plain.Lists.{within, numbered_here, numbered_other}
use Rattle.txn_history.specs.declared.event.Call.{Call}
use Rattle.txn_history.specs.declared.event.Answer.{Answer}
use Rattle.txn_history.specs.Trace.{Row}
use Rattle.txn_history.specs.Calls.{tells_id, view_used}
use Rattle.txn_machine.specs.views.Layer as layer
use Rattle.txn_machine.specs.views.Layer.{Used, Inner, Asked, Layer, Change, Ends, changed, look_up, set_at, set_used, turned, views_changed}
use Rattle.txn_machine.proofs.views.Stands as layer_stands
use Rattle.txn_machine.proofs.views.Stands.{Uses}
use Rattle.txn_machine.proofs.views.Tables.{set_here, Leaves, set_other, used_leaves, alone, op_of}
use Rattle.txn_machine.proofs.views.Turns as layer_turns
use Rattle.txn_machine.proofs.views.Goes.{after_goes, turned_goes}
use Rattle.txn_machine.specs.declared.doing.Operation.{Operation}
use Rattle.txn_machine.specs.declared.doing.Ending.{Ending}
use Rattle.txn_machine.specs.Doing.{ended}
use Rattle.txn_machine.specs.views.Parts.{is_claim_call}
use Rattle.txn_machine.specs.Machine.{State, used_in, used_by, views_after, change_of, made_by, answer_of, acted, doing_next}
use Rattle.txn_machine.proofs.Joined.{Past, as_laid, ViewTold, At, LooseAt, Joined, Open}
use Rattle.txn_machine.proofs.Rows.{core_row, core_views, does_row}
use Rattle.txn_machine.proofs.Moved.{at_on, loose_on, local_left}

module _ {T : Type 0} where
  abbrev pub answered_row : ℕ → Answer T → Row T
  answered_row op answer = Answered op answer

  -- views as a list, and as a table

  pub used_there : (views : List (Option (Used T))) (number : ℕ) (used : Used T) → used_by views (Some number) ≡ Some used → numbered views number ≡ Some (Some used)
  used_there views number used e = by (numbered views number) e
    where
      by : (found : Option (Option (Used T))) → used_in found ≡ Some used → found ≡ Some (Some used)
      by None e = cc
      by (Some x) e = ap (λ (y : Option (Used T)). Some y) e

  pub used_set : (views : List (Option (Used T))) (number : ℕ) (old new : Option (Used T)) → numbered views number ≡ Some old → (m : ℕ) → set_at (λ n. used_by views (Some n)) number new m ≡ used_by (slice_set views (number - 1) new) (Some m)
  used_set views number old new e m =
      elim (cases_eq m number) [
        | inl same ↦ rw (eq-eqb m number same) (sym (subst (λ (n : ℕ). used_in (numbered (set views (number - 1) new) n) ≡ new) (sym same) (ap used_in (numbered_here views number new old e))))
        | inr other ↦ rw (ne_eqb m number other) (sym (ap used_in (numbered_other views number m new (within views number old e).0 other)))
      ]

  set_table : (table other : ℕ → Option (Used T)) (number : ℕ) (new : Option (Used T)) → ((m : ℕ) → table m ≡ other m) → (m : ℕ) → set_at table number new m ≡ set_at other number new m
  set_table table other number new same m = elim (cases_Bool (m == number)) [ inl e ↦ rw e refl | inr e ↦ rw e (same m) ]

  -- the views after a change of one
  pub changed_used : (table : ℕ → Option (Used T)) (views : List (Option (Used T))) → ((m : ℕ) → table m ≡ used_by views (Some m)) → (number : ℕ) (used : Used T) → table number ≡ Some used → (change : Change T) (m : ℕ) →
      set_at table number (changed (table number) change) m ≡ used_by (slice_set views (number - 1) (changed (used_by views (Some number)) change)) (Some m)
  changed_used table views same number used there change m =
      let old = used_there views number used (sym (same number) ∙ there) in
      let new : Option (Used T) = changed (table number) change in
      set_table table (λ n. used_by views (Some n)) number new same m
      ∙ (used_set views number (Some used) new old m
      ∙ ap (λ (x : Option (Used T)). used_by (slice_set views (number - 1) (changed x change)) (Some m)) (same number))

module _ {T : Type 0} (rows : List (Row T)) (table : ℕ → Option (Used T)) (views : List (Option (Used T))) (same : (m : ℕ) → table m ≡ used_by views (Some m)) (op client : ℕ) (o : layer.Operation T) (change : Change T) (claims : Bool) (ending : Ending T) where
  -- where an operation ends
  ended_views : (view : Option ℕ) → Uses rows table op o view → change_of claims ending ≡ change → (view ≡ None → made_by client ending ≡ []) → (m : ℕ) → set_used table view (changed (look_up table view) change) m ≡ used_by (views_after views client view claims (Some ending)) (Some m)
  ended_views None uses is quiet m = same m ∙ ap (λ (vs : List (Option (Used T))). used_by vs (Some m)) (sym (ap (λ (more : List (Option (Used T))). views ++ more) (quiet refl) ∙ append-nil views))
  ended_views (Some number) uses is quiet m =
      changed_used table views same number uses.used uses.there change m
      ∙ ap (λ (c : Change T). used_by (slice_set views (number - 1) (changed (used_by views (Some number)) c)) (Some m)) (sym is)

  ended_count : (view : Option ℕ) → (view ≡ None → made_by client ending ≡ []) → length views ≡ length (views_after views client view claims (Some ending))
  ended_count None quiet = ap (λ (vs : List (Option (Used T))). length vs) (sym (ap (λ (more : List (Option (Used T))). views ++ more) (quiet refl) ∙ append-nil views))
  ended_count (Some number) quiet = sym (length-set views (number - 1) (changed (used_by views (Some number)) (change_of claims ending)))

module _ {T : Type 0} (decode : List ℕ → Option T) (get_epoch : T → ℕ) (set_epoch : T → ℕ → T) (past : Past T) (s : State T) (op : ℕ) (operation : Operation T) (call : Call T) (inner : Inner T) (left : Caches) (h : Open decode get_epoch set_epoch past s op operation call inner (slice_set s.caches (operation.client - 1) left)) where
  abbrev laid : layer.Operation T
  laid = as_laid operation.client call inner

  some_op : 0 < op
  some_op = (within s.operations op operation h.rest.found).0

  -- the others, in a layer with one more row where this operation is none, or is another, and which left their views
  pub others_on : (row : Row T) (views : ℕ → Option (Used T)) (ops : ℕ → Option (layer.Operation T)) → ((o : ℕ) → o ≢ op → ops o ≡ h.l.ops o) → ((o : ℕ) → o ≢ op → Leaves h.l.views views o) → (o : ℕ) → o ≢ op → At decode get_epoch h.fine.operations h.fine.trace (h.l.rows ++ row ∷ []) h.owner h.now ops views h.l.asked o (numbered s.operations o)
  others_on row views ops same leaves o ne =
      at_on decode get_epoch h.fine.operations h.fine.operations h.fine.trace h.fine.trace h.l.rows (h.l.rows ++ row ∷ []) h.owner h.owner h.now h.now h.l.ops ops h.l.views views h.l.asked h.l.asked o (numbered s.operations o)
      (λ gone. same o ne ∙ gone)
      (λ client c i w. record {
        runs = same o ne ∙ w.runs;
        there = λ doing e. e;
        owned = w.owned;
        local = local_left decode get_epoch set_epoch h.l h.over views o (leaves o ne) client c i w.runs;
        does = does_row get_epoch h.fine.trace h.l.rows (row ∷ []) h.l.asked (h.now o) o c i w.does;
        past = w.past;
      })
      (h.rest.others o ne)

  pub loose_row : (row : Row T) (ops : ℕ → Option (layer.Operation T)) → ((o : ℕ) → h.l.ops o ≡ None → ops o ≡ None) → (k o : ℕ) (request : Request) → numbered s.loose k ≡ Some (o, request) → LooseAt decode get_epoch h.fine.loose h.fine.trace (h.l.rows ++ row ∷ []) h.owner ops h.l.asked o request
  loose_row row ops gone k o request e =
      loose_on decode get_epoch h.fine.loose h.fine.loose h.fine.trace h.fine.trace h.l.rows (h.l.rows ++ row ∷ []) h.owner h.owner h.l.ops ops h.l.asked h.l.asked o request (λ j n there. there) (λ n c i d own. own) (λ n c i d was. gone o was) (λ n c i d. does_row get_epoch h.fine.trace h.l.rows (row ∷ []) h.l.asked n o c i d) (h.rest.loose k o request e)

  -- the operation at its own place, and the others at theirs
  pub each_at : (P : ℕ → Option (Operation T) → Type 0) (new : Operation T) → P op (Some new) → ((o : ℕ) → o ≢ op → P o (numbered s.operations o)) → (o : ℕ) → P o (numbered (slice_set s.operations (op - 1) new) o)
  each_at P new here others o =
      elim (cases_eq o op) [
        | inl same ↦ subst (λ (n : ℕ). P n (numbered (set s.operations (op - 1) new) n)) (sym same) (subst (P op) (sym (numbered_here s.operations op new operation h.rest.found)) here)
        | inr apart ↦ subst (P o) (sym (numbered_other s.operations op o new some_op apart)) (others o apart)
      ]

  ends_leaves : (new : Option (Used T)) (o : ℕ) → o ≢ op → Leaves h.l.views (set_used h.l.views (view_used call) new) o
  ends_leaves new o ne = used_leaves h.l.views o (view_used call) new (alone h.l.rows h.l.views op o laid ne (view_used call) (op_of decode get_epoch set_epoch h.l h.over op laid h.rest.runs).uses)

  pub gone_on : (o : ℕ) → h.l.ops o ≡ None → set_at h.l.ops op None o ≡ None
  gone_on o e = elim (cases_Bool (o == op)) [ inl q ↦ rw q refl | inr q ↦ rw q e ]

  module _ (ending : Ending T) (answer : Answer T) (change : Change T) (answers : (count : ℕ) → answer_of count (view_used call) ending ≡ answer) (changes : change_of (is_claim_call call) ending ≡ change) (quiet : view_used call ≡ None → (client : ℕ) → made_by client ending ≡ [])
      (stands : layer_stands.NextStands decode get_epoch set_epoch h.l.failed h.l.rows h.l.views h.l.count op laid (Ends answer change))
      (told : (test : ℕ → Bool) → tells_id test answer ≡ true → list_any (plain_tells test) h.fine.trace ≡ true) (seen : (number : ℕ) → ViewTold h.fine.trace (views_changed h.l call change number)) where
    abbrev after : State T
    after = acted s op operation (ended, Some ending) left

    abbrev l' : Layer T
    l' = turned h.l op laid (Ends answer change)

    abbrev row : Row T
    row = Answered op answer

    views_same : (m : ℕ) → views_changed h.l call change m ≡ used_by after.views (Some m)
    views_same m =
        let uses = (op_of decode get_epoch set_epoch h.l h.over op laid h.rest.runs).uses in
        ended_views h.l.rows h.l.views s.views h.tie.views op operation.client laid change (is_claim_call call) ending (view_used call) uses changes (λ e. quiet e operation.client) m
        ∙ ap (λ (v : Option ℕ). used_by (views_after s.views operation.client v (is_claim_call call) (Some ending)) (Some m)) (sym h.rest.view)
        ∙ ap (λ (b : Bool). used_by (views_after s.views operation.client operation.view b (Some ending)) (Some m)) (sym h.rest.claims)

    count_same : h.l.count ≡ length after.views
    count_same =
        h.tie.count
        ∙ ended_count h.l.rows h.l.views s.views h.tie.views op operation.client laid change (is_claim_call call) ending (view_used call) (λ e. quiet e operation.client)
        ∙ ap (λ (v : Option ℕ). length (views_after s.views operation.client v (is_claim_call call) (Some ending))) (sym h.rest.view)
        ∙ ap (λ (b : Bool). length (views_after s.views operation.client operation.view b (Some ending))) (sym h.rest.claims)

    row_same : row ≡ answered_row op (answer_of (length s.views) operation.view ending)
    row_same = ap (answered_row op) (sym (answers (length s.views)) ∙ ap (λ (v : Option ℕ). answer_of (length s.views) v ending) (sym h.rest.view))

    -- with these loose requests, which may be its own
    pub end_joins_with : (loose : List (ℕ × Request)) → ((k o : ℕ) (request : Request) → numbered loose k ≡ Some (o, request) → LooseAt decode get_epoch h.fine.loose h.fine.trace (h.l.rows ++ row ∷ []) h.owner (set_at h.l.ops op None) h.l.asked o request) → Joined decode get_epoch set_epoch past (record after { loose = loose })
    end_joins_with loose loosed =
        record {
          fine = h.fine;
          l = l';
          owner = h.owner;
          now = h.now;
          stands = h.stands;
          over = layer_turns.turn_keeps decode get_epoch set_epoch h.l op laid (Ends answer change) h.over h.rest.runs stands;
          tie = record {
            clients = h.tie.clients;
            page = h.tie.page;
            store = h.tie.store;
            rows = ap (λ (rs : List (Row T)). rs ++ row ∷ []) h.tie.rows ∙ ap (λ (r : Row T). s.trace ++ r ∷ []) row_same;
            failed = h.tie.failed;
            views = views_same;
            count = count_same;
            next = h.tie.next ∙ ap (λ (n : ℕ). n + 1) (sym (length-set s.operations (op - 1) (doing_next operation ended)));
          };
          goes = λ number le. after_goes (past.views number) (h.l.views number) (views_changed h.l call change number) (h.goes number le) (turned_goes decode get_epoch set_epoch h.l op laid (Ends answer change) stands number (let more = h.grown in omega (arith, le, more)));
          grown = h.grown;
          caches = h.caches;
          core = core_views h.fine.trace h.fine.failed (h.l.rows ++ row ∷ []) h.l.views h.l.failed h.owner (core_row h.fine.trace h.fine.failed h.l.rows h.l.views h.l.failed h.owner h.core row refl told) (views_changed h.l call change) seen;
          rest = record {
            each = each_at (λ o x. At decode get_epoch h.fine.operations h.fine.trace (h.l.rows ++ row ∷ []) h.owner h.now (set_at h.l.ops op None) (views_changed h.l call change) h.l.asked o x) (doing_next operation ended) (inl (refl, set_here h.l.ops op None))
                (others_on row (views_changed h.l call change) (set_at h.l.ops op None) (λ o ne. set_other h.l.ops op None o ne) (λ o ne. ends_leaves (changed (look_up h.l.views (view_used call)) change) o ne));
            loose = loosed;
          };
        }

    pub end_joins : Joined decode get_epoch set_epoch past after
    end_joins = end_joins_with s.loose (loose_row row (set_at h.l.ops op None) gone_on)
