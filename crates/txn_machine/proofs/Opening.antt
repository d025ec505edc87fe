-- An operation ends with a new view.
use Rattle.std.proofs.Common.{◌≡◌, ◌≢◌, ℕ, zero, suc, ◌+◌, ◌-◌, List, [], ◌∷◌, ◌++◌, length, slice_set, ◌==◌, Option, Some, None, inl, inr, refl, sym, ◌∙◌, ap, subst, arith}
use Rattle.std.proofs.lemmas.List.{length-append, length-set}
use Rattle.std.proofs.lemmas.Bool.{cases_Bool, cases_eq, eq-eqb, ne_eqb}
use Rattle.txn_steps.specs.declared.boundary.caches.Caches.{Caches}
use Rattle.txn_history.specs.declared.trace.RowOf.TheVariants.{Answered}
use Rattle.txn_history.specs.Lists.{numbered}
use Rattle.txn_history.proofs.Lists.{numbered_last, get_other}
use Rattle.txn_history.specs.declared.event.Call.{Call}
use Rattle.txn_history.specs.declared.event.Answer.{Answer}
use Rattle.txn_history.specs.declared.event.Answer.TheVariants as answers
use Rattle.txn_history.specs.Trace.{Row}
use Rattle.txn_history.specs.Calls.{view_used}
use Rattle.txn_steps_views.specs.declared.outcome.Outcome.TheVariants as outcomes
use Rattle.txn_machine.specs.views.Layer.{Used, Inner, Opens, new_view, set_at, turned}
use Rattle.txn_machine.proofs.views.Stands as layer_stands
use Rattle.txn_machine.proofs.views.Tables.{Leaves, set_here, set_other, set_leaves, view_of}
use Rattle.txn_machine.proofs.views.Turns as layer_turns
use Rattle.txn_machine.proofs.views.Goes.{after_goes, turned_goes}
use Rattle.txn_machine.specs.declared.doing.Operation.{Operation}
use Rattle.txn_machine.specs.declared.doing.Ending.{Ending}
use Rattle.txn_machine.specs.declared.doing.Ending.TheVariants as endings
use Rattle.txn_machine.specs.Doing.{ended}
use Rattle.txn_machine.specs.Machine.{State, used_in, used_by, views_after, answer_of, acted, doing_next}
use Rattle.txn_machine.proofs.Joined.{Past, as_laid, IsTold, ViewTold, At, Joined, Open}
use Rattle.txn_machine.proofs.Rows.{core_row, core_views}
use Rattle.txn_machine.proofs.Ending.{answered_row, others_on, loose_row, each_at, gone_on}

module _ {A : Type 0} where
  -- another number than that of one more
  pub numbered_else : (xs : List A) (x : A) (m : ℕ) → m ≢ length xs + 1 → numbered (xs ++ x ∷ []) m ≡ numbered xs m
  numbered_else xs x zero ne = refl
  numbered_else xs x (suc k) ne = get_other xs x k (λ e. ne (omega (arith, e)))

  pub numbered_new : (xs : List A) (x : A) (m : ℕ) → m ≡ length xs + 1 → numbered (xs ++ x ∷ []) m ≡ Some x
  numbered_new xs x m e = (let one : suc (length xs) ≡ m = omega (arith, e) in subst (λ (j : ℕ). numbered (xs ++ x ∷ []) j ≡ Some x) one (numbered_last xs x))

module _ {T : Type 0} where
  abbrev view_answer : ℕ → ℕ → T → Answer T
  view_answer number id value = answers.View number id value

  table_more : (table : ℕ → Option (Used T)) (views : List (Option (Used T))) → ((m : ℕ) → table m ≡ used_by views (Some m)) → (count : ℕ) → count ≡ length views → (new : Used T) (m : ℕ) → set_at table (count + 1) (Some new) m ≡ used_by (views ++ Some new ∷ []) (Some m)
  table_more table views same count is new m =
      elim (cases_eq m (count + 1)) [
        | inl here ↦ rw (eq-eqb m (count + 1) here) (sym (ap used_in (numbered_new views (Some new) m (omega (arith, here, is)))))
        | inr other ↦ rw (ne_eqb m (count + 1) other) (same m ∙ sym (ap used_in (numbered_else views (Some new) m (λ e. other (omega (arith, e, is))))))
      ]

module _ {T : Type 0} (decode : List ℕ → Option T) (get_epoch : T → ℕ) (set_epoch : T → ℕ → T) (past : Past T) (s : State T) (op : ℕ) (operation : Operation T) (call : Call T) (inner : Inner T) (left : Caches) (h : Open decode get_epoch set_epoch past s op operation call inner (slice_set s.caches (operation.client - 1) left))
    (id : ℕ) (value : T) (none : view_used call ≡ None) (stands : layer_stands.NextStands decode get_epoch set_epoch h.l.failed h.l.rows h.l.views h.l.count op (as_laid operation.client call inner) (Opens id value)) (told : IsTold h.fine.trace id) where
  abbrev ending : Ending T
  ending = endings.Comes (outcomes.Viewed id value)

  abbrev after : State T
  after = acted s op operation (ended, Some ending) left

  abbrev new : Used T
  new = new_view operation.client id value

  abbrev row : Row T
  row = Answered op (answers.View (h.l.count + 1) id value)

  abbrev views : ℕ → Option (Used T)
  views = set_at h.l.views (h.l.count + 1) (Some new)

  free : operation.view ≡ None
  free = h.rest.view ∙ none

  views_are : s.views ++ Some new ∷ [] ≡ after.views
  views_are = ap (λ (v : Option ℕ). views_after s.views operation.client v operation.claims (Some ending)) (sym free)

  answer_is : answers.View (h.l.count + 1) id value ≡ answer_of (length s.views) operation.view ending
  answer_is = ap (λ (n : ℕ). view_answer (n + 1) id value) h.tie.count ∙ ap (λ (v : Option ℕ). answer_of (length s.views) v ending) (sym free)

  seen : (number : ℕ) → ViewTold h.fine.trace (views number)
  seen number = elim (cases_Bool (number == h.l.count + 1)) [ inl e ↦ rw e told | inr e ↦ rw e (h.core.seen number) ]

  leaves : (o : ℕ) → Leaves h.l.views views o
  leaves o = set_leaves h.l.views (h.l.count + 1) o (Some new) (λ used there busy. absurd (omega (arith, (view_of decode get_epoch set_epoch h.l h.over (h.l.count + 1) used there).0)))

  pub opens_joins : Joined decode get_epoch set_epoch past after
  opens_joins =
      record {
        fine = h.fine;
        l = turned h.l op (as_laid operation.client call inner) (Opens id value);
        owner = h.owner;
        now = h.now;
        stands = h.stands;
        over = layer_turns.turn_keeps decode get_epoch set_epoch h.l op (as_laid operation.client call inner) (Opens id value) h.over h.rest.runs stands;
        tie = record {
          clients = h.tie.clients;
          page = h.tie.page;
          store = h.tie.store;
          rows = ap (λ (rs : List (Row T)). rs ++ row ∷ []) h.tie.rows ∙ ap (λ (a : Answer T). s.trace ++ answered_row op a ∷ []) answer_is;
          failed = h.tie.failed;
          views = λ m. table_more h.l.views s.views h.tie.views h.l.count h.tie.count new m ∙ ap (λ (vs : List (Option (Used T))). used_by vs (Some m)) views_are;
          count = (let one = h.tie.count in let more = length-append s.views (Some new ∷ []) in omega (arith, one, more)) ∙ ap (λ (vs : List (Option (Used T))). length vs) views_are;
          next = h.tie.next ∙ ap (λ (n : ℕ). n + 1) (sym (length-set s.operations (op - 1) (doing_next operation ended)));
        };
        goes = λ number le. after_goes (past.views number) (h.l.views number) (views number) (h.goes number le) (turned_goes decode get_epoch set_epoch h.l op (as_laid operation.client call inner) (Opens id value) stands number (let more = h.grown in omega (arith, le, more)));
        grown = (let more = h.grown in omega (arith, more));
        caches = h.caches;
        core = core_views h.fine.trace h.fine.failed (h.l.rows ++ row ∷ []) h.l.views h.l.failed h.owner (core_row h.fine.trace h.fine.failed h.l.rows h.l.views h.l.failed h.owner h.core row refl (λ test e. told test e)) views seen;
        rest = record {
          each = each_at decode get_epoch set_epoch past s op operation call inner left h (λ o x. At decode get_epoch h.fine.operations h.fine.trace (h.l.rows ++ row ∷ []) h.owner h.now (set_at h.l.ops op None) views h.l.asked o x) (doing_next operation ended) (inl (refl, set_here h.l.ops op None))
              (others_on decode get_epoch set_epoch past s op operation call inner left h row views (set_at h.l.ops op None) (λ o ne. set_other h.l.ops op None o ne) (λ o ne. leaves o));
          loose = loose_row decode get_epoch set_epoch past s op operation call inner left h row (set_at h.l.ops op None) (gone_on decode get_epoch set_epoch past s op operation call inner left h);
        };
      }
