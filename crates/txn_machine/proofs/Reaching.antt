-- A fine operation takes a look, a reply or a failure, perhaps with an effect on the store: its owner is about to take its turn.
use Rattle.std.proofs.Common.{◌≡◌, ◌≢◌, ℕ, suc, ◌<◌, ◌≤◌, List, [], ◌∷◌, ◌++◌, length, take, true, Option, Some, None, refl, sym, ◌∙◌, ap, subst, arith}
use Rattle.std.proofs.lemmas.List.{append-nil, take-append-le, take_all, length-append}
use Rattle.txn_store.specs.Store.{State as StoreState}
use Rattle.txn_store.specs.declared.request.Request.{Request}
use Rattle.txn_steps.specs.declared.boundary.caches.Caches.{Caches}
use Rattle.txn_history.specs.declared.trace.RowOf.TheVariants.{Effect}
use Rattle.txn_history.specs.Lists.{numbered}
use Rattle.txn_history.specs.History.{boundary}
use Rattle.txn_history.specs.Calls.{was_begun}
use Rattle.txn_machine.specs.plain.PlainHistory as plain_history
use Rattle.txn_history.specs.Added.{answer_rows, effect_rows}
use Rattle.txn_machine.proofs.plain.PlainLegal.{are_moves}
use Rattle.txn_history.proofs.Fronts.{never_falls}
use Rattle.txn_history.proofs.Lists.{get_last}
use Rattle.txn_machine.specs.plain.Doing as plain
use Rattle.txn_machine.specs.plain.Machine as machine
use Rattle.txn_machine.proofs.plain.Lists.{within, numbered_here, numbered_other}
use Rattle.txn_machine.proofs.plain.Stands as machine_stands
use Rattle.txn_history.specs.declared.event.Call.{Call}
use Rattle.txn_history.specs.Trace.{Row, PlainRow}
use Rattle.txn_machine.specs.views.Layer.{Used, Inner, Starts, Writes, Reads, Acts, Layer, with_row}
use Rattle.txn_machine.specs.views.Steps.{Steps}
use Rattle.txn_machine.proofs.views.Stands as layer_stands
use Rattle.txn_machine.proofs.views.Runs.{step_keeps}
use Rattle.txn_machine.specs.declared.doing.Operation.{Operation}
use Rattle.txn_machine.specs.Machine.{State}
use Rattle.txn_machine.proofs.Matched.{fine_call}
use Rattle.txn_machine.proofs.Joined.{Past, as_laid, as_fine, Does, PastAt, Held, At, Core, Tie, Joined, Mid}
use Rattle.txn_machine.proofs.Rows.{core_effect, past_effect, does_fine, does_row}
use Rattle.txn_machine.proofs.Laid.{DueFor, one_fine, effect_step}
use Rattle.txn_machine.proofs.Moved.{at_on, loose_on}
use Rattle.txn_machine.proofs.Going.{history_front, core_answer, past_answer, owes_for}
use Rattle.txn_machine.proofs.Goings.{begun_of}

module _ {T : Type 0} (decode : List ℕ → Option T) (get_epoch : T → ℕ) where
  -- the boundary does not fall with one more row of one history
  pub fine_up : (failed : List ℕ) (fine : List (PlainRow T)) (row : PlainRow T) → plain_history.IsOneHistory decode get_epoch failed (fine ++ row ∷ []) → boundary fine ≤ boundary (fine ++ row ∷ [])
  fine_up failed fine row good =
      let all = fine ++ row ∷ [] in
      let up = never_falls decode get_epoch all (are_moves decode get_epoch failed all good) (length fine) (suc (length fine)) (omega arith) in
      let low : take (length fine) all ≡ fine = take-append-le (length fine) fine (row ∷ []) (omega arith) ∙ take_all (length fine) fine (omega arith) in
      let high : take (suc (length fine)) all ≡ all = take_all (suc (length fine)) all (omega (arith, length-append fine (row ∷ []))) in
      subst (λ (f : List (PlainRow T)). boundary f ≤ boundary all) low (subst (λ (f : List (PlainRow T)). boundary (take (length fine) all) ≤ boundary f) high up)

  -- the last effect of one history is legal
  pub last_effect : (failed : List ℕ) (fine : List (PlainRow T)) (n : ℕ) (request : Request) → plain_history.IsOneHistory decode get_epoch failed (fine ++ Effect n request ∷ []) → plain_history.IsLegal decode get_epoch fine n request
  last_effect failed fine n request good =
      subst (λ (f : List (PlainRow T)). plain_history.IsLegal decode get_epoch f n request) (take-append-le (length fine) fine (Effect n request ∷ []) (omega arith) ∙ take_all (length fine) fine (omega arith))
      (good (length fine) (Effect n request) (get_last fine (Effect n request)))

  -- rows of an effect, where there is one

  pub core_effects : (fine : List (PlainRow T)) (fine_failed : List ℕ) (rows : List (Row T)) (views : ℕ → Option (Used T)) (failed : List ℕ) (owner : ℕ → ℕ) (n op : ℕ) → owner n ≡ op → was_begun fine n ≡ true → (effect : Option Request) → Core fine fine_failed rows views failed owner →
      Core (fine ++ effect_rows n effect) fine_failed (rows ++ effect_rows op effect) views failed owner
  core_effects fine fine_failed rows views failed owner n op own begun None h =
      subst (λ (f : List (PlainRow T)). Core f fine_failed (rows ++ []) views failed owner) (sym (append-nil fine)) (subst (λ (r : List (Row T)). Core fine fine_failed r views failed owner) (sym (append-nil rows)) h)
  core_effects fine fine_failed rows views failed owner n op own begun (Some request) h = core_effect fine fine_failed rows views failed owner h n op request own begun

  pub past_effects : (failed : List ℕ) (owner : ℕ → ℕ) (fine : List (PlainRow T)) (i op n : ℕ) (effect : Option Request) → plain_history.IsOneHistory decode get_epoch failed (fine ++ effect_rows i effect) → (owner i ≡ op → i ≡ n) → PastAt decode owner fine op n → PastAt decode owner (fine ++ effect_rows i effect) op n
  past_effects failed owner fine i op n None good one h = subst (λ (f : List (PlainRow T)). PastAt decode owner f op n) (sym (append-nil fine)) h
  past_effects failed owner fine i op n (Some request) good one h = past_effect decode owner fine i request op n (fine_up failed fine (Effect i request) good) one h

module _ {T : Type 0} (decode : List ℕ → Option T) (get_epoch : T → ℕ) (set_epoch : T → ℕ → T) where
  -- the layer after an effect
  abbrev pub laid_on : Layer T → ℕ → Option Request → List ℕ → Layer T
  laid_on l op effect failed = record { rows = l.rows ++ effect_rows op effect; views = l.views; count = l.count; ops = l.ops; next = l.next; asked = l.asked; failed = failed }

  pub over_effect : (l : Layer T) (op : ℕ) (effect : Option Request) → ((request : Request) → effect ≡ Some request → Steps decode get_epoch set_epoch l (with_row l (Effect op request))) → layer_stands.Stands decode get_epoch set_epoch l → layer_stands.Stands decode get_epoch set_epoch (laid_on l op effect l.failed)
  over_effect l op None step over = subst (λ (rows : List (Row T)). layer_stands.Stands decode get_epoch set_epoch (record l { rows = rows })) (sym (append-nil l.rows)) over
  over_effect l op (Some request) step over = step_keeps decode get_epoch set_epoch l (with_row l (Effect op request)) over (step request refl)

  -- what an operation does now is due
  pub due_of : (l : Layer T) (op client : ℕ) (call : Call T) (inner : Inner T) → l.ops op ≡ Some (as_laid client call inner) → DueFor op inner (l.ops op)
  due_of l op client call inner e = subst (DueFor op inner) (sym e) (by inner)
    where
      by : (i : Inner T) → DueFor op i (Some (as_laid client call i))
      by (Writes base value epoch) = (epoch, refl)
      by Reads = tt
      by Starts = tt
      by Acts = tt

  module _ (past : Past T) (s : State T) (j : Joined decode get_epoch set_epoch past s) (op : ℕ) (operation : Operation T) (found : numbered s.operations op ≡ Some operation) (held : Held decode get_epoch j.fine.operations j.fine.trace j.l.rows j.owner j.now j.l.ops j.l.views j.l.asked op operation)
      (effect : Option Request) (after : plain.Next T) (store' : StoreState) (left : List Caches) (loose' : List (ℕ × Request)) (fine_failed' failed' : List ℕ) where
    abbrev n : ℕ
    n = j.now op

    abbrev fine_effect : List (PlainRow T)
    fine_effect = j.fine.trace ++ effect_rows n effect

    abbrev pub fine_after : machine.State T
    fine_after =
        record j.fine {
          store = store';
          caches = left;
          operations = machine.with_doing j.fine.operations n (as_fine operation.client held.doing) after.0;
          loose = loose';
          failed = fine_failed';
          trace = fine_effect ++ answer_rows n after.1;
        }

    abbrev pub l_after : Layer T
    l_after = laid_on j.l op effect failed'

    abbrev pub s_after : State T
    s_after = record s { store = store'; failed = failed'; trace = s.trace ++ effect_rows op effect }

    begun_fine : was_begun j.fine.trace n ≡ true
    begun_fine = begun_of j.fine.trace n (fine_call held.call held.inner) held.does.called

    -- the effect is one that the layer takes
    pub effect_over : machine_stands.Stands decode get_epoch fine_after → layer_stands.Stands decode get_epoch set_epoch (laid_on j.l op effect j.l.failed)
    effect_over stands = over_effect j.l op effect by j.over
      where
        by : (request : Request) → effect ≡ Some request → Steps decode get_epoch set_epoch j.l (with_row j.l (Effect op request))
        by request e =
            let good = history_front decode get_epoch fine_failed' fine_effect (answer_rows n after.1) stands.know.history.good in
            let legal = last_effect decode get_epoch fine_failed' j.fine.trace n request (subst (λ (x : Option Request). plain_history.IsOneHistory decode get_epoch fine_failed' (j.fine.trace ++ effect_rows n x)) e good) in
            effect_step decode get_epoch set_epoch j.owner j.fine.trace j.l j.core.tied.top n op held.owned held.call held.inner held.does (λ c called. one_fine decode get_epoch j.fine.failed j.fine.trace j.stands.know.history.good n c (fine_call held.call held.inner) called held.does.called)
            (due_of j.l op operation.client held.call held.inner held.runs) request legal

    pub core_after : Core fine_effect j.fine.failed (j.l.rows ++ effect_rows op effect) j.l.views j.l.failed j.owner
    core_after = core_effects decode get_epoch j.fine.trace j.fine.failed j.l.rows j.l.views j.l.failed j.owner n op held.owned begun_fine effect j.core

    module _ (stands' : machine_stands.Stands decode get_epoch fine_after) (over' : layer_stands.Stands decode get_epoch set_epoch l_after) (core' : Core fine_effect fine_failed' (j.l.rows ++ effect_rows op effect) j.l.views failed' j.owner)
        (loose_kept : (k m : ℕ) (request : Request) → numbered j.fine.loose k ≡ Some (m, request) → numbered loose' k ≡ Some (m, request)) (client : (0 < operation.client) × (operation.client ≤ j.fine.clients)) where
      good_effect : plain_history.IsOneHistory decode get_epoch fine_failed' fine_effect
      good_effect = history_front decode get_epoch fine_failed' fine_effect (answer_rows n after.1) stands'.know.history.good

      some_n : 0 < n
      some_n = (within j.fine.operations n (as_fine operation.client held.doing) held.there).0

      does_after : (m o : ℕ) (c : Call T) (i : Inner T) → Does get_epoch j.fine.trace j.l.rows j.l.asked m o c i → Does get_epoch fine_after.trace l_after.rows j.l.asked m o c i
      does_after m o c i d =
          does_fine get_epoch fine_effect (answer_rows n after.1) l_after.rows j.l.asked m o c i
          (does_row get_epoch fine_effect j.l.rows (effect_rows op effect) j.l.asked m o c i (does_fine get_epoch j.fine.trace (effect_rows n effect) j.l.rows j.l.asked m o c i d))

      does_effect : Does get_epoch fine_effect l_after.rows j.l.asked n op held.call held.inner
      does_effect = does_row get_epoch fine_effect j.l.rows (effect_rows op effect) j.l.asked n op held.call held.inner (does_fine get_epoch j.fine.trace (effect_rows n effect) j.l.rows j.l.asked n op held.call held.inner held.does)

      past_at : (o m : ℕ) → (j.owner n ≡ o → n ≡ m) → PastAt decode j.owner j.fine.trace o m → PastAt decode j.owner fine_after.trace o m
      past_at o m one p = past_answer decode get_epoch fine_effect n j.owner o m after.1 (past_effects decode get_epoch fine_failed' j.owner j.fine.trace n o m effect good_effect one p)

      others' : (o : ℕ) → o ≢ op → At decode get_epoch fine_after.operations fine_after.trace l_after.rows j.owner j.now j.l.ops j.l.views j.l.asked o (numbered s.operations o)
      others' o ne =
          at_on decode get_epoch j.fine.operations fine_after.operations j.fine.trace fine_after.trace j.l.rows l_after.rows j.owner j.owner j.now j.now j.l.ops j.l.ops j.l.views j.l.views j.l.asked j.l.asked o (numbered s.operations o)
          (λ gone. gone)
          (λ c call i w. record {
            runs = w.runs;
            there = λ doing e. (
                let apart : j.now o ≢ n = (λ q. ne (sym w.owned ∙ (ap j.owner q ∙ held.owned))) in
                numbered_other j.fine.operations n (j.now o) (as_fine operation.client after.0) some_n apart ∙ e
                );
            owned = w.owned;
            local = refl;
            does = does_after (j.now o) o call i w.does;
            past = past_at o (j.now o) (λ q. absurd (ne (sym q ∙ held.owned))) w.past;
          })
          (j.rest.each o)

      pub reach_mid : (tie : Tie s_after fine_after l_after) → Mid decode get_epoch set_epoch past s_after op operation held.call held.inner after left
      reach_mid tie =
          record {
            opened = record {
              fine = fine_after;
              l = l_after;
              owner = j.owner;
              now = j.now;
              stands = stands';
              over = over';
              tie = tie;
              goes = j.goes;
              grown = j.grown;
              caches = refl;
              core = core_answer decode get_epoch fine_effect n fine_failed' (j.l.rows ++ effect_rows op effect) j.l.views failed' j.owner after.1 core';
              rest = record {
                found = found;
                runs = held.runs;
                view = held.view;
                claims = held.claims;
                others = others';
                loose = λ k o request e. loose_on decode get_epoch j.fine.loose loose' j.fine.trace fine_after.trace j.l.rows l_after.rows j.owner j.owner j.l.ops j.l.ops j.l.asked j.l.asked o request (λ i m there. loose_kept i m request there) (λ m c i d own. own) (λ m c i d gone. gone) (λ m c i d. does_after m o c i d) (j.rest.loose k o request e);
                client = client;
              };
            };
            there = numbered_here j.fine.operations n (as_fine operation.client after.0) (as_fine operation.client held.doing) held.there;
            owned = held.owned;
            does = does_after n op held.call held.inner held.does;
            past = past_at op n (λ q. refl) held.past;
            owes = owes_for decode get_epoch fine_effect n fine_failed' l_after j.owner op core' held.owned held.call held.inner does_effect (past_effects decode get_epoch fine_failed' j.owner j.fine.trace n op n effect good_effect (λ q. refl) held.past) after.1 stands'.know.history.good;
          }

      pub reach_views : (tie : Tie s_after fine_after l_after) → (reach_mid tie).opened.l.views ≡ j.l.views
      unfolding reach_mid
      reach_views tie = refl

      pub reach_page : (tie : Tie s_after fine_after l_after) → (reach_mid tie).opened.fine.page ≡ j.fine.page
      unfolding reach_mid
      reach_page tie = refl

      pub reach_loose : (tie : Tie s_after fine_after l_after) → (reach_mid tie).opened.fine.loose ≡ loose'
      unfolding reach_mid
      reach_loose tie = refl

      pub reach_now : (tie : Tie s_after fine_after l_after) → (reach_mid tie).opened.now op ≡ j.now op
      unfolding reach_mid
      reach_now tie = refl
