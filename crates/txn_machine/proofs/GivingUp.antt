-- Give-ups and landings keep a world joined.
use Rattle.std.proofs.Common.{◌≡◌, ◌≢◌, ℕ, suc, ◌+◌, ◌-◌, List, [], ◌∷◌, ◌++◌, length, set, slice_set, slice_get, zero, is_some, Bool, true, false, ◌==◌, if◌then◌else◌, Option, Some, None, inl, inr, refl, sym, ◌∙◌, ap, subst, arith}
use Rattle.std.proofs.lemmas.List.{append-nil, length-set}
use Rattle.std.proofs.lemmas.Bool.{cases_Bool, cases_eq}
use Rattle.std.proofs.lemmas.Option.{same_Some}
use Rattle.txn_store.specs.Store.{State as StoreState}
use Rattle.txn_store.specs.Requests.{Serves}
use Rattle.txn_store.specs.declared.request.Request.{Request}
use Rattle.txn_steps.specs.declared.boundary.caches.Caches.{Caches}
use Rattle.txn_history.specs.declared.event.ToldOf.TheVariants as told
use Rattle.txn_history.specs.Lists.{numbered}
use Rattle.txn_history.specs.GoesOn.{left_loose}
use Rattle.txn_machine.specs.plain.PlainHistory as plain_history
use Rattle.txn_history.specs.Added.{effect_rows}
use Rattle.txn_history.proofs.Lists.{numbered_kept}
use Rattle.txn_machine.specs.declared.plain.doing.PlainDoing.TheVariants as doings
use Rattle.txn_machine.specs.plain.Machine as machine
use Rattle.txn_machine.proofs.plain.Lists.{within, numbered_here, numbered_other, numbered_append}
use Rattle.txn_machine.proofs.plain.Stands as machine_stands
use Rattle.txn_machine.proofs.plain.States.{at_place}
use Rattle.txn_machine.proofs.plain.Events.{give_up_keeps, land_keeps}
use Rattle.txn_history.specs.declared.event.Call.{Call}
use Rattle.txn_history.specs.Trace.{Row, Told, PlainRow}
use Rattle.txn_history.specs.Calls.{view_used}
use Rattle.txn_machine.specs.views.Layer as layer
use Rattle.txn_machine.specs.views.Layer.{Used, Inner, Starts, Writes, Reads, Acts, Change, Keeps as Frees, Closes, changed, look_up, local_of, set_at, set_used, views_changed}
use Rattle.txn_machine.specs.views.Parts.{is_claim_call}
use Rattle.txn_machine.specs.views.Steps.{Steps}
use Rattle.txn_machine.proofs.views.Stands.{Uses}
use Rattle.txn_machine.proofs.views.Runs.{step_keeps}
use Rattle.txn_machine.proofs.views.Goes.{after_goes, step_goes}
use Rattle.txn_machine.proofs.views.Tables.{Leaves, set_here, set_other, used_leaves, alone, op_of}
use Rattle.txn_machine.specs.declared.doing.Operation.{Operation}
use Rattle.txn_machine.specs.Doing.{ended}
use Rattle.txn_machine.specs.Machine as world
use Rattle.txn_machine.specs.Machine.{State, used_by, let_go, doing_next, GivesUp, Lands}
use Rattle.txn_machine.proofs.Matched.{fine_call}
use Rattle.txn_machine.proofs.Joined.{Past, as_laid, as_fine, ViewTold, Does, At, LooseAt, Joined}
use Rattle.txn_machine.proofs.Rows.{core_views, does_fine, does_row}
use Rattle.txn_machine.proofs.Laid.{DueFor, one_fine, effect_step}
use Rattle.txn_machine.proofs.Moved.{at_on, loose_on, local_left}
use Rattle.txn_machine.proofs.Alike.{matched_same}
use Rattle.txn_machine.proofs.Ending.{changed_used}
use Rattle.txn_machine.proofs.Turned.{views_told}
use Rattle.txn_machine.proofs.Goings.{begun_of}
use Rattle.txn_machine.proofs.Leaving.{left_one, leaves_one, numbered_past}
use Rattle.txn_machine.proofs.Reaching.{laid_on, over_effect, core_effects, past_effects, last_effect}
use Rattle.txn_machine.proofs.Serving.{held_of}

module _ {T : Type 0} where
  -- what a give-up makes of a view
  abbrev pub let_go_of : Bool → Change T
  let_go_of claims = if claims then Closes else Frees

  pub left_told : (rows : List (PlainRow T)) (views : ℕ → Option (Used T)) (view : Option ℕ) (claims : Bool) → ((number : ℕ) → ViewTold rows (views number)) → (number : ℕ) → ViewTold rows (set_used views view (changed (look_up views view) (let_go_of claims)) number)
  left_told rows views view true h number = views_told rows views view Closes tt h number
  left_told rows views view false h number = views_told rows views view Frees tt h number

  left_views : (rows : List (Row T)) (table : ℕ → Option (Used T)) (views : List (Option (Used T))) → ((m : ℕ) → table m ≡ used_by views (Some m)) → (op : ℕ) (o : layer.Operation T) (change : Change T) (view : Option ℕ) → Uses rows table op o view → (m : ℕ) →
      set_used table view (changed (look_up table view) change) m ≡ used_by (world.views_changed views view change) (Some m)
  left_views rows table views same op o change None uses m = same m
  left_views rows table views same op o change (Some number) uses m = changed_used table views same number uses.used uses.there change m

  left_count : (views : List (Option (Used T))) (change : Change T) (view : Option ℕ) → length views ≡ length (world.views_changed views view change)
  left_count views change None = refl
  left_count views change (Some number) = sym (length-set views (number - 1) (changed (used_by views (Some number)) change))

get_set_id : {A : Type 0} (xs : List A) (k : ℕ) (x : A) → slice_get xs k ≡ Some x → set xs k x ≡ xs
get_set_id [] k x e = cc
get_set_id (y ∷ ys) zero x e = ap (λ (z : _). z ∷ ys) (sym (same_Some y x e))
get_set_id (y ∷ ys) (suc k) x e = ap (λ (zs : _). y ∷ zs) (get_set_id ys k x e)

-- an element that is set once more
pub set_id : {A : Type 0} (xs : List A) (n : ℕ) (x : A) → numbered xs n ≡ Some x → slice_set xs (n - 1) x ≡ xs
set_id xs zero x e = cc
set_id xs (suc n) x e = let same : suc n - 1 ≡ n = omega arith in subst (λ (k : ℕ). set xs k x ≡ xs) (sym same) (get_set_id xs n x e)

module _ {T : Type 0} (encode : T → List ℕ) (decode : List ℕ → Option T) (get_epoch : T → ℕ) (set_epoch : T → ℕ → T) (past : Past T) (s : State T) (j : Joined decode get_epoch set_epoch past s) where
  -- a give-up
  pub give_up_joins : (op : ℕ) (said : Told T) (new : State T) → GivesUp s op said new → Joined decode get_epoch set_epoch past new
  give_up_joins op said new v =
      let operation = v.operation in
      let held = held_of encode decode get_epoch set_epoch past s j op operation v.ask v.found v.asks in
      let call = held.call in
      let laid = as_laid operation.client call held.inner in
      let n = j.now op in
      let o = as_fine operation.client held.doing in
      let same = matched_same get_epoch call (local_of (look_up j.l.views (view_used call))) held.inner operation.doing held.doing held.matched in
      let at = at_place decode get_epoch j.fine n o j.stands held.there in
      let operations = machine.with_doing j.fine.operations n o doings.Ended in
      let fine = machine.acted (machine.loosened j.fine n v.ask) n o machine.given_up at.0 in
      let fine' = record j.fine { operations = operations; loose = j.fine.loose ++ left_loose n (Some v.ask) } in
      let stood = give_up_keeps decode get_epoch j.fine n (told.GaveUp n) fine (record { operation = o; ask = v.ask; caches = at.0; acts = record { found = held.there; asks = sym same.asks ∙ v.asks; kept = at.1 }; tells = refl; state = refl }) j.stands in
      let stands : machine_stands.Stands decode get_epoch fine' =
      subst (λ (cs : List Caches). machine_stands.Stands decode get_epoch (record fine' { caches = cs })) (set_id j.fine.caches operation.client at.0 at.1)
      (subst (λ (tr : List (PlainRow T)). machine_stands.Stands decode get_epoch (record fine { trace = tr })) (append-nil j.fine.trace) stood)
      in
      let change : Change T = if is_claim_call call then Closes else Frees in
      let views = views_changed j.l call change in
      let own = op_of decode get_epoch set_epoch j.l j.over op laid held.runs in
      let step : Steps decode get_epoch set_epoch j.l (record j.l { views = views; ops = set_at j.l.ops op None }) = (inr (inr (inr (inr (inr (inr (inl (record { op = op; o = laid; runs = held.runs; new = refl })))))))) in
      let over = step_keeps decode get_epoch set_epoch j.l (record j.l { views = views; ops = set_at j.l.ops op None }) j.over step in
      let goes : let_go operation.claims ≡ change = ap let_go held.claims in
      let some_n = (within j.fine.operations n o held.there).0 in
      let some_op = (within s.operations op operation v.found).0 in
      let leaves : (i : ℕ) → i ≢ op → Leaves j.l.views views i = λ i ne. used_leaves j.l.views i (view_used call) (changed (look_up j.l.views (view_used call)) change) (alone j.l.rows j.l.views op i laid ne (view_used call) own.uses) in
      let goneness : (i : ℕ) → j.l.ops i ≡ None → set_at j.l.ops op None i ≡ None = λ i e. elim (cases_Bool (i == op)) [ inl q ↦ rw q refl | inr q ↦ rw q e ] in
      subst (λ (x : State T). Joined decode get_epoch set_epoch past x) (sym v.state)
      (record {
        fine = fine';
        l = record j.l { views = views; ops = set_at j.l.ops op None };
        owner = j.owner;
        now = j.now;
        stands = stands;
        over = over;
        tie = record {
          clients = j.tie.clients;
          page = j.tie.page;
          store = j.tie.store;
          rows = j.tie.rows;
          failed = j.tie.failed;
          views = λ m. left_views j.l.rows j.l.views s.views j.tie.views op laid change (view_used call) own.uses m ∙ (ap (λ (c : Change T). used_by (world.views_changed s.views (view_used call) c) (Some m)) (sym goes) ∙ ap (λ (v' : Option ℕ). used_by (world.views_changed s.views v' (let_go operation.claims)) (Some m)) (sym held.view));
          count = j.tie.count ∙ left_count s.views (let_go operation.claims) operation.view;
          next = j.tie.next ∙ ap (λ (i : ℕ). i + 1) (sym (length-set s.operations (op - 1) (doing_next operation ended)));
        };
        goes = λ number le. after_goes (past.views number) (j.l.views number) (views number) (j.goes number le) (step_goes decode get_epoch set_epoch j.l (record j.l { views = views; ops = set_at j.l.ops op None }) j.over step number (let more = j.grown in omega (arith, le, more)));
        grown = j.grown;
        caches = j.caches;
        core = core_views j.fine.trace j.fine.failed j.l.rows j.l.views j.l.failed j.owner j.core views (left_told j.fine.trace j.l.views (view_used call) (is_claim_call call) j.core.seen);
        rest = record {
          each = λ i. elim (cases_eq i op) [
            | inl q ↦ subst (λ (k : ℕ). At decode get_epoch operations j.fine.trace j.l.rows j.owner j.now (set_at j.l.ops op None) views j.l.asked k (numbered (set s.operations (op - 1) (doing_next operation ended)) k)) (sym q)
                (subst (λ (x : Option (Operation T)). At decode get_epoch operations j.fine.trace j.l.rows j.owner j.now (set_at j.l.ops op None) views j.l.asked op x) (sym (numbered_here s.operations op (doing_next operation ended) operation v.found)) (inl (refl, set_here j.l.ops op None)))
            | inr ne ↦ subst (λ (x : Option (Operation T)). At decode get_epoch operations j.fine.trace j.l.rows j.owner j.now (set_at j.l.ops op None) views j.l.asked i x) (sym (numbered_other s.operations op i (doing_next operation ended) some_op ne))
                (at_on decode get_epoch j.fine.operations operations j.fine.trace j.fine.trace j.l.rows j.l.rows j.owner j.owner j.now j.now j.l.ops (set_at j.l.ops op None) j.l.views views j.l.asked j.l.asked i (numbered s.operations i) (goneness i)
                (λ client c inner w. record {
                  runs = set_other j.l.ops op None i ne ∙ w.runs;
                  there = λ doing e. numbered_other j.fine.operations n (j.now i) (as_fine operation.client doings.Ended) some_n (λ q. ne (sym w.owned ∙ (ap j.owner q ∙ held.owned))) ∙ e;
                  owned = w.owned;
                  local = local_left decode get_epoch set_epoch j.l j.over views i (leaves i ne) client c inner w.runs;
                  does = w.does;
                  past = w.past;
                }) (j.rest.each i))
          ];
          loose = λ k i request e. elim (numbered_append s.loose (left_loose op (Some v.ask)) k (i, request) e) [
            | inl old ↦ loose_on decode get_epoch j.fine.loose (j.fine.loose ++ left_loose n (Some v.ask)) j.fine.trace j.fine.trace j.l.rows j.l.rows j.owner j.owner j.l.ops (set_at j.l.ops op None) j.l.asked j.l.asked i request (λ p m there. numbered_kept j.fine.loose (left_loose n (Some v.ask)) p (m, request) there) (λ m c inner d own'. own') (λ m c inner d gone. goneness i gone) (λ m c inner d. d) (j.rest.loose k i request old)
            | inr left ↦
                let is = left_one op (Some v.ask) left.0 i request left.1 in
                subst (λ (i' : ℕ). LooseAt decode get_epoch (j.fine.loose ++ left_loose n (Some v.ask)) j.fine.trace j.l.rows j.owner (set_at j.l.ops op None) j.l.asked i' request) (sym is.0)
                (record { place = suc (length j.fine.loose + 0); n = n; there = numbered_past j.fine.loose (left_loose n (Some v.ask)) 0 (n, request) (leaves_one n (Some v.ask) request is.1); owned = held.owned; gone = set_here j.l.ops op None; call = call; inner = held.inner; does = held.does })
          ];
        };
      })

  -- a landing
  pub land_joins : (k : ℕ) (said : Told T) (new : State T) → Lands s k said new → Joined decode get_epoch set_epoch past new
  land_joins k said new v =
      let lands = v.loose in
      let op = lands.op in
      let loose = j.rest.loose k op lands.request lands.found in
      let n = loose.n in
      let serves : Serves lands.request j.fine.store lands.reply lands.store = subst (λ (st : StoreState). Serves lands.request st lands.reply lands.store) (sym j.tie.store) lands.reaches.serves in
      let effect = machine.effect_of s.store.files lands.request lands.reply in
      let fine = machine.effected j.fine n lands.request lands.reply lands.store in
      let fine' = record j.fine { store = lands.store; trace = j.fine.trace ++ effect_rows n effect } in
      let stood = land_keeps decode get_epoch j.fine loose.place (told.Landed loose.place (is_some (machine.effect_of j.fine.store.files lands.request lands.reply))) fine (record { loose = record { op = n; request = lands.request; found = loose.there; reply = lands.reply; store = lands.store; reaches = record { serves = serves; honest = lands.reaches.honest } }; tells = refl; state = refl }) j.stands in
      let stands : machine_stands.Stands decode get_epoch fine' = subst (λ (st : StoreState). machine_stands.Stands decode get_epoch (record j.fine { store = lands.store; trace = j.fine.trace ++ effect_rows n (machine.effect_of st.files lands.request lands.reply) })) j.tie.store stood in
      let good = stands.know.history.good in
      let begun = begun_of j.fine.trace n (fine_call loose.call loose.inner) loose.does.called in
      let over = over_effect decode get_epoch set_epoch j.l op effect
      (λ request e.
      effect_step decode get_epoch set_epoch j.owner j.fine.trace j.l j.core.tied.top n op loose.owned loose.call loose.inner loose.does (λ c called. one_fine decode get_epoch j.fine.failed j.fine.trace j.stands.know.history.good n c (fine_call loose.call loose.inner) called loose.does.called)
      (due_gone op loose.inner (j.l.ops op) loose.gone) request
      (last_effect decode get_epoch j.fine.failed j.fine.trace n request (subst (λ (x : Option Request). plain_history.IsOneHistory decode get_epoch j.fine.failed (j.fine.trace ++ effect_rows n x)) e good))) j.over in
      let grows : (m i : ℕ) (c : Call T) (inner : Inner T) → Does get_epoch j.fine.trace j.l.rows j.l.asked m i c inner → Does get_epoch (j.fine.trace ++ effect_rows n effect) (j.l.rows ++ effect_rows op effect) j.l.asked m i c inner =
      λ m i c inner d. does_row get_epoch (j.fine.trace ++ effect_rows n effect) j.l.rows (effect_rows op effect) j.l.asked m i c inner (does_fine get_epoch j.fine.trace (effect_rows n effect) j.l.rows j.l.asked m i c inner d) in
      subst (λ (x : State T). Joined decode get_epoch set_epoch past x) (sym v.state)
      (record {
        fine = fine';
        l = laid_on decode get_epoch set_epoch j.l op effect j.l.failed;
        owner = j.owner;
        now = j.now;
        stands = stands;
        over = over;
        tie = record { clients = j.tie.clients; page = j.tie.page; store = refl; rows = ap (λ (rs : List (Row T)). rs ++ effect_rows op effect) j.tie.rows; failed = j.tie.failed; views = j.tie.views; count = j.tie.count; next = j.tie.next };
        goes = j.goes;
        grown = j.grown;
        caches = j.caches;
        core = core_effects decode get_epoch j.fine.trace j.fine.failed j.l.rows j.l.views j.l.failed j.owner n op loose.owned begun effect j.core;
        rest = record {
          each = λ i. at_on decode get_epoch j.fine.operations j.fine.operations j.fine.trace fine'.trace j.l.rows (j.l.rows ++ effect_rows op effect) j.owner j.owner j.now j.now j.l.ops j.l.ops j.l.views j.l.views j.l.asked j.l.asked i (numbered s.operations i) (λ gone. gone)
              (λ client c inner w. record {
                runs = w.runs;
                there = λ doing e. e;
                owned = w.owned;
                local = refl;
                does = grows (j.now i) i c inner w.does;
                past = past_effects decode get_epoch j.fine.failed j.owner j.fine.trace n i (j.now i) effect good (λ q. absurd (let clash : None ≡ Some (as_laid client c inner) = sym loose.gone ∙ (ap j.l.ops (sym loose.owned ∙ q) ∙ w.runs) in cc)) w.past;
              }) (j.rest.each i);
          loose = λ p i request e. loose_on decode get_epoch j.fine.loose j.fine.loose j.fine.trace fine'.trace j.l.rows (j.l.rows ++ effect_rows op effect) j.owner j.owner j.l.ops j.l.ops j.l.asked j.l.asked i request (λ q m there. there) (λ m c inner d own. own) (λ m c inner d gone. gone) (λ m c inner d. grows m i c inner d) (j.rest.loose p i request e);
        };
      })
    where
      due_gone : (op : ℕ) (inner : Inner T) (o : Option (layer.Operation T)) → o ≡ None → DueFor op inner o
      due_gone op inner o e = subst (DueFor op inner) (sym e) (by inner)
        where
          by : (i : Inner T) → DueFor op i None
          by (Writes base value epoch) = tt
          by Reads = tt
          by Starts = tt
          by Acts = tt
