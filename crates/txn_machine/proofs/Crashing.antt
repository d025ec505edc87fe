-- A crash keeps a world joined.
use Rattle.std.proofs.Common.{◌≡◌, ◌≢◌, ℕ, zero, suc, ◌+◌, ◌-◌, ◌<◌, List, [], ◌∷◌, length, map, slice_get, slice_set, ◌==◌, Option, Some, None, inl, inr, refl, sym, ◌∙◌, ap, subst, arith}
use Rattle.std.specs.Option.{option_map}
use Rattle.std.proofs.lemmas.List.{length-map}
use Rattle.std.proofs.lemmas.Bool.{cases_Bool, cases_eq, eq-eqb, ne_eqb}
use Rattle.txn_store.specs.declared.request.Request.{Request}
use Rattle.txn_steps.specs.declared.boundary.caches.Caches.{Caches}
use Rattle.txn_history.specs.declared.event.ToldOf.TheVariants as told
use Rattle.txn_history.specs.Lists.{numbered}
use Rattle.txn_history.specs.Seen.{Ask, Store, Operation as SeenOperation}
use Rattle.txn_history.specs.GoesOn.{all_left_loose}
use Rattle.txn_history.proofs.Lists.{numbered_kept}
use Rattle.txn_machine.specs.declared.plain.doing.PlainDoing.{PlainDoing}
use Rattle.txn_machine.specs.plain.Doing as plain
use Rattle.txn_machine.specs.plain.Machine as machine
use Rattle.txn_machine.proofs.plain.Lists.{numbered_append, numbered_map}
use Rattle.txn_machine.proofs.plain.Stands as machine_stands
use Rattle.txn_machine.proofs.plain.Crashes as machine_crashes
use Rattle.txn_history.specs.Trace.{Row, Told, PlainRow}
use Rattle.txn_history.specs.Calls.{view_used}
use Rattle.txn_machine.specs.views.Layer as layer
use Rattle.txn_machine.specs.views.Layer.{Used, Inner, Layer, look_up, local_of}
use Rattle.txn_machine.specs.views.Steps.{Steps, view_without, op_without}
use Rattle.txn_machine.proofs.views.Stands as layer_stands
use Rattle.txn_machine.proofs.views.Stands.{Uses}
use Rattle.txn_machine.proofs.views.Runs.{step_keeps}
use Rattle.txn_machine.proofs.views.Goes.{after_goes, step_goes}
use Rattle.txn_machine.proofs.views.Tables.{op_of}
use Rattle.txn_machine.specs.declared.doing.Operation.{Operation}
use Rattle.txn_machine.specs.Doing.{ended, asked}
use Rattle.txn_machine.specs.Machine.{State, used_in, used_by, ended_by, doing_next, crashed, seen_operations, seen_operation, Crashes}
use Rattle.txn_machine.proofs.Joined.{Past, Fine, as_laid, as_fine, ViewTold, At, LooseAt, Joined}
use Rattle.txn_machine.proofs.Rows.{core_views}
use Rattle.txn_machine.proofs.Moved.{held_on, loose_on}
use Rattle.txn_machine.proofs.Alike.{matched_same}
use Rattle.txn_machine.proofs.Leaving.{Leaves, left_from, left_to, numbered_past}
use Rattle.txn_machine.proofs.Serving.{held_of}

module _ {A B : Type 0} (f : A → B) where
  get_mapped : (xs : List A) (k : ℕ) → slice_get (map f xs) k ≡ option_map f (slice_get xs k)
  get_mapped [] k = refl
  get_mapped (x ∷ xs) zero = refl
  get_mapped (x ∷ xs) (suc k) = get_mapped xs k

  pub numbered_mapped : (xs : List A) (n : ℕ) → numbered (map f xs) n ≡ option_map f (numbered xs n)
  numbered_mapped xs zero = refl
  numbered_mapped xs (suc k) = get_mapped xs k

module _ {T : Type 0} where
  used_without : (client : ℕ) (views : List (Option (Used T))) (m : ℕ) → view_without client (used_by views (Some m)) ≡ used_by (map (view_without client) views) (Some m)
  used_without client views m = by (numbered views m) ∙ sym (ap used_in (numbered_mapped (view_without client) views m))
    where
      by : (found : Option (Option (Used T))) → view_without client (used_in found) ≡ used_in (option_map (view_without client) found)
      by None = refl
      by (Some x) = refl

  without_none : (client op : ℕ) (ops : ℕ → Option (layer.Operation T)) → ops op ≡ None → op_without client (ops op) ≡ None
  without_none client op ops e = ap (op_without client) e

  without_own : (client : ℕ) (o : layer.Operation T) → o.client ≡ client → op_without client (Some o) ≡ None
  without_own client o e = rw (eq-eqb o.client client e) refl

  without_other : (client : ℕ) (o : layer.Operation T) → o.client ≢ client → op_without client (Some o) ≡ Some o
  without_other client o e = rw (ne_eqb o.client client e) refl

  -- the view of another client's operation stays
  local_without : (rows : List (Row T)) (client op : ℕ) (views : ℕ → Option (Used T)) (o : layer.Operation T) → o.client ≢ client → (number : Option ℕ) → Uses rows views op o number → local_of (look_up (λ n. view_without client (views n)) number) ≡ local_of (look_up views number)
  local_without rows client op views o ne None u = refl
  local_without rows client op views o ne (Some number) u =
      let other : u.used.view.client ≢ client = (λ e. ne (sym u.client ∙ e)) in
      let stays : view_without client (Some u.used) ≡ Some u.used = rw (ne_eqb u.used.view.client client other) refl in
      ap local_of (ap (view_without client) u.there ∙ (stays ∙ sym u.there))

  told_without : (fine : List (PlainRow T)) (client : ℕ) (used : Option (Used T)) → ViewTold fine used → ViewTold fine (view_without client used)
  told_without fine client None h = tt
  told_without fine client (Some used) h = elim (cases_Bool (used.view.client == client)) [ inl e ↦ rw e tt | inr e ↦ rw e h ]

  fine_stays : (client : ℕ) (operations : List (Fine T)) (n owner : ℕ) (doing : PlainDoing T) → owner ≢ client → numbered operations n ≡ Some (as_fine owner doing) → numbered (map (machine.ended_by client) operations) n ≡ Some (as_fine owner doing)
  fine_stays client operations n owner doing ne e = numbered_mapped (machine.ended_by client) operations n ∙ (ap (option_map (machine.ended_by client)) e ∙ ap (λ (o : Fine T). Some o) (stays client owner doing ne))
    where
      stays : (client owner : ℕ) (doing : PlainDoing T) → owner ≢ client → machine.ended_by client (as_fine owner doing) ≡ as_fine owner doing
      stays client owner doing ne = rw (ne_eqb owner client ne) refl

module _ {T : Type 0} (encode : T → List ℕ) (decode : List ℕ → Option T) (get_epoch : T → ℕ) (set_epoch : T → ℕ → T) (past : Past T) (s : State T) (j : Joined decode get_epoch set_epoch past s) (client : ℕ) (some : 0 < client) where
  abbrev fine' : machine.State T
  fine' = machine.crashed j.fine client

  abbrev l' : Layer T
  l' = record j.l { views = λ number. view_without client (j.l.views number); ops = λ op. op_without client (j.l.ops op) }

  stands' : machine_stands.Stands decode get_epoch fine'
  stands' = machine_crashes.crash_keeps decode get_epoch j.fine client j.stands some (told.Crashed client) fine' (record { tells = refl; state = refl })

  step : Steps decode get_epoch set_epoch j.l l'
  step = inr (inr (inr (inr (inr (inr (inr (inl (record { client = client; new = refl }))))))))

  over' : layer_stands.Stands decode get_epoch set_epoch l'
  over' = step_keeps decode get_epoch set_epoch j.l l' j.over step

  abbrev AtAfter : ℕ → Option (Operation T) → Type 0
  AtAfter op x = At decode get_epoch fine'.operations j.fine.trace j.l.rows j.owner j.now l'.ops l'.views j.l.asked op x

  stays_at : (op : ℕ) (operation : Operation T) → operation.client ≢ client → At decode get_epoch j.fine.operations j.fine.trace j.l.rows j.owner j.now j.l.ops j.l.views j.l.asked op (Some operation) → AtAfter op (Some operation)
  stays_at op operation ne (inl h) = inl (h.0, without_none client op j.l.ops h.1)
  stays_at op operation ne (inr h) =
      inr (held_on decode get_epoch j.fine.operations fine'.operations j.fine.trace j.fine.trace j.l.rows j.l.rows j.owner j.owner j.now j.now j.l.ops l'.ops j.l.views l'.views j.l.asked j.l.asked op operation
      (λ c call inner same w.
      let other : c ≢ client = (λ q. ne (sym same ∙ q)) in
      record {
        runs = ap (op_without client) w.runs ∙ without_other client (as_laid c call inner) other;
        there = λ doing e. fine_stays client j.fine.operations (j.now op) c doing other e;
        owned = w.owned;
        local = local_without j.l.rows client op j.l.views (as_laid c call inner) other (view_used call) (op_of decode get_epoch set_epoch j.l j.over op (as_laid c call inner) w.runs).uses;
        does = w.does;
        past = w.past;
      }) h)

  ends_at : (op : ℕ) (operation : Operation T) → operation.client ≡ client → At decode get_epoch j.fine.operations j.fine.trace j.l.rows j.owner j.now j.l.ops j.l.views j.l.asked op (Some operation) → op_without client (j.l.ops op) ≡ None
  ends_at op operation own (inl h) = without_none client op j.l.ops h.1
  ends_at op operation own (inr h) = ap (op_without client) h.runs ∙ without_own client (as_laid operation.client h.call h.inner) own

  at_mapped : (op : ℕ) (x : Option (Operation T)) → At decode get_epoch j.fine.operations j.fine.trace j.l.rows j.owner j.now j.l.ops j.l.views j.l.asked op x → AtAfter op (option_map (ended_by client) x)
  at_mapped op None h = without_none client op j.l.ops h
  at_mapped op (Some operation) h =
      elim (cases_eq operation.client client) [
        | inl own ↦ (let is : ended_by client operation ≡ doing_next operation ended = rw (eq-eqb operation.client client own) refl in subst (λ (o : Operation T). AtAfter op (Some o)) (sym is) (inl (refl, ends_at op operation own h)))
        | inr other ↦ (let is : ended_by client operation ≡ operation = rw (ne_eqb operation.client client other) refl in subst (λ (o : Operation T). AtAfter op (Some o)) (sym is) (stays_at op operation other h))
      ]

  -- a request that an operation of the client left: so its fine operation did
  left_at : (op : ℕ) (request : Request) (operation : Operation T) → numbered s.operations op ≡ Some operation → operation.client ≡ client → Leaves (asked operation.doing) request → LooseAt decode get_epoch fine'.loose j.fine.trace j.l.rows j.owner l'.ops j.l.asked op request
  left_at op request operation found own leaves =
      let held = held_of encode decode get_epoch set_epoch past s j op operation (Store request) found leaves.asked in
      let n = j.now op in
      let o = as_fine operation.client held.doing in
      let same = matched_same get_epoch held.call (local_of (look_up j.l.views (view_used held.call))) held.inner operation.doing held.doing held.matched in
      let seen : numbered (machine.seen_operations j.fine.operations) n ≡ Some (machine.seen_operation o) = numbered_mapped machine.seen_operation j.fine.operations n ∙ ap (option_map machine.seen_operation) held.there in
      let l = by n o seen own (record { asked = sym same.asks ∙ leaves.asked; may = leaves.may }) in
      record {
        place = suc (length j.fine.loose + l.0);
        n = n;
        there = numbered_past j.fine.loose (all_left_loose client 1 (machine.seen_operations j.fine.operations)) l.0 (n, request) l.1;
        owned = held.owned;
        gone = ap (op_without client) held.runs ∙ without_own client (as_laid operation.client held.call held.inner) own;
        call = held.call;
        inner = held.inner;
        does = held.does;
      }
    where
      by : (n : ℕ) (o : Fine T) → numbered (machine.seen_operations j.fine.operations) n ≡ Some (machine.seen_operation o) → o.client ≡ client → Leaves (plain.asked o.doing) request → (k : ℕ) × (slice_get (all_left_loose client 1 (machine.seen_operations j.fine.operations)) k ≡ Some (n, request))
      by zero o e own leaves = cc
      by (suc place) o e own leaves = (let l = left_to client 1 (machine.seen_operations j.fine.operations) place (machine.seen_operation o) request e own leaves in let at : 1 + place ≡ suc place = omega arith in (l.0, l.1 ∙ ap (λ (i : ℕ). Some (i, request)) at))

  loose_after : (k op : ℕ) (request : Request) → numbered (crashed s client).loose k ≡ Some (op, request) → LooseAt decode get_epoch fine'.loose j.fine.trace j.l.rows j.owner l'.ops j.l.asked op request
  loose_after k op request e =
      elim (numbered_append s.loose (all_left_loose client 1 (seen_operations s.operations)) k (op, request) e) [
        | inl old ↦ loose_on decode get_epoch j.fine.loose fine'.loose j.fine.trace j.fine.trace j.l.rows j.l.rows j.owner j.owner j.l.ops l'.ops j.l.asked j.l.asked op request (λ p m there. numbered_kept j.fine.loose (all_left_loose client 1 (machine.seen_operations j.fine.operations)) p (m, request) there) (λ m c inner d own. own) (λ m c inner d gone. without_none client op j.l.ops gone) (λ m c inner d. d) (j.rest.loose k op request old)
        | inr new ↦ (
            let l = left_from client 1 (seen_operations s.operations) new.0 op request new.1 in
            let number : suc l.place ≡ op = (let is = l.number in omega (arith, is)) in
            let seen : numbered (seen_operations s.operations) op ≡ Some l.operation = subst (λ (i : ℕ). numbered (seen_operations s.operations) i ≡ Some l.operation) number l.there in
            let m = numbered_map seen_operation s.operations op l.operation seen in
            left_at op request m.0 m.1 (sym (ap (λ (o : SeenOperation). o.client) m.2) ∙ l.client_is) (subst (λ (a : Option Ask). Leaves a request) (ap (λ (o : SeenOperation). o.asks) m.2) l.leaves)
            )
      ]

  pub crash_joins : (said : Told T) (new : State T) → Crashes s client said new → Joined decode get_epoch set_epoch past new
  crash_joins said new v =
      subst (λ (x : State T). Joined decode get_epoch set_epoch past x) (sym v.state)
      (record {
        fine = fine';
        l = l';
        owner = j.owner;
        now = j.now;
        stands = stands';
        over = over';
        tie = record {
          clients = j.tie.clients;
          page = j.tie.page;
          store = j.tie.store;
          rows = j.tie.rows;
          failed = j.tie.failed;
          views = λ m. ap (view_without client) (j.tie.views m) ∙ used_without client s.views m;
          count = j.tie.count ∙ sym (length-map s.views (view_without client));
          next = j.tie.next ∙ ap (λ (i : ℕ). i + 1) (sym (length-map s.operations (ended_by client)));
        };
        goes = λ number le. after_goes (past.views number) (j.l.views number) (l'.views number) (j.goes number le) (step_goes decode get_epoch set_epoch j.l l' j.over step number (let more = j.grown in omega (arith, le, more)));
        grown = j.grown;
        caches = ap (λ (cs : List Caches). slice_set cs (client - 1) machine.no_caches) j.caches;
        core = core_views j.fine.trace j.fine.failed j.l.rows j.l.views j.l.failed j.owner j.core l'.views (λ number. told_without j.fine.trace client (j.l.views number) (j.core.seen number));
        rest = record {
          each = λ op. subst (AtAfter op) (sym (numbered_mapped (ended_by client) s.operations op)) (at_mapped op (numbered s.operations op) (j.rest.each op));
          loose = loose_after;
        };
      })
