-- A begin that is allowed keeps a world joined.
use Rattle.std.proofs.Common.{◌≡◌, ◌≢◌, ℕ, ◌+◌, ◌-◌, ◌<◌, ◌≤◌, List, [], ◌∷◌, ◌++◌, length, set, slice_set, nat_eq, nat_lt, not, is_some, Bool, true, false, ◌==◌, ◌&&◌, Option, Some, None, inl, inr, refl, sym, ◌∙◌, ap, subst, arith}
use Rattle.std.specs.List.{list_any}
use Rattle.std.specs.Option.{option_map}
use Rattle.std.proofs.lemmas.List.{length-append, length-set, length-map}
use Rattle.std.proofs.lemmas.Bool.{cases_Bool, both_ways, eqb-true}
use Rattle.std.proofs.lemmas.Option.{same_Some}
use Rattle.txn_store.specs.declared.request.Request.{Request}
use Rattle.txn_store.specs.types.Numbers.{number_of}
use Rattle.txn_steps.specs.declared.boundary.caches.Caches.{Caches}
use Rattle.txn_history.specs.declared.event.PlainCall.{PlainCall}
use Rattle.txn_history.specs.declared.event.PlainCall.TheVariants as calls
use Rattle.txn_history.specs.declared.event.EventFault.{EventFault}
use Rattle.txn_history.specs.declared.event.EventFault.TheVariants as faults
use Rattle.txn_history.specs.declared.event.EventOf.TheVariants as events
use Rattle.txn_history.specs.declared.trace.RowOf.TheVariants.{Begun}
use Rattle.txn_history.specs.Lists.{numbered}
use Rattle.txn_history.specs.Allowed.{is_client, first_fault, is_own, may_use, is_busy, base_seen, fault_of}
use Rattle.txn_history.specs.History.{epoch_at}
use Rattle.txn_machine.specs.plain.PlainHistory.{tells as plain_tells}
use Rattle.txn_history.specs.Calls.{was_begun, begun_count, plain_base_of, plain_value_written, is_below_told, view_used, is_holders}
use Rattle.txn_history.specs.Facts.{is_high}
use Rattle.txn_machine.specs.plain.PlainHistory as plain_history
use Rattle.txn_history.specs.Added.{answer_rows}
use Rattle.txn_machine.specs.plain.Doing as plain
use Rattle.txn_machine.specs.plain.Machine as machine
use Rattle.txn_machine.proofs.plain.Lists.{numbered_there}
use Rattle.txn_machine.proofs.plain.World.{client_within, first_true}
use Rattle.txn_history.specs.declared.event.ViewCall.{ViewCall}
use Rattle.txn_history.specs.declared.event.Call.{Call}
use Rattle.txn_history.specs.declared.event.Call.TheVariants as any
use Rattle.txn_history.specs.Trace.{Row, Told, PlainRow}
use Rattle.txn_history.specs.Seen.{view_in}
use Rattle.txn_history.specs.Views.{View, ViewsFit, ViewFits}
use Rattle.txn_history.specs.OneHistory as history
use Rattle.txn_history.specs.OneHistory.{agree}
use Rattle.txn_history.proofs.Begins.{opens_next, plain_low}
use Rattle.txn_machine.specs.views.Layer.{Used, Inner, Starts, Layer, Next, Goes, look_up, local_of, with_busy, set_used, starting, opened, turned}
use Rattle.txn_machine.specs.views.Parts as parts
use Rattle.txn_machine.specs.views.Parts.{plain_inner, HasEpoch, OrLacking}
use Rattle.txn_machine.specs.views.Steps.{Allowed}
use Rattle.txn_machine.proofs.views.Stands as layer_stands
use Rattle.txn_machine.proofs.views.Opens.{begin_opens}
use Rattle.txn_machine.proofs.views.Begins.{begin_stands}
use Rattle.txn_machine.proofs.views.Shows.{no_epoch}
use Rattle.txn_machine.proofs.views.Goes.{after_goes, opened_goes}
use Rattle.txn_machine.proofs.views.Tables as layer_tables
use Rattle.txn_machine.proofs.views.Tables.{Leaves, set_here, set_other, used_leaves, op_of}
use Rattle.txn_machine.specs.declared.doing.Operation.{Operation}
use Rattle.txn_machine.specs.Doing as whole
use Rattle.txn_machine.specs.Doing.{ended}
use Rattle.txn_machine.specs.plain.Machine.{next_op}
use Rattle.txn_machine.specs.Machine.{State, used_in, used_by, seen_view, seen_views, seen_of, views_taken, answered, new_operation, doing_next, begun_as, acted, view_now, Begins}
use Rattle.txn_machine.proofs.Matched.{HasView, NextAs, Answered as IsAnswered}
use Rattle.txn_machine.proofs.PlainTurns.{plain_start}
use Rattle.txn_machine.proofs.Starts.{every_start}
use Rattle.txn_machine.proofs.Joined.{Past, as_laid, IsTold, ToldBy, ViewTold, At, LooseAt, Joined, Open}
use Rattle.txn_machine.proofs.Rows.{core_row, core_views, does_row}
use Rattle.txn_machine.proofs.Moved.{at_on, loose_on, local_left}
use Rattle.txn_machine.proofs.Telling.{NextOnly, UsedOnly, started_only}
use Rattle.txn_machine.proofs.Ending.{used_there, used_set}
use Rattle.txn_machine.proofs.Opening.{numbered_else, numbered_new}
use Rattle.txn_machine.proofs.Turned.{same_epoch, turn_joins, next_joins}
use Rattle.txn_machine.proofs.Goings.{begun_of, fine_begins, fine_begins_page}
use Rattle.txn_machine.proofs.GivingUp.{set_id}
use Rattle.txn_machine.proofs.Crashing.{numbered_mapped}

first_rest : (b : Bool) (fault : EventFault) (rest : List (Bool × EventFault)) → first_fault ((b, fault) ∷ rest) ≡ None → first_fault rest ≡ None
first_rest true fault rest e = e
first_rest false fault rest e = cc

agrees : (one other : Bool) → agree one other ≡ true → other ≡ one
agrees true other e = e
agrees false true e = cc
agrees false false e = refl

not_true : (b : Bool) → not b ≡ true → b ≡ false
not_true true e = cc
not_true false e = refl

set_past : {A : Type 0} (xs : List A) (x y : A) → set (xs ++ x ∷ []) (length xs) y ≡ xs ++ y ∷ []
set_past [] x y = refl
set_past (z ∷ zs) x y = ap (λ (ws : _). z ∷ ws) (set_past zs x y)

module _ {T : Type 0} where
  -- the views of a world fit

  look_same : (table : ℕ → Option (Used T)) (views : List (Option (Used T))) → ((m : ℕ) → table m ≡ used_by views (Some m)) → (view : Option ℕ) → look_up table view ≡ used_by views view
  look_same table views same None = refl
  look_same table views same (Some number) = same number

  seen_some : (views : List (Option (Used T))) (number : ℕ) (view : View T) → view_in (option_map seen_view (numbered views number)) ≡ Some view → (used : Used T) × (numbered views number ≡ Some (Some used)) × (used.view ≡ view)
  seen_some views number view e = by (numbered views number) refl e
    where
      by : (found : Option (Option (Used T))) → numbered views number ≡ found → view_in (option_map seen_view found) ≡ Some view → (used : Used T) × (numbered views number ≡ Some (Some used)) × (used.view ≡ view)
      by None is e = cc
      by (Some None) is e = cc
      by (Some (Some used)) is e = (used, is, same_Some used.view view e)

  pub views_fit : (decode : List ℕ → Option T) (get_epoch : T → ℕ) (set_epoch : T → ℕ → T) (l : Layer T) → layer_stands.Stands decode get_epoch set_epoch l → (views : List (Option (Used T))) → ((m : ℕ) → l.views m ≡ used_by views (Some m)) → l.count ≡ length views → ViewsFit decode get_epoch l.rows (seen_views views)
  views_fit decode get_epoch set_epoch l over views same count =
      record {
        all = length-map views seen_view ∙ (sym count ∙ over.count);
        each = λ number view e. (
            let found = seen_some views number view (ap view_in (sym (numbered_mapped seen_view views number) ∙ e)) in
            let there : l.views number ≡ Some found.0 = same number ∙ ap used_in found.1 in
            subst (λ (v : View T). ViewFits decode get_epoch l.rows number v) found.2 (layer_tables.view_of decode get_epoch set_epoch l over number found.0 there).1
            );
      }

  -- busy views

  busy_told : (fine : List (PlainRow T)) (op : ℕ) (used : Option (Used T)) → ViewTold fine used → ViewTold fine (option_map (with_busy (Some op)) used)
  busy_told fine op None h = tt
  busy_told fine op (Some used) h = h

  taken_told : (fine : List (PlainRow T)) (op : ℕ) (views : ℕ → Option (Used T)) (view : Option ℕ) → ((number : ℕ) → ViewTold fine (views number)) → (number : ℕ) → ViewTold fine (set_used views view (option_map (with_busy (Some op)) (look_up views view)) number)
  taken_told fine op views None h number = h number
  taken_told fine op views (Some i) h number = elim (cases_Bool (number == i)) [ inl e ↦ rw e (busy_told fine op (views i) (h i)) | inr e ↦ rw e (h number) ]

  busy_local : (op : ℕ) (used : Option (Used T)) → local_of (option_map (with_busy (Some op)) used) ≡ local_of used
  busy_local op None = refl
  busy_local op (Some used) = refl

  taken_local : (op : ℕ) (views : ℕ → Option (Used T)) (view : Option ℕ) → local_of (look_up (set_used views view (option_map (with_busy (Some op)) (look_up views view))) view) ≡ local_of (look_up views view)
  taken_local op views None = refl
  taken_local op views (Some i) = ap local_of (set_here views i (option_map (with_busy (Some op)) (views i))) ∙ busy_local op (views i)

  told_used : (fine : List (PlainRow T)) (get_epoch : T → ℕ) (set_epoch : T → ℕ → T) (used : Option (Used T)) → ViewTold fine used → UsedOnly (IsTold fine) get_epoch set_epoch used
  told_used fine get_epoch set_epoch None h = tt
  told_used fine get_epoch set_epoch (Some used) h = h

  look_told : (fine : List (PlainRow T)) (views : ℕ → Option (Used T)) → ((number : ℕ) → ViewTold fine (views number)) → (view : Option ℕ) → ViewTold fine (look_up views view)
  look_told fine views h None = tt
  look_told fine views h (Some number) = h number

  taken_table : (table : ℕ → Option (Used T)) (views : List (Option (Used T))) → ((m : ℕ) → table m ≡ used_by views (Some m)) → (l : Layer T) (client : ℕ) (call : Call T) → table ≡ l.views → (op : ℕ) (view : Option ℕ) → Allowed l client call view → (m : ℕ) →
      set_used table view (option_map (with_busy (Some op)) (look_up table view)) m ≡ used_by (views_taken views view op) (Some m)
  taken_table table views same l client call is op None allowed m = same m
  taken_table table views same l client call is op (Some number) allowed m =
      let there : table number ≡ Some allowed.used = ap (λ (f : ℕ → Option (Used T)). f number) is ∙ allowed.there in
      let old = used_there views number allowed.used (sym (same number) ∙ there) in
      let new : Option (Used T) = option_map (with_busy (Some op)) (table number) in
      elim (cases_Bool (m == number)) [ inl e ↦ rw e refl | inr e ↦ rw e (same m) ]
      ∙ (used_set views number (Some allowed.used) new old m
      ∙ ap (λ (x : Option (Used T)). used_by (slice_set views (number - 1) (option_map (with_busy (Some op)) x)) (Some m)) (same number))

  taken_count : (views : List (Option (Used T))) (op : ℕ) (view : Option ℕ) → length (views_taken views view op) ≡ length views
  taken_count views op None = refl
  taken_count views op (Some number) = length-set views (number - 1) (option_map (with_busy (Some op)) (used_by views (Some number)))

  -- a view that is free is no other operation's
  allowed_leaves : (l : Layer T) (client : ℕ) (call : Call T) (new : Option (Used T)) (o : ℕ) (view : Option ℕ) → Allowed l client call view → Leaves l.views (set_used l.views view new) o
  allowed_leaves l client call new o None allowed = λ i used e busy. e
  allowed_leaves l client call new o (Some number) allowed =
      used_leaves l.views o (Some number) new
      (λ i used e there busy. (
      let both : Some allowed.used ≡ Some used = sym allowed.there ∙ (ap l.views (same_Some number i e) ∙ there) in
      let same = ap (λ (u : Used T). u.busy) (same_Some allowed.used used both) in
      let clash : None ≡ Some o = sym allowed.free ∙ (same ∙ busy) in
      cc
      ))

  has_view : (l : Layer T) (client : ℕ) (call : Call T) (view : Option ℕ) → view_used call ≡ view → Allowed l client call view → HasView call (look_up l.views view)
  has_view l client call None e allowed = e
  has_view l client call (Some number) e allowed = subst (HasView call) (sym allowed.there) (number, e, allowed.kind)

and_split : (b c : Bool) → (b && c) ≡ true → (b ≡ true) × (c ≡ true)
and_split true c e = (refl, e)
and_split false c e = cc

module _ {T : Type 0} (encode : T → List ℕ) (decode : List ℕ → Option T) (get_epoch : T → ℕ) (set_epoch : T → ℕ → T) (past : Past T) (s : State T) (j : Joined decode get_epoch set_epoch past s)
    (busy : (number : ℕ) (used : Used T) → numbered s.views number ≡ Some (Some used) → is_busy (seen_of s) s.trace (Some number) ≡ is_some used.busy) (client : ℕ) (call : Call T) (allowed : fault_of decode get_epoch (seen_of s) s.trace (events.Begin client call) ≡ None) where
  abbrev op : ℕ
  op = next_op s

  -- the layer, whose next number is this
  abbrev l : Layer T
  l = record j.l { next = op }

  over : layer_stands.Stands decode get_epoch set_epoch l
  over = subst (λ (n : ℕ). layer_stands.Stands decode get_epoch set_epoch (record j.l { next = n })) j.tie.next j.over

  -- what was tested

  abbrev later : List (Bool × EventFault)
  later =
      (history.is_known_base s.trace (base_seen (seen_of s) call), faults.UnknownBase)
      ∷ (history.has_low_boundary s.trace call, faults.BoundaryTooHigh)
      ∷ (history.keeps_epoch decode get_epoch s.trace (base_seen (seen_of s) call) call, faults.EpochLowered)
      ∷ []

  abbrev idle : Bool
  idle = not (is_busy (seen_of s) s.trace (view_used call))

  abbrev own_client : Bool
  own_client = is_client s.clients client && may_use (seen_of s) client (is_holders call) (view_used call)

  known : (is_client s.clients client ≡ true) × (may_use (seen_of s) client (is_holders call) (view_used call) ≡ true)
  known = and_split (is_client s.clients client) (may_use (seen_of s) client (is_holders call) (view_used call)) (first_true own_client faults.UnknownNumber ((idle, faults.ViewBusy) ∷ later) allowed)

  free : idle ≡ true
  free = first_true idle faults.ViewBusy later (first_rest own_client faults.UnknownNumber ((idle, faults.ViewBusy) ∷ later) allowed)

  is_there : (0 < client) × (client ≤ s.clients)
  is_there = client_within s.clients client known.0

  abbrev Own : ℕ → Option (Option (Used T)) → Type 0
  Own number found = (used : Used T) × (found ≡ Some (Some used)) × (used.view.client ≡ client) × (is_some used.view.epoch ≡ is_holders call)

  own_of : (number : ℕ) → may_use (seen_of s) client (is_holders call) (Some number) ≡ true → Own number (numbered s.views number)
  own_of number e = by (numbered s.views number) (subst (λ (found : Option (Option (View T))). is_own client (is_holders call) (view_in found) ≡ true) (numbered_mapped seen_view s.views number) e)
    where
      by : (found : Option (Option (Used T))) → is_own client (is_holders call) (view_in (option_map seen_view found)) ≡ true → Own number found
      by None e = cc
      by (Some None) e = cc
      by (Some (Some used)) e = (let both = and_split (used.view.client == client) (agree (is_holders call) (is_some used.view.epoch)) e in (used, refl, eqb-true used.view.client client both.0, agrees (is_holders call) (is_some used.view.epoch) both.1))

  allowed_at : (view : Option ℕ) → may_use (seen_of s) client (is_holders call) view ≡ true → not (is_busy (seen_of s) s.trace view) ≡ true → Allowed l client call view
  allowed_at None may quiet = tt
  allowed_at (Some number) may quiet =
      let own = own_of number may in
      let none = not_true (is_busy (seen_of s) s.trace (Some number)) quiet in
      record { used = own.0; there = j.tie.views number ∙ ap used_in own.1; own = own.2; free = no_epoch own.0.busy (sym (busy number own.0 own.1) ∙ none); kind = own.3 }

  may : Allowed l client call (view_used call)
  may = allowed_at (view_used call) known.1 free

  opens : history.Opens decode get_epoch l.rows l.next call
  opens =
      let fault = subst (λ (rs : List (Row T)). fault_of decode get_epoch (seen_of s) rs (events.Begin client call) ≡ None) (sym j.tie.rows) allowed in
      let next = opens_next decode get_epoch set_epoch j.l.failed j.l.rows j.over.good (seen_of s) (views_fit decode get_epoch set_epoch j.l j.over s.views j.tie.views j.tie.count) client call fault in
      subst (λ (n : ℕ). history.Opens decode get_epoch j.l.rows n call) (sym over.begun) next

  -- the operation begins

  abbrev x : Operation T
  x = new_operation client call ended

  abbrev s' : State T
  s' = record s { operations = s.operations ++ x ∷ []; views = views_taken s.views (view_used call) op; trace = s.trace ++ Begun op call ∷ [] }

  abbrev l' : Layer T
  l' = opened l client call

  over' : layer_stands.Stands decode get_epoch set_epoch l'
  over' = begin_opens decode get_epoch set_epoch l client call over may opens

  abbrev kept : (c : Caches) × (numbered s.caches client ≡ Some c)
  kept = numbered_there s.caches client is_there.0 (let wide : length s.caches ≡ j.fine.clients = sym (ap (λ (cs : List Caches). length cs) j.caches) ∙ j.stands.wide in let le = is_there.1 in let same = j.tie.clients in omega (arith, wide, le, same))

  others' : (o : ℕ) → o ≢ op → At decode get_epoch j.fine.operations j.fine.trace l'.rows j.owner j.now l'.ops l'.views j.l.asked o (numbered s'.operations o)
  others' o ne =
      subst (λ (found : Option (Operation T)). At decode get_epoch j.fine.operations j.fine.trace l'.rows j.owner j.now l'.ops l'.views j.l.asked o found) (sym (numbered_else s.operations x o ne))
      (at_on decode get_epoch j.fine.operations j.fine.operations j.fine.trace j.fine.trace j.l.rows l'.rows j.owner j.owner j.now j.now j.l.ops l'.ops j.l.views l'.views j.l.asked j.l.asked o (numbered s.operations o)
      (λ gone. set_other j.l.ops op (Some (starting client call)) o ne ∙ gone)
      (λ c other inner w. record {
        runs = set_other j.l.ops op (Some (starting client call)) o ne ∙ w.runs;
        there = λ doing e. e;
        owned = w.owned;
        local = local_left decode get_epoch set_epoch l over l'.views o (allowed_leaves l client call (option_map (with_busy (Some op)) (look_up j.l.views (view_used call))) o (view_used call) may) c other inner w.runs;
        does = does_row get_epoch j.fine.trace j.l.rows (Begun op call ∷ []) j.l.asked (j.now o) o other inner w.does;
        past = w.past;
      }) (j.rest.each o))

  loose' : (k o : ℕ) (request : Request) → numbered s.loose k ≡ Some (o, request) → LooseAt decode get_epoch j.fine.loose j.fine.trace l'.rows j.owner l'.ops j.l.asked o request
  loose' k o request e =
      loose_on decode get_epoch j.fine.loose j.fine.loose j.fine.trace j.fine.trace j.l.rows l'.rows j.owner j.owner j.l.ops l'.ops j.l.asked j.l.asked o request (λ p m there. there) (λ m c inner d own. own)
      (λ m c inner d gone. (
      let ne : o ≢ op = (λ q. both_ways (was_begun j.l.rows op) (over.fresh op (omega arith)).0.begun (subst (λ (i : ℕ). was_begun j.l.rows i ≡ true) q (begun_of j.l.rows o c d.own))) in
      set_other j.l.ops op (Some (starting client call)) o ne ∙ gone
      ))
      (λ m c inner d. does_row get_epoch j.fine.trace j.l.rows (Begun op call ∷ []) j.l.asked m o c inner d) (j.rest.loose k o request e)

  abbrev left : List Caches
  left = slice_set s.caches (client - 1) kept.0

  abbrev begun : Open decode get_epoch set_epoch past s' op x call Starts left
  begun =
      record {
        fine = j.fine;
        l = l';
        owner = j.owner;
        now = j.now;
        stands = j.stands;
        over = over';
        tie = record {
          clients = j.tie.clients;
          page = j.tie.page;
          store = j.tie.store;
          rows = ap (λ (rs : List (Row T)). rs ++ Begun op call ∷ []) j.tie.rows;
          failed = j.tie.failed;
          views = taken_table j.l.views s.views j.tie.views l client call refl op (view_used call) may;
          count = j.tie.count ∙ sym (taken_count s.views op (view_used call));
          next = omega (arith, length-append s.operations (x ∷ []));
        };
        goes = λ number le. after_goes (past.views number) (j.l.views number) (l'.views number) (j.goes number le) (opened_goes j.l.views op (view_used call) number);
        grown = j.grown;
        caches = j.caches ∙ sym (set_id s.caches client kept.0 kept.1);
        core = core_views j.fine.trace j.fine.failed l'.rows j.l.views j.l.failed j.owner (core_row j.fine.trace j.fine.failed j.l.rows j.l.views j.l.failed j.owner j.core (Begun op call) refl (λ test e. absurd (both_ways false refl e))) l'.views (taken_told j.fine.trace op j.l.views (view_used call) j.core.seen);
        rest = record {
          found = numbered_new s.operations x op refl;
          runs = set_here j.l.ops op (Some (starting client call));
          view = refl;
          claims = refl;
          others = others';
          loose = loose';
          client = (is_there.0, (let le = is_there.1 in let same = j.tie.clients in omega (arith, le, same)));
        };
      }

  -- what the layer does first
  first_begins : (due : Next T) → OrLacking call (parts.started get_epoch set_epoch call (look_up j.l.views (view_used call))) due → HasEpoch get_epoch due → layer_stands.NextStands decode get_epoch set_epoch l'.failed l'.rows l'.views l'.count op (as_laid client call Starts) due
  first_begins due first has = begin_stands decode get_epoch set_epoch l (turned l' op (starting client call) due) over (record { client = client; call = call; allowed = may; opens = opens; next = due; first = first; has = has; new = refl })

  -- the state after the begin
  begun_joins : (new : State T) (next : whole.Next T) → new ≡ begun_as s client call next → Joined decode get_epoch set_epoch past (acted s' op x next kept.0) → Joined decode get_epoch set_epoch past new
  begun_joins new next is joined =
      let place : op - 1 ≡ length s.operations = omega arith in
      let operations : slice_set (s.operations ++ x ∷ []) (op - 1) (doing_next x next.0) ≡ s.operations ++ new_operation client call next.0 ∷ [] = ap (λ (k : ℕ). set (s.operations ++ x ∷ []) k (doing_next x next.0)) place ∙ set_past s.operations x (doing_next x next.0) in
      let count : length s'.views ≡ length s.views = taken_count s.views op (view_used call) in
      subst (λ (st : State T). Joined decode get_epoch set_epoch past st) (sym is)
      (subst (λ (n : ℕ). Joined decode get_epoch set_epoch past (record (begun_as s client call next) { trace = (s.trace ++ Begun op call ∷ []) ++ answer_rows op (answered n (view_used call) next.1) })) count
      (subst (λ (cs : List Caches). Joined decode get_epoch set_epoch past (record (begun_as s client call next) { caches = cs; trace = (s.trace ++ Begun op call ∷ []) ++ answer_rows op (answered (length s'.views) (view_used call) next.1) })) (set_id s.caches client kept.0 kept.1)
      (subst (λ (os : List (Operation T)). Joined decode get_epoch set_epoch past (record (begun_as s client call next) { operations = os; caches = left; trace = (s.trace ++ Begun op call ∷ []) ++ answer_rows op (answered (length s'.views) (view_used call) next.1) })) operations joined)))

module _ {T : Type 0} where
  -- the first tests of a plain call, by the fine rows

  pub plain_known : (fine : List (PlainRow T)) (rows : List (Row T)) → ToldBy fine rows → (base : Option ℕ) → history.is_known_base rows base ≡ true → plain_history.is_known_base fine base ≡ true
  plain_known fine rows told None e = refl
  plain_known fine rows told (Some n) e = told (nat_eq n) e

  -- what a call without a view opens in the layer, it opens in the machine
  plain_opens : (decode : List ℕ → Option T) (get_epoch : T → ℕ) (fine : List (PlainRow T)) (rows : List (Row T)) → ToldBy fine rows → ((n : ℕ) → epoch_at decode get_epoch rows n ≡ epoch_at decode get_epoch fine n) → (number n : ℕ) → n ≡ begun_count fine + 1 → (call : PlainCall T) → history.Opens decode get_epoch rows number (any.Plain call) → plain_history.PlainOpens decode get_epoch fine n call
  plain_opens decode get_epoch fine rows told same number n next call o = record {
    next = next;
    known = plain_known fine rows told (plain_base_of call) o.known;
    low = plain_low (is_below_told rows) (λ to. list_any (plain_tells (nat_lt to)) fine) (λ to. told (nat_lt to)) call o.low;
    keeps = subst (λ (n : ℕ). is_high get_epoch n (plain_value_written call) ≡ true) (same (number_of (plain_base_of call))) o.keeps;
  }

  abbrev goes_as : Inner T → Next T
  goes_as inner = Goes inner

  first_epoch : (get_epoch : T → ℕ) (call : PlainCall T) → HasEpoch get_epoch (goes_as (plain_inner get_epoch call))
  first_epoch get_epoch (calls.Write base value) = refl
  first_epoch get_epoch (calls.WriteUnchecked base value) = refl
  first_epoch get_epoch calls.Read = tt
  first_epoch get_epoch (calls.ReadUnchecked id) = tt
  first_epoch get_epoch (calls.ReadSeen id) = tt
  first_epoch get_epoch (calls.ListIds from to) = tt
  first_epoch get_epoch (calls.Delete id) = tt
  first_epoch get_epoch (calls.Check id) = tt
  first_epoch get_epoch (calls.Advance to) = tt

module _ {T : Type 0} (encode : T → List ℕ) (decode : List ℕ → Option T) (get_epoch : T → ℕ) (set_epoch : T → ℕ → T) (past : Past T) (s : State T) (j : Joined decode get_epoch set_epoch past s)
    (busy : (number : ℕ) (used : Used T) → numbered s.views number ≡ Some (Some used) → is_busy (seen_of s) s.trace (Some number) ≡ is_some used.busy) (client : ℕ) where
  plain_begins : (call : PlainCall T) (said : Told T) (new : State T) → fault_of decode get_epoch (seen_of s) s.trace (events.Begin client (any.Plain call)) ≡ None → Begins encode decode get_epoch set_epoch s client (any.Plain call) said new → Joined decode get_epoch set_epoch past new
  plain_begins call said new allowed v =
      let h = begun encode decode get_epoch set_epoch past s j busy client (any.Plain call) allowed in
      let c = kept encode decode get_epoch set_epoch past s j busy client (any.Plain call) allowed in
      let start = plain.started s.page encode call in
      let starts = ap (λ (p : ℕ). plain.started p encode call) (sym j.tie.page) in
      let opened' = plain_opens decode get_epoch j.fine.trace j.l.rows j.core.told (same_epoch decode get_epoch j.owner j.fine.trace j.l.rows j.core.tied.top) (next_op s) (machine.next_op j.fine) (ap (λ (n : ℕ). n + 1) j.stands.count) call (opens encode decode get_epoch set_epoch past s j busy client (any.Plain call) allowed) in
      let next = first_begins encode decode get_epoch set_epoch past s j busy client (any.Plain call) allowed (Goes (plain_inner get_epoch call)) (inl refl) (first_epoch get_epoch call) in
      let fenced = (op_of decode get_epoch set_epoch h.l h.over (next_op s) (as_laid client (any.Plain call) Starts) h.rest.runs).inner in
      let m = fine_begins encode decode get_epoch set_epoch past _ _ _ (any.Plain call) Starts (plain_inner get_epoch call) _ h start starts opened' v.reads_back v.word refl next fenced in
      let page = fine_begins_page encode decode get_epoch set_epoch past _ _ _ (any.Plain call) Starts (plain_inner get_epoch call) _ h start starts opened' v.reads_back v.word refl next fenced in
      let answered' = plain_start s.page encode decode get_epoch set_epoch call (local_of (look_up m.opened.l.views None)) (view_now s (any.Plain call)) v.next v.starts in
      begun_joins encode decode get_epoch set_epoch past s j busy client (any.Plain call) allowed new v.next v.state
      (turn_joins encode decode get_epoch set_epoch past _ _ _ c.0 (any.Plain call) (plain_inner get_epoch call) start.0 start.1 m v.next
      (subst (λ (p : ℕ). IsAnswered p encode decode get_epoch set_epoch (any.Plain call) (local_of (look_up m.opened.l.views None)) (plain_inner get_epoch call) start.0 start.1 v.next) (sym (page ∙ j.tie.page)) answered'))

  view_begins : (call : ViewCall T) (said : Told T) (new : State T) → fault_of decode get_epoch (seen_of s) s.trace (events.Begin client (any.View call)) ≡ None → Begins encode decode get_epoch set_epoch s client (any.View call) said new → Joined decode get_epoch set_epoch past new
  view_begins call said new allowed v =
      let h = begun encode decode get_epoch set_epoch past s j busy client (any.View call) allowed in
      let c = kept encode decode get_epoch set_epoch past s j busy client (any.View call) allowed in
      let view = view_used (any.View call) in
      let used = look_up j.l.views view in
      let may' = may encode decode get_epoch set_epoch past s j busy client (any.View call) allowed in
      let starts = v.starts ∙ ap (λ (u : Option (Used T)). whole.started s.page encode get_epoch set_epoch (any.View call) (seen_view u)) (sym (look_same j.l.views s.views j.tie.views view)) in
      let st = every_start s.page encode decode get_epoch set_epoch call used v.next (has_view (l encode decode get_epoch set_epoch past s j busy client (any.View call) allowed) client (any.View call) view refl may') starts v.made in
      let stands = first_begins encode decode get_epoch set_epoch past s j busy client (any.View call) allowed st.due (inl st.first) st.has in
      let only = subst (NextOnly (IsTold j.fine.trace)) (sym st.first) (started_only (IsTold j.fine.trace) get_epoch set_epoch call used (told_used j.fine.trace get_epoch set_epoch used (look_told j.fine.trace j.l.views j.core.seen view))) in
      begun_joins encode decode get_epoch set_epoch past s j busy client (any.View call) allowed new v.next v.state
      (next_joins encode decode get_epoch set_epoch past _ _ _ c.0 call Starts h st.due v.next stands only
      (subst (λ (p : ℕ). NextAs p encode decode get_epoch (any.View call) (local_of (look_up h.l.views view)) st.due v.next) (sym j.tie.page)
      (subst (λ (local : Option ℕ). NextAs s.page encode decode get_epoch (any.View call) local st.due v.next) (sym (taken_local (next_op s) j.l.views view)) st.starts)))

  -- a begin
  pub begin_joins : (call : Call T) (said : Told T) (new : State T) → fault_of decode get_epoch (seen_of s) s.trace (events.Begin client call) ≡ None → Begins encode decode get_epoch set_epoch s client call said new → Joined decode get_epoch set_epoch past new
  begin_joins (any.Plain call) said new allowed v = plain_begins call said new allowed v
  begin_joins (any.View call) said new allowed v = view_begins call said new allowed v
