-- One more row of a journal is an event that is taken.
use Rattle.std.proofs.Common.{◌≡◌, ◌≢◌, ℕ, zero, suc, ◌+◌, ◌-◌, ◌≤◌, List, [], ◌∷◌, ◌++◌, length, map, is_some, Bool, true, false, if◌then◌else◌, Option, Some, None, option_map, inl, inr, refl, sym, ◌∙◌, ap, subst, arith}
use Rattle.std.proofs.lemmas.Bool.{cases_eq, lt-ltb}
use Rattle.std.proofs.lemmas.List.{length-map}
use Rattle.std.specs.Prelude.{Vec}
use Rattle.std.specs.declared.alloc.Global.{Global}
use Rattle.txn_store.specs.Store.{Files, State as StoreState}
use Rattle.txn_store.specs.Requests.{Serves}
use Rattle.txn_store.specs.declared.request.Request.{Request}
use Rattle.txn_history.specs.declared.event.EventFault.TheVariants as faults
use Rattle.txn_history.specs.declared.event.EventOf.TheVariants as events
use Rattle.txn_history.specs.declared.event.Failure.TheVariants as failures
use Rattle.txn_history.specs.declared.event.ToldOf.TheVariants as told
use Rattle.txn_history.specs.declared.trace.RowOf.TheVariants.{Begun}
use Rattle.txn_history.specs.Lists.{numbered}
use Rattle.txn_history.specs.Seen.{Ask, Store, Look}
use Rattle.txn_history.specs.GoesOn.{may_be_loose, as_loose, all_left_loose}
use Rattle.txn_history.specs.Allowed.{is_client, ask_fault}
use Rattle.txn_history.specs.Added.{told_of, answer_rows, effect_rows}
use Rattle.txn_machine.specs.plain.Machine.{effect_of, effected, loosened, failing, next_op}
use Rattle.txn_history.specs.declared.event.Call.{Call}
use Rattle.txn_history.specs.declared.event.Answer.{Answer}
use Rattle.txn_history.specs.Trace.{Row}
use Rattle.txn_history.specs.Calls.{view_used}
use Rattle.txn_machine.specs.declared.doing.Operation.{Operation}
use Rattle.txn_machine.specs.Doing.{ended, refused, asked, started, caches_after, Turns}
use Rattle.txn_machine.specs.Machine.{State, opening, seen_view, used_by, seen_operations, acted, given_up, crashed, answered, begun_as, Acts, TakesOrLacks, RunsOrLacks, IsReached}
use Rattle.txn_machine.proofs.Busy.{seen_asks}
use Rattle.txn_machine.proofs.Runs.{runs_more_or_lacking}
use Rattle.txn_client_journals.specs.declared.rows.Receipt.{Receipt}
use Rattle.txn_client_journals.specs.declared.rows.Act.{Act}
use Rattle.txn_client_journals.specs.declared.rows.Act.TheVariants as acts
use Rattle.txn_client_journals.specs.declared.rows.Left.{Left}
use Rattle.txn_client_journals.specs.declared.rows.Step.{Step}
use Rattle.txn_client_journals.specs.declared.rows.Step.TheVariants as steps
use Rattle.txn_client_journals.specs.declared.rows.JournalRow.{JournalRow}
use Rattle.txn_client_journals.specs.Parts.{Part, answer_in, turned_with}
use Rattle.txn_client_journals.specs.Journals.{BeginsCall, TakesTurn, FailsAt, LacksAt, GivesUp, IsKilled}
use Rattle.txn_client_journals.specs.Logs.{IsLog, files_of}
use Rattle.txn_client_journals.specs.Numbers.{count, number}
use Rattle.txn_client_journals.specs.Merged.{Did, Merged, log_of, begins_of, views_of, with_view}
use Rattle.txn_client_journals.specs.Traces.{named_call, told_in, next_in, op_in, loose_of, trace_of, failed_of}
use Rattle.txn_client_journals.proofs.Taken.{event_in, tells_in, taken_of}
use Rattle.txn_client_journals.proofs.Numbers.{count_other, IsWithin}
use Rattle.txn_client_journals.proofs.Operations.{named_op, op_within}
use Rattle.txn_client_journals.proofs.Files.{log_files}
use Rattle.txn_client_journals.proofs.Calls.{reads_named, starts_named}
use Rattle.txn_client_journals.proofs.Calls as by_client
use Rattle.txn_client_journals.proofs.Ties.{TiedTo, effected_tied, turn_answer, turn_own, turn_other, turn_size, failing_tied, left_own, left_other, left_size}
use Rattle.txn_client_journals.proofs.Lefts.{AllLeft, lefts_begin, lefts_look, lefts_lacks, lefts_got, lefts_given, lefts_failed, lefts_killed}
use Rattle.txn_client_journals.proofs.Killing.{killed_own, killed_other, killed_loose, killed_within}
use Rattle.txn_client_journals.proofs.Begun.{some_client, uses_within, now_same, allowed}
use Rattle.txn_client_journals.proofs.Begins.{begun_answer, begun_own, begun_other, begun_size, begun_views_size}
use Rattle.txn_client_journals.proofs.Stages.{History, Stage, row_of, both}

module _ {T : Type 0} (page : ℕ) (encode : T → List ℕ) (decode : List ℕ → Option T) (get_epoch : T → ℕ) (set_epoch : T → ℕ → T) (law : History page encode decode get_epoch set_epoch) (room : 1 ≤ page)
    (clients : ℕ) (m : Merged T) (was parts : ℕ → Part T) (store : StoreState) (s : State T) (g : Stage page encode decode get_epoch set_epoch clients m was store s) (client : ℕ) (le : client ≤ clients) (same : (d : ℕ) → client ≢ d → was d ≡ parts d) where
  abbrev begins : List ℕ
  begins = begins_of m

  abbrev views : List ℕ
  views = views_of m

  abbrev part : Part T
  part = was client

  t : TiedTo decode get_epoch s client part begins views
  t = g.tied client

  in_world : client ≤ s.clients
  in_world = let e = g.clients_is in omega (arith, le, e)

  reached : IsReached encode decode get_epoch set_epoch s
  reached = (taken_of m, subst (λ (c : ℕ). RunsOrLacks encode decode get_epoch set_epoch (opening c s.page) (taken_of m) s) (sym g.clients_is) (subst (λ (p : ℕ). RunsOrLacks encode decode get_epoch set_epoch (opening clients p) (taken_of m) s) (sym g.page_is) g.runs), (let e = g.page_is in omega (arith, room, e)))

  -- an operation of the client

  module _ (k : ℕ) (o : Operation T) (found : numbered part.operations k ≡ Some o) (ask : Ask) (asks : asked o.doing ≡ Some ask) where
    abbrev n : ℕ
    n = number begins client k

    abbrev op' : Operation T
    op' = named_op (number views client) o

    there : numbered s.operations n ≡ Some op'
    there = t.ops.each k o found

    some : 1 ≤ client
    some = let w = op_within s.operations part.operations client begins views t.ops k o found in g.above client (omega (arith, w.above, w.below))

    kept : numbered s.caches client ≡ Some part.caches
    kept = t.caches some in_world

    owner : o.client ≡ client
    owner = t.ops.owner k o found

    kept_by : numbered s.caches o.client ≡ Some part.caches
    kept_by = subst (λ (c : ℕ). numbered s.caches c ≡ Some part.caches) (sym owner) kept

    asks_there : Rattle.txn_history.specs.Seen.asks_of (Rattle.txn_machine.specs.Machine.seen_calls s) n ≡ Some ask
    asks_there = seen_asks s.operations n op' there ∙ asks

  -- a look

  module _ (k : ℕ) (answer : Option (Answer T)) (v : TakesTurn page encode decode get_epoch set_epoch part k Look None answer (parts client)) where
    abbrev look_now : State T
    look_now = acted s (n k v.operation v.found Look v.asks) (op' k v.operation v.found Look v.asks) v.next (caches_after v.operation.doing part.caches v.next.1)

    abbrev look_n : ℕ
    look_n = number begins client k

    abbrev look_answer : Option (Answer T)
    look_answer = answer_in part v.operation v.next

    look_says : answered (length s.views) (option_map (number views client) v.operation.view) v.next.1 ≡ told_in m client look_answer
    look_says = turn_answer decode get_epoch set_epoch s.failed s client part begins views g.all_views t k v.operation v.found v.next (caches_after v.operation.doing part.caches v.next.1) (some k v.operation v.found Look v.asks)

    look_takes : TakesOrLacks encode decode get_epoch set_epoch s (events.Look look_n) (told_of (told.Went look_n) look_n (told_in m client look_answer)) look_now
    look_takes = record {
      allowed = ap (ask_fault false) (asks_there k v.operation v.found Look v.asks);
      step = record {
        operation = op' k v.operation v.found Look v.asks;
        caches = part.caches;
        acts = record { found = there k v.operation v.found Look v.asks; asks = v.asks; kept = kept_by k v.operation v.found Look v.asks };
        next = v.next;
        turns = subst (λ (p : ℕ). Turns p encode decode get_epoch set_epoch v.operation.doing part.caches None v.next) (sym g.page_is) v.turns;
        tells = ap (told_of (told.Went look_n) look_n) (sym look_says);
        state = refl;
      };
    }

    look_runs : RunsOrLacks encode decode get_epoch set_epoch (opening clients page) (taken_of (Did client (row_of page encode decode get_epoch set_epoch (steps.Act k acts.Look) look_answer) ∷ m)) look_now
    look_runs = runs_more_or_lacking encode decode get_epoch set_epoch (opening clients page) (taken_of m) s (events.Look look_n) (told_of (told.Went look_n) look_n (told_in m client look_answer)) look_now g.runs look_takes

    look_stage : Stage page encode decode get_epoch set_epoch clients (Did client (row_of page encode decode get_epoch set_epoch (steps.Act k acts.Look) look_answer) ∷ m) parts store look_now
    look_stage =
        let one = some k v.operation v.found Look v.asks in
        let good = law clients page (taken_of (Did client (row_of page encode decode get_epoch set_epoch (steps.Act k acts.Look) look_answer) ∷ m)) look_now room look_runs in
        record {
          runs = look_runs;
          clients_is = g.clients_is;
          page_is = g.page_is;
          trace = ap (λ (a : Option (Answer T)). s.trace ++ answer_rows look_n a) look_says ∙ ap (λ (rows : List (Row T)). rows ++ answer_rows look_n (told_in m client look_answer)) g.trace;
          failed = g.failed;
          loose = g.loose;
          lefts = lefts_look client k look_answer m g.lefts;
          store_is = g.store_is;
          all_operations = Rattle.std.proofs.lemmas.List.length-set s.operations (look_n - 1) (Rattle.txn_machine.specs.Machine.doing_next (op' k v.operation v.found Look v.asks) v.next.0) ∙ g.all_operations;
          all_views = turn_size decode get_epoch set_epoch s.failed s client part begins views g.all_views t k v.operation v.found v.next (caches_after v.operation.doing part.caches v.next.1) one;
          above = g.above;
          tied = both page encode decode get_epoch set_epoch (λ d. TiedTo decode get_epoch look_now d (parts d) begins (with_view client look_answer views)) client
              (subst (λ (p : Part T). TiedTo decode get_epoch look_now client p begins (with_view client look_answer views)) (sym v.part) (turn_own decode get_epoch set_epoch s.failed s client part begins views g.all_views t k v.operation v.found v.next (caches_after v.operation.doing part.caches v.next.1) one good))
              (λ d ne. subst (λ (p : Part T). TiedTo decode get_epoch look_now d p begins (with_view client look_answer views)) (same d ne) (turn_other decode get_epoch set_epoch s.failed s client part begins views g.all_views t k v.operation v.found v.next (caches_after v.operation.doing part.caches v.next.1) one d (was d) ne (g.tied d)));
        }

    pub look_more : (s2 : State T) × Stage page encode decode get_epoch set_epoch clients (Did client (row_of page encode decode get_epoch set_epoch (steps.Act k acts.Look) answer) ∷ m) parts store s2
    look_more = (look_now, subst (λ (a : Option (Answer T)). Stage page encode decode get_epoch set_epoch clients (Did client (row_of page encode decode get_epoch set_epoch (steps.Act k acts.Look) a) ∷ m) parts store look_now) (sym v.tells) look_stage)

  -- a receipt

  module _ (k : ℕ) (receipt : Receipt) (answer : Option (Answer T)) (v : TakesTurn page encode decode get_epoch set_epoch part k (Store receipt.request) (Some receipt.reply) answer (parts client)) (after : StoreState) (log : IsLog (log_of m) store) (serves : Serves receipt.request store receipt.reply after)
      (honest : after.failures ≡ 0) where
    abbrev ask : Ask
    ask = Store receipt.request

    abbrev got_n : ℕ
    got_n = number begins client k

    abbrev got_op : Operation T
    got_op = op' k v.operation v.found ask v.asks

    abbrev served : State T
    served = effected s got_n receipt.request receipt.reply after

    abbrev got_now : State T
    got_now = acted served got_n got_op v.next (caches_after v.operation.doing part.caches v.next.1)

    abbrev got_answer : Option (Answer T)
    got_answer = answer_in part v.operation v.next

    t1 : (d : ℕ) → TiedTo decode get_epoch served d (was d) begins views
    t1 d = effected_tied decode get_epoch s got_n receipt.request receipt.reply after d (was d) begins views (g.tied d)

    got_one : 1 ≤ client
    got_one = some k v.operation v.found ask v.asks

    got_says : answered (length s.views) (option_map (number views client) v.operation.view) v.next.1 ≡ told_in m client got_answer
    got_says = turn_answer decode get_epoch set_epoch s.failed served client part begins views g.all_views (t1 client) k v.operation v.found v.next (caches_after v.operation.doing part.caches v.next.1) got_one

    got_takes : TakesOrLacks encode decode get_epoch set_epoch s (events.Serve got_n) (told_of (told.Went got_n) got_n (told_in m client got_answer)) got_now
    got_takes = record {
      allowed = ap (ask_fault true) (asks_there k v.operation v.found ask v.asks);
      step = inl (record {
        call = record {
          operation = got_op;
          request = receipt.request;
          caches = part.caches;
          acts = record { found = there k v.operation v.found ask v.asks; asks = v.asks; kept = kept_by k v.operation v.found ask v.asks };
          reply = receipt.reply;
          store = after;
          reaches = record { serves = subst (λ (old : StoreState). Serves receipt.request old receipt.reply after) (sym g.store_is) serves; honest = honest };
        };
        next = v.next;
        turns = subst (λ (p : ℕ). Turns p encode decode get_epoch set_epoch v.operation.doing part.caches (Some receipt.reply) v.next) (sym g.page_is) v.turns;
        tells = ap (told_of (told.Went got_n) got_n) (sym got_says);
        state = refl;
      });
    }

    abbrev got_step : Step T
    got_step = steps.Act k (acts.Receive receipt)

    got_runs : RunsOrLacks encode decode get_epoch set_epoch (opening clients page) (taken_of (Did client (row_of page encode decode get_epoch set_epoch got_step got_answer) ∷ m)) got_now
    got_runs = runs_more_or_lacking encode decode get_epoch set_epoch (opening clients page) (taken_of m) s (events.Serve got_n) (told_of (told.Went got_n) got_n (told_in m client got_answer)) got_now g.runs got_takes

    files_are : s.store.files ≡ files_of (log_of m)
    files_are = ap (λ (x : StoreState). x.files) g.store_is ∙ log_files (log_of m) store log

    abbrev got_rows : List (Row T) → Files → List (Row T)
    got_rows rows files = rows ++ effect_rows got_n (effect_of files receipt.request receipt.reply)

    got_stage : Stage page encode decode get_epoch set_epoch clients (Did client (row_of page encode decode get_epoch set_epoch got_step got_answer) ∷ m) parts after got_now
    got_stage =
        let good = law clients page (taken_of (Did client (row_of page encode decode get_epoch set_epoch got_step got_answer) ∷ m)) got_now room got_runs in
        record {
          runs = got_runs;
          clients_is = g.clients_is;
          page_is = g.page_is;
          trace = ap (λ (a : Option (Answer T)). got_rows s.trace s.store.files ++ answer_rows got_n a) got_says
              ∙ (ap (λ (rows : List (Row T)). got_rows rows s.store.files ++ answer_rows got_n (told_in m client got_answer)) g.trace ∙ ap (λ (files : Files). got_rows (trace_of m) files ++ answer_rows got_n (told_in m client got_answer)) files_are);
          failed = g.failed;
          loose = g.loose;
          lefts = lefts_got client k receipt got_answer m g.lefts;
          store_is = refl;
          all_operations = Rattle.std.proofs.lemmas.List.length-set s.operations (got_n - 1) (Rattle.txn_machine.specs.Machine.doing_next got_op v.next.0) ∙ g.all_operations;
          all_views = turn_size decode get_epoch set_epoch s.failed served client part begins views g.all_views (t1 client) k v.operation v.found v.next (caches_after v.operation.doing part.caches v.next.1) got_one;
          above = g.above;
          tied = both page encode decode get_epoch set_epoch (λ d. TiedTo decode get_epoch got_now d (parts d) begins (with_view client got_answer views)) client
              (subst (λ (p : Part T). TiedTo decode get_epoch got_now client p begins (with_view client got_answer views)) (sym v.part) (turn_own decode get_epoch set_epoch s.failed served client part begins views g.all_views (t1 client) k v.operation v.found v.next (caches_after v.operation.doing part.caches v.next.1) got_one good))
              (λ d ne. subst (λ (p : Part T). TiedTo decode get_epoch got_now d p begins (with_view client got_answer views)) (same d ne) (turn_other decode get_epoch set_epoch s.failed served client part begins views g.all_views (t1 client) k v.operation v.found v.next (caches_after v.operation.doing part.caches v.next.1) got_one d (was d) ne (t1 d)));
        }

    pub got_more : (s2 : State T) × Stage page encode decode get_epoch set_epoch clients (Did client (row_of page encode decode get_epoch set_epoch got_step answer) ∷ m) parts after s2
    got_more = (got_now, subst (λ (a : Option (Answer T)). Stage page encode decode get_epoch set_epoch clients (Did client (row_of page encode decode get_epoch set_epoch got_step a) ∷ m) parts after got_now) (sym v.tells) got_stage)

  -- a give-up

  module _ (k : ℕ) (left : Option Request) (answer : Option (Answer T)) (v : GivesUp part k left answer (parts client)) where
    abbrev left_n : ℕ
    left_n = number begins client k

    abbrev left_op : Operation T
    left_op = op' k v.operation v.found v.ask v.asks

    abbrev left_now : State T
    left_now = given_up (loosened s left_n v.ask) left_n left_op

    left_takes : TakesOrLacks encode decode get_epoch set_epoch s (events.GiveUp left_n) (told.GaveUp left_n) left_now
    left_takes = record {
      allowed = ap (λ (asks : Option Ask). if is_some asks then None else Some faults.UnknownNumber) (asks_there k v.operation v.found v.ask v.asks);
      step = record { operation = left_op; ask = v.ask; found = there k v.operation v.found v.ask v.asks; asks = v.asks; tells = refl; state = refl };
    }

    abbrev left_step : Step T
    left_step = steps.Act k (acts.GiveUp left)

    left_runs : RunsOrLacks encode decode get_epoch set_epoch (opening clients page) (taken_of (Did client (row_of page encode decode get_epoch set_epoch left_step None) ∷ m)) left_now
    left_runs = runs_more_or_lacking encode decode get_epoch set_epoch (opening clients page) (taken_of m) s (events.GiveUp left_n) (told.GaveUp left_n) left_now g.runs left_takes

    left_stage : Stage page encode decode get_epoch set_epoch clients (Did client (row_of page encode decode get_epoch set_epoch left_step None) ∷ m) parts store left_now
    left_stage =
        record {
          runs = left_runs;
          clients_is = g.clients_is;
          page_is = g.page_is;
          trace = g.trace;
          failed = g.failed;
          loose = ap (λ (rows : List (ℕ × Request)). rows ++ as_loose left_n (may_be_loose v.ask)) g.loose ∙ ap (λ (r : Option Request). loose_of m ++ as_loose left_n r) (sym v.leaves);
          lefts = lefts_given client k left None m (op_within s.operations part.operations client begins views t.ops k v.operation v.found) g.lefts;
          store_is = g.store_is;
          all_operations = Rattle.std.proofs.lemmas.List.length-set s.operations (left_n - 1) (Rattle.txn_machine.specs.Machine.doing_next left_op ended) ∙ g.all_operations;
          all_views = left_size decode get_epoch s client part begins views t k v.operation v.found v.ask ∙ g.all_views;
          above = g.above;
          tied = both page encode decode get_epoch set_epoch (λ d. TiedTo decode get_epoch left_now d (parts d) begins views) client
              (subst (λ (p : Part T). TiedTo decode get_epoch left_now client p begins views) (sym v.part) (left_own decode get_epoch s client part begins views t k v.operation v.found v.ask))
              (λ d ne. subst (λ (p : Part T). TiedTo decode get_epoch left_now d p begins views) (same d ne) (left_other decode get_epoch s client part begins views t k v.operation v.found v.ask d (was d) ne (g.tied d)));
        }

    pub left_more : (s2 : State T) × Stage page encode decode get_epoch set_epoch clients (Did client (row_of page encode decode get_epoch set_epoch left_step answer) ∷ m) parts store s2
    left_more = (left_now, subst (λ (a : Option (Answer T)). Stage page encode decode get_epoch set_epoch clients (Did client (row_of page encode decode get_epoch set_epoch left_step a) ∷ m) parts store left_now) (sym v.tells) left_stage)

  -- A step by which an operation ends refused, with its caches as they were: this is loose then, and these operations have failed.

  module _ (k : ℕ) (o : Operation T) (found : numbered part.operations k ≡ Some o) (request : Request) (asks : asked o.doing ≡ Some (Store request)) (act : Act) (refusal : ℕ) (loose : List (ℕ × Request)) (failed : List ℕ) where
    abbrev end_n : ℕ
    end_n = number begins client k

    abbrev end_op : Operation T
    end_op = op' k o found (Store request) asks

    abbrev end_first : State T
    end_first = record s { loose = loose; failed = failed }

    abbrev end_now : State T
    end_now = acted end_first end_n end_op (refused refusal) part.caches

    abbrev end_answer : Option (Answer T)
    end_answer = answer_in part o (refused refusal)

    abbrev end_list : Merged T
    end_list = Did client (row_of page encode decode get_epoch set_epoch (steps.Act k act) end_answer) ∷ m

    end_acts : Acts s end_n end_op (Store request) part.caches
    end_acts = record { found = there k o found (Store request) asks; asks = asks; kept = kept_by k o found (Store request) asks }

    end_stage : TakesOrLacks encode decode get_epoch set_epoch s (event_in m client (steps.Act k act)) (tells_in m client (steps.Act k act) end_answer) end_now → end_now.trace ≡ trace_of end_list → failed ≡ failed_of end_list → loose ≡ loose_of end_list → AllLeft end_list →
        ((d : ℕ) → TiedTo decode get_epoch end_first d (was d) begins views) → parts client ≡ turned_with get_epoch part k o (refused refusal) part.caches → Stage page encode decode get_epoch set_epoch clients end_list parts store end_now
    end_stage takes trace failed_is loose_is lefts ties part_is =
        let runs = runs_more_or_lacking encode decode get_epoch set_epoch (opening clients page) (taken_of m) s (event_in m client (steps.Act k act)) (tells_in m client (steps.Act k act) end_answer) end_now g.runs takes in
        let good = law clients page (taken_of end_list) end_now room runs in
        let one = some k o found (Store request) asks in
        record {
          runs = runs;
          clients_is = g.clients_is;
          page_is = g.page_is;
          trace = trace;
          failed = failed_is;
          loose = loose_is;
          lefts = lefts;
          store_is = g.store_is;
          all_operations = Rattle.std.proofs.lemmas.List.length-set s.operations (end_n - 1) (Rattle.txn_machine.specs.Machine.doing_next end_op ended) ∙ g.all_operations;
          all_views = turn_size decode get_epoch set_epoch failed end_first client part begins views g.all_views (ties client) k o found (refused refusal) part.caches one;
          above = g.above;
          tied = both page encode decode get_epoch set_epoch (λ d. TiedTo decode get_epoch end_now d (parts d) begins (with_view client end_answer views)) client
              (subst (λ (p : Part T). TiedTo decode get_epoch end_now client p begins (with_view client end_answer views)) (sym part_is) (turn_own decode get_epoch set_epoch failed end_first client part begins views g.all_views (ties client) k o found (refused refusal) part.caches one good))
              (λ d ne. subst (λ (p : Part T). TiedTo decode get_epoch end_now d p begins (with_view client end_answer views)) (same d ne) (turn_other decode get_epoch set_epoch failed end_first client part begins views g.all_views (ties client) k o found (refused refusal) part.caches one d (was d) ne (ties d)));
        }

  -- a failure

  module _ (k : ℕ) (request : Request) (answer : Option (Answer T)) (v : FailsAt get_epoch part k request answer (parts client)) where
    abbrev fail_n : ℕ
    fail_n = number begins client k

    abbrev fail_first : State T
    fail_first = failing (loosened s fail_n (Store request)) fail_n

    abbrev fail_now : State T
    fail_now = end_now k v.operation v.found request v.asks (acts.Fails request) 2 fail_first.loose fail_first.failed

    abbrev fail_answer : Option (Answer T)
    fail_answer = answer_in part v.operation (refused 2)

    abbrev fail_step : Step T
    fail_step = steps.Act k (acts.Fails request)

    fail_takes : TakesOrLacks encode decode get_epoch set_epoch s (events.Fail fail_n failures.Loose) (told_of (told.Went fail_n) fail_n (told_in m client fail_answer)) fail_now
    fail_takes = record {
      allowed = ap (ask_fault true) (asks_there k v.operation v.found (Store request) v.asks);
      step = record { operation = op' k v.operation v.found (Store request) v.asks; request = request; caches = part.caches; acts = end_acts k v.operation v.found request v.asks (acts.Fails request) 2 fail_first.loose fail_first.failed; tells = refl; state = refl };
    }

    fail_stage : Stage page encode decode get_epoch set_epoch clients (Did client (row_of page encode decode get_epoch set_epoch fail_step fail_answer) ∷ m) parts store fail_now
    fail_stage =
        end_stage k v.operation v.found request v.asks (acts.Fails request) 2 fail_first.loose fail_first.failed fail_takes (ap (λ (rows : List (Row T)). rows ++ answer_rows fail_n (told_in m client fail_answer)) g.trace) (ap (λ (ops : List ℕ). ops ++ fail_n ∷ []) g.failed)
        (ap (λ (rows : List (ℕ × Request)). rows ++ as_loose fail_n (may_be_loose (Store request))) g.loose) (lefts_failed client k request fail_answer m (op_within s.operations part.operations client begins views t.ops k v.operation v.found) g.lefts)
        (λ d. failing_tied decode get_epoch s fail_n (Store request) d (was d) begins views (g.tied d)) v.part

    pub fail_more : (s2 : State T) × Stage page encode decode get_epoch set_epoch clients (Did client (row_of page encode decode get_epoch set_epoch fail_step answer) ∷ m) parts store s2
    fail_more = (fail_now, subst (λ (a : Option (Answer T)). Stage page encode decode get_epoch set_epoch clients (Did client (row_of page encode decode get_epoch set_epoch fail_step a) ∷ m) parts store fail_now) (sym v.tells) fail_stage)

  -- a refusal for memory

  module _ (k : ℕ) (answer : Option (Answer T)) (v : LacksAt get_epoch part k answer (parts client)) where
    abbrev lack_n : ℕ
    lack_n = number begins client k

    abbrev lack_now : State T
    lack_now = end_now k v.operation v.found v.request v.asks acts.Lacks 9 s.loose s.failed

    abbrev lack_answer : Option (Answer T)
    lack_answer = answer_in part v.operation (refused 9)

    lack_takes : TakesOrLacks encode decode get_epoch set_epoch s (events.Serve lack_n) (told_of (told.Went lack_n) lack_n (told_in m client lack_answer)) lack_now
    lack_takes = record {
      allowed = ap (ask_fault true) (asks_there k v.operation v.found (Store v.request) v.asks);
      step = inr (record { operation = op' k v.operation v.found (Store v.request) v.asks; request = v.request; caches = part.caches; acts = end_acts k v.operation v.found v.request v.asks acts.Lacks 9 s.loose s.failed; tells = refl; state = refl });
    }

    lack_stage : Stage page encode decode get_epoch set_epoch clients (Did client (row_of page encode decode get_epoch set_epoch (steps.Act k acts.Lacks) lack_answer) ∷ m) parts store lack_now
    lack_stage =
        end_stage k v.operation v.found v.request v.asks acts.Lacks 9 s.loose s.failed lack_takes (ap (λ (rows : List (Row T)). rows ++ answer_rows lack_n (told_in m client lack_answer)) g.trace) g.failed g.loose (lefts_lacks client k lack_answer m g.lefts) g.tied v.part

    pub lack_more : (s2 : State T) × Stage page encode decode get_epoch set_epoch clients (Did client (row_of page encode decode get_epoch set_epoch (steps.Act k acts.Lacks) answer) ∷ m) parts store s2
    lack_more = (lack_now, subst (λ (a : Option (Answer T)). Stage page encode decode get_epoch set_epoch clients (Did client (row_of page encode decode get_epoch set_epoch (steps.Act k acts.Lacks) a) ∷ m) parts store lack_now) (sym v.tells) lack_stage)

  -- a kill

  module _ (lefts : Vec Left Global) (answer : Option (Answer T)) (v : IsKilled client part lefts.items answer (parts client)) where
    abbrev kill_now : State T
    kill_now = crashed s client

    is_one : (n total : ℕ) → 1 ≤ n → n ≤ total → is_client total n ≡ true
    is_one zero total one low = absurd (omega (arith, one))
    is_one (suc n) total one low = lt-ltb n total (omega (arith, low))

    kill_takes : TakesOrLacks encode decode get_epoch set_epoch s (events.Crash client) (told.Crashed client) kill_now
    kill_takes = record {
      allowed = ap (λ (is : Bool). if is then None else Some faults.UnknownNumber) (is_one client s.clients v.some in_world);
      step = record { tells = refl; state = refl };
    }

    left_so : all_left_loose client 1 (seen_operations s.operations) ≡ map (λ left. (op_in m client left.op, left.request)) lefts.items
    left_so = killed_loose decode get_epoch s client begins views was g.all_operations g.tied lefts.items v.leaves

    kill_stage : Stage page encode decode get_epoch set_epoch clients (Did client (row_of page encode decode get_epoch set_epoch (steps.Killed lefts) None) ∷ m) parts store kill_now
    kill_stage =
        record {
          runs = runs_more_or_lacking encode decode get_epoch set_epoch (opening clients page) (taken_of m) s (events.Crash client) (told.Crashed client) kill_now g.runs kill_takes;
          clients_is = g.clients_is;
          page_is = g.page_is;
          trace = g.trace;
          failed = g.failed;
          loose = ap (λ (rows : List (ℕ × Request)). s.loose ++ rows) left_so ∙ ap (λ (rows : List (ℕ × Request)). rows ++ map (λ left. (op_in m client left.op, left.request)) lefts.items) g.loose;
          lefts = lefts_killed client lefts None m (killed_within decode get_epoch s client begins views part t lefts.items v.leaves) g.lefts;
          store_is = g.store_is;
          all_operations = length-map s.operations (Rattle.txn_machine.specs.Machine.ended_by client) ∙ g.all_operations;
          all_views = length-map s.views (Rattle.txn_machine.specs.views.Steps.view_without client) ∙ g.all_views;
          above = g.above;
          tied = both page encode decode get_epoch set_epoch (λ d. TiedTo decode get_epoch kill_now d (parts d) begins views) client
              (subst (λ (p : Part T). TiedTo decode get_epoch kill_now client p begins views) (sym v.part) (killed_own decode get_epoch s client begins views part t))
              (λ d ne. subst (λ (p : Part T). TiedTo decode get_epoch kill_now d p begins views) (same d ne) (killed_other decode get_epoch s client begins views d (was d) v.some ne (g.tied d)));
        }

    pub kill_more : (s2 : State T) × Stage page encode decode get_epoch set_epoch clients (Did client (row_of page encode decode get_epoch set_epoch (steps.Killed lefts) answer) ∷ m) parts store s2
    kill_more = (kill_now, subst (λ (a : Option (Answer T)). Stage page encode decode get_epoch set_epoch clients (Did client (row_of page encode decode get_epoch set_epoch (steps.Killed lefts) a) ∷ m) parts store kill_now) (sym v.tells) kill_stage)

  -- a begin

  module _ (call : Call T) (answer : Option (Answer T)) (v : BeginsCall page encode decode get_epoch set_epoch client part call answer (parts client)) where
    abbrev new_call : Call T
    new_call = named_call (number views client) call

    abbrev new_now : State T
    new_now = begun_as s client new_call v.next

    abbrev new_answer : Option (Answer T)
    new_answer = answered (length part.views) (view_used call) v.next.1

    has : (w : ℕ) → view_used call ≡ Some w → IsWithin w (count client views)
    has = uses_within encode decode get_epoch set_epoch s reached client part begins views t call v.permits

    new_one : 1 ≤ client
    new_one = some_client encode decode get_epoch set_epoch s reached client part begins views t call v.permits

    new_says : answered (length s.views) (view_used new_call) v.next.1 ≡ told_in m client new_answer
    new_says = begun_answer decode get_epoch s client part begins views g.all_operations g.all_views t call has v.next

    next_is : next_op s ≡ next_in m
    next_is = ap (λ n. n + 1) g.all_operations

    new_takes : TakesOrLacks encode decode get_epoch set_epoch s (events.Begin client new_call) (told_of (told.Began (next_in m)) (next_in m) (told_in m client new_answer)) new_now
    new_takes = record {
      allowed = allowed encode decode get_epoch set_epoch s reached client part begins views t call v.permits in_world;
      step = record {
        reads_back = reads_named page encode decode get_epoch set_epoch (number views client) call v.reads_back;
        word = (by_client.same (number views client) call).word v.word;
        next = v.next;
        starts = v.starts ∙ (starts_named page encode decode get_epoch set_epoch (number views client) call (seen_view (used_by part.views (view_used call)))
            ∙ (ap (started page encode get_epoch set_epoch new_call) (sym (now_same encode decode get_epoch set_epoch s reached client part begins views t call v.permits))
            ∙ ap (λ (p : ℕ). started p encode get_epoch set_epoch new_call (Rattle.txn_machine.specs.Machine.view_now s new_call)) (sym g.page_is)));
        made = v.made;
        tells = ap (λ n. told_of (told.Began n) n (told_in m client new_answer)) (sym next_is) ∙ ap (told_of (told.Began (next_op s)) (next_op s)) (sym new_says);
        state = refl;
      };
    }

    abbrev new_row : JournalRow T
    new_row = row_of page encode decode get_epoch set_epoch (steps.Begin call) new_answer

    abbrev new_views : List ℕ
    new_views = with_view client new_answer views

    new_stage : Stage page encode decode get_epoch set_epoch clients (Did client new_row ∷ m) parts store new_now
    new_stage =
        record {
          runs = runs_more_or_lacking encode decode get_epoch set_epoch (opening clients page) (taken_of m) s (events.Begin client new_call) (told_of (told.Began (next_in m)) (next_in m) (told_in m client new_answer)) new_now g.runs new_takes;
          clients_is = g.clients_is;
          page_is = g.page_is;
          trace = ap (λ (a : Option (Answer T)). (s.trace ++ Begun (next_op s) new_call ∷ []) ++ answer_rows (next_op s) a) new_says
              ∙ (ap (λ n. (s.trace ++ Begun n new_call ∷ []) ++ answer_rows n (told_in m client new_answer)) next_is ∙ ap (λ (rows : List (Row T)). (rows ++ Begun (next_in m) new_call ∷ []) ++ answer_rows (next_in m) (told_in m client new_answer)) g.trace);
          failed = g.failed;
          loose = g.loose;
          lefts = lefts_begin client call new_answer m g.lefts;
          store_is = g.store_is;
          all_operations = begun_size decode get_epoch s client part begins views g.all_operations g.all_views t call has v.next;
          all_views = begun_views_size decode get_epoch s client part begins views g.all_operations g.all_views t call has v.next;
          above = λ d some. elim (cases_eq client d) [
            | inl is ↦ subst (λ (c : ℕ). 1 ≤ c) is new_one
            | inr ne ↦ g.above d (subst (λ n. 1 ≤ n) (count_other client d begins ne) some)
          ];
          tied = both page encode decode get_epoch set_epoch (λ d. TiedTo decode get_epoch new_now d (parts d) (client ∷ begins) new_views) client
              (subst (λ (p : Part T). TiedTo decode get_epoch new_now client p (client ∷ begins) new_views) (sym v.part) (begun_own decode get_epoch s client part begins views g.all_operations g.all_views t call has v.next))
              (λ d ne. subst (λ (p : Part T). TiedTo decode get_epoch new_now d p (client ∷ begins) new_views) (same d ne) (begun_other decode get_epoch s client part begins views g.all_operations g.all_views t call has v.next d (was d) ne (g.tied d)));
        }

    pub new_more : (s2 : State T) × Stage page encode decode get_epoch set_epoch clients (Did client (row_of page encode decode get_epoch set_epoch (steps.Begin call) answer) ∷ m) parts store s2
    new_more = (new_now, subst (λ (a : Option (Answer T)). Stage page encode decode get_epoch set_epoch clients (Did client (row_of page encode decode get_epoch set_epoch (steps.Begin call) a) ∷ m) parts store new_now) (sym v.tells) new_stage)
