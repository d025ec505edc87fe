-- A landing more is an event that is taken.
use Rattle.std.proofs.Common.{◌≡◌, ℕ, List, ◌∷◌, ◌++◌, is_some, if◌then◌else◌, Option, Some, None, refl, sym, ◌∙◌, ap, subst}
use Rattle.txn_store.specs.Store.{Files, State as StoreState}
use Rattle.txn_store.specs.Requests.{Serves}
use Rattle.txn_store.specs.declared.request.Request.{Request}
use Rattle.txn_history.specs.declared.event.EventFault.TheVariants as faults
use Rattle.txn_history.specs.declared.event.EventOf.TheVariants as events
use Rattle.txn_history.specs.declared.event.ToldOf.TheVariants as told
use Rattle.txn_history.specs.Lists.{numbered}
use Rattle.txn_history.specs.Added.{effect_rows}
use Rattle.txn_machine.specs.plain.Machine.{effect_of, effected}
use Rattle.txn_history.specs.Trace.{Row, Told}
use Rattle.txn_machine.specs.Machine.{State, opening, TakesOrLacks}
use Rattle.txn_machine.proofs.Runs.{runs_more_or_lacking}
use Rattle.txn_client_journals.specs.Parts.{Part}
use Rattle.txn_client_journals.specs.Logs.{IsLog, files_of}
use Rattle.txn_client_journals.specs.Merged.{Landing, Lands, Merged, log_of, begins_of, views_of, CanLand}
use Rattle.txn_client_journals.specs.Traces.{op_in, trace_of}
use Rattle.txn_client_journals.proofs.Taken.{place_in, taken_of}
use Rattle.txn_client_journals.proofs.Files.{log_files}
use Rattle.txn_client_journals.proofs.Ties.{effected_tied}
use Rattle.txn_client_journals.proofs.Stages.{Stage}

module _ {T : Type 0} (page : ℕ) (encode : T → List ℕ) (decode : List ℕ → Option T) (get_epoch : T → ℕ) (set_epoch : T → ℕ → T) (clients : ℕ) (m : Merged T) (parts : ℕ → Part T) (store : StoreState) (s : State T) (g : Stage page encode decode get_epoch set_epoch clients m parts store s)
    (landing : Landing) (lands : CanLand m landing) (after : StoreState) (log : IsLog (log_of m) store) (serves : Serves landing.request store landing.reply after) (honest : after.failures ≡ 0) where
  abbrev land_n : ℕ
  land_n = op_in m landing.client landing.op

  abbrev land_k : ℕ
  land_k = place_in m landing.client landing.op

  abbrev land_now : State T
  land_now = effected s land_n landing.request landing.reply after

  land_files : s.store.files ≡ files_of (log_of m)
  land_files = ap (λ (x : StoreState). x.files) g.store_is ∙ log_files (log_of m) store log

  land_there : numbered s.loose land_k ≡ Some (land_n, landing.request)
  land_there = ap (λ (rows : List (ℕ × Request)). numbered rows land_k) g.loose ∙ (g.lefts landing.client landing.op landing.request lands.0).at

  abbrev land_told : Files → Told T
  land_told files = told.Landed land_k (is_some (effect_of files landing.request landing.reply))

  land_takes : TakesOrLacks encode decode get_epoch set_epoch s (events.Land land_k) (land_told (files_of (log_of m))) land_now
  land_takes = record {
    allowed = ap (λ (found : Option (ℕ × Request)). if is_some found then None else Some faults.UnknownNumber) land_there;
    step = record {
      loose = record {
        op = land_n;
        request = landing.request;
        found = land_there;
        reply = landing.reply;
        store = after;
        reaches = record { serves = subst (λ (old : StoreState). Serves landing.request old landing.reply after) (sym g.store_is) serves; honest = honest };
      };
      answered = lands.1;
      tells = ap land_told (sym land_files);
      state = refl;
    };
  }

  abbrev land_rows : List (Row T) → Files → List (Row T)
  land_rows rows files = rows ++ effect_rows land_n (effect_of files landing.request landing.reply)

  land_stage : Stage page encode decode get_epoch set_epoch clients (Lands landing ∷ m) parts after land_now
  land_stage =
      record {
        runs = runs_more_or_lacking encode decode get_epoch set_epoch (opening clients page) (taken_of m) s (events.Land land_k) (land_told (files_of (log_of m))) land_now g.runs land_takes;
        clients_is = g.clients_is;
        page_is = g.page_is;
        trace = ap (λ (rows : List (Row T)). land_rows rows s.store.files) g.trace ∙ ap (λ (files : Files). land_rows (trace_of m) files) land_files;
        failed = g.failed;
        loose = g.loose;
        lefts = λ client op request e. (let old = g.lefts client op request e in record { within = old.within; at = old.at });
        store_is = refl;
        all_operations = g.all_operations;
        all_views = g.all_views;
        above = g.above;
        tied = λ d. effected_tied decode get_epoch s land_n landing.request landing.reply after d (parts d) (begins_of m) (views_of m) (g.tied d);
      }

  pub land_more : (s2 : State T) × Stage page encode decode get_epoch set_epoch clients (Lands landing ∷ m) parts after s2
  land_more = (land_now, land_stage)
