-- What an audit that agrees promises: merged lists of the diaries and the log, and one of these. Here all lists have the oldest first.
use Rattle.std.specs.Prelude.{◌≡◌, ℕ, List, [], ◌∷◌, ◌++◌, ◌==◌, Option, Some, None, take, reverse, Bool, true, false, if◌then◌else◌}
use Rattle.txn_store.specs.Store.{State as StoreState}
use Rattle.txn_client_journals.specs.declared.rows.LogRow.{LogRow}
use Rattle.txn_client_journals.specs.declared.rows.Act.TheVariants as acts
use Rattle.txn_client_journals.specs.declared.rows.Step.{Step}
use Rattle.txn_client_journals.specs.declared.rows.Step.TheVariants as steps
use Rattle.txn_client_journals.specs.declared.rows.JournalRow.{JournalRow}
use Rattle.txn_client_journals.specs.Parts.{Part}
use Rattle.txn_client_journals.specs.Journals.{Replays}
use Rattle.txn_client_journals.specs.Merged.{Landing, Did, Lands, Merged, part_of, log_of, AllCanLand, IsMerged}
use Rattle.txn_client_journals.specs.Histories.{OneHistoryOfMerged}
use Rattle.txn_client_journals.specs.Runs.{IsRun}
use Rattle.txn_client_journals.specs.Verdict.{AuditedDiary, journal_of, kept_by}

-- a row of the log that is a landing of this operation of its client
abbrev pub landing_of : LogRow → ℕ → Landing
landing_of row op = record { client = row.client; op = op; request = row.request; reply = row.reply }

module _ {T : Type 0} where
  -- A list of journal rows, each with its client, and of landings, merges these diaries in the order of the log: its part of each client is that client's journal, its receipts and landings are the log's rows, and each landing is of what was left before it.
  pub record Merges (log : List LogRow) (ds : List (AuditedDiary T)) (m : Merged T) : Type 0 where
    pub parts : (client : ℕ) → part_of client m ≡ journal_of ds client
    pub receipts : log_of m ≡ log
    pub landings : AllCanLand (reverse m)

  -- One such list: for each row of the log its client's rows up to and with that receipt, or for a landing those before the next receipt and then the landing, and last the rests.

  -- a step that takes a receipt
  abbrev pub is_receipt : Step T → Bool
  is_receipt (steps.Act op (acts.Receive receipt)) = true
  is_receipt _ = false

  -- the rows up to and with the first receipt
  abbrev pub up_to : List (JournalRow T) → List (JournalRow T)
  up_to [] = []
  up_to (row ∷ rows) = if is_receipt row.step then row ∷ [] else row ∷ up_to rows

  -- the rows after it
  abbrev pub after : List (JournalRow T) → List (JournalRow T)
  after [] = []
  after (row ∷ rows) = if is_receipt row.step then rows else after rows

  -- the rows before the first receipt
  abbrev pub ahead : List (JournalRow T) → List (JournalRow T)
  ahead [] = []
  ahead (row ∷ rows) = if is_receipt row.step then [] else row ∷ ahead rows

  -- the rows from it on
  abbrev pub behind : List (JournalRow T) → List (JournalRow T)
  behind [] = []
  behind (row ∷ rows) = if is_receipt row.step then row ∷ rows else behind rows

  -- rows of a journal, each with its client
  abbrev pub of_client : ℕ → List (JournalRow T) → Merged T
  of_client client [] = []
  of_client client (row ∷ rows) = Did client row ∷ of_client client rows

  -- the journals, where this client's is another
  abbrev pub with_journal : (ℕ → List (JournalRow T)) → ℕ → List (JournalRow T) → ℕ → List (JournalRow T)
  with_journal journals client rows d = if d == client then rows else journals d

  -- what is left of each diary
  abbrev pub rests : List (AuditedDiary T) → (ℕ → List (JournalRow T)) → Merged T
  rests [] journals = []
  rests (d ∷ ds) journals = of_client d.client (journals d.client) ++ rests ds journals

  -- what stands in the list for a row of the log, whose client has these rows left
  abbrev pub turn_of : LogRow → Option ℕ → List (JournalRow T) → Merged T
  turn_of row None rows = of_client row.client (up_to rows)
  turn_of row (Some op) rows = of_client row.client (ahead rows) ++ Lands (landing_of row op) ∷ []

  -- the rows that the client has left then
  abbrev pub rows_after : Option ℕ → List (JournalRow T) → List (JournalRow T)
  rows_after None rows = after rows
  rows_after (Some op) rows = behind rows

  -- the list for these rows of the log, of what is left of the journals
  abbrev pub merged_from : List (AuditedDiary T) → List LogRow → (ℕ → List (JournalRow T)) → Merged T
  merged_from ds [] journals = rests ds journals
  merged_from ds (row ∷ log) journals = turn_of row row.landed (journals row.client) ++ merged_from ds log (with_journal journals row.client (rows_after row.landed (journals row.client)))

  -- the list for a log and its diaries
  abbrev pub merged : List LogRow → List (AuditedDiary T) → Merged T
  merged log ds = merged_from ds log (journal_of ds)

module _ {T : Type 0} (page : ℕ) (encode : T → List ℕ) (decode : List ℕ → Option T) (get_epoch : T → ℕ) (set_epoch : T → ℕ → T) where
  -- each diary keeps what its journal leads to
  abbrev pub AreDiaries : List (AuditedDiary T) → Type 0
  AreDiaries [] = Unit {0}
  AreDiaries (d ∷ ds) = Replays page encode decode get_epoch set_epoch d.client (reverse d.rows) d.part × AreDiaries ds

  -- A beginning of a merged list is a merged list, a run and one history too.
  pub record IsBeginning (clients : ℕ) (m : Merged T) : Type 0 where
    pub parts : ℕ → Part T
    pub store : StoreState
    pub merged : IsMerged page encode decode get_epoch set_epoch m parts store
    pub run : IsRun page encode decode get_epoch set_epoch clients m parts store
    pub history : OneHistoryOfMerged decode get_epoch set_epoch m parts

  -- Clients share only the store, in a world of so many clients: each list that merges the diaries in the order of the log is one history, and a run that ends where the diaries and the log end; so is each beginning of such a list; and there is one.
  pub record ShareOnlyTheStore (clients : ℕ) (log : List LogRow) (ds : List (AuditedDiary T)) (store : StoreState) : Type 0 where
    pub histories : (m : Merged T) → Merges log ds m → OneHistoryOfMerged decode get_epoch set_epoch (reverse m) (kept_by ds)
    pub runs : (m : Merged T) → Merges log ds m → IsRun page encode decode get_epoch set_epoch clients (reverse m) (kept_by ds) store
    pub beginnings : (m : Merged T) → Merges log ds m → (k : ℕ) → IsBeginning clients (reverse (take k m))
    pub merges : Merges log ds (merged log ds)
