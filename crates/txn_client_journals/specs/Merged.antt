-- Merged lists: the journals of clients, each row with its client, and the landings of what these left, in one order. The newest stands first.
use Rattle.std.specs.Prelude.{◌≡◌, ℕ, List, [], ◌∷◌, ◌==◌, nat_lt, max, false, if◌then◌else◌, Option, Some, None}
use Rattle.txn_store.specs.Store.{State as StoreState}
use Rattle.txn_store.specs.MemoryServes.{lacks_memory}
use Rattle.txn_store.specs.declared.request.Request.{Request}
use Rattle.txn_store.specs.declared.request.Reply.{Reply}
use Rattle.txn_history.specs.declared.event.Answer.{Answer}
use Rattle.txn_history.specs.declared.event.Answer.TheVariants as answers
use Rattle.txn_client_journals.specs.declared.rows.LogRow.{LogRow}
use Rattle.txn_client_journals.specs.declared.rows.Act.TheVariants as acts
use Rattle.txn_client_journals.specs.declared.rows.Step.{Step}
use Rattle.txn_client_journals.specs.declared.rows.Step.TheVariants as steps
use Rattle.txn_client_journals.specs.declared.rows.JournalRow.{JournalRow}
use Rattle.txn_client_journals.specs.Parts.{Part}
use Rattle.txn_client_journals.specs.Journals.{Replays, left_of}
use Rattle.txn_client_journals.specs.Logs.{IsLog}
use Rattle.txn_client_journals.specs.Numbers.{count}

-- A request that reaches the store where its operation has ended, and the reply that nobody took.
pub record Landing : Type 0 where
  pub client : ℕ
  -- the client's own number of the operation that had asked
  pub op : ℕ
  pub request : Request
  pub reply : Reply

-- A client did what this row of its journal says, or what an operation left landed.
pub data Entry (T : Type 0) : Type 0 where
  Did : (client : ℕ) (row : JournalRow T) → Entry T
  Lands : (landing : Landing) → Entry T

abbrev pub Merged : Type 0 → Type 0
Merged T = List (Entry T)

-- a landing, as a row of a log
abbrev pub landing_row : Landing → LogRow
landing_row landing = record { client = landing.client; request = landing.request; reply = landing.reply; landed = Some landing.op }

module _ {T : Type 0} where
  -- one client's part of the list: the rows of its journal
  abbrev pub part_of : ℕ → Merged T → List (JournalRow T)
  part_of client [] = []
  part_of client (Did d row ∷ m) = if d == client then row ∷ part_of client m else part_of client m
  part_of client (Lands landing ∷ m) = part_of client m

  -- the greatest client
  abbrev pub clients_of : Merged T → ℕ
  clients_of [] = 0
  clients_of (Did client row ∷ m) = max client (clients_of m)
  clients_of (Lands landing ∷ m) = clients_of m

  -- the log, with the receipt of a step if it has one
  abbrev pub with_receipt : ℕ → Step T → List LogRow → List LogRow
  with_receipt client (steps.Act op (acts.Receive receipt)) log = record { client = client; request = receipt.request; reply = receipt.reply; landed = None } ∷ log
  with_receipt client _ log = log

  -- the receipts and the landings of the list, as rows of a log
  abbrev pub log_of : Merged T → List LogRow
  log_of [] = []
  log_of (Did client row ∷ m) = with_receipt client row.step (log_of m)
  log_of (Lands landing ∷ m) = landing_row landing ∷ log_of m

  -- the owners of operations, with that of a step that begins one
  abbrev pub with_begin : ℕ → Step T → List ℕ → List ℕ
  with_begin client (steps.Begin call) owners = client ∷ owners
  with_begin client _ owners = owners

  -- whose operation is the first, the second, and so on
  abbrev pub begins_of : Merged T → List ℕ
  begins_of [] = []
  begins_of (Did client row ∷ m) = with_begin client row.step (begins_of m)
  begins_of (Lands landing ∷ m) = begins_of m

  -- the owners of views, with that of an answer that makes one: it shows a number that its client has not given yet
  abbrev pub with_view : ℕ → Option (Answer T) → List ℕ → List ℕ
  with_view client (Some (answers.View view id value)) owners = if nat_lt (count client owners) view then client ∷ owners else owners
  with_view client _ owners = owners

  -- whose view is the first, the second, and so on
  abbrev pub views_of : Merged T → List ℕ
  views_of [] = []
  views_of (Did client row ∷ m) = with_view client row.answer (views_of m)
  views_of (Lands landing ∷ m) = views_of m

  -- After this list this may land: its client's journal had left the request, and the store did not refuse it for memory.
  abbrev pub CanLand : Merged T → Landing → Type 0
  CanLand m landing = (left_of landing.op (part_of landing.client m) ≡ Some landing.request) × (lacks_memory landing.reply ≡ false)

  -- each landing of the list may land where it stands
  abbrev pub AllCanLand : Merged T → Type 0
  AllCanLand [] = Unit {0}
  AllCanLand (Did client row ∷ m) = AllCanLand m
  AllCanLand (Lands landing ∷ m) = CanLand m landing × AllCanLand m

module _ {T : Type 0} (page : ℕ) (encode : T → List ℕ) (decode : List ℕ → Option T) (get_epoch : T → ℕ) (set_epoch : T → ℕ → T) where
  -- Each client's part of the list is a journal that leads to what the client keeps, the receipts and landings are a log that leads to this store, and what lands was left before.
  pub record IsMerged (m : Merged T) (parts : ℕ → Part T) (store : StoreState) : Type 0 where
    pub journals : (client : ℕ) → Replays page encode decode get_epoch set_epoch client (part_of client m) (parts client)
    pub log : IsLog (log_of m) store
    pub landings : AllCanLand m
