-- The verdict on a log and the diaries of its clients. Here all lists have the oldest first.
use Rattle.std.specs.Prelude.{◌≡◌, ℕ, List, [], ◌∷◌, ◌+◌, ◌⊎◌, ◌==◌, nat_lt, max, Option, Some, None, is_some, not, ◌&&◌, Bool, false, if◌then◌else◌, Result, Ok, Err}
use Rattle.txn_store.specs.MemoryServes.{lacks_memory}
use Rattle.txn_store.specs.declared.request.Request.{Request}
use Rattle.txn_client_journals.specs.declared.rows.LogRow.{LogRow}
use Rattle.txn_client_journals.specs.declared.rows.Receipt.{Receipt}
use Rattle.txn_client_journals.specs.declared.rows.Act.TheVariants as acts
use Rattle.txn_client_journals.specs.declared.rows.Step.{Step}
use Rattle.txn_client_journals.specs.declared.rows.Step.TheVariants as steps
use Rattle.txn_client_journals.specs.declared.rows.JournalRow.{JournalRow}
use Rattle.txn_client_journals.specs.declared.fault.AuditFault.{AuditFault}
use Rattle.txn_client_journals.specs.declared.fault.AuditFault.TheVariants as faults
use Rattle.txn_client_journals.specs.Parts.{Part, no_part}
use Rattle.txn_client_journals.specs.Journals.{left_in}

-- A client's diary: its number, its journal, and what it keeps.
pub record AuditedDiary (T : Type 0) : Type 0 where
  pub client : ℕ
  pub rows : List (JournalRow T)
  pub part : Part T

module _ {T : Type 0} where
  -- receipts, after that of a step if it has one
  abbrev pub received_by : Step T → List Receipt → List Receipt
  received_by (steps.Act op (acts.Receive receipt)) receipts = receipt ∷ receipts
  received_by _ receipts = receipts

  -- the receipts of a journal
  abbrev pub receipts_in : List (JournalRow T) → List Receipt
  receipts_in [] = []
  receipts_in (row ∷ rows) = received_by row.step (receipts_in rows)

-- the receipt of a row of the log at this place
abbrev pub receipt_at : ℕ → LogRow → Receipt
receipt_at place row = record { place = place; request = row.request; reply = row.reply }

-- the row is one of this client, which took its reply: it is no landing
abbrev pub is_taken : ℕ → LogRow → Bool
is_taken client row = (row.client == client) && not (is_some row.landed)

-- the receipts of the rows whose replies a client took, the first row of the log being at this place
abbrev pub rows_of : ℕ → ℕ → List LogRow → List Receipt
rows_of client place [] = []
rows_of client place (row ∷ log) = if is_taken client row then receipt_at place row ∷ rows_of client (place + 1) log else rows_of client (place + 1) log

module _ {T : Type 0} where
  -- some diary is of this client
  abbrev pub HasClient : List (AuditedDiary T) → ℕ → Type 0
  HasClient [] client = ⊥
  HasClient (d ∷ ds) client = (d.client ≡ client) ⊎ HasClient ds client

  -- no two diaries are of one client
  abbrev pub HaveDifferentClients : List (AuditedDiary T) → Type 0
  HaveDifferentClients [] = Unit {0}
  HaveDifferentClients (d ∷ ds) = (HasClient ds d.client → ⊥) × HaveDifferentClients ds

  -- each row of the log is of a diary's client
  abbrev pub HasDiaries : List LogRow → List (AuditedDiary T) → Type 0
  HasDiaries [] ds = Unit {0}
  HasDiaries (row ∷ log) ds = HasClient ds row.client × HasDiaries log ds

  -- each diary's receipts are, in order, with place, request and reply, the rows of its client
  abbrev pub HaveRows : List LogRow → List (AuditedDiary T) → Type 0
  HaveRows log [] = Unit {0}
  HaveRows log (d ∷ ds) = (receipts_in d.rows ≡ rows_of d.client 0 log) × HaveRows log ds

  -- the journal of a client, by the first diary that is its
  abbrev pub journal_of : List (AuditedDiary T) → ℕ → List (JournalRow T)
  journal_of [] client = []
  journal_of (d ∷ ds) client = if d.client == client then d.rows else journal_of ds client

  -- what a client keeps, by the first diary that is its
  abbrev pub kept_by : List (AuditedDiary T) → ℕ → Part T
  kept_by [] client = no_part
  kept_by (d ∷ ds) client = if d.client == client then d.part else kept_by ds client

  -- the greatest client of the diaries
  abbrev pub clients_in : List (AuditedDiary T) → ℕ
  clients_in [] = 0
  clients_in (d ∷ ds) = max d.client (clients_in ds)

  -- Whether each landing is of what its client had left.

  -- a receipt of this place in the log, or of a later one
  abbrev pub stops_at : ℕ → Step T → Bool
  stops_at place (steps.Act op (acts.Receive receipt)) = not (nat_lt receipt.place place)
  stops_at place _ = false

  -- what an operation left in the rows before the first such receipt, else this
  abbrev pub left_at : ℕ → ℕ → Option Request → List (JournalRow T) → Option Request
  left_at place op found [] = found
  left_at place op found (row ∷ rows) = if stops_at place row.step then found else left_at place op (left_in op row.step found) rows

  -- A landing is of what its client's operation had left before the client's next receipt, and the store did not refuse it for memory.
  abbrev pub WasLeft : ℕ → LogRow → Option ℕ → List (AuditedDiary T) → Type 0
  WasLeft place row None ds = Unit {0}
  WasLeft place row (Some op) ds = (left_at place op None (journal_of ds row.client) ≡ Some row.request) × (lacks_memory row.reply ≡ false)

  -- each landing of the log is, the first row being at this place
  abbrev pub WereLeft : ℕ → List LogRow → List (AuditedDiary T) → Type 0
  WereLeft place [] ds = Unit {0}
  WereLeft place (row ∷ log) ds = WasLeft place row row.landed ds × WereLeft (place + 1) log ds

  -- The verdict that is due. The faults are tested in this order: where one is due, none before it is.
  abbrev pub IsDue : List LogRow → List (AuditedDiary T) → Result (Unit {0}) AuditFault → Type 0
  IsDue log ds (Ok agrees) = HaveDifferentClients ds × HasDiaries log ds × HaveRows log ds × WereLeft 0 log ds
  IsDue log ds (Err faults.ClientTwice) = HaveDifferentClients ds → ⊥
  IsDue log ds (Err faults.ClientMissing) = HaveDifferentClients ds × (HasDiaries log ds → ⊥)
  IsDue log ds (Err faults.RowsDiffer) = HaveDifferentClients ds × HasDiaries log ds × (HaveRows log ds → ⊥)
  IsDue log ds (Err faults.LandingUnknown) = HaveDifferentClients ds × HasDiaries log ds × HaveRows log ds × (WereLeft 0 log ds → ⊥)

-- the number that names a fault
abbrev pub fault_number : AuditFault → ℕ
fault_number faults.ClientTwice = 1
fault_number faults.ClientMissing = 2
fault_number faults.RowsDiffer = 3
fault_number faults.LandingUnknown = 4
