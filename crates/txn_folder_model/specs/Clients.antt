-- What the diaries of clients have to do with the calls and the listings that they made in a folder.
use Rattle.std.specs.Prelude.{◌≡◌, ℕ, zero, suc, ◌<◌, ◌≤◌, List, [], ◌∷◌, reverse, take, drop, length, Contains, Bool, true, false, if◌then◌else◌, Option, Some, None}
use Rattle.txn_store.specs.Paths.{Segments}
use Rattle.txn_store.specs.VersionName.{Names}
use Rattle.txn_store.specs.Store.{State as StoreState}
use Rattle.txn_store.specs.declared.request.Request.{Request}
use Rattle.txn_store.specs.declared.request.Request.TheVariants as requests
use Rattle.txn_store.specs.declared.request.Reply.{Reply}
use Rattle.txn_client_journals.specs.declared.rows.LogRow.{LogRow}
use Rattle.txn_client_journals.specs.declared.rows.Receipt.{Receipt}
use Rattle.txn_client_journals.specs.declared.rows.Act.TheVariants as acts
use Rattle.txn_client_journals.specs.declared.rows.Step.{Step}
use Rattle.txn_client_journals.specs.declared.rows.Step.TheVariants as steps
use Rattle.txn_client_journals.specs.declared.rows.JournalRow.{JournalRow}
use Rattle.txn_client_journals.specs.Journals.{left_in}
use Rattle.txn_client_journals.specs.Logs.{IsLog}
use Rattle.txn_client_journals.specs.Shares.{ShareOnlyTheStore}
use Rattle.txn_client_journals.specs.Verdict.{AuditedDiary, receipts_in, HasClient, HaveDifferentClients}
use Rattle.txn_folder_model.specs.Worlds.{Call, World}
use Rattle.txn_folder_model.specs.Linear.{request_of}
use Rattle.txn_folder_model.specs.Listings.{Listing, listing_row}

-- a store call whose reply a client took: a call of the world, or a listing
pub data Taken : Type 0 where
  Called : (call : ℕ) → Taken
  Listed : (listing : ℕ) → Taken

module _ {T : Type 0} where
  -- a step takes the receipt of this number, counted from 0
  abbrev pub takes_it : ℕ → Step T → Bool
  takes_it zero (steps.Act op (acts.Receive receipt)) = true
  takes_it number step = false

  -- its number behind a step
  abbrev pub number_behind : ℕ → Step T → ℕ
  number_behind (suc number) (steps.Act op (acts.Receive receipt)) = number
  number_behind number step = number

  -- what an operation has left before the receipt of this number, where it had left that
  abbrev pub left_before : ℕ → ℕ → Option Request → List (JournalRow T) → Option Request
  left_before number op found [] = found
  left_before number op found (row ∷ rows) = if takes_it number row.step then found else left_before (number_behind number row.step) op (left_in op row.step found) rows

  -- the same step, but for the place of its receipt in a log
  abbrev pub IsSameStep : Step T → Step T → Type 0
  IsSameStep (steps.Act op (acts.Receive receipt)) (steps.Act other (acts.Receive now)) = (op ≡ other) × (receipt.request ≡ now.request) × (receipt.reply ≡ now.reply)
  IsSameStep step other = step ≡ other

  -- the same rows, but for these places
  abbrev pub AreSameRows : List (JournalRow T) → List (JournalRow T) → Type 0
  AreSameRows [] [] = Unit {0}
  AreSameRows (row ∷ rows) (other ∷ others) = IsSameStep row.step other.step × (row.answer ≡ other.answer) × AreSameRows rows others
  AreSameRows rows others = ⊥

  -- the same diaries, but for these places
  abbrev pub AreSameDiaries : List (AuditedDiary T) → List (AuditedDiary T) → Type 0
  AreSameDiaries [] [] = Unit {0}
  AreSameDiaries (d ∷ ds) (other ∷ others) = (d.client ≡ other.client) × (d.part ≡ other.part) × AreSameRows d.rows other.rows × AreSameDiaries ds others
  AreSameDiaries ds others = ⊥

-- a put or a delete
abbrev pub IsChange : Request → Type 0
IsChange (requests.Put path bytes mode) = Unit {0}
IsChange (requests.Delete path) = Unit {0}
IsChange request = ⊥

module _ (names : Names) (boundary : Segments) (ops : ℕ → ℕ) (n : ℕ) (worlds : ℕ → World) (listings : ℕ → Listing) (many : ℕ) where
  abbrev pub its_call : ℕ → Call
  its_call number = (worlds n).calls number

  -- when it began
  abbrev pub began_of : Taken → ℕ
  began_of (Called call) = (its_call call).began
  began_of (Listed listing) = (listings listing).began

  -- it had ended before a moment
  abbrev pub IsPast : Taken → ℕ → Type 0
  IsPast (Called call) t = (end : ℕ) × ((its_call call).ended ≡ Some end) × (end < t)
  IsPast (Listed listing) t = (listings listing).ended < t

  -- each had ended before each later one began
  abbrev pub InTurn : List Taken → Type 0
  InTurn [] = Unit {0}
  InTurn (taken ∷ more) = ((later : Taken) → Contains more later → IsPast taken (began_of later)) × InTurn more

  -- a receipt is of a call that answered, or of a listing, by its request and its reply
  abbrev pub IsTold : Taken → Receipt → Type 0
  IsTold (Called call) receipt = (receipt.request ≡ request_of names boundary (its_call call).work) × ((its_call call).answer ≡ Some receipt.reply)
  IsTold (Listed listing) receipt = (receipt.request ≡ (listing_row names (listings listing)).request) × (receipt.reply ≡ (listing_row names (listings listing)).reply)

  abbrev pub AreTold : List Taken → List Receipt → Type 0
  AreTold [] [] = Unit {0}
  AreTold (taken ∷ more) (receipt ∷ receipts) = IsTold taken receipt × AreTold more receipts
  AreTold more receipts = ⊥

  -- a call or a listing of this client
  abbrev pub IsOf : ℕ → Taken → Type 0
  IsOf client (Called call) = (call < (worlds n).count) × ((its_call call).client ≡ client)
  IsOf client (Listed listing) = (listing < many) × ((listings listing).client ≡ client)

  module _ {T : Type 0} where
    -- A call that nobody was answered: its client took so many replies before it began, and the others of calls that began after its end; and before the next of them its operation left what it asked for, by the journal.
    pub record IsLost (rows : List (JournalRow T)) (all : List Taken) (call : ℕ) : Type 0 where
      pub before : ℕ
      pub few : before ≤ length all
      pub earlier : (taken : Taken) → Contains (take before all) taken → IsPast taken (its_call call).began
      pub later : (taken : Taken) → Contains (drop before all) taken → (end : ℕ) × ((its_call call).ended ≡ Some end) × (end < began_of taken)
      pub left : left_before before (ops call) None rows ≡ Some (request_of names boundary (its_call call).work)

    -- A client made its calls and listings one after another, and its journal says what became of them: its receipts are, in order, all that answered; and what the others asked for that would change something was left.
    pub record KeepsJournal (client : ℕ) (rows : List (JournalRow T)) : Type 0 where
      pub all : List Taken
      pub told : AreTold all (receipts_in rows)
      pub in_turn : InTurn all
      pub its : (taken : Taken) → Contains all taken → IsOf client taken
      pub calls : (call : ℕ) (reply : Reply) → call < (worlds n).count → (its_call call).client ≡ client → (its_call call).answer ≡ Some reply → Contains all (Called call)
      pub lists : (listing : ℕ) → listing < many → (listings listing).client ≡ client → Contains all (Listed listing)
      pub lost : (call : ℕ) → call < (worlds n).count → (its_call call).client ≡ client → (its_call call).answer ≡ None → IsChange (request_of names boundary (its_call call).work) → IsLost rows all call

    abbrev pub AllKeep : List (AuditedDiary T) → Type 0
    AllKeep [] = Unit {0}
    AllKeep (d ∷ ds) = KeepsJournal d.client d.rows × AllKeep ds

    -- These are the diaries of all who made calls or listings there.
    pub record AreOfFolder (ds : List (AuditedDiary T)) : Type 0 where
      pub differ : HaveDifferentClients ds
      pub of_calls : (call : ℕ) → call < (worlds n).count → HasClient ds (its_call call).client
      pub of_lists : (listing : ℕ) → listing < many → HasClient ds (listings listing).client
      pub keep : AllKeep ds

module _ {T : Type 0} (page : ℕ) (encode : T → List ℕ) (decode : List ℕ → Option T) (get_epoch : T → ℕ) (set_epoch : T → ℕ → T) where
  -- Clients of a folder, in a world of so many, shared only a store: with the places of their receipts in some log of an honest store, their diaries are those of clients that share only that store.
  pub record ShareAFolder (clients : ℕ) (ds : List (AuditedDiary T)) : Type 0 where
    pub log : List LogRow
    pub store : StoreState
    pub honest : IsLog (reverse log) store
    pub placed : List (AuditedDiary T)
    pub same : AreSameDiaries ds placed
    pub share : ShareOnlyTheStore page encode decode get_epoch set_epoch clients log placed store
