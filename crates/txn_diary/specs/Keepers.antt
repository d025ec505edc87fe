-- What a client keeps that writes nothing down, why it is refused things, and what each thing that it does makes of what it keeps.
use Rattle.std.specs.Prelude.{◌≡◌, ℕ, List, [], ◌∷◌, Bool, true, if◌then◌else◌, Option, Some, None, is_some}
use Rattle.txn_store.specs.declared.request.Reply.{Reply}
use Rattle.txn_history.specs.declared.event.EventFault.{EventFault}
use Rattle.txn_history.specs.declared.event.EventFault.TheVariants as faults
use Rattle.txn_history.specs.Seen.{Ask, Store, Look}
use Rattle.txn_history.specs.Lists.{numbered}
use Rattle.txn_history.specs.declared.event.Call.{Call}
use Rattle.txn_history.specs.declared.event.Answer.{Answer}
use Rattle.txn_machine.specs.declared.doing.Operation.{Operation}
use Rattle.txn_client_journals.specs.tables.Views.{IsFromOne}
use Rattle.txn_client_journals.specs.tables.Operations.{asked_by}
use Rattle.txn_client_journals.specs.declared.rows.Act.{Act}
use Rattle.txn_client_journals.specs.declared.rows.Act.TheVariants as acts
use Rattle.txn_client_journals.specs.declared.rows.Receipt.{Receipt}
use Rattle.txn_client_journals.specs.declared.rows.Step.{Step}
use Rattle.txn_client_journals.specs.declared.rows.JournalRow.{JournalRow}
use Rattle.txn_client_journals.specs.Parts.{Part, client_begin_fault}
use Rattle.txn_client_journals.specs.Journals.{goes_on, Follows, Replays}
use Rattle.txn_client_journals.specs.Logged.{IsOfKind, IsReceiptOf}
use Rattle.txn_diary.specs.Taking.{CanTake}
use Rattle.txn_diary.specs.Forgetting.{Remembers}

-- A client without a journal: its number, how many files a page of a listing has at most, its codec, where its values keep their epochs, what it keeps, and whether it was not killed.
pub record KeeperState (T C E : Type 0) : Type 0 where
  pub client : ℕ
  pub page : ℕ
  pub codec : C
  pub epochs : E
  pub part : Part T
  pub alive : Bool

module _ {T : Type 0} where
  -- a client that did this last, if anything, does more
  abbrev pub lives_after : List (JournalRow T) → Bool
  lives_after [] = true
  lives_after (row ∷ rows) = goes_on row.step

  -- each operation can take what it asks for, and its view, if it uses one, is counted from 1
  pub record IsSound (operation : Operation T) : Type 0 where
    pub can : CanTake operation.doing
    pub view : IsFromOne operation.view

  abbrev pub AreSound : List (Operation T) → Type 0
  AreSound operations = (op : ℕ) (operation : Operation T) → numbered operations op ≡ Some operation → IsSound operation

-- why a client that lives, or was killed, is refused something: one that was killed does nothing more
abbrev pub fault_if : Bool → Option EventFault → Option EventFault
fault_if alive fault = if alive then fault else Some faults.UnknownNumber

module _ {T C E : Type 0} where
  -- what an operation of a client asks for: nothing where it has ended, or the client was killed
  abbrev pub keeper_asked : KeeperState T C E → ℕ → Option Ask
  keeper_asked keeper op = if keeper.alive then asked_by keeper.part.operations op else None

  -- why a begin is refused
  abbrev pub keeper_refusal : (T → ℕ) → KeeperState T C E → Call T → Option EventFault
  keeper_refusal get_epoch keeper call = fault_if keeper.alive (client_begin_fault get_epoch keeper.client keeper.part call)

-- why an operation that asks for this, or for nothing, is refused to be given up
abbrev pub end_fault : Option Ask → Option EventFault
end_fault ask = if is_some ask then None else Some faults.UnknownNumber

-- Why an operation that asks for this, or for nothing, is refused a receipt: it has ended, or it asks for a look, or the receipt is of another request or its reply of another kind.
abbrev pub IsReceiptFault : Option Ask → Receipt → Option EventFault → Type 0
IsReceiptFault None receipt fault = fault ≡ Some faults.UnknownNumber
IsReceiptFault (Some Look) receipt fault = fault ≡ Some faults.NotAsked
IsReceiptFault (Some (Store request)) receipt None = IsReceiptOf request receipt
IsReceiptFault (Some (Store request)) receipt (Some faults.NotAsked) = IsReceiptOf request receipt → ⊥
IsReceiptFault (Some (Store request)) receipt _ = ⊥

-- Why an operation that asks for this, or for nothing, is refused a reply: it has ended, or it asks for a look, or for a reply of another kind.
abbrev pub IsReplyFault : Option Ask → Reply → Option EventFault → Type 0
IsReplyFault None reply fault = fault ≡ Some faults.UnknownNumber
IsReplyFault (Some Look) reply fault = fault ≡ Some faults.NotAsked
IsReplyFault (Some (Store request)) reply None = IsOfKind request reply
IsReplyFault (Some (Store request)) reply (Some faults.NotAsked) = IsOfKind request reply → ⊥
IsReplyFault (Some (Store request)) reply _ = ⊥

-- an act that gives an operation what it asked for, or says that its store call was refused for memory
abbrev pub IsTurn : Act → Type 0
IsTurn acts.Look = Unit {0}
IsTurn (acts.Receive receipt) = Unit {0}
IsTurn acts.Lacks = Unit {0}
IsTurn (acts.GiveUp left) = ⊥
IsTurn (acts.Fails request) = ⊥

module _ {T C E : Type 0} where
  -- A client forgot something, or nothing, and did nothing else.
  pub record Forgets (old new : KeeperState T C E) : Type 0 where
    pub remembers : Remembers old.part new.part
    pub client : new.client ≡ old.client
    pub page : new.page ≡ old.page
    pub codec : new.codec ≡ old.codec
    pub epochs : new.epochs ≡ old.epochs
    pub alive : new.alive ≡ old.alive

-- How a codec's values are written and read, and where their epochs stand, comes from traits.
module _ {T C E : Type 0} (encoded : C → T → List ℕ) (decoded : C → List ℕ → Option T) (epoch_of : E → T → ℕ) (with_epoch : E → T → ℕ → T) where
  -- A client that was not killed did this, with this answer, if one: what it keeps follows.
  pub record Does (old : KeeperState T C E) (step : Step T) (answer : Option (Answer T)) (new : KeeperState T C E) : Type 0 where
    pub lived : old.alive ≡ true
    pub follows : Follows old.page (encoded old.codec) (decoded old.codec) (epoch_of old.epochs) (with_epoch old.epochs) old.client old.part step answer new.part
    pub lives : new.alive ≡ goes_on step
    pub client : new.client ≡ old.client
    pub page : new.page ≡ old.page
    pub codec : new.codec ≡ old.codec
    pub epochs : new.epochs ≡ old.epochs

  -- Some journal, the newest row first, leads from a client that has done nothing to this part, of which this client keeps all but what it forgot.
  pub record IsLed (keeper : KeeperState T C E) : Type 0 where
    pub rows : List (JournalRow T)
    pub whole : Part T
    pub alive : keeper.alive ≡ lives_after rows
    pub replays : Replays keeper.page (encoded keeper.codec) (decoded keeper.codec) (epoch_of keeper.epochs) (with_epoch keeper.epochs) keeper.client rows whole
    pub remembers : Remembers whole keeper.part

  -- A client did this, with this answer, if one, and then perhaps forgot something.
  pub record DoesAndForgets (old : KeeperState T C E) (step : Step T) (answer : Option (Answer T)) (new : KeeperState T C E) : Type 0 where
    pub between : KeeperState T C E
    pub does : Does old step answer between
    pub forgets : Forgets between new

module _ {T C E : Type 0} (does : KeeperState T C E → Step T → Option (Answer T) → KeeperState T C E → Type 0) where
  -- A client did these things, one after another, the oldest first.
  abbrev pub DoesAll : KeeperState T C E → List (JournalRow T) → KeeperState T C E → Type 0
  DoesAll old [] new = new ≡ old
  DoesAll old (row ∷ rows) new = (between : KeeperState T C E) × does old row.step row.answer between × DoesAll between rows new
