-- Words of private contracts: how what a client keeps, its recorder and its store go on together.
use Rattle.std.specs.Prelude.{◌≡◌, ◌⊎◌, ◌+◌, ℕ, All, length, List, [], ◌∷◌, ◌++◌, Option, Some, None, Result, Ok, Err}
use Rattle.txn_history.specs.declared.event.EventFault.{EventFault}
use Rattle.txn_history.specs.declared.event.EventFault.TheVariants as faults
use Rattle.txn_history.specs.declared.event.Call.{Call}
use Rattle.txn_history.specs.declared.event.Answer.{Answer}
use Rattle.txn_store.specs.declared.request.Request.{Request}
use Rattle.txn_store.specs.declared.request.Reply.{Reply}
use Rattle.txn_history.specs.Seen.{Ask, Store}
use Rattle.txn_client_journals.specs.declared.rows.JournalRow.{JournalRow}
use Rattle.txn_client_journals.specs.Logged.{IsOfKind}
use Rattle.txn_client_journals.specs.declared.rows.Act.{Act}
use Rattle.txn_client_journals.specs.declared.rows.Step.{Step}
use Rattle.txn_client_journals.specs.declared.rows.Step.TheVariants as steps
use Rattle.txn_diary.specs.Keepers.{KeeperState, DoesAll}
use Rattle.txnobj.specs.declared.clients.stop.Stop.{Stop}
use Rattle.txnobj.specs.declared.clients.stop.Stop.TheVariants as stops
use Rattle.txnobj.specs.declared.clients.work.Heard.{Heard}
use Rattle.txnobj.specs.declared.clients.work.Heard.TheVariants as heards
use Rattle.txnobj.specs.declared.clients.work.Begun.{Begun}
use Rattle.txnobj.specs.declared.clients.work.Begun.TheVariants as begins
use Rattle.txnobj.specs.declared.clients.work.Done.{Done}
use Rattle.txnobj.specs.declared.clients.work.Done.TheVariants as dones
use Rattle.txnobj.specs.clients.Noted.{Noted, Asked}
use Rattle.txnobj.specs.clients.Happenings.{Happening, Handed, row_happens, happens_from, begun_with, HappensAll, HappensUntil}
use Rattle.txn_diary.specs.Reading.{with_answer, answers_from}
use Rattle.txnobj.specs.clients.Calling.{IsLookOrCall, IsActOf, IsCall, AreUntold}

module _ {T : Type 0} where
  -- what is heard of an answer
  abbrev pub heard_in : Option (Answer T) → Heard T
  heard_in None = heards.Goes
  heard_in (Some answer) = heards.Answered answer

  -- These rows, before which so many operations began, are a call so far, which took so many looks and store calls. They tell this answer, if one, and no other.
  pub record IsCallSoFar (begun op taken : ℕ) (call : Call T) (answer : Option (Answer T)) (rows : List (JournalRow T)) : Type 0 where
    pub own : op ≡ begun + 1
    pub first : JournalRow T
    pub turns : List (JournalRow T)
    pub rows_are : rows ≡ first ∷ turns
    pub begins : first.step ≡ steps.Begin call
    pub acts : All (λ row. IsActOf op IsLookOrCall row.step) turns
    pub taken_is : length turns ≡ taken
    pub answers_are : answers_from begun rows ≡ with_answer op answer

module _ {T : Type 0} where
  -- a call's answer, or why it has none
  abbrev pub settled : Done T → Result (Answer T) Stop
  settled (dones.Answered answer) = Ok answer
  settled (dones.Refused fault) = Err (stops.Refused fault)
  settled dones.Spent = Err stops.StepsSpent

-- the recorder failed
abbrev pub IsUnrecorded : Stop → Type 0
IsUnrecorded (stops.Unrecorded error) = Unit {0}
IsUnrecorded stops.NoMemory = ⊥
IsUnrecorded (stops.Refused fault) = ⊥
IsUnrecorded stops.StepsSpent = ⊥
IsUnrecorded stops.Ended = ⊥

module _ {T : Type 0} where
  -- there is no row, or one alone, which is such an act of this operation
  abbrev pub IsOneOrNone : (Act → Type 0) → ℕ → List (JournalRow T) → Type 0
  IsOneOrNone such op [] = Unit {0}
  IsOneOrNone such op (row ∷ []) = IsActOf op such row.step
  IsOneOrNone such op (row ∷ next ∷ rows) = ⊥

module _ {T R S : Type 0} (hands : R → Noted T → R → Type 0) (serves : S → Request → Reply → S → Type 0) where
  -- What an operation asks for, of the store, was handed over, and then the store was called for it, which replied so.
  pub record CallsFor (op : ℕ) (ask : Option Ask) (reply : Reply) (recorder : R) (store : S) (recorder' : R) (store' : S) : Type 0 where
    pub request : Request
    pub asks : ask ≡ Some (Store request)
    pub handed : hands recorder (Asked op request) recorder'
    pub served : serves store request reply store'
    pub kind : IsOfKind request reply

  -- The store was called for what an operation asks, where it replied, and else nothing happened.
  abbrev pub IsCalled : ℕ → Option Ask → Option Reply → R → S → R → S → Type 0
  IsCalled op ask None recorder store recorder' store' = (recorder' ≡ recorder) × (store' ≡ store)
  IsCalled op ask (Some reply) recorder store recorder' store' = CallsFor op ask reply recorder store recorder' store'

module _ {T C E R S : Type 0} (hands : R → Noted T → R → Type 0) (serves : S → Request → Reply → S → Type 0) (does : KeeperState T C E → Step T → Option (Answer T) → KeeperState T C E → Type 0) where
  -- The same client did these things, what happens with them happened to its recorder and its store, and its count of begins went on.
  pub record Advances (old : KeeperState T C E) (recorder : R) (store : S) (begun : ℕ) (rows : List (JournalRow T)) (new : KeeperState T C E) (recorder' : R) (store' : S) (begun' : ℕ) : Type 0 where
    pub did : DoesAll does old rows new
    pub happened : HappensAll hands serves recorder store (happens_from begun rows) recorder' store'
    pub begun_is : begun' ≡ begun_with begun rows

  -- An operation acts once, by such an act, and this is heard of it.
  pub record TakesStep (such : Act → Type 0) (op : ℕ) (old : KeeperState T C E) (recorder : R) (store : S) (begun : ℕ) (heard : Heard T) (new : KeeperState T C E) (recorder' : R) (store' : S) (begun' : ℕ) : Type 0 where
    pub row : JournalRow T
    pub acts : IsActOf op such row.step
    pub heard_is : heard ≡ heard_in row.answer
    pub advances : Advances old recorder store begun (row ∷ []) new recorder' store' begun'

  -- An operation acts on what came of the store call that it asked for, and this is heard of it. What happens with its row is that the request was handed over, that the store was called, which happened before, and the rest, which happens here.
  pub record TakesAsked (op : ℕ) (request : Request) (called : Happening T) (old : KeeperState T C E) (recorder : R) (store : S) (begun : ℕ) (heard : Heard T) (new : KeeperState T C E) (recorder' : R) (store' : S) (begun' : ℕ) : Type 0 where
    pub row : JournalRow T
    pub acts : IsActOf op IsLookOrCall row.step
    pub heard_is : heard ≡ heard_in row.answer
    pub did : DoesAll does old (row ∷ []) new
    pub rest : List (Happening T)
    pub row_is : row_happens op row ≡ Handed (Asked op request) ∷ called ∷ rest
    pub happened : HappensAll hands serves recorder store rest recorder' store'
    pub begun_is : begun' ≡ begun

  -- This stopped a client as one of its operations was to act, by such an act: of it there is a row, or none, and none perhaps though the store was called.
  pub record CutsStep (such : Act → Type 0) (op begun : ℕ) (stop : Stop) (old : KeeperState T C E) (recorder : R) (store : S) (new : KeeperState T C E) (recorder' : R) (store' : S) : Type 0 where
    pub rows : List (JournalRow T)
    pub did : DoesAll does old rows new
    pub untold : List (JournalRow T)
    pub are_untold : AreUntold new op untold
    pub acts : IsOneOrNone such op (rows ++ untold)
    pub until : HappensUntil hands serves stop (happens_from begun (rows ++ untold)) recorder store recorder' store'

  -- The same after what the operation asks for was handed over, and the store was called for it, which happened before.
  pub record CutsAsked (op : ℕ) (request : Request) (called : Happening T) (stop : Stop) (old : KeeperState T C E) (recorder : R) (store : S) (new : KeeperState T C E) (recorder' : R) (store' : S) : Type 0 where
    pub rows : List (JournalRow T)
    pub did : DoesAll does old rows new
    pub untold : List (JournalRow T)
    pub are_untold : AreUntold new op untold
    pub row : JournalRow T
    pub rows_are : rows ++ untold ≡ row ∷ []
    pub acts : IsActOf op IsLookOrCall row.step
    pub rest : List (Happening T)
    pub row_is : row_happens op row ≡ Handed (Asked op request) ∷ called ∷ rest
    pub until : HappensUntil hands serves stop rest recorder store recorder' store'

  -- This stopped a client in the begin of a call.
  pub record CutsBegin (call : Call T) (begun : ℕ) (stop : Stop) (old : KeeperState T C E) (recorder : R) (store : S) (new : KeeperState T C E) (recorder' : R) (store' : S) : Type 0 where
    pub row : JournalRow T
    pub did : DoesAll does old (row ∷ []) new
    pub begins : row.step ≡ steps.Begin call
    pub until : HappensUntil hands serves stop (happens_from begun (row ∷ [])) recorder store recorder' store'

  -- A call is this operation's so far, of so many looks and store calls, with this answer, if one.
  pub record CallsAs (op taken : ℕ) (call : Call T) (answer : Option (Answer T)) (old : KeeperState T C E) (recorder : R) (store : S) (begun : ℕ) (new : KeeperState T C E) (recorder' : R) (store' : S) (begun' : ℕ) : Type 0 where
    pub rows : List (JournalRow T)
    pub is_call : IsCallSoFar begun op taken call answer rows
    pub advances : Advances old recorder store begun rows new recorder' store' begun'

  -- A call was made, of at most so many looks and store calls, with this answer, if one.
  pub record Calls (limit : ℕ) (call : Call T) (answer : Option (Answer T)) (old : KeeperState T C E) (recorder : R) (store : S) (begun : ℕ) (new : KeeperState T C E) (recorder' : R) (store' : S) (begun' : ℕ) : Type 0 where
    pub op : ℕ
    pub rows : List (JournalRow T)
    pub is_call : IsCall begun op limit call answer rows
    pub advances : Advances old recorder store begun rows new recorder' store' begun'

  -- A call begins, and tells this answer, if it tells one.
  pub record BeginsWith (call : Call T) (answer : Option (Answer T)) (old : KeeperState T C E) (recorder : R) (store : S) (begun : ℕ) (new : KeeperState T C E) (recorder' : R) (store' : S) (begun' : ℕ) : Type 0 where
    pub row : JournalRow T
    pub begins : row.step ≡ steps.Begin call
    pub answer_is : row.answer ≡ answer
    pub advances : Advances old recorder store begun (row ∷ []) new recorder' store' begun'

  -- A call begins, or is refused.
  module _ (refusal : Option EventFault) where
    -- A refused begin leaves all, and names its reason.
    pub record IsRefused (fault : EventFault) (old : KeeperState T C E) (recorder : R) (store : S) (begun : ℕ) (new : KeeperState T C E) (recorder' : R) (store' : S) (begun' : ℕ) : Type 0 where
      pub same : new ≡ old
      pub recorder_is : recorder' ≡ recorder
      pub store_is : store' ≡ store
      pub begun_is : begun' ≡ begun
      pub reason : (refusal ≡ Some fault) ⊎ (fault ≡ faults.NoMemory)

    -- what became of a begin
    abbrev pub IsBegun : Call T → KeeperState T C E → R → S → ℕ → Begun T → KeeperState T C E → R → S → ℕ → Type 0
    IsBegun call old recorder store begun (begins.Refused fault) new recorder' store' begun' = IsRefused fault old recorder store begun new recorder' store' begun'
    IsBegun call old recorder store begun (begins.Goes op) new recorder' store' begun' = (op ≡ begun + 1) × BeginsWith call None old recorder store begun new recorder' store' begun'
    IsBegun call old recorder store begun (begins.Answered answer) new recorder' store' begun' = BeginsWith call (Some answer) old recorder store begun new recorder' store' begun'

    -- what became of a call of at most so many looks and store calls
    abbrev pub IsDone : ℕ → Call T → KeeperState T C E → R → S → ℕ → Done T → KeeperState T C E → R → S → ℕ → Type 0
    IsDone limit call old recorder store begun (dones.Answered answer) new recorder' store' begun' = Calls limit call (Some answer) old recorder store begun new recorder' store' begun'
    IsDone limit call old recorder store begun dones.Spent new recorder' store' begun' = Calls limit call None old recorder store begun new recorder' store' begun'
    IsDone limit call old recorder store begun (dones.Refused fault) new recorder' store' begun' = IsRefused fault old recorder store begun new recorder' store' begun'
