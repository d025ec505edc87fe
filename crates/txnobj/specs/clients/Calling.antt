-- What a client that records itself does.
use Rattle.std.specs.Prelude.{◌≡◌, ◌≤◌, ◌⊎◌, ◌+◌, ℕ, List, [], ◌∷◌, ◌++◌, length, Bool, true, false, Option, Some, None, All}
use Rattle.txn_store.specs.declared.request.Request.{Request}
use Rattle.txn_store.specs.declared.request.Reply.{Reply}
use Rattle.txn_history.specs.Seen.{Store}
use Rattle.txn_history.specs.declared.event.EventFault.{EventFault}
use Rattle.txn_history.specs.declared.event.EventFault.TheVariants as faults
use Rattle.txn_history.specs.declared.event.Call.{Call}
use Rattle.txn_history.specs.declared.event.Answer.{Answer}
use Rattle.txn_client_journals.specs.declared.rows.Act.{Act}
use Rattle.txn_client_journals.specs.declared.rows.Act.TheVariants as acts
use Rattle.txn_client_journals.specs.declared.rows.Step.{Step}
use Rattle.txn_client_journals.specs.declared.rows.Step.TheVariants as steps
use Rattle.txn_client_journals.specs.declared.rows.JournalRow.{JournalRow}
use Rattle.txn_machine.specs.Machine.{used_by}
use Rattle.txn_client_journals.specs.Logged.{IsOfKind}
use Rattle.txn_diary.specs.Keepers.{KeeperState, keeper_asked, DoesAll, Forgets}
use Rattle.txn_diary.specs.Reading.{with_answer, answers_from}
use Rattle.txnobj.specs.declared.clients.stop.Stop.{Stop}
use Rattle.txnobj.specs.declared.clients.stop.Stop.TheVariants as stops
use Rattle.txnobj.specs.clients.Noted.{Noted}
use Rattle.txnobj.specs.clients.Happenings.{happens_from, begun_with, HappensAll, HappensUntil}

-- A client: what it keeps, its recorder, its store, and whether it goes on. It ends where its recorder failed or memory was wanting in the middle of a call.
pub record ClientState (T C E R S : Type 0) : Type 0 where
  pub keeper : KeeperState T C E
  pub recorder : R
  pub store : S
  pub goes_on : Bool

-- a look, or a store call, which was answered by a reply of its request's kind, or failed
abbrev pub IsLookOrCall : Act → Type 0
IsLookOrCall acts.Look = Unit {0}
IsLookOrCall (acts.Receive receipt) = IsOfKind receipt.request receipt.reply
IsLookOrCall (acts.Fails request) = Unit {0}
IsLookOrCall (acts.GiveUp left) = ⊥
IsLookOrCall acts.Lacks = ⊥

-- an operation is given up
abbrev pub IsGiveUp : Act → Type 0
IsGiveUp (acts.GiveUp left) = Unit {0}
IsGiveUp _ = ⊥

module _ {T : Type 0} where
  -- a step that is such an act of this operation
  abbrev pub IsActOf : ℕ → (Act → Type 0) → Step T → Type 0
  IsActOf op such (steps.Begin call) = ⊥
  IsActOf op such (steps.Act o act) = (o ≡ op) × such act
  IsActOf op such (steps.Killed lefts) = ⊥

  -- How an operation ends that may take so many looks and store calls, and took so many. It is answered, and no row follows; or it took all that it may, was not answered, and is given up, which is the last row.
  abbrev pub EndsAfter : (op limit taken : ℕ) → Option (Answer T) → List (JournalRow T) → Type 0
  EndsAfter op limit taken (Some answer) rows = (taken ≤ limit) × (rows ≡ [])
  EndsAfter op limit taken None rows = (taken ≡ limit) × (last : JournalRow T) × (rows ≡ last ∷ []) × IsActOf op IsGiveUp last.step

  -- These rows, before which so many operations began, are one call, which may take so many looks and store calls: its begin, which is that of the next operation, then the looks and the store calls of this, and how it ends. They tell this answer, if one, and no other.
  pub record IsCall (begun op limit : ℕ) (call : Call T) (answer : Option (Answer T)) (rows : List (JournalRow T)) : Type 0 where
    pub own : op ≡ begun + 1
    pub first : JournalRow T
    pub turns : List (JournalRow T)
    pub end : List (JournalRow T)
    pub rows_are : rows ≡ first ∷ turns ++ end
    pub begins : first.step ≡ steps.Begin call
    pub acts : All (λ row. IsActOf op IsLookOrCall row.step) turns
    pub ends : EndsAfter op limit (length turns) answer end
    pub answers_are : answers_from begun rows ≡ with_answer op answer

  -- These rows, before which so many operations began, are what was done of a call that was cut off, which may take so many looks and store calls: its begin, then looks and store calls of its operation, no more than it may take, and perhaps, where it took them all, that this was given up.
  pub record IsCutOff (begun limit : ℕ) (call : Call T) (rows : List (JournalRow T)) : Type 0 where
    pub first : JournalRow T
    pub turns : List (JournalRow T)
    pub end : List (JournalRow T)
    pub rows_are : rows ≡ first ∷ turns ++ end
    pub begins : first.step ≡ steps.Begin call
    pub acts : All (λ row. IsActOf (begun + 1) IsLookOrCall row.step) turns
    pub few : length turns ≤ limit
    pub gives_up : All (λ row. IsActOf (begun + 1) IsGiveUp row.step) end
    pub spent : (end ≡ []) ⊎ (length turns ≡ limit)

module _ {T C E : Type 0} where
  -- how many operations of a client began
  abbrev pub begun_in : KeeperState T C E → ℕ
  begun_in keeper = length keeper.part.operations

module _ {T C E R S : Type 0} where
  -- A client let a view go, and nothing else happened.
  pub record LetsGo (view : ℕ) (old new : ClientState T C E R S) : Type 0 where
    pub forgets : Forgets old.keeper new.keeper
    pub ended : used_by new.keeper.part.views (Some view) ≡ None
    pub recorder : new.recorder ≡ old.recorder
    pub store : new.store ≡ old.store
    pub goes_on : new.goes_on ≡ old.goes_on

module _ {T C E : Type 0} where
  -- a store call of this operation, for what it asks
  abbrev pub IsStoreCall : KeeperState T C E → ℕ → Step T → Type 0
  IsStoreCall keeper op (steps.Act o (acts.Receive receipt)) = (o ≡ op) × (keeper_asked keeper op ≡ Some (Store receipt.request))
  IsStoreCall keeper op (steps.Act o (acts.Fails request)) = (o ≡ op) × (keeper_asked keeper op ≡ Some (Store request))
  IsStoreCall keeper op (steps.Act o acts.Look) = ⊥
  IsStoreCall keeper op (steps.Act o (acts.GiveUp left)) = ⊥
  IsStoreCall keeper op (steps.Act o acts.Lacks) = ⊥
  IsStoreCall keeper op (steps.Begin call) = ⊥
  IsStoreCall keeper op (steps.Killed lefts) = ⊥

  -- these rows, which the client has not taken, are none, or the one of a store call of this operation, for what it asks
  abbrev pub AreUntold : KeeperState T C E → ℕ → List (JournalRow T) → Type 0
  AreUntold keeper op [] = Unit {0}
  AreUntold keeper op (row ∷ []) = IsStoreCall keeper op row.step
  AreUntold keeper op (row ∷ next ∷ rows) = ⊥

module _ {T C E R S : Type 0} (hands : R → Noted T → R → Type 0) (serves : S → Request → Reply → S → Type 0) (does : KeeperState T C E → Step T → Option (Answer T) → KeeperState T C E → Type 0) where
  -- This stopped a client in the middle of a call, of at most so many looks and store calls, before which so many operations began. What it did of the call are its rows, and what it keeps follows, but perhaps for one store call, which no row tells. What happened to its recorder and its store is all that the rows before the last tell, and of what the last one tells the first things.
  pub record CutsOff (begun limit : ℕ) (call : Call T) (stop : Stop) (old : KeeperState T C E) (recorder : R) (store : S) (new : KeeperState T C E) (recorder' : R) (store' : S) : Type 0 where
    pub rows : List (JournalRow T)
    pub did : DoesAll does old rows new
    pub untold : List (JournalRow T)
    pub are_untold : AreUntold new (begun + 1) untold
    pub cut_off : IsCutOff begun limit call (rows ++ untold)
    pub before : List (JournalRow T)
    pub last : List (JournalRow T)
    pub rows_are : rows ++ untold ≡ before ++ last
    pub one : length last ≤ 1
    pub between : R
    pub beneath : S
    pub happened : HappensAll hands serves recorder store (happens_from begun before) between beneath
    pub until : HappensUntil hands serves stop (happens_from (begun_with begun before) last) between beneath recorder' store'

  -- The client went on before, and this stopped it in the middle of this call, of at most so many looks and store calls: it makes no further call.
  pub record Ends (limit : ℕ) (call : Call T) (stop : Stop) (old new : ClientState T C E R S) : Type 0 where
    pub went_on : old.goes_on ≡ true
    pub cuts_off : CutsOff (begun_in old.keeper) limit call stop old.keeper old.recorder old.store new.keeper new.recorder new.store
    pub ended : new.goes_on ≡ false

module _ {T C E R S : Type 0} (hands : R → Noted T → R → Type 0) (serves : S → Request → Reply → S → Type 0) (does : KeeperState T C E → Step T → Option (Answer T) → KeeperState T C E → Type 0) where
  -- A client that went on and goes on made this call, of at most so many looks and store calls, with this answer, if one: what it did are the rows of one call, and what happens with them happened to its recorder and its store, and nothing else.
  pub record MakesCall (limit : ℕ) (call : Call T) (answer : Option (Answer T)) (old new : ClientState T C E R S) : Type 0 where
    pub went_on : old.goes_on ≡ true
    pub op : ℕ
    pub rows : List (JournalRow T)
    pub is_call : IsCall (begun_in old.keeper) op limit call answer rows
    pub did : DoesAll does old.keeper rows new.keeper
    pub happened : HappensAll hands serves old.recorder old.store (happens_from (begun_in old.keeper) rows) new.recorder new.store
    pub goes_on : new.goes_on ≡ true

  -- Why a call of at most so many looks and store calls has no answer, where its begin is refused so, if it is, and what that leaves.
  module _ (refusal : Option EventFault) where
    abbrev pub Stops : ℕ → Call T → ClientState T C E R S → ClientState T C E R S → Stop → Type 0
    Stops limit call old new (stops.Refused fault) = (new ≡ old) × (old.goes_on ≡ true) × ((refusal ≡ Some fault) ⊎ (fault ≡ faults.NoMemory))
    Stops limit call old new stops.StepsSpent = MakesCall limit call None old new
    Stops limit call old new (stops.Unrecorded error) = Ends hands serves does limit call (stops.Unrecorded error) old new
    Stops limit call old new stops.NoMemory = Ends hands serves does limit call stops.NoMemory old new
    Stops limit call old new stops.Ended = (new ≡ old) × (old.goes_on ≡ false)
