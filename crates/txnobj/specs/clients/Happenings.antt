-- What happens to a client's recorder and to its store as the client goes on, in one order, the first first.
use Rattle.std.specs.Prelude.{◌≡◌, ℕ, List, [], ◌∷◌, ◌++◌, Option, Some, None}
use Rattle.txn_store.specs.declared.request.Request.{Request}
use Rattle.txn_store.specs.declared.request.Reply.{Reply}
use Rattle.txn_history.specs.declared.event.Answer.{Answer}
use Rattle.txn_client_journals.specs.declared.rows.Act.{Act}
use Rattle.txn_client_journals.specs.declared.rows.Act.TheVariants as acts
use Rattle.txn_client_journals.specs.declared.rows.Step.{Step}
use Rattle.txn_client_journals.specs.declared.rows.Step.TheVariants as steps
use Rattle.txn_client_journals.specs.declared.rows.JournalRow.{JournalRow}
use Rattle.txn_client_journals.specs.Honest.{SaysFailed}
use Rattle.txn_diary.specs.Reading.{op_of, begun_by}
use Rattle.txnobj.specs.declared.clients.stop.Stop.{Stop}
use Rattle.txnobj.specs.declared.clients.stop.Stop.TheVariants as stops
use Rattle.txnobj.specs.clients.Noted.{Noted, Begun, Asked, Replied, Failed, GaveUp, Answered}

pub data Happening (T : Type 0) : Type 0 where
  -- the recorder is handed this
  Handed : (note : Noted T) → Happening T
  -- the store is called for this, and replies so, which is not that the call failed
  Served : (request : Request) (reply : Reply) → Happening T
  -- the store is called for this, and its reply says that the call failed
  CallFailed : (request : Request) → Happening T

-- What happens with a journal's rows. What an operation asks for is handed over, then the store is called for it, and then its reply is handed over. With a look nothing happens, since a client that follows its own states looks wherever it asks to; nor with a kill.
module _ {T : Type 0} where
  abbrev pub act_happens : ℕ → Act → List (Happening T)
  act_happens op acts.Look = []
  act_happens op (acts.Receive receipt) = Handed (Asked op receipt.request) ∷ Served receipt.request receipt.reply ∷ Handed (Replied op receipt.reply) ∷ []
  act_happens op (acts.Fails request) = Handed (Asked op request) ∷ CallFailed request ∷ Handed (Failed op) ∷ []
  act_happens op (acts.GiveUp left) = Handed (GaveUp op) ∷ []
  act_happens op acts.Lacks = []

  abbrev pub step_happens : ℕ → Step T → List (Happening T)
  step_happens op (steps.Begin call) = Handed (Begun op call) ∷ []
  step_happens op (steps.Act _ act) = act_happens op act
  step_happens op (steps.Killed lefts) = []

  abbrev pub answer_happens : ℕ → Option (Answer T) → List (Happening T)
  answer_happens op None = []
  answer_happens op (Some answer) = Handed (Answered op answer) ∷ []

  -- what happens with a row, of this operation
  abbrev pub row_happens : ℕ → JournalRow T → List (Happening T)
  row_happens op row = step_happens op row.step ++ answer_happens op row.answer

  -- what happens with rows, where so many operations began before them
  abbrev pub happens_from : ℕ → List (JournalRow T) → List (Happening T)
  happens_from begun [] = []
  happens_from begun (row ∷ rows) = row_happens (op_of begun row.step) row ++ happens_from (begun_by begun row.step) rows

  -- how many operations began with these rows, where so many began before them
  abbrev pub begun_with : ℕ → List (JournalRow T) → ℕ
  begun_with begun [] = begun
  begun_with begun (row ∷ rows) = begun_with (begun_by begun row.step) rows

-- `hands` says how a recorder is handed something, and `serves` how a store is called.
module _ {T R S : Type 0} (hands : R → Noted T → R → Type 0) (serves : S → Request → Reply → S → Type 0) where
  -- One thing happens to a recorder and a store: the other of the two stays as it was.
  abbrev pub Happens : R → S → Happening T → R → S → Type 0
  Happens recorder store (Handed note) recorder' store' = hands recorder note recorder' × (store' ≡ store)
  Happens recorder store (Served request reply) recorder' store' = (recorder' ≡ recorder) × serves store request reply store' × (SaysFailed reply → ⊥)
  Happens recorder store (CallFailed request) recorder' store' = (reply : Reply) × (recorder' ≡ recorder) × serves store request reply store' × SaysFailed reply

  -- These happen, one after another, and nothing else.
  abbrev pub HappensAll : R → S → List (Happening T) → R → S → Type 0
  HappensAll recorder store [] recorder' store' = (recorder' ≡ recorder) × (store' ≡ store)
  HappensAll recorder store (happening ∷ rest) recorder' store' = (between : R) × (beneath : S) × Happens recorder store happening between beneath × HappensAll between beneath rest recorder' store'

module _ {T : Type 0} where
  -- the first of these is handed to the recorder
  abbrev pub IsHandedFirst : List (Happening T) → Type 0
  IsHandedFirst (Handed note ∷ rest) = Unit {0}
  IsHandedFirst (Served request reply ∷ rest) = ⊥
  IsHandedFirst (CallFailed request ∷ rest) = ⊥
  IsHandedFirst [] = ⊥

module _ {T R : Type 0} where
  -- How a client stops before these, which were to happen next: its recorder failed at the first of them, and what that leaves of the recorder no trait says; or memory was wanting, and the recorder is as it was.
  abbrev pub StopsBefore : Stop → List (Happening T) → R → R → Type 0
  StopsBefore (stops.Unrecorded error) rest recorder recorder' = IsHandedFirst rest
  StopsBefore stops.NoMemory rest recorder recorder' = recorder' ≡ recorder
  StopsBefore (stops.Refused fault) rest recorder recorder' = ⊥
  StopsBefore stops.StepsSpent rest recorder recorder' = ⊥
  StopsBefore stops.Ended rest recorder recorder' = ⊥

module _ {T R S : Type 0} (hands : R → Noted T → R → Type 0) (serves : S → Request → Reply → S → Type 0) where
  -- Of these the first happened, one after another, and nothing else, and then this stopped the client.
  pub record HappensUntil (stop : Stop) (all : List (Happening T)) (recorder : R) (store : S) (recorder' : R) (store' : S) : Type 0 where
    pub done : List (Happening T)
    pub rest : List (Happening T)
    pub all_are : all ≡ done ++ rest
    pub between : R
    pub happened : HappensAll hands serves recorder store done between store'
    pub stopped : StopsBefore stop rest between recorder'
