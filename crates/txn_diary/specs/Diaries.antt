-- What a client's diary is, and what is added to it. Its journal stands oldest first.
use Rattle.std.specs.Prelude.{◌≡◌, ◌+◌, ℕ, List, [], ◌∷◌, ◌++◌, Bool, false, Option, None, length, reverse}
use Rattle.txn_history.specs.declared.event.EventFault.{EventFault}
use Rattle.txn_history.specs.declared.event.ToldOf.TheVariants as told
use Rattle.txn_history.specs.Added.{told_of}
use Rattle.txn_history.specs.Seen.{Ask}
use Rattle.txn_history.specs.declared.event.Call.{Call}
use Rattle.txn_history.specs.declared.event.Answer.{Answer}
use Rattle.txn_history.specs.Trace.{Told}
use Rattle.txn_client_journals.specs.declared.rows.Act.{Act}
use Rattle.txn_client_journals.specs.declared.rows.Step.{Step}
use Rattle.txn_client_journals.specs.declared.rows.Step.TheVariants as steps
use Rattle.txn_client_journals.specs.declared.rows.JournalRow.{JournalRow}
use Rattle.txn_client_journals.specs.Parts.{Part}
use Rattle.txn_client_journals.specs.Journals.{goes_on, Follows}
use Rattle.txn_client_journals.specs.Verdict.{AuditedDiary}
use Rattle.txn_diary.specs.Keepers.{KeeperState, lives_after, fault_if, keeper_asked, keeper_refusal}

-- A client with its journal: its number, how many files a page of a listing has at most, its codec, where its values keep their epochs, what it keeps, and what it did.
pub record DiaryState (T C E : Type 0) : Type 0 where
  pub client : ℕ
  pub page : ℕ
  pub codec : C
  pub epochs : E
  pub part : Part T
  pub rows : List (JournalRow T)

module _ {T C E : Type 0} where
  -- a client and its journal
  abbrev pub diary_of : KeeperState T C E → List (JournalRow T) → DiaryState T C E
  diary_of keeper rows = record { client = keeper.client; page = keeper.page; codec = keeper.codec; epochs = keeper.epochs; part = keeper.part; rows = rows }

  -- a client with its journal, as an audit reads it
  abbrev pub as_diary : DiaryState T C E → AuditedDiary T
  as_diary diary = record { client = diary.client; rows = diary.rows; part = diary.part }

  -- the client was made with this page, this codec and this field of epochs
  pub record IsMadeWith (page : ℕ) (codec : C) (epochs : E) (diary : DiaryState T C E) : Type 0 where
    pub page_is : diary.page ≡ page
    pub codec_is : diary.codec ≡ codec
    pub epochs_are : diary.epochs ≡ epochs

module _ {T : Type 0} where
  -- a client of this journal was not killed
  abbrev pub lives : List (JournalRow T) → Bool
  lives rows = lives_after (reverse rows)

module _ {T C E : Type 0} where
  -- the client of a diary, without its journal
  abbrev pub keeper_in : DiaryState T C E → KeeperState T C E
  keeper_in diary = record { client = diary.client; page = diary.page; codec = diary.codec; epochs = diary.epochs; part = diary.part; alive = lives diary.rows }

  -- what an operation of a diary asks for: nothing where it has ended, or its client was killed
  abbrev pub asked_in : DiaryState T C E → ℕ → Option Ask
  asked_in diary op = keeper_asked (keeper_in diary) op

  -- why a begin is refused
  abbrev pub refusal_of : (T → ℕ) → DiaryState T C E → Call T → Option EventFault
  refusal_of get_epoch diary call = keeper_refusal get_epoch (keeper_in diary) call

module _ {T : Type 0} where
  -- why a kill is refused: the client was killed before
  abbrev pub kill_fault : List (JournalRow T) → Option EventFault
  kill_fault rows = fault_if (lives rows) None

module _ {T C E : Type 0} (encode : T → List ℕ) (decode : List ℕ → Option T) (get_epoch : T → ℕ) (set_epoch : T → ℕ → T) where
  -- The client did this, with this answer: its journal has one row more, and what it keeps follows.
  pub record Adds (old : DiaryState T C E) (step : Step T) (answer : Option (Answer T)) (new : DiaryState T C E) : Type 0 where
    pub rows : new.rows ≡ old.rows ++ record { step = step; answer = answer } ∷ []
    pub follows : Follows old.page encode decode get_epoch set_epoch old.client old.part step answer new.part
    pub client : new.client ≡ old.client
    pub page : new.page ≡ old.page
    pub codec : new.codec ≡ old.codec
    pub epochs : new.epochs ≡ old.epochs

  -- The client did this with an operation, and the answer, if it has one, is told, else what is told otherwise.
  pub record Tells (old : DiaryState T C E) (step : Step T) (op : ℕ) (otherwise said : Told T) (new : DiaryState T C E) : Type 0 where
    pub answer : Option (Answer T)
    pub said_is : said ≡ told_of otherwise op answer
    pub adds : Adds old step answer new

  -- A call begins as the operation of the next number.
  abbrev pub Begun : DiaryState T C E → Call T → Told T → DiaryState T C E → Type 0
  Begun old call said new = let op = length old.part.operations + 1 in Tells old (steps.Begin call) op (told.Began op) said new

  -- An operation acts so.
  abbrev pub Acts : DiaryState T C E → ℕ → Act → Told T → DiaryState T C E → Type 0
  Acts old op act said new = Tells old (steps.Act op act) op (told.Went op) said new

  -- The client is killed, and its last row tells what it leaves.
  pub record IsKilledNow (old new : DiaryState T C E) : Type 0 where
    pub row : JournalRow T
    pub ends : goes_on row.step ≡ false
    pub adds : Adds old row.step row.answer new
