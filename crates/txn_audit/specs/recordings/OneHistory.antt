-- What an audit of recordings promises where it agrees. All lists have the oldest first.
use Rattle.std.specs.Prelude.{◌≡◌, ◌⊎◌, ◌≤◌, ℕ, List, [], ◌∷◌, Option, Some, None, Ok, reverse, slice_get}
use Rattle.txn_store.specs.Store.{State as StoreState}
use Rattle.txn_client_journals.specs.declared.rows.LogRow.{LogRow}
use Rattle.txn_client_journals.specs.Logs.{IsLog}
use Rattle.txn_client_journals.specs.Verdict.{AuditedDiary, IsDue, clients_in}
use Rattle.txn_client_journals.specs.Shares.{AreDiaries, ShareOnlyTheStore}
use Rattle.txn_script_lines.specs.Printed.{answered_text}
use Rattle.txn_audit_recordings.specs.declared.row.RecordedRow.{RecordedRow}
use Rattle.txn_audit_recordings.specs.declared.row.RecordedRow.TheVariants as kinds
use Rattle.txn_audit_effects.specs.declared.clock.Clock.{Clock}
use Rattle.txn_audit.specs.recordings.Told.{TellsSame, recording_tells, journal_tells}
use Rattle.txn_audit.specs.recordings.Calls.{StoreCall, AreCalls, HaveAllReplies, KeepTime}

module _ {T : Type 0} (page : ℕ) (text : T → List ℕ) where
  -- A diary is that of a recording: its client is the one that the recording's first row names, with this page, and its journal tells what the recording tells.
  pub record IsOf (rows : List (RecordedRow T)) (d : AuditedDiary T) : Type 0 where
    pub client : slice_get rows 0 ≡ Some (kinds.Client d.client page)
    pub tells : TellsSame (recording_tells rows) (journal_tells (answered_text text) 0 d.rows)

  -- the diaries are those of the recordings, one by one
  abbrev pub AreOf : List (List (RecordedRow T)) → List (AuditedDiary T) → Type 0
  AreOf [] [] = Unit {0}
  AreOf (rows ∷ recordings) (d ∷ ds) = IsOf rows d × AreOf recordings ds
  AreOf _ _ = ⊥

-- a row of the log is a landing of this operation of this client
abbrev pub HasLanded : ℕ → ℕ → List LogRow → Type 0
HasLanded client op [] = ⊥
HasLanded client op (row ∷ log) = ((row.client ≡ client) × (row.landed ≡ Some op)) ⊎ HasLanded client op log

-- where a row is a landing, no row of these is one of the same operation
abbrev pub LandsAlone : LogRow → Option ℕ → List LogRow → Type 0
LandsAlone row None log = Unit {0}
LandsAlone row (Some op) log = HasLanded row.client op log → ⊥

-- no operation lands twice
abbrev pub LandOnce : List LogRow → Type 0
LandOnce [] = Unit {0}
LandOnce (row ∷ log) = LandsAlone row row.landed log × LandOnce log

module _ {T : Type 0} (text : T → List ℕ) (encode : T → List ℕ) (decode : List ℕ → Option T) (get_epoch : T → ℕ) (set_epoch : T → ℕ → T) where
  -- The recordings, whose times are of these clocks, are one history: there are diaries, one for each recording, that tell what the recordings tell, and a log that an honest store has. The log's rows are calls of the recordings, among them each whose reply was seen, in an order that keeps the recorded times. Its rows of each client are the replies that its diary has, and its landings are of what the clients left, no operation twice; and so the clients shared only the store.
  pub record IsOneHistoryOf (recordings : List (List (RecordedRow T))) (clocks : List Clock) (log : List LogRow) (ds : List (AuditedDiary T)) : Type 0 where
    pub page : ℕ
    pub paged : 1 ≤ page
    pub store : StoreState
    pub is_log : IsLog (reverse log) store
    pub told : AreOf page text recordings ds
    pub calls : List StoreCall
    pub recorded : AreCalls recordings log calls
    pub whole : HaveAllReplies recordings calls
    pub in_time : KeepTime clocks calls
    pub once : LandOnce log
    pub diaries : AreDiaries page encode decode get_epoch set_epoch ds
    pub agrees : IsDue log ds (Ok tt)
    pub shares : ShareOnlyTheStore page encode decode get_epoch set_epoch (clients_in ds) log ds store
