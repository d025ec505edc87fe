-- Which recorded store calls the rows of a log are, and when a log keeps their times. All lists have the oldest first.
use Rattle.std.specs.Prelude.{◌≡◌, ◌≤◌, ◌<◌, ◌+◌, ℕ, List, [], ◌∷◌, Option, Some, None, IsSome, slice_get}
use Rattle.txn_store.specs.declared.request.Request.{Request}
use Rattle.txn_store.specs.declared.request.Reply.{Reply}
use Rattle.txn_client_journals.specs.declared.rows.LogRow.{LogRow}
use Rattle.txn_audit_recordings.specs.declared.row.RecordedRow.{RecordedRow}
use Rattle.txn_audit_recordings.specs.declared.row.RecordedRow.TheVariants as kinds
use Rattle.txn_audit_effects.specs.declared.clock.Clock.{Clock}
use Rattle.txn_audit_effects.specs.Clocks.{clock_of, MayPrecede}

-- A store call, as a recording has it: which recording, and which row of that asks, both counted from 0; whose operation asks, when, and what; and the reply, with the time at which it was there, where one was seen.
pub record StoreCall : Type 0 where
  pub recording : ℕ
  pub place : ℕ
  pub client : ℕ
  pub op : ℕ
  pub asked : ℕ
  pub request : Request
  pub reply : Option (ℕ × Reply)

module _ {T : Type 0} where
  -- how an operation's call ended, by the row behind it: that has this reply, at this time, or none to it
  abbrev pub EndsWith : Option (RecordedRow T) → ℕ → Option (ℕ × Reply) → Type 0
  EndsWith next op (Some reply) = next ≡ Some (kinds.Reply op reply.0 reply.1)
  EndsWith next op None = (at : ℕ) (reply : Reply) → next ≡ Some (kinds.Reply op at reply) → ⊥

  -- The recordings have this call: its client's recording has a row by which its operation asks this then, and ends it so.
  pub record HasCall (recordings : List (List (RecordedRow T))) (call : StoreCall) : Type 0 where
    pub rows : List (RecordedRow T)
    pub is_recorded : slice_get recordings call.recording ≡ Some rows
    pub page : ℕ
    pub its : slice_get rows 0 ≡ Some (kinds.Client call.client page)
    pub asks : slice_get rows call.place ≡ Some (kinds.Ask call.op call.asked call.request)
    pub ends : EndsWith (slice_get rows (call.place + 1)) call.op call.reply

-- a row of the log has the reply that was seen; where none was, it is a landing of the operation
abbrev pub HasReply : ℕ → LogRow → Option (ℕ × Reply) → Type 0
HasReply op row (Some reply) = (row.reply ≡ reply.1) × (row.landed ≡ None)
HasReply op row None = row.landed ≡ Some op

-- a row of the log is this call, by its client, its request and its reply
pub record IsCall (call : StoreCall) (row : LogRow) : Type 0 where
  pub client : row.client ≡ call.client
  pub request : row.request ≡ call.request
  pub reply : HasReply call.op row call.reply

-- the row of the log at this place is this call
abbrev pub IsRowAt : List LogRow → ℕ → StoreCall → Type 0
IsRowAt log place call = (row : LogRow) × (slice_get log place ≡ Some row) × IsCall call row

-- both calls are rows of the log, and the second stands behind the first
abbrev pub StandsBehind : List LogRow → StoreCall → StoreCall → Type 0
StandsBehind log first second = (i j : ℕ) × (i < j) × IsRowAt log i first × IsRowAt log j second

module _ {T : Type 0} (recordings : List (List (RecordedRow T))) where
  -- the rows of a log are these calls of the recordings, one by one
  abbrev pub AreCalls : List LogRow → List StoreCall → Type 0
  AreCalls [] [] = Unit {0}
  AreCalls (row ∷ log) (call ∷ calls) = HasCall recordings call × IsCall call row × AreCalls log calls
  AreCalls _ _ = ⊥

  -- each call of the recordings whose reply was seen is one of these
  abbrev pub HaveAllReplies : List StoreCall → Type 0
  HaveAllReplies calls = (call : StoreCall) → HasCall recordings call → IsSome call.reply → (i : ℕ) × (slice_get calls i ≡ Some call)

module _ (clocks : List Clock) where
  -- one call was asked no later than the reply to another was there; where nobody saw that reply, the other may take effect at any later time
  abbrev pub IsInTime : StoreCall → StoreCall → Option (ℕ × Reply) → Type 0
  IsInTime first second None = Unit {0}
  IsInTime first second (Some reply) = MayPrecede (clock_of clocks first.recording) first.asked (clock_of clocks second.recording) reply.0

  -- each call was asked no later than its own reply was there, and than that to each call behind it
  abbrev pub KeepTime : List StoreCall → Type 0
  KeepTime calls = (i j : ℕ) (first second : StoreCall) → i ≤ j → slice_get calls i ≡ Some first → slice_get calls j ≡ Some second → IsInTime first second second.reply
