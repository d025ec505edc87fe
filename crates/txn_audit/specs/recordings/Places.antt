-- Words of private contracts: what is kept of an order's calls while they are replayed.
use Rattle.std.specs.Prelude.{◌≡◌, ◌≤◌, ◌<◌, ◌+◌, ◌&&◌, Bool, true, ℕ, ◌⊎◌, List, Option, Some, nat_eq, unwrap_or, length, slice_get, IfSome, false}
use Rattle.std.specs.Option.{option_map}
use Rattle.std.specs.Borrow.{Bor}
use Rattle.std.specs.HashMap.{get}
use Rattle.std.specs.HashSet.{contains}
use Rattle.txn_store.specs.Paths.{Segments}
use Rattle.txn_store.specs.declared.request.Request.{Request}
use Rattle.txn_store.specs.declared.request.Reply.{Reply}
use Rattle.txn_client_journals.specs.declared.rows.LogRow.{LogRow}
use Rattle.txn_audit_recordings.specs.declared.row.RecordedRow.{RecordedRow}
use Rattle.txn_audit_recordings.specs.declared.row.RecordedRow.TheVariants as kinds
use Rattle.txn_audit_effects.specs.declared.clock.Clock.{Clock}
use Rattle.txn_audit_effects.specs.Clocks.{clock_of}
use Rattle.txn_audit.specs.declared.recordings.times.AskedSoFar.{AskedSoFar}
use Rattle.txn_audit.specs.declared.recordings.placing.Placing.{Placing}
use Rattle.txn_audit.specs.declared.recordings.recorded.RecordedCall.{RecordedCall}
use Rattle.txn_audit.specs.declared.recordings.fates.FilePut.{FilePut}
use Rattle.txn_audit.specs.recordings.Calls.{StoreCall, HasCall, IsCall, AreCalls, HaveAllReplies, IsInTime, KeepTime}
use Rattle.txn_audit.specs.recordings.OneHistory.{HasLanded, LandOnce}

-- they are the same two numbers
abbrev pub is_same_pair : ℕ × ℕ → ℕ × ℕ → Bool
is_same_pair a b = nat_eq a.0 b.0 && nat_eq a.1 b.1

-- the reply that a call has
abbrev pub seen_reply : Option (ℕ × Bor Reply) → Option (ℕ × Reply)
seen_reply reply = option_map (λ seen. (seen.0, seen.1.now)) reply

-- a recorded call, as a contract sees it
abbrev pub as_call : RecordedCall → StoreCall
as_call call = record { recording = call.place.recording; place = call.place.row; client = call.client; op = call.op; asked = call.asked; request = call.request.now; reply = seen_reply call.reply }

-- the latest time of a clock, 0 where none is kept
abbrev pub latest_of : AskedSoFar → ℕ → ℕ
latest_of kept number = unwrap_or (get nat_eq kept.of_clock number) 0

-- a call that was asked at this time of this clock is among those of which this is kept
pub record HasAsked (kept : AskedSoFar) (clock : Clock) (asked : ℕ) : Type 0 where
  pub of_clock : asked + clock.ahead ≤ latest_of kept clock.number
  pub of_all : asked + clock.ahead ≤ kept.of_all + clock.error

-- each call stays among them
abbrev pub KeepsAsked : AskedSoFar → AskedSoFar → Type 0
KeepsAsked old new = (clock : Clock) (asked : ℕ) → HasAsked old clock asked → HasAsked new clock asked

-- the place of a call, by its recording and its row, was noted
abbrev pub is_placed : Placing → ℕ → ℕ → Bool
is_placed kept recording place = contains is_same_pair kept.placed (recording, place)

-- the landing of an operation was noted
abbrev pub has_landed : Placing → ℕ → ℕ → Bool
has_landed kept client op = contains is_same_pair kept.landed (client, op)

-- the row of the log that is a landing is the first of its operation
abbrev pub LandsFirst : Placing → Placing → LogRow → Type 0
LandsFirst old new row = IfSome row.landed (λ op. (has_landed old row.client op ≡ false) × (has_landed new row.client op ≡ true))

-- what was noted stays so
pub record KeepsPlaced (old new : Placing) : Type 0 where
  pub asked : KeepsAsked old.asked new.asked
  pub landed : (client op : ℕ) → has_landed old client op ≡ true → has_landed new client op ≡ true

module _ {T : Type 0} where
  -- a row asks, and its reply stands behind it
  pub record IsReplied (rows : List (RecordedRow T)) (place : ℕ) : Type 0 where
    pub op : ℕ
    pub asked : ℕ
    pub request : Request
    pub reply : ℕ × Reply
    pub asks : slice_get rows place ≡ Some (kinds.Ask op asked request)
    pub ends : slice_get rows (place + 1) ≡ Some (kinds.Reply op reply.0 reply.1)

  -- each of the first rows that has a reply is placed
  abbrev pub ArePlaced : Placing → ℕ → List (RecordedRow T) → ℕ → Type 0
  ArePlaced kept recording rows end = (place : ℕ) → place < end → IsReplied rows place → is_placed kept recording place ≡ true

  -- so is each of the first recordings
  abbrev pub AllArePlaced : Placing → List (List (RecordedRow T)) → ℕ → Type 0
  AllArePlaced kept recordings end = (recording : ℕ) (rows : List (RecordedRow T)) → recording < end → slice_get recordings recording ≡ Some rows → ArePlaced kept recording rows (length rows)

module _ {T : Type 0} (recordings : List (List (RecordedRow T))) (clocks : List Clock) where
  -- A row of the log is a recorded call, it was noted, and it may stand behind all that were noted.
  pub record IsTaken (old : Placing) (row : LogRow) (new : Placing) : Type 0 where
    pub call : StoreCall
    pub has : HasCall recordings call
    pub is : IsCall call row
    pub asked : HasAsked new.asked (clock_of clocks call.recording) call.asked
    pub in_time : (first : StoreCall) → HasAsked new.asked (clock_of clocks first.recording) first.asked → IsInTime clocks first call call.reply
    pub first : LandsFirst old new row
    pub places : (recording place : ℕ) → is_placed new recording place ≡ true → (is_placed old recording place ≡ true) ⊎ ((call.recording ≡ recording) × (call.place ≡ place))
    pub keeps : KeepsPlaced old new

  -- A log so far, and what was noted of its calls.
  pub record IsSoFar (log : List LogRow) (kept : Placing) : Type 0 where
    pub calls : List StoreCall
    pub recorded : AreCalls recordings log calls
    pub in_time : KeepTime clocks calls
    pub once : LandOnce log
    pub landed : (client op : ℕ) → HasLanded client op log → has_landed kept client op ≡ true
    pub asked : (i : ℕ) (call : StoreCall) → slice_get calls i ≡ Some call → HasAsked kept.asked (clock_of clocks call.recording) call.asked
    pub placed : (recording place : ℕ) → is_placed kept recording place ≡ true → (i : ℕ) × (call : StoreCall) × (slice_get calls i ≡ Some call) × (call.recording ≡ recording) × (call.place ≡ place)

  -- The rows of a log are the recorded calls, in time.
  pub record IsReplayed (log : List LogRow) : Type 0 where
    pub calls : List StoreCall
    pub recorded : AreCalls recordings log calls
    pub whole : HaveAllReplies recordings calls
    pub in_time : KeepTime clocks calls
    pub once : LandOnce log

-- a file that is put, as a contract sees it
abbrev pub as_file : FilePut → Segments × List ℕ
as_file file = (file.path.now, file.bytes.now)
