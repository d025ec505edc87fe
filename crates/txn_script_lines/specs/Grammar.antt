-- The lines of a script, each by its text. A text is a script line exactly where it says one.
use Rattle.std.specs.Prelude.{◌≡◌, ℕ, ◌<◌, ◌^◌, List, ◌∷◌, ◌++◌, Option, Some, None, codes, decimal}
use Rattle.std.specs.declared.ops.Bound.{Bound}
use Rattle.std.specs.declared.ops.Bound.TheVariants as bounds
use Rattle.txn_history.specs.declared.event.PlainCall.{PlainCall}
use Rattle.txn_history.specs.declared.event.PlainCall.TheVariants as calls
use Rattle.txn_history.specs.declared.event.EventOf.{EventOf}
use Rattle.txn_history.specs.declared.event.EventOf.TheVariants as events
use Rattle.txn_history.specs.declared.event.Failure.{Failure}
use Rattle.txn_history.specs.declared.event.Failure.TheVariants as failures
use Rattle.txn_history.specs.declared.event.ViewCall.{ViewCall}
use Rattle.txn_history.specs.declared.event.ViewCall.TheVariants as view_calls
use Rattle.txn_history.specs.declared.event.Call.{Call}
use Rattle.txn_history.specs.declared.event.Call.TheVariants as any
use Rattle.txn_script_lines.specs.Numerals.{pair_text, PairFits}
use Rattle.txn_script_lines.specs.declared.line.Line.{Line}
use Rattle.txn_script_lines.specs.declared.line.Line.TheVariants as lines

-- the base of a write: an id, or a dash for none
abbrev pub base_text : Option ℕ → List ℕ
base_text None = codes "-"
base_text (Some id) = decimal id

-- a bound of a listing: an id that is within, an id that is not, or a dash for none
abbrev pub bound_text : Bound ℕ → List ℕ
bound_text (bounds.Included id) = codes "=" ++ decimal id
bound_text (bounds.Excluded id) = codes "!" ++ decimal id
bound_text bounds.Unbounded = codes "-"

abbrev pub list_text : Bound ℕ → Bound ℕ → List ℕ
list_text from to = bound_text from ++ (32 ∷ bound_text to)

-- how a store call fails: before its effect, after it, or with its request loose
abbrev pub failure_text : Failure → List ℕ
failure_text failures.Before = codes "before"
failure_text failures.After = codes "after"
failure_text failures.Loose = codes "loose"

abbrev pub fail_text : ℕ → Failure → List ℕ
fail_text op failure = decimal op ++ (32 ∷ failure_text failure)

-- the texts of calls, by that of a value
module _ {T : Type 0} (text : T → List ℕ) where
  abbrev pub write_text : Option ℕ → T → List ℕ
  write_text base value = base_text base ++ (32 ∷ text value)

  -- a call without a view
  abbrev pub plain_text : PlainCall T → List ℕ
  plain_text (calls.Write base value) = codes "write" ++ (32 ∷ write_text base value)
  plain_text (calls.WriteUnchecked base value) = codes "write_unchecked" ++ (32 ∷ write_text base value)
  plain_text calls.Read = codes "read"
  plain_text (calls.ReadUnchecked id) = codes "read_unchecked" ++ (32 ∷ decimal id)
  plain_text (calls.ReadSeen id) = codes "read_seen" ++ (32 ∷ decimal id)
  plain_text (calls.ListIds from to) = codes "list" ++ (32 ∷ list_text from to)
  plain_text (calls.Delete id) = codes "delete" ++ (32 ∷ decimal id)
  plain_text (calls.Check id) = codes "check" ++ (32 ∷ decimal id)
  plain_text (calls.Advance to) = codes "advance" ++ (32 ∷ decimal to)

  -- a view's number, and the value that is written on its version
  abbrev pub update_text : ℕ → T → List ℕ
  update_text view value = decimal view ++ (32 ∷ text value)

  -- a call that makes a view, or uses one
  abbrev pub view_call_text : ViewCall T → List ℕ
  view_call_text (view_calls.Init value) = codes "init" ++ (32 ∷ text value)
  view_call_text view_calls.Load = codes "load"
  view_call_text (view_calls.Refresh view) = codes "refresh" ++ (32 ∷ decimal view)
  view_call_text (view_calls.Update view value) = codes "update" ++ (32 ∷ update_text view value)
  view_call_text (view_calls.Claim view) = codes "claim" ++ (32 ∷ decimal view)
  view_call_text (view_calls.ClaimAt view epoch) = codes "claim_at" ++ (32 ∷ pair_text view epoch)
  view_call_text (view_calls.HolderRefresh view) = codes "holder_refresh" ++ (32 ∷ decimal view)
  view_call_text (view_calls.HolderUpdate view value) = codes "holder_update" ++ (32 ∷ update_text view value)

  abbrev pub call_text : Call T → List ℕ
  call_text (any.Plain call) = plain_text call
  call_text (any.View call) = view_call_text call

-- the texts of events and lines, by that of a call: words divided by one space each, and numbers as plain decimals
module _ {C : Type 0} (text : C → List ℕ) where
  abbrev pub begin_text : ℕ → C → List ℕ
  begin_text client call = decimal client ++ (32 ∷ text call)

  abbrev pub event_text : EventOf C → List ℕ
  event_text (events.Begin client call) = codes "begin" ++ (32 ∷ begin_text client call)
  event_text (events.Look op) = codes "look" ++ (32 ∷ decimal op)
  event_text (events.Serve op) = codes "serve" ++ (32 ∷ decimal op)
  event_text (events.Fail op failure) = codes "fail" ++ (32 ∷ fail_text op failure)
  event_text (events.GiveUp op) = codes "giveup" ++ (32 ∷ decimal op)
  event_text (events.Land loose) = codes "land" ++ (32 ∷ decimal loose)
  event_text (events.Crash client) = codes "crash" ++ (32 ∷ decimal client)

  abbrev pub line_text : Line C → List ℕ
  line_text (lines.Clients count) = codes "clients" ++ (32 ∷ decimal count)
  line_text (lines.Page size) = codes "page" ++ (32 ∷ decimal size)
  line_text (lines.Event event) = event_text event
  line_text (lines.Run op) = codes "run" ++ (32 ∷ decimal op)

-- each number is below 2 ^ 64
abbrev pub BaseFits : Option ℕ → Type 0
BaseFits None = Unit {0}
BaseFits (Some id) = id < 2 ^ 64

abbrev pub BoundFits : Bound ℕ → Type 0
BoundFits (bounds.Included id) = id < 2 ^ 64
BoundFits (bounds.Excluded id) = id < 2 ^ 64
BoundFits bounds.Unbounded = Unit {0}

abbrev pub ListFits : Bound ℕ → Bound ℕ → Type 0
ListFits from to = BoundFits from × BoundFits to

-- and each value is one that a text can say
module _ {T : Type 0} (fits : T → Type 0) where
  abbrev pub WriteFits : Option ℕ → T → Type 0
  WriteFits base value = BaseFits base × fits value

  abbrev pub PlainFits : PlainCall T → Type 0
  PlainFits (calls.Write base value) = WriteFits base value
  PlainFits (calls.WriteUnchecked base value) = WriteFits base value
  PlainFits calls.Read = Unit {0}
  PlainFits (calls.ReadUnchecked id) = id < 2 ^ 64
  PlainFits (calls.ReadSeen id) = id < 2 ^ 64
  PlainFits (calls.ListIds from to) = ListFits from to
  PlainFits (calls.Delete id) = id < 2 ^ 64
  PlainFits (calls.Check id) = id < 2 ^ 64
  PlainFits (calls.Advance to) = to < 2 ^ 64

  abbrev pub UpdateFits : ℕ → T → Type 0
  UpdateFits view value = (view < 2 ^ 64) × fits value

  abbrev pub ViewCallFits : ViewCall T → Type 0
  ViewCallFits (view_calls.Init value) = fits value
  ViewCallFits view_calls.Load = Unit {0}
  ViewCallFits (view_calls.Refresh view) = view < 2 ^ 64
  ViewCallFits (view_calls.Update view value) = UpdateFits view value
  ViewCallFits (view_calls.Claim view) = view < 2 ^ 64
  ViewCallFits (view_calls.ClaimAt view epoch) = PairFits view epoch
  ViewCallFits (view_calls.HolderRefresh view) = view < 2 ^ 64
  ViewCallFits (view_calls.HolderUpdate view value) = UpdateFits view value

  abbrev pub CallFits : Call T → Type 0
  CallFits (any.Plain call) = PlainFits call
  CallFits (any.View call) = ViewCallFits call

-- and each call is one that a text can say
module _ {C : Type 0} (fits : C → Type 0) where
  abbrev pub EventFits : EventOf C → Type 0
  EventFits (events.Begin client call) = (client < 2 ^ 64) × fits call
  EventFits (events.Look op) = op < 2 ^ 64
  EventFits (events.Serve op) = op < 2 ^ 64
  EventFits (events.Fail op failure) = op < 2 ^ 64
  EventFits (events.GiveUp op) = op < 2 ^ 64
  EventFits (events.Land loose) = loose < 2 ^ 64
  EventFits (events.Crash client) = client < 2 ^ 64

  abbrev pub LineFits : Line C → Type 0
  LineFits (lines.Clients count) = count < 2 ^ 64
  LineFits (lines.Page size) = size < 2 ^ 64
  LineFits (lines.Event event) = EventFits event
  LineFits (lines.Run op) = op < 2 ^ 64

-- A text says a line, where this is the text of each line.
module _ {L : Type 0} (text : L → List ℕ) (fits : L → Type 0) where
  pub record Says (bytes : List ℕ) (line : L) : Type 0 where
    pub words : bytes ≡ text line
    pub numbers : fits line
