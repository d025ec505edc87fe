-- An unchecked operation: what it asks, and what a reply makes of it, as the steps of a read and of a removal have it.
use Rattle.std.specs.Prelude.{◌≡◌, ℕ, List, Option, Some, None, Result, Ok, Err}
use Rattle.txn_store.specs.declared.request.Request.{Request}
use Rattle.txn_store.specs.declared.request.Reply.{Reply}
use Rattle.txn_history.specs.Names.{world_names}
use Rattle.txn_history.specs.declared.event.PlainAnswer.{PlainAnswer}
use Rattle.txn_history.specs.declared.event.PlainAnswer.TheVariants as answers
use Rattle.txn_steps.specs.declared.boundary.caches.Cached.{Cached}
use Rattle.txn_steps.specs.declared.boundary.turned.Turned.{Turned}
use Rattle.txn_steps.specs.declared.boundary.turned.Turned.TheVariants.{Goes, Done}
use Rattle.txn_steps.specs.boundary.Steps.{lacks_memory}
use Rattle.txn_steps.specs.boundary.Asking.{unless_lacking}
use Rattle.txn_steps.specs.declared.latest.LatestOp.{LatestOp}
use Rattle.txn_steps.specs.declared.delete.DeleteUncheckedOp.{DeleteUncheckedOp}
use Rattle.txn_steps.specs.Latest.{ReadAnswer, latest_asked, latest_turned, latest_window_after, IsLatestReply, InRange}
use Rattle.txn_steps.specs.Deletes.{removal_asked, removal_turned, removal_latest, IsRemovalReply}
use Rattle.txn_script_lines.specs.declared.values.entry.Entry.{Entry}
use Rattle.txn_script_lines.specs.values.Entry.{entry_read}
use Rattle.txn_client_seat.specs.declared.unchecked_op.UncheckedOp.{UncheckedOp}
use Rattle.txn_client_seat.specs.declared.unchecked_op.UncheckedOp.TheVariants.{Read, Delete}

-- what it asks: the request of a store call, none for a look
abbrev pub unchecked_asked : UncheckedOp → Option Request
unchecked_asked (Read read) = latest_asked read
unchecked_asked (Delete removal) = removal_asked removal

-- a reply of the kind that it asks for, none for a look
abbrev pub IsUncheckedReply : UncheckedOp → Option Reply → Type 0
IsUncheckedReply (Read read) reply = IsLatestReply read reply
IsUncheckedReply (Delete removal) reply = IsRemovalReply removal reply

-- a read found at most four successors
abbrev pub IsInRange : UncheckedOp → Type 0
IsInRange (Read read) = InRange read
IsInRange (Delete removal) = Unit {0}

-- how a read ended, if it did
abbrev pub read_told : Turned (ReadAnswer Entry) → Option (PlainAnswer Entry)
read_told Goes = None
read_told (Done (Ok found)) = Some (answers.Read found)
read_told (Done (Err number)) = Some (answers.Refused number)

-- how a delete ended, if it did
abbrev pub delete_told : Turned (Result (Unit {0}) ℕ) → Option (PlainAnswer Entry)
delete_told Goes = None
delete_told (Done (Ok done)) = Some answers.Done
delete_told (Done (Err number)) = Some (answers.Refused number)

-- A read took a reply, or looked, over these cached versions: what it is then, what is cached then, and its answer, if one. Listings have pages of so many files.
pub record ReadTurns (page : ℕ) (read : LatestOp Entry) (cached : List Cached) (reply : Option Reply) (next : LatestOp Entry) (cached' : List Cached) (answer : Option (PlainAnswer Entry)) : Type 0 where
  pub told : Turned (ReadAnswer Entry)
  pub turned : (next, told) ≡ unless_lacking (lacks_memory told) read (latest_turned world_names page entry_read read cached reply)
  pub cached_is : cached' ≡ latest_window_after read cached told
  pub answer_is : answer ≡ read_told told

-- The same of a delete.
pub record DeleteTurns (removal : DeleteUncheckedOp) (cached : List Cached) (reply : Option Reply) (next : DeleteUncheckedOp) (cached' : List Cached) (answer : Option (PlainAnswer Entry)) : Type 0 where
  pub told : Turned (Result (Unit {0}) ℕ)
  pub turned : (next, told) ≡ removal_turned removal reply
  pub cached_is : cached' ≡ removal_latest removal cached
  pub answer_is : answer ≡ delete_told told

-- the same of either
abbrev pub UncheckedTurns : ℕ → UncheckedOp → List Cached → Option Reply → UncheckedOp → List Cached → Option (PlainAnswer Entry) → Type 0
UncheckedTurns page (Read read) cached reply (Read next) cached' answer = ReadTurns page read cached reply next cached' answer
UncheckedTurns page (Read read) cached reply (Delete next) cached' answer = ⊥
UncheckedTurns page (Delete removal) cached reply (Delete next) cached' answer = DeleteTurns removal cached reply next cached' answer
UncheckedTurns page (Delete removal) cached reply (Read next) cached' answer = ⊥
