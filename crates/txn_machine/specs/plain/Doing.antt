-- What an operation of a plain call does: how a call starts, what it asks for, what it makes of a look or a reply, and what it leaves of its client's caches.
use Rattle.std.specs.Prelude.{◌≡◌, ◌⊎◌, ℕ, ◌<◌, ◌^◌, List, map, ◌==◌, if◌then◌else◌, Bool, true, false, Option, Some, None, Result, Ok, Err}
use Rattle.txn_store.specs.declared.request.Request.{Request}
use Rattle.txn_store.specs.declared.request.Reply.{Reply}
use Rattle.txn_store.specs.types.Numbers.{number_of}
use Rattle.txn_history.specs.declared.event.PlainCall.{PlainCall}
use Rattle.txn_history.specs.declared.event.PlainCall.TheVariants as calls
use Rattle.txn_history.specs.declared.event.PlainAnswer.{PlainAnswer}
use Rattle.txn_history.specs.declared.event.PlainAnswer.TheVariants as answers
use Rattle.txn_history.specs.Names.{world_names, world_boundary}
use Rattle.txn_history.specs.Seen.{Ask, Store, Look}
use Rattle.txn_steps.specs.declared.boundary.ask.Ask.{Ask as StateAsk}
use Rattle.txn_steps.specs.declared.boundary.caches.Caches.{Caches}
use Rattle.txn_steps.specs.declared.boundary.check.CheckOp.{CheckOp}
use Rattle.txn_steps.specs.declared.boundary.advance.AdvanceOp.{AdvanceOp}
use Rattle.txn_steps.specs.declared.boundary.turned.Turned.{Turned}
use Rattle.txn_steps.specs.declared.boundary.turned.Turned.TheVariants as turns
use Rattle.txn_steps.specs.boundary.Asking.{asks, IsGot, IsListed}
use Rattle.txn_steps.specs.boundary.Checks.{check_started, check_asked, check_turned, check_caches, IsCheckReply}
use Rattle.txn_steps.specs.boundary.Advances.{advance_started, advance_asked, advance_turned, advance_caches, IsAdvanceReply}
use Rattle.txn_steps.specs.declared.write.WriteUncheckedOp.{WriteUncheckedOp}
use Rattle.txn_steps.specs.declared.write.WriteOp.{WriteOp}
use Rattle.txn_steps.specs.declared.read.ReadOp.{ReadOp}
use Rattle.txn_steps.specs.declared.seen.ReadUncheckedOp.{ReadUncheckedOp}
use Rattle.txn_steps.specs.declared.seen.ReadSeenOp.{ReadSeenOp}
use Rattle.txn_steps.specs.declared.seen.ReadSeenOp.TheVariants as seen
use Rattle.txn_steps.specs.declared.listing.ListOp.{ListOp}
use Rattle.txn_steps.specs.declared.delete.DeleteOp.{DeleteOp}
use Rattle.txn_steps.specs.Requests.{version_got}
use Rattle.txn_steps.specs.Latest.{ReadAnswer}
use Rattle.txn_steps.specs.Writes.{unchecked_started, unchecked_asked, unchecked_turned, unchecked_latest, IsUncheckedReply, write_started, write_asked, write_turned, write_caches, IsWriteReply}
use Rattle.txn_steps.specs.Reads.{read_started, read_asked, read_turned, read_caches_after, IsReadReply, IsInRange}
use Rattle.txn_steps.specs.SeenSteps.{unchecked_turned as value_turned, seen_asked, seen_turned, seen_latest, IsSeenReply}
use Rattle.txn_steps.specs.Listed.{Listed}
use Rattle.txn_steps.specs.Listings.{listing_started, listing_turned}
use Rattle.txn_steps.specs.Deletes.{delete_started, delete_asked, delete_turned, delete_caches, IsDeleteReply}
use Rattle.txn_machine.specs.declared.plain.doing.PlainDoing.{PlainDoing}
use Rattle.txn_machine.specs.declared.plain.doing.PlainDoing.TheVariants.{Write, WriteUnchecked, Read, ReadUnchecked, ReadSeen, ListIds, Delete, Check, Advance, Ended}

abbrev pub first_of : {A : Type 0} → Option (A × A) → Option A
first_of None = None
first_of (Some pair) = Some pair.0

-- the ids of listed versions
abbrev pub ids_of : List Listed → List ℕ
ids_of found = map (λ listed. listed.id) found

-- what an operation does next, and its answer where it has one
abbrev pub Next : Type 0 → Type 0
Next T = PlainDoing T × Option (PlainAnswer T)

-- a store call, or a look where it asks for none
abbrev pub ask_of : Option Request → Ask
ask_of (Some request) = Store request
ask_of None = Look

-- what the code asks for
abbrev pub asks_as : Option StateAsk → Option Ask
asks_as None = None
asks_as (Some ask) = Some (ask_of (asks ask))

module _ {T : Type 0} where
  abbrev pub is_write : PlainCall T → Bool
  is_write (calls.Write base value) = true
  is_write (calls.WriteUnchecked base value) = true
  is_write _ = false

  -- an id that the call reads is a number of 64 bits, as its type says
  abbrev pub FitsWord : PlainCall T → Type 0
  FitsWord (calls.ReadUnchecked id) = id < 2 ^ 64
  FitsWord (calls.ReadSeen id) = id < 2 ^ 64
  FitsWord (calls.Write base value) = Unit {0}
  FitsWord (calls.WriteUnchecked base value) = Unit {0}
  FitsWord calls.Read = Unit {0}
  FitsWord (calls.ListIds from to) = Unit {0}
  FitsWord (calls.Delete id) = Unit {0}
  FitsWord (calls.Check id) = Unit {0}
  FitsWord (calls.Advance to) = Unit {0}

  -- what it asks for: nothing where it has ended
  abbrev pub asked : PlainDoing T → Option Ask
  asked (Write op) = Some (ask_of (write_asked op))
  asked (WriteUnchecked op) = Some (ask_of (unchecked_asked op))
  asked (Read op) = Some (ask_of (read_asked op))
  asked (ReadUnchecked op) = Some (Store op.request)
  asked (ReadSeen op) = Some (ask_of (seen_asked op))
  asked (ListIds op) = Some (Store op.request)
  asked (Delete op) = Some (ask_of (delete_asked op))
  asked (Check op) = Some (ask_of (check_asked op))
  asked (Advance op) = Some (ask_of (advance_asked op))
  asked Ended = None

  -- the reply is of the kind that it asks for, none for a look
  abbrev pub IsReply : PlainDoing T → Option Reply → Type 0
  IsReply (Write op) reply = IsWriteReply op reply
  IsReply (WriteUnchecked op) reply = IsUncheckedReply op reply
  IsReply (Read op) reply = IsReadReply op reply
  IsReply (ReadUnchecked op) reply = IsGot reply
  IsReply (ReadSeen op) reply = IsSeenReply op reply
  IsReply (ListIds op) reply = IsListed reply
  IsReply (Delete op) reply = IsDeleteReply op reply
  IsReply (Check op) reply = IsCheckReply op reply
  IsReply (Advance op) reply = IsAdvanceReply op reply
  IsReply Ended reply = ⊥

  -- a read has found at most four successors
  abbrev pub InRange : PlainDoing T → Type 0
  InRange (Read op) = IsInRange op
  InRange (Write op) = Unit {0}
  InRange (WriteUnchecked op) = Unit {0}
  InRange (ReadUnchecked op) = Unit {0}
  InRange (ReadSeen op) = Unit {0}
  InRange (ListIds op) = Unit {0}
  InRange (Delete op) = Unit {0}
  InRange (Check op) = Unit {0}
  InRange (Advance op) = Unit {0}
  InRange Ended = Unit {0}

  abbrev pub refusal_of_number : Option ℕ → Option (PlainAnswer T)
  refusal_of_number None = None
  refusal_of_number (Some number) = Some (answers.Refused number)

  -- the answer of a write
  abbrev pub write_answer : Turned (Result ℕ ℕ) → Option (PlainAnswer T)
  write_answer turns.Goes = None
  write_answer (turns.Done (Ok id)) = Some (answers.Wrote id)
  write_answer (turns.Done (Err number)) = Some (answers.Refused number)

  -- the answer of a read
  abbrev pub read_answer : Turned (ReadAnswer T) → Option (PlainAnswer T)
  read_answer turns.Goes = None
  read_answer (turns.Done (Ok found)) = Some (answers.Read found)
  read_answer (turns.Done (Err number)) = Some (answers.Refused number)

  -- the answer of a read of one id
  abbrev pub value_answer : Turned (Result (Option T) ℕ) → Option (PlainAnswer T)
  value_answer turns.Goes = None
  value_answer (turns.Done (Ok found)) = Some (answers.Value found)
  value_answer (turns.Done (Err number)) = Some (answers.Refused number)

  -- the answer of a listing
  abbrev pub ids_answer : Turned (Result (List Listed) ℕ) → Option (PlainAnswer T)
  ids_answer turns.Goes = None
  ids_answer (turns.Done (Ok found)) = Some (answers.Ids (ids_of found))
  ids_answer (turns.Done (Err number)) = Some (answers.Refused number)

  -- the answer of a check, an advance or a delete
  abbrev pub done_answer : Turned (Result (Unit {0}) ℕ) → Option (PlainAnswer T)
  done_answer turns.Goes = None
  done_answer (turns.Done (Ok done)) = Some answers.Done
  done_answer (turns.Done (Err number)) = Some (answers.Refused number)

  -- an answer that is copied: a value, or ids
  abbrev pub IsValued : Option (PlainAnswer T) → Type 0
  IsValued (Some (answers.Read (Some found))) = Unit {0}
  IsValued (Some (answers.Value (Some value))) = Unit {0}
  IsValued (Some (answers.Ids ids)) = Unit {0}
  IsValued answer = ⊥

  -- an answer is told as it is, or a growth for its copy was refused
  abbrev pub IsTold : Option (PlainAnswer T) → Option (PlainAnswer T) → Type 0
  IsTold answer told = (told ≡ answer) ⊎ ((told ≡ Some (answers.Refused 9)) × IsValued answer)

  -- an answer ends the operation
  abbrev pub next_of : PlainDoing T → Option (PlainAnswer T) → Next T
  next_of doing None = (doing, None)
  next_of doing (Some answer) = (Ended, Some answer)

  -- what an operation does next, where a growth of its own, or of its answer's copy, may have been refused
  abbrev pub or_no_memory : Bool → Next T → Next T
  or_no_memory true next = (Ended, Some (answers.Refused 9))
  or_no_memory false next = next

  abbrev pub write_next : WriteOp × Turned (Result ℕ ℕ) → Next T
  write_next next = next_of (Write next.0) (write_answer next.1)

  abbrev pub unchecked_next : WriteUncheckedOp × Turned (Result ℕ ℕ) → Next T
  unchecked_next next = next_of (WriteUnchecked next.0) (write_answer next.1)

  abbrev pub read_next : ReadOp T × Turned (ReadAnswer T) → Next T
  read_next next = next_of (Read next.0) (read_answer next.1)

  abbrev pub value_next : ReadUncheckedOp → Turned (Result (Option T) ℕ) → Next T
  value_next op turn = next_of (ReadUnchecked op) (value_answer turn)

  abbrev pub seen_next : ReadSeenOp T × Turned (Result (Option T) ℕ) → Next T
  seen_next next = next_of (ReadSeen next.0) (value_answer next.1)

  abbrev pub ids_next : ListOp × Turned (Result (List Listed) ℕ) → Next T
  ids_next next = next_of (ListIds next.0) (ids_answer next.1)

  abbrev pub delete_next : DeleteOp × Turned (Result (Unit {0}) ℕ) → Next T
  delete_next next = next_of (Delete next.0) (done_answer next.1)

  abbrev pub check_next : CheckOp × Turned (Result (Unit {0}) ℕ) → Next T
  check_next next = next_of (Check next.0) (done_answer next.1)

  abbrev pub advance_next : AdvanceOp × Turned (Result (Unit {0}) ℕ) → Next T
  advance_next next = next_of (Advance next.0) (done_answer next.1)

  -- what a read said, by its answer: what it leaves of the caches depends on whether it goes on, or is refused
  abbrev pub said_of : Option (PlainAnswer T) → Turned (ReadAnswer T)
  said_of None = turns.Goes
  said_of (Some (answers.Refused number)) = turns.Done (Err number)
  said_of (Some answer) = turns.Done (Ok None)

  -- what it leaves of its client's caches, by its answer
  abbrev pub plain_caches_after : PlainDoing T → Caches → Option (PlainAnswer T) → Caches
  plain_caches_after (Write op) caches answer = write_caches op caches
  plain_caches_after (WriteUnchecked op) caches answer = record { latest = unchecked_latest op caches.latest; boundary = caches.boundary }
  plain_caches_after (Read op) caches answer = read_caches_after op caches (said_of answer)
  plain_caches_after (ReadUnchecked op) caches answer = caches
  plain_caches_after (ReadSeen op) caches answer = record { latest = seen_latest op caches.latest; boundary = caches.boundary }
  plain_caches_after (ListIds op) caches answer = caches
  plain_caches_after (Delete op) caches answer = delete_caches op caches
  plain_caches_after (Check op) caches answer = check_caches op caches
  plain_caches_after (Advance op) caches answer = advance_caches op caches
  plain_caches_after Ended caches answer = caches

module _ {T : Type 0} (page : ℕ) (encode : T → List ℕ) where
  -- how a call starts, where a page of a listing has so many files at most
  abbrev pub started : PlainCall T → Next T
  started (calls.Write base value) =
      if number_of base == 18446744073709551615
      then (Ended, Some (answers.Refused 10))
      else (Write (write_started world_names world_boundary base (encode value)), None)
  started (calls.WriteUnchecked base value) =
      if number_of base == 18446744073709551615
      then (Ended, Some (answers.Refused 10))
      else (WriteUnchecked (unchecked_started world_names base (encode value)), None)
  started calls.Read = (Read (read_started world_boundary), None)
  started (calls.ReadUnchecked id) = (ReadUnchecked (record { request = version_got world_names id }), None)
  started (calls.ReadSeen id) = (ReadSeen (seen.Looks id), None)
  started (calls.ListIds from to) = (ListIds (listing_started world_names page from to), None)
  started (calls.Delete id) = (Delete (delete_started world_names world_boundary id), None)
  started (calls.Check id) = (Check (check_started world_boundary id), None)
  started (calls.Advance to) = (Advance (advance_started to), None)

module _ {T : Type 0} (encode : T → List ℕ) (decode : List ℕ → Option T) where
  -- the codec reads back a value that is written on this base
  abbrev pub ValueReads : Option ℕ → T → Type 0
  ValueReads base value = (number_of base == 18446744073709551615) ≡ false → decode (encode value) ≡ Some value

  -- the codec reads back what the call writes
  abbrev pub ReadsBack : PlainCall T → Type 0
  ReadsBack (calls.Write base value) = ValueReads base value
  ReadsBack (calls.WriteUnchecked base value) = ValueReads base value
  ReadsBack calls.Read = Unit {0}
  ReadsBack (calls.ReadUnchecked id) = Unit {0}
  ReadsBack (calls.ReadSeen id) = Unit {0}
  ReadsBack (calls.ListIds from to) = Unit {0}
  ReadsBack (calls.Delete id) = Unit {0}
  ReadsBack (calls.Check id) = Unit {0}
  ReadsBack (calls.Advance to) = Unit {0}

module _ {T : Type 0} (page : ℕ) (decode : List ℕ → Option T) where
  -- What it makes of a look or a reply, where a growth may have been refused. Writes, checks and deletes do not grow.
  abbrev pub turned : Bool → PlainDoing T → Caches → Option Reply → Next T
  turned refused (Write op) caches reply = write_next (write_turned op caches reply)
  turned refused (WriteUnchecked op) caches reply = unchecked_next (unchecked_turned op reply)
  turned refused (Read op) caches reply = or_no_memory refused (read_next (read_turned world_names world_boundary page decode op caches reply))
  turned refused (ReadUnchecked op) caches reply = or_no_memory refused (value_next op (value_turned decode reply))
  turned refused (ReadSeen op) caches reply = or_no_memory refused (seen_next (seen_turned world_names decode op caches.latest reply))
  turned refused (ListIds op) caches reply = or_no_memory refused (ids_next (listing_turned world_names page op reply))
  turned refused (Delete op) caches reply = delete_next (delete_turned op caches reply)
  turned refused (Check op) caches reply = check_next (check_turned op caches reply)
  turned refused (Advance op) caches reply = or_no_memory refused (advance_next (advance_turned world_boundary op caches reply))
  turned refused Ended caches reply = (Ended, None)

  -- it takes a look or a reply so, perhaps with a growth refused
  abbrev pub Turns : PlainDoing T → Caches → Option Reply → PlainDoing T → Option (PlainAnswer T) → Type 0
  Turns old caches reply new answer = (refused : Bool) × ((new, answer) ≡ turned refused old caches reply)
