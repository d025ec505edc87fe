-- A client whose caller makes its store calls, and what each thing that it does makes of it.
use Rattle.std.specs.Prelude.{◌≡◌, ◌+◌, ◌≤◌, ◌^◌, ◌&&◌, ℕ, List, [], ◌++◌, Bool, true, false, Option, Some, None, is_some, is_none, Result, Ok, Err, length}
use Rattle.std.specs.Option.{option_map, option_or}
use Rattle.txn_store.specs.declared.request.Request.{Request}
use Rattle.txn_store.specs.declared.request.Reply.{Reply}
use Rattle.txn_history.specs.Seen.{Ask, Store}
use Rattle.txn_history.specs.declared.event.EventFault.{EventFault}
use Rattle.txn_history.specs.declared.event.EventFault.TheVariants as faults
use Rattle.txn_history.specs.declared.event.Call.{Call}
use Rattle.txn_history.specs.declared.event.Answer.{Answer}
use Rattle.txn_history.specs.declared.event.Answer.TheVariants as answers
use Rattle.txn_history.specs.declared.event.PlainAnswer.{PlainAnswer}
use Rattle.txn_history.specs.Allowed.{ask_fault}
use Rattle.txn_machine.specs.plain.Doing.{ask_of}
use Rattle.txn_machine.specs.plain.Machine.{fault_met}
use Rattle.txn_machine.specs.Machine.{used_by}
use Rattle.txn_client_journals.specs.declared.rows.Act.TheVariants as acts
use Rattle.txn_client_journals.specs.declared.rows.Step.{Step}
use Rattle.txn_client_journals.specs.declared.rows.Step.TheVariants as steps
use Rattle.txn_client_journals.specs.Parts.{no_part}
use Rattle.txn_client_journals.specs.Logged.{IsOfKind}
use Rattle.txn_client_journals.specs.Honest.{SaysFailed}
use Rattle.txn_diary.specs.Keepers.{KeeperState, keeper_asked, keeper_refusal, end_fault, Does, Forgets}
use Rattle.txn_diary.specs.Forgetting.{KeepsBases, HaveEnded, AreForgotten}
use Rattle.txn_script_lines.specs.declared.values.entry.Entry.{Entry}
use Rattle.txn_script_lines.specs.declared.values.entry.EntryCodec.{EntryCodec}
use Rattle.txn_script_lines.specs.declared.values.entry.EntryEpoch.{EntryEpoch}
use Rattle.txn_script_lines.specs.values.Entry.{entry_bytes, entry_read}
use Rattle.txn_client_seat.specs.Lines.{begun_line, looked_line, asked_line, replied_line, failed_line, given_up_line, answer_line}
use Rattle.txn_client_seat.specs.Waiting.{Waiting, first_waiting, adds, from_time, emptied}
use Rattle.txn_client_seat.specs.Numbered.{waits_at, without, as_waiting}
use Rattle.txn_client_seat.specs.UncheckedCalls.{UncheckedState, no_unchecked, next_unchecked, read_begun, delete_begun, given_up, asked_unchecked, TakesUnchecked, IsUncheckedDue}

-- what a client of entries keeps
abbrev pub Keeping : Type 0
Keeping = KeeperState Entry EntryCodec EntryEpoch

-- A client of entries, the answers of its operations that ended and were not let go, by the operations' numbers, the lines of its rows that were not taken off, where it is recorded, and its unchecked operations.
pub record SeatState : Type 0 where
  pub keeper : Keeping
  pub answers : List (ℕ × Answer Entry)
  pub rows : Option Waiting
  pub unchecked : UncheckedState

abbrev pub seat_of : Keeping → List (ℕ × Answer Entry) → Option Waiting → UncheckedState → SeatState
seat_of keeper answers rows unchecked = record { keeper = keeper; answers = answers; rows = rows; unchecked = unchecked }

-- a client that has done nothing, with these rows
abbrev pub seat_with : ℕ → ℕ → Option Waiting → SeatState
seat_with client page rows = seat_of (record { client = client; page = page; codec = record {}; epochs = record {}; part = no_part; alive = true }) [] rows (no_unchecked page)

-- a client of this number that has done nothing, and whose listings have pages of at most so many files
abbrev pub new_seat : ℕ → ℕ → SeatState
new_seat client page = seat_with client page None

-- the same, recorded: the line that names it waits
abbrev pub recorded_seat : ℕ → ℕ → SeatState
recorded_seat client page = seat_with client page (Some (first_waiting client page))

-- where an entry keeps its epoch
abbrev pub epoch_of : EntryEpoch → Entry → ℕ
epoch_of epochs value = value.epoch

-- a client of entries did this, with this answer, if one
abbrev pub DoesEntry : Keeping → Step Entry → Option (Answer Entry) → Keeping → Type 0
DoesEntry = Does (λ codec value. entry_bytes value) (λ codec bytes. entry_read bytes) epoch_of (λ epochs value epoch. record value { epoch = epoch })

-- The client did this, which is its operation's of this number and has this line, and the answer waits, where it has one. Where the client is recorded, so do the line and that of the answer.
pub record Goes (old : SeatState) (op : ℕ) (step : Step Entry) (told : ℕ → List ℕ) (new : SeatState) : Type 0 where
  pub answer : Option (Answer Entry)
  pub does : DoesEntry old.keeper step answer new.keeper
  pub waits : new.answers ≡ old.answers ++ as_waiting op answer
  pub rows : new.rows ≡ adds old.rows (λ at. told at ++ answer_line op answer)
  pub unchecked : new.unchecked ≡ old.unchecked

-- The call begins as the operation of this number, the next.
pub record Begins (old : SeatState) (call : Call Entry) (op : ℕ) (new : SeatState) : Type 0 where
  pub next : op ≡ length old.keeper.part.operations + 1
  pub goes : Goes old op (steps.Begin call) (begun_line op call) new

-- An operation is about to ask the store what it asks for: nothing is done but that the line of that waits, where the client is recorded.
pub record Asks (old : SeatState) (op : ℕ) (new : SeatState) : Type 0 where
  pub request : Request
  pub asks : keeper_asked old.keeper op ≡ Some (Store request)
  pub keeper : new.keeper ≡ old.keeper
  pub waits : new.answers ≡ old.answers
  pub rows : new.rows ≡ adds old.rows (asked_line op request)
  pub unchecked : new.unchecked ≡ old.unchecked

-- An operation takes this reply to what it asked for; where the reply says that the call failed, nobody knows whether it took effect.
pub record Takes (old : SeatState) (op : ℕ) (reply : Reply) (new : SeatState) : Type 0 where
  pub request : Request
  pub asks : keeper_asked old.keeper op ≡ Some (Store request)
  pub kind : IsOfKind request reply
  pub failed : SaysFailed reply → (left : Request) × Goes old op (steps.Act op (acts.Fails left)) (failed_line op) new
  pub replied : (SaysFailed reply → ⊥) → Goes old op (steps.Act op (acts.Receive (record { place = 0; request = request; reply = reply }))) (replied_line op reply) new

-- An operation is given up, and ends without an answer.
pub record GivesUp (old : SeatState) (op : ℕ) (new : SeatState) : Type 0 where
  pub left : Option Request
  pub does : DoesEntry old.keeper (steps.Act op (acts.GiveUp left)) None new.keeper
  pub waits : new.answers ≡ old.answers
  pub rows : new.rows ≡ adds old.rows (given_up_line op)
  pub unchecked : new.unchecked ≡ old.unchecked

-- The client lets a view go.
pub record EndsView (old : SeatState) (view : ℕ) (new : SeatState) : Type 0 where
  pub forgets : Forgets old.keeper new.keeper
  pub ended : used_by new.keeper.part.views (Some view) ≡ None
  pub waits : new.answers ≡ old.answers
  pub rows : new.rows ≡ old.rows
  pub unchecked : new.unchecked ≡ old.unchecked

-- The client forgets what it no longer needs.
pub record ForgetsOld (old new : SeatState) : Type 0 where
  pub forgets : Forgets old.keeper new.keeper
  pub ended : length old.keeper.part.operations ≤ 2 ^ 62 → HaveEnded old.keeper.part.operations → AreForgotten new.keeper.part.operations
  pub views : new.keeper.part.views ≡ old.keeper.part.views
  pub bases : KeepsBases old.keeper.part new.keeper.part
  pub waits : new.answers ≡ old.answers
  pub rows : new.rows ≡ old.rows
  pub unchecked : new.unchecked ≡ old.unchecked

-- this fault is the refusal, or want of memory
abbrev pub IsDue : Option EventFault → EventFault → Type 0
IsDue refusal faults.NoMemory = Unit {0}
IsDue refusal fault = refusal ≡ Some fault

-- why an operation that asks for this, or for nothing, is refused a reply: it has ended, or asks for a look, or for a reply of another kind
abbrev pub IsReplyDue : Option Ask → Reply → EventFault → Type 0
IsReplyDue ask reply faults.NoMemory = Unit {0}
IsReplyDue (Some (Store request)) reply fault = (fault ≡ faults.NotAsked) × (IsOfKind request reply → ⊥)
IsReplyDue ask reply fault = ask_fault true ask ≡ Some fault

-- it was done, or it was refused by a fault that is due, and the client is as it was
abbrev pub IsDone : {A : Type 0} → (A → SeatState → Type 0) → (EventFault → Type 0) → SeatState → Result A EventFault → SeatState → Type 0
IsDone does due old (Ok told) new = does told new
IsDone does due old (Err fault) new = due fault × (new ≡ old)

-- What the client's own operations do.

abbrev pub IsOwnLook : ℕ → SeatState → Result (Unit {0}) EventFault → SeatState → Type 0
IsOwnLook op old = IsDone (λ done new. Goes old op (steps.Act op acts.Look) looked_line new) (IsDue (ask_fault false (keeper_asked old.keeper op))) old

abbrev pub IsOwnAsking : ℕ → SeatState → Result (Unit {0}) EventFault → SeatState → Type 0
IsOwnAsking op old = IsDone (λ done new. Asks old op new) (IsDue (ask_fault true (keeper_asked old.keeper op))) old

abbrev pub IsOwnTake : ℕ → Reply → SeatState → Result (Unit {0}) EventFault → SeatState → Type 0
IsOwnTake op reply old = IsDone (λ done new. Takes old op reply new) (IsReplyDue (keeper_asked old.keeper op) reply) old

abbrev pub IsOwnGiveUp : ℕ → SeatState → Result (Unit {0}) EventFault → SeatState → Type 0
IsOwnGiveUp op old = IsDone (λ done new. GivesUp old op new) (IsDue (end_fault (keeper_asked old.keeper op))) old

-- What its unchecked operations do, which stand beside it: they leave what it keeps as it was, and no row tells of them.

-- An unchecked operation took this reply, or looked, and its answer waits, where it has one.
pub record TurnsUnchecked (old : SeatState) (op : ℕ) (reply : Option Reply) (new : SeatState) : Type 0 where
  pub answer : Option (PlainAnswer Entry)
  pub takes : TakesUnchecked old.unchecked op reply answer new.unchecked
  pub keeper : new.keeper ≡ old.keeper
  pub waits : new.answers ≡ old.answers ++ as_waiting op (option_map answers.Plain answer)
  pub rows : new.rows ≡ old.rows

-- it took this reply, or looked, or was refused it
abbrev pub IsUncheckedTurn : ℕ → Option Reply → SeatState → Result (Unit {0}) EventFault → SeatState → Type 0
IsUncheckedTurn op reply old = IsDone (λ done new. TurnsUnchecked old op reply new) (IsUncheckedDue (waits_at op old.unchecked.running) reply) old

-- with these unchecked operations
abbrev pub with_unchecked : UncheckedState → SeatState → SeatState
with_unchecked unchecked seat = seat_of seat.keeper seat.answers seat.rows unchecked

-- an operation of this number is unchecked: it runs, and the client's own of this number, if one, has ended
abbrev pub is_unchecked : SeatState → ℕ → Bool
is_unchecked seat op = is_none (keeper_asked seat.keeper op) && is_some (waits_at op seat.unchecked.running)

-- what an operation asks for: nothing where it is not there, or has ended
abbrev pub seat_asked : SeatState → ℕ → Option Ask
seat_asked seat op = option_or (keeper_asked seat.keeper op) (option_map ask_of (asked_unchecked seat.unchecked op))

-- What a call of a client told, and what it left of it.

abbrev pub IsBegin : Call Entry → SeatState → Result ℕ EventFault → SeatState → Type 0
IsBegin call old = IsDone (λ op new. Begins old call op new) (IsDue (keeper_refusal (epoch_of old.keeper.epochs) old.keeper call)) old

-- an unchecked read of the newest version begins as the operation of this number
abbrev pub IsReadBegin : SeatState → Result ℕ EventFault → SeatState → Type 0
IsReadBegin old = IsDone (λ op new. (op ≡ next_unchecked old.unchecked) × (new ≡ with_unchecked (read_begun old.keeper.part.caches old.unchecked) old)) (IsDue None) old

-- an unchecked delete
abbrev pub IsDeleteBegin : ℕ → SeatState → Result ℕ EventFault → SeatState → Type 0
IsDeleteBegin id old = IsDone (λ op new. (op ≡ next_unchecked old.unchecked) × (new ≡ with_unchecked (delete_begun id old.unchecked) old)) (IsDue None) old

-- the client's own operation looks, or an unchecked one
abbrev pub IsLookOf : Bool → ℕ → SeatState → Result (Unit {0}) EventFault → SeatState → Type 0
IsLookOf false op old told new = IsOwnLook op old told new
IsLookOf true op old told new = IsUncheckedTurn op None old told new

abbrev pub IsLook : ℕ → SeatState → Result (Unit {0}) EventFault → SeatState → Type 0
IsLook op old told new = IsLookOf (is_unchecked old op) op old told new

-- that an unchecked operation is about to ask tells no row
abbrev pub IsAskingOf : Bool → ℕ → SeatState → Result (Unit {0}) EventFault → SeatState → Type 0
IsAskingOf false op old told new = IsOwnAsking op old told new
IsAskingOf true op old told new = (fault_met told ≡ ask_fault true (seat_asked old op)) × (new ≡ old)

abbrev pub IsAsking : ℕ → SeatState → Result (Unit {0}) EventFault → SeatState → Type 0
IsAsking op old told new = IsAskingOf (is_unchecked old op) op old told new

abbrev pub IsTakeOf : Bool → ℕ → Reply → SeatState → Result (Unit {0}) EventFault → SeatState → Type 0
IsTakeOf false op reply old told new = IsOwnTake op reply old told new
IsTakeOf true op reply old told new = IsUncheckedTurn op (Some reply) old told new

abbrev pub IsTake : ℕ → Reply → SeatState → Result (Unit {0}) EventFault → SeatState → Type 0
IsTake op reply old told new = IsTakeOf (is_unchecked old op) op reply old told new

-- an unchecked operation that is given up runs no more
abbrev pub IsGiveUpOf : Bool → ℕ → SeatState → Result (Unit {0}) EventFault → SeatState → Type 0
IsGiveUpOf false op old told new = IsOwnGiveUp op old told new
IsGiveUpOf true op old told new = (told ≡ Ok tt) × (new ≡ with_unchecked (given_up op old.unchecked) old)

abbrev pub IsGiveUp : ℕ → SeatState → Result (Unit {0}) EventFault → SeatState → Type 0
IsGiveUp op old told new = IsGiveUpOf (is_unchecked old op) op old told new

-- an answer is let go, where one waits
abbrev pub lets_go : ℕ → SeatState → SeatState
lets_go op seat = seat_of seat.keeper (without op seat.answers) seat.rows seat.unchecked

-- what comes next is done at this time
abbrev pub at_time : ℕ → SeatState → SeatState
at_time at seat = seat_of seat.keeper seat.answers (from_time at seat.rows) seat.unchecked

-- the lines that waited are gone
abbrev pub without_lines : SeatState → SeatState
without_lines seat = seat_of seat.keeper seat.answers (emptied seat.rows) seat.unchecked
