-- What a call of C does with the client of a handle, and the code that it is answered with.
use Rattle.std.specs.Prelude.{◌≡◌, ◌⊎◌, ◌||◌, ℕ, ◌==◌, if◌then◌else◌, Bool, true, false, List, length, Option, Some, None, is_some, Result, Ok, Err}
use Rattle.std.specs.Option.{option_map}
use Rattle.txn_history.specs.Seen.{Ask}
use Rattle.txn_history.specs.declared.event.EventFault.{EventFault}
use Rattle.txn_history.specs.declared.event.EventFault.TheVariants as faults
use Rattle.txn_history.specs.declared.event.Answer.{Answer}
use Rattle.txn_history.specs.Views.{View}
use Rattle.txn_history.specs.Allowed.{fault_number}
use Rattle.txn_machine.specs.Machine.{seen_view, used_by}
use Rattle.txn_script_lines.specs.declared.values.entry.Entry.{Entry}
use Rattle.txn_client_seat.specs.Numbered.{waits_at}
use Rattle.txn_client_seat.specs.Seats.{SeatState, IsDue, seat_asked, new_seat, recorded_seat, lets_go, without_lines}
use Rattle.txn_client_seat.specs.Waiting.{lines_in}

-- the code of what a call told: 0 where it was done, else the number of the fault
abbrev pub code_of : {A : Type 0} → Result A EventFault → ℕ
code_of (Ok told) = 0
code_of (Err fault) = fault_number fault

-- the number that was told, else the one that stood there
abbrev pub number_in : Result ℕ EventFault → ℕ → ℕ
number_in (Ok number) old = number
number_in (Err fault) old = old

-- it was done to the client of a handle; where there is none, it is refused as a number that is not there
abbrev pub OfClient : {A : Type 0} → (SeatState → Result A EventFault → SeatState → Type 0) → Option SeatState → Result A EventFault → Option SeatState → Type 0
OfClient does None (Ok told) new = ⊥
OfClient does None (Err fault) new = IsDue (Some faults.UnknownNumber) fault × (new ≡ None)
OfClient does (Some seat) told None = ⊥
OfClient does (Some seat) told (Some after) = does seat told after

-- A call of C did this, and told its code.
pub record Tells (did : Result (Unit {0}) EventFault → Type 0) (code : ℕ) : Type 0 where
  pub told : Result (Unit {0}) EventFault
  pub does : did told
  pub code_is : code ≡ code_of told

-- A call of C did this, and told its code, and a number where it was done.
pub record TellsNumber (did : Result ℕ EventFault → Type 0) (old code new : ℕ) : Type 0 where
  pub told : Result ℕ EventFault
  pub does : did told
  pub code_is : code ≡ code_of told
  pub number_is : new ≡ number_in told old

-- why a client of this number and this size of pages is not opened
abbrev pub open_refusal : ℕ → ℕ → Option EventFault
open_refusal number page = if (number == 0) || (page == 0) then Some faults.UnknownNumber else None

-- a client that has done nothing, recorded or not
abbrev pub opened : Bool → ℕ → ℕ → SeatState
opened true = recorded_seat
opened false = new_seat

-- a client that is made so is opened in a handle, or the handle is as it was
abbrev pub IsOpen : (ℕ → ℕ → SeatState) → ℕ → ℕ → Option SeatState → Option SeatState → Result (Unit {0}) EventFault → Type 0
IsOpen made number page old new (Ok done) = (open_refusal number page ≡ None) × (new ≡ Some (made number page))
IsOpen made number page old new (Err fault) = IsDue (open_refusal number page) fault × (new ≡ old)

-- what an operation of the client of a handle asks for
abbrev pub asked_in : Option SeatState → ℕ → Option Ask
asked_in None op = None
asked_in (Some seat) op = seat_asked seat op

-- the answer of an operation of the client of a handle, where it has one that was not let go
abbrev pub answer_in : Option SeatState → ℕ → Option (Answer Entry)
answer_in None op = None
answer_in (Some seat) op = waits_at op seat.answers

-- the view of this number of the client of a handle, as it stands
abbrev pub view_in : Option SeatState → ℕ → Option (View Entry)
view_in None number = None
view_in (Some seat) number = seen_view (used_by seat.keeper.part.views (Some number))

-- why the reply to a listing is not made: there is no client, or memory was wanting
abbrev pub lack_of : Option SeatState → EventFault
lack_of None = faults.UnknownNumber
lack_of (Some seat) = faults.NoMemory

-- What becomes of the client of a handle, by what is done to it.

-- nothing is done where there is no client, with code 1
abbrev pub IsChange : (SeatState → SeatState → Type 0) → Option SeatState → ℕ → Option SeatState → Type 0
IsChange changes None code new = (code ≡ 1) × (new ≡ None)
IsChange changes (Some seat) code None = ⊥
IsChange changes (Some seat) code (Some after) = (code ≡ 0) × changes seat after

-- an answer is let go, with code 0; where none waits it is code 1, and the client is as it was
abbrev pub LetsGo : ℕ → Option SeatState → ℕ → Option SeatState → Type 0
LetsGo op old code new = (code ≡ (if is_some (answer_in old op) then 0 else 1)) × (new ≡ option_map (lets_go op) old)

-- Lines of rows.

-- how many bytes the lines of the rows of a client have: code 7 where memory was wanting for them, and what stood there stays
abbrev pub IsCount : SeatState → ℕ → ℕ × ℕ → Type 0
IsCount seat old told = (told ≡ (0, length (lines_in seat.rows))) ⊎ (told ≡ (7, old))

-- the same of the client of a handle: code 1 where there is none
abbrev pub TellsCount : Option SeatState → ℕ → ℕ × ℕ → Type 0
TellsCount None old told = told ≡ (1, old)
TellsCount (Some seat) old told = IsCount seat old told

-- The lines of the rows of a client are copied out, where there is room for exactly these, and let go; else it is code 1, and nothing has changed.
abbrev pub handed : SeatState → List ℕ → ℕ × SeatState × List ℕ
handed seat out = if length (lines_in seat.rows) == length out then (0, without_lines seat, lines_in seat.rows) else (1, seat, out)

-- the same, or memory was wanting, with code 7
abbrev pub IsHanded : SeatState → List ℕ → ℕ × SeatState × List ℕ → Type 0
IsHanded seat out told = (told ≡ handed seat out) ⊎ (told ≡ (7, seat, out))

-- the same of the client of a handle: code 1 where there is none
abbrev pub HandsLines : Option SeatState → List ℕ → ℕ → Option SeatState → List ℕ → Type 0
HandsLines None out code new copied = (code ≡ 1) × (new ≡ None) × (copied ≡ out)
HandsLines (Some seat) out code None copied = ⊥
HandsLines (Some seat) out code (Some after) copied = IsHanded seat out (code, after, copied)
