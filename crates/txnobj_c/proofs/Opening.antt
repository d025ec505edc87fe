-- A client that is opened in a handle, or not.
use Rattle.std.proofs.Common.{◌≡◌, ℕ, Bool, true, false, Option, Some, None, refl, ap}
use Rattle.std.specs.Prelude.{◌==◌, ◌||◌, if◌then◌else◌, Ok, Err}
use Rattle.txn_history.specs.declared.event.EventFault.{EventFault}
use Rattle.txn_history.specs.declared.event.EventFault.TheVariants as faults
use Rattle.txn_client_seat.specs.Seats.{SeatState}
use Rattle.txnobj_c.specs.Clients.{IsOpen, Tells}

abbrev refusal_if : Bool → Option EventFault
refusal_if refused = if refused then Some faults.UnknownNumber else None

-- of a client that is made so
module _ (made : ℕ → ℕ → SeatState) where
  pub opens_not : (number page : ℕ) (old : Option SeatState) → ((number == 0) || (page == 0)) ≡ true → Tells (IsOpen made number page old old) 1
  opens_not number page old refused = record { told = Err faults.UnknownNumber; does = (ap refusal_if refused, refl); code_is = refl }

  pub opens_lacking : (number page : ℕ) (old : Option SeatState) → Tells (IsOpen made number page old old) 7
  opens_lacking number page old = record { told = Err faults.NoMemory; does = (tt, refl); code_is = refl }

  pub opens : (number page : ℕ) (old new : Option SeatState) → ((number == 0) || (page == 0)) ≡ false → new ≡ Some (made number page) → Tells (IsOpen made number page old new) 0
  opens number page old new refused is = record { told = Ok tt; does = (ap refusal_if refused, is); code_is = refl }
