-- Calls that found no memory, and changed nothing.
use Rattle.std.proofs.Common.{◌≡◌, ℕ, Bool, true, false, Option, Some, None, refl, sym, subst, ◌∙◌}
use Rattle.std.specs.Prelude.{Err}
use Rattle.txn_store.specs.declared.request.Reply.{Reply}
use Rattle.txn_history.specs.declared.event.Call.{Call}
use Rattle.txn_history.specs.declared.event.EventFault.{EventFault}
use Rattle.txn_history.specs.declared.event.EventFault.TheVariants as faults
use Rattle.txn_history.specs.Allowed.{fault_number}
use Rattle.txn_script_lines.specs.declared.values.entry.Entry.{Entry}
use Rattle.txn_client_seat.specs.Seats.{SeatState, IsBegin, IsTake, IsTakeOf, is_unchecked}
use Rattle.txnobj_c.specs.Clients.{OfClient, Tells, TellsNumber, lack_of}

lacks_begin : (call : Call Entry) (client : Option SeatState) → OfClient (IsBegin call) client (Err faults.NoMemory) client
lacks_begin call None = (tt, refl)
lacks_begin call (Some seat) = (tt, refl)

-- memory was wanting for what a call writes
pub lacks_value : (call : Call Entry) (old new : Option SeatState) (number code left : ℕ) → new ≡ old → code ≡ 7 → left ≡ number → TellsNumber (λ told. OfClient (IsBegin call) old told new) number code left
lacks_value call old new number code left same is stays =
    record { told = Err faults.NoMemory; does = subst (λ (n : Option SeatState). OfClient (IsBegin call) old (Err faults.NoMemory) n) (sym same) (lacks_begin call old); code_is = is; number_is = stays }

lacks_of : (unchecked : Bool) (op : ℕ) (reply : Reply) (seat : SeatState) → IsTakeOf unchecked op reply seat (Err faults.NoMemory) seat
lacks_of false op reply seat = (tt, refl)
lacks_of true op reply seat = (tt, refl)

lacks_take : (op : ℕ) (reply : Reply) (client : Option SeatState) → OfClient (IsTake op reply) client (Err faults.NoMemory) client
lacks_take op reply None = (tt, refl)
lacks_take op reply (Some seat) = lacks_of (is_unchecked seat op) op reply seat

-- memory was wanting for a reply
pub lacks_reply : (op : ℕ) (reply : Reply) (old new : Option SeatState) (code : ℕ) → new ≡ old → code ≡ 7 → Tells (λ told. OfClient (IsTake op reply) old told new) code
lacks_reply op reply old new code same is =
    record { told = Err faults.NoMemory; does = subst (λ (n : Option SeatState). OfClient (IsTake op reply) old (Err faults.NoMemory) n) (sym same) (lacks_take op reply old); code_is = is }

lacks_listed : (op : ℕ) (reply : Reply) (client : Option SeatState) → OfClient (IsTake op reply) client (Err (lack_of client)) client
lacks_listed op reply None = (refl, refl)
lacks_listed op reply (Some seat) = lacks_of (is_unchecked seat op) op reply seat

-- the reply to a listing was not made
pub lacks_listing : (op : ℕ) (reply : Reply) (old between new : Option SeatState) (fault : EventFault) (code : ℕ) → between ≡ old → new ≡ between → fault ≡ lack_of old → code ≡ fault_number fault → Tells (λ told. OfClient (IsTake op reply) old told new) code
lacks_listing op reply old between new fault code was same lack is = record {
  told = Err fault;
  does =
      subst (λ (n : Option SeatState). OfClient (IsTake op reply) old (Err fault) n) (sym (same ∙ was))
      (subst (λ (f : EventFault). OfClient (IsTake op reply) old (Err f) old) (sym lack) (lacks_listed op reply old));
  code_is = is;
}
