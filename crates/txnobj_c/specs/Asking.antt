-- What C is told of an operation of the client of a handle.
use Rattle.std.specs.Prelude.{◌≡◌, ℕ, Option, Some, None}
use Rattle.txn_client_seat.specs.Seats.{SeatState, seat_asked}
use Rattle.txnobj_c.specs.declared.told.Asked.{Asked}
use Rattle.txnobj_c.specs.Told.{TellsAsk}

-- C is told what an operation asks for, with code 0; where there is no client it is code 1, and what stood there stays
abbrev pub TellsAsked : Option SeatState → ℕ → Asked → ℕ → Asked → Type 0
TellsAsked None op old code new = (code ≡ 1) × (new ≡ old)
TellsAsked (Some seat) op old code new = (code ≡ 0) × TellsAsk (seat_asked seat op) new
