-- A client with what waits beside it. It stands alone, because it names that.
use Rattle.txn_client_seat.specs.Kept.{seen}
use Rattle.txn_client_seat.specs.declared.turns.Desk.{Desk}
use Rattle.txn_client_seat.specs.Seats.{Keeping, SeatState, seat_of}

abbrev pub seat_at : Keeping → Desk → SeatState
seat_at keeper desk = seat_of keeper desk.answers.items (seen desk.rows) desk.unchecked
