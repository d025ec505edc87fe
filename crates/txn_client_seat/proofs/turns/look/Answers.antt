use Rattle.std.proofs.Common.{◌++◌, ◌∙◌, ap}
use Rattle.txn_client_seat.specs.Lines.{answer_line, looked_line}
use Rattle.txn_client_seat.specs.Waiting.{adds}
use Rattle.txn_machine.specs.plain.Doing.{first_of}
use Rattle.txn_client_seat.specs.Numbered.{as_waiting}
use Rattle.txn_client_seat.proofs.turns.look.Goals as goal

pub returns-in-Ok : goal.returns-in-Ok
returns-in-Ok c = record {
  answer = first_of c.in-Ok.answers;
  does = c.in-Ok.ensures.ok;
  waits = c.tell.ensures.answers ∙ ap (λ l. l ++ as_waiting c.args.op (first_of c.in-Ok.answers)) c.make_room.ensures.answers;
  rows = c.tell.ensures.rows looked_line c.looked-line.ensures ∙ ap (λ r. adds r (λ at. looked_line at ++ answer_line c.args.op (first_of c.in-Ok.answers))) c.make_room.ensures.rows;
  unchecked = c.tell.ensures.unchecked ∙ c.make_room.ensures.unchecked;
}
