use Rattle.std.proofs.Common.{◌+◌, ◌++◌, ◌∙◌, ap}
use Rattle.txn_client_seat.specs.Lines.{answer_line, begun_line}
use Rattle.txn_client_seat.specs.Waiting.{adds}
use Rattle.txn_machine.specs.plain.Doing.{first_of}
use Rattle.txn_client_seat.specs.Numbered.{as_waiting}
use Rattle.txn_client_seat.proofs.turns.begin.Goals as goal

pub returns-in-Ok-begin : goal.returns-in-Ok-begin
returns-in-Ok-begin c =
    let op = c.begun-op.result + 1 in record {
      next = ap (λ n. n + 1) c.begun-op.ensures.is;
      goes = record {
        answer = first_of c.in-Ok-begin.answers;
        does = c.in-Ok-begin.ensures.ok;
        waits = c.tell.ensures.answers ∙ ap (λ l. l ++ as_waiting op (first_of c.in-Ok-begin.answers)) c.make_room.ensures.answers;
        rows = c.tell.ensures.rows (begun_line op c.args.call.now) c.in-Ok.ensures ∙ ap (λ r. adds r (λ at. begun_line op c.args.call.now at ++ answer_line op (first_of c.in-Ok-begin.answers))) c.make_room.ensures.rows;
        unchecked = c.tell.ensures.unchecked ∙ c.make_room.ensures.unchecked;
      };
    }
