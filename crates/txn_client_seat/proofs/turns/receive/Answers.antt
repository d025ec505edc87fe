use Rattle.std.proofs.Common.{◌++◌, ◌∙◌, Option, ap}
use Rattle.txn_client_seat.specs.Lines.{answer_line, replied_line}
use Rattle.txn_client_seat.specs.Waiting.{adds}
use Rattle.txn_machine.specs.plain.Doing.{first_of}
use Rattle.txn_client_seat.specs.Numbered.{as_waiting}
use Rattle.txn_history.specs.declared.event.Answer.{Answer}
use Rattle.txn_script_lines.specs.declared.values.entry.Entry.{Entry}
use Rattle.txn_diary.specs.Keepers.{keeper_asked}
use Rattle.txn_diary.proofs.Stepping.{replies_so}
use Rattle.txn_client_seat.specs.Seats.{seat_of}
use Rattle.txn_client_seat.proofs.Due.{reply_due}
use Rattle.txn_client_seat.proofs.turns.receive.Goals as goal

pub returns-in-Ok-reply : goal.returns-in-Ok-reply
returns-in-Ok-reply c =
    let wants = replies_so (keeper_asked c.args.keeper.now c.args.op) c.args.reply c.in-Ok-reply.ensures.refused in
    record {
      request = wants.0;
      asks = wants.1;
      kind = wants.2;
      failed = λ says. absurd (c.requires.serves says);
      replied = λ served. record {
        answer = first_of c.in-Ok-reply.answers;
        does = c.in-Ok-reply.ensures.ok wants.0 0 wants.1;
        waits = c.tell.ensures.answers ∙ ap (λ l. l ++ as_waiting c.args.op (first_of c.in-Ok-reply.answers)) c.make_room.ensures.answers;
        rows = c.tell.ensures.rows (replied_line c.args.op c.args.reply) c.in-Ok.ensures ∙ ap (λ r. adds r (λ at. replied_line c.args.op c.args.reply at ++ answer_line c.args.op (first_of c.in-Ok-reply.answers))) c.make_room.ensures.rows;
        unchecked = c.tell.ensures.unchecked ∙ c.make_room.ensures.unchecked;
      };
    }

pub returns-in-Err-reply : goal.returns-in-Err-reply
returns-in-Err-reply c = (
  reply_due (Option (Answer Entry × Answer Entry)) (keeper_asked c.args.keeper.now c.args.op) c.args.reply c.in-Err-reply.fault c.in-Err-reply.ensures.refused,
  λ i. seat_of (c.in-Err-reply.ensures.err i) (c.make_room.ensures.answers i) (c.make_room.ensures.rows i) (c.make_room.ensures.unchecked i),
)
