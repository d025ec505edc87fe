use Rattle.std.proofs.Common.{◌++◌, ◌∙◌, refl, ap}
use Rattle.txn_client_seat.specs.Lines.{answer_line, failed_line}
use Rattle.txn_client_seat.specs.Waiting.{adds}
use Rattle.txn_machine.specs.plain.Doing.{first_of}
use Rattle.txn_client_seat.specs.Numbered.{as_waiting}
use Rattle.txn_diary.specs.Keepers.{keeper_asked}
use Rattle.txn_diary.proofs.Stepping.{replies_so}
use Rattle.txn_client_seat.proofs.Due.{refused_due}
use Rattle.txn_client_seat.proofs.turns.fail.Goals as goal

pub returns-in-Some : goal.returns-in-Some
returns-in-Some c = (refused_due (keeper_asked c.args.keeper.now c.args.op) c.args.reply c.in-Some.fault c.in-Some.ensures, refl)

pub returns-in-Ok-failed : goal.returns-in-Ok-failed
returns-in-Ok-failed c =
    let wants = replies_so (keeper_asked c.args.keeper.now c.args.op) c.args.reply c.in_default.ensures in
    record {
      request = wants.0;
      asks = wants.1;
      kind = wants.2;
      failed = λ says. (
        c.in-Ok-failed.field-0-0,
        record {
          answer = first_of c.in-Ok-failed.answers;
          does = c.in-Ok-failed.ensures.ok;
          waits = c.tell.ensures.answers ∙ ap (λ l. l ++ as_waiting c.args.op (first_of c.in-Ok-failed.answers)) c.make_room.ensures.answers;
          rows = c.tell.ensures.rows (failed_line c.args.op) c.in-Ok.ensures ∙ ap (λ r. adds r (λ at. failed_line c.args.op at ++ answer_line c.args.op (first_of c.in-Ok-failed.answers))) c.make_room.ensures.rows;
          unchecked = c.tell.ensures.unchecked ∙ c.make_room.ensures.unchecked;
        },
      );
      replied = λ served. absurd (served c.requires.failed);
    }
