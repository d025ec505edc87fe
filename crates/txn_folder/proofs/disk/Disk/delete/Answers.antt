use Rattle.std.proofs.Common.{◌≡◌, [], sym, ap, ◌∙◌}
use Rattle.txn_folder.specs.steps.Running.{told_as, deleting_as, delete_next_as, delete_asks, delete_verdict}
use Rattle.txn_folder.specs.steps.Steps as steps
use Rattle.txn_folder.specs.steps.Steps.{Phase, Is, Ends, delete_turned, delete_ok}
use Rattle.txn_folder.specs.declared.steps.delete.DeleteEnd.{DeleteEnd}
use Rattle.txn_folder.proofs.steps.Runs.{comes_on}
use Rattle.txn_folder.proofs.disk.Disk.delete.Goals as goal

pub returns-in-Ends-Deleted : goal.returns-in-Ends-Deleted
returns-in-Ends-Deleted g c id is =
    let ended : DeleteEnd → Phase steps.Deleting = λ end. Ends (delete_verdict end) in
    comes_on delete_turned steps.Peeks (deleting_as c.loop.step) (told_as 0 [] (delete_asks c.loop.step) c.ask_of_delete-answer.result.told) (Ends delete_ok) c.loop.invariant.run
    (sym (c.in-Ends-Deleted.ensures 0 []) ∙ ap ended c.in-Ends-Deleted.field-0-is)

pub loop-preserved : goal.loop-preserved
loop-preserved g c = record {
  run = comes_on delete_turned steps.Peeks (deleting_as c.loop.step) (told_as 0 [] (delete_asks c.loop.step) c.ask_of_delete-answer.result.told) (Is (deleting_as c.in-Goes.next)) c.loop.invariant.run (sym (c.in-Goes.ensures 0 []));
  file = c.ask_of_delete-answer.ensures.hands.0 ∙ c.loop.invariant.file;
  lock = c.ask_of_delete-answer.ensures.lock;
}
