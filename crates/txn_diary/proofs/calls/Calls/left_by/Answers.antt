use Rattle.std.proofs.Common.{◌∙◌, ◌+◌, ap, sym, refl}
use Rattle.std.proofs.lemmas.Result.{IfOk-weaker}
use Rattle.txn_history.specs.GoesOn.{all_left_loose}
use Rattle.txn_machine.specs.Machine.{seen_operations}
use Rattle.txn_diary.proofs.Places.{lefts_behind}
use Rattle.txn_diary.proofs.calls.Calls.left_by.Goals as goal

pub returns : goal.returns
returns g c =
    let t = c.args.self.now in
    let first = t.forgotten + 1 in
    IfOk-weaker c.left_by.result _ _ (λ lefts is. is ∙ (ap (λ os. all_left_loose c.args.client first (seen_operations os)) c.deref.ensures.value ∙ sym (lefts_behind c.args.client t.forgotten first t.operations.items refl))) c.left_by.ensures
