use Rattle.std.proofs.Common.{◌≡◌, sym, subst, ap, ◌∙◌}
use Rattle.std.proofs.lemmas.Result.{IfOk-weaker}
use Rattle.std.specs.Prelude.{IfSome}
use Rattle.txn_folder_files.specs.Names.{IsHeld}
use Rattle.txn_folder_files.specs.declared.lock.Sharing.TheVariants.{Alone}
use Rattle.txn_folder_files.specs.declared.asked.Ask.{Ask}
use Rattle.txn_folder.specs.steps.Running.{told_as, updating_as, update_asks, update_number, update_verdict}
use Rattle.txn_folder.specs.steps.Runs.{ComesTo}
use Rattle.txn_folder.specs.steps.Steps.{Verdict, Is, Ends, update_turned}
use Rattle.txn_folder.proofs.steps.Runs.{comes_on}
use Rattle.txn_folder.specs.Calls.{IsDrawn}
use Rattle.txn_folder.specs.Files.{ObjectFiles}
use Rattle.txn_folder.specs.Places.{place_file, update_lock}
use Rattle.txn_folder.proofs.Machines.{latest_on, rises_on, updated_so}
use Rattle.txn_folder.proofs.disk.Disk.replace.Goals as goal

pub returns-in-Ends-clause-run : goal.returns-in-Ends-clause-run
returns-in-Ends-clause-run g c =
    let b = c.args.bytes.now in
    let start = updating_as 0 b c.args.start in
    IfOk-weaker c.told.result _ _
    (λ told is at.
    subst (λ (v : Verdict). ComesTo (update_turned b c.args.token) start (Ends v)) (updated_so c.args.place b c.in-Ends.end told at is)
    (comes_on (update_turned b c.args.token) start (updating_as 0 b c.loop.step) (told_as 0 c.as_slice.result.now (update_asks c.loop.step) c.ask_of_update-answer.result.told) (Ends (update_verdict b c.in-Ends.end)) (c.loop.invariant.run at) (sym (c.in-Ends.ensures.so at 0 b))))
    c.told.ensures

pub loop-preserved : goal.loop-preserved
loop-preserved g c =
    let b = c.args.bytes.now in
    let start = updating_as 0 b c.args.start in
    let told = c.ask_of_update-answer.result.told in
    let kept = c.ask_of_update-answer.ensures.kept in
    let hands = c.ask_of_update-answer.ensures.hands in
    let drawn = subst (λ (ask : Ask). IsDrawn ask told c.loop.self.numbers.last c.ask_of_update-answer.new.self.numbers.last) c.ask.ensures.asks c.ask_of_update-answer.ensures.drawn in
    record {
      run = λ at. comes_on (update_turned b c.args.token) start (updating_as 0 b c.loop.step) (told_as 0 c.as_slice.result.now (update_asks c.loop.step) told) (Is (updating_as 0 b c.in-Goes.next)) (c.loop.invariant.run at) (sym (c.in-Goes.ensures.so at 0 b));
      number = latest_on (update_asks c.loop.step) told c.args.self.now.numbers.last c.loop.self.numbers.last c.ask_of_update-answer.new.self.numbers.last (update_number c.loop.step) (update_number c.in-Goes.next) c.loop.invariant.rises drawn c.in-Goes.ensures.number c.loop.invariant.number;
      rises = rises_on (update_asks c.loop.step) told c.args.self.now.numbers.last c.loop.self.numbers.last c.ask_of_update-answer.new.self.numbers.last c.loop.invariant.rises drawn;
      file = hands.0 ∙ c.loop.invariant.file ∙ ap (λ (o : ObjectFiles). place_file o c.args.place) (sym kept.1);
      lock = subst (λ (o : ObjectFiles). IfSome c.ask_of_update-answer.new.hands.lock (IsHeld (update_lock o c.args.place) Alone)) (sym kept.1) c.ask_of_update-answer.ensures.lock;
      hands = hands.1 ∙ c.loop.invariant.hands ∙ sym kept.0;
      syncs = kept.0 ∙ c.loop.invariant.syncs;
      folder = kept.1 ∙ c.loop.invariant.folder;
    }
