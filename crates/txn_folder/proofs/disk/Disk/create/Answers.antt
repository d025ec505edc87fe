use Rattle.std.proofs.Common.{◌≡◌, [], sym, subst, ap, ◌∙◌}
use Rattle.std.proofs.lemmas.Result.{IfOk-weaker}
use Rattle.txn_folder_files.specs.declared.asked.Ask.{Ask}
use Rattle.txn_folder.specs.steps.Running.{place_as, told_as, creating_as, create_asks, create_number, create_verdict}
use Rattle.txn_folder.specs.steps.Runs.{ComesTo}
use Rattle.txn_folder.specs.steps.Steps.{Verdict, Is, Ends, create_turned}
use Rattle.txn_folder.proofs.steps.Runs.{comes_on}
use Rattle.txn_folder.specs.Calls.{IsDrawn, create_start}
use Rattle.txn_folder.specs.Files.{ObjectFiles}
use Rattle.txn_folder.specs.Places.{place_file}
use Rattle.txn_folder.proofs.Machines.{latest_on, rises_on, created_so}
use Rattle.txn_folder.proofs.disk.Disk.create.Goals as goal

pub returns-in-Ends-clause-run : goal.returns-in-Ends-clause-run
returns-in-Ends-clause-run g c =
    let p = place_as c.args.place in
    let b = c.args.bytes.now in
    IfOk-weaker c.told.result _ _
    (λ told is.
    subst (λ (v : Verdict). ComesTo (create_turned p b) (create_start c.args.self.now.syncs) (Ends v)) (created_so c.args.place b c.in-Ends.end told is)
    (comes_on (create_turned p b) (create_start c.args.self.now.syncs) (creating_as p b c.loop.step) (told_as 0 [] (create_asks c.loop.step) c.ask_of_put-answer.result.told) (Ends (create_verdict p b c.in-Ends.end)) c.loop.invariant.run (sym (c.in-Ends.ensures.so 0 [] p b))))
    c.told.ensures

pub loop-preserved : goal.loop-preserved
loop-preserved g c =
    let p = place_as c.args.place in
    let b = c.args.bytes.now in
    let told = c.ask_of_put-answer.result.told in
    let kept = c.ask_of_put-answer.ensures.kept in
    let drawn = subst (λ (ask : Ask). IsDrawn ask told c.loop.self.numbers.last c.ask_of_put-answer.new.self.numbers.last) c.ask.ensures.asks c.ask_of_put-answer.ensures.drawn in
    record {
      run = comes_on (create_turned p b) (create_start c.args.self.now.syncs) (creating_as p b c.loop.step) (told_as 0 [] (create_asks c.loop.step) told) (Is (creating_as p b c.in-Goes.next)) c.loop.invariant.run (sym (c.in-Goes.ensures.so 0 [] p b));
      number = latest_on (create_asks c.loop.step) told c.args.self.now.numbers.last c.loop.self.numbers.last c.ask_of_put-answer.new.self.numbers.last (create_number c.loop.step) (create_number c.in-Goes.next) c.loop.invariant.rises drawn c.in-Goes.ensures.number c.loop.invariant.number;
      rises = rises_on (create_asks c.loop.step) told c.args.self.now.numbers.last c.loop.self.numbers.last c.ask_of_put-answer.new.self.numbers.last c.loop.invariant.rises drawn;
      file = c.ask_of_put-answer.ensures.hands.file_is ∙ c.loop.invariant.file ∙ ap (λ (o : ObjectFiles). place_file o c.args.place) (sym kept.1);
      hands = c.ask_of_put-answer.ensures.hands.syncs_is ∙ c.loop.invariant.hands ∙ sym kept.0;
      syncs = kept.0 ∙ c.loop.invariant.syncs;
      folder = kept.1 ∙ c.loop.invariant.folder;
    }
