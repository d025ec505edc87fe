use Rattle.std.proofs.Common.{◌≡◌, ℕ, Option, sym, subst, ap, ◌∙◌}
use Rattle.std.proofs.lemmas.Result.{IfOk-weaker, IfErr-weaker}
use Rattle.txn_folder.specs.Replies.{IsGetError}
use Rattle.txn_store.specs.declared.request.Reply.TheVariants as replies
use Rattle.txn_folder.specs.steps.Running.{place_as}
use Rattle.txn_folder.specs.steps.Runs.{ComesTo}
use Rattle.txn_folder.specs.steps.Steps as steps
use Rattle.txn_folder.specs.steps.Steps.{Verdict, Ends, get_turned}
use Rattle.txn_folder.specs.declared.steps.get.GetNext.TheVariants as get_nexts
use Rattle.txn_folder.specs.Files.{ObjectFiles}
use Rattle.txn_folder.specs.Places.{place_file}
use Rattle.txn_folder.proofs.Machines.{get_on, got_on, get_error}
use Rattle.txn_folder.proofs.disk.Disk.read.Goals as goal

pub returns-in-Ends-clause-run : goal.returns-in-Ends-clause-run
returns-in-Ends-clause-run g c =
    let ended = get_on c.args.place c.matched-matching.result c.loop.bytes.items c.ask_of_get-answer.new.bytes.items c.as_slice.result.now c.loop.step c.ask.result c.ask_of_get-answer.result.told (get_nexts.Ends c.in-Ends.end) c.as_slice.ensures.value c.ask.ensures.asks c.ask_of_get-answer.ensures.read (c.in-Ends.ensures.so 0) c.loop.invariant.run in
    IfOk-weaker c.told.result _ _
    (λ told is.
    subst (λ (k : Option ℕ). ComesTo (get_turned (place_as c.args.place) k) steps.Looks (Ends (steps.Tells (replies.Get told)))) c.matched-matching.ensures
    (subst (λ (v : Verdict). ComesTo (get_turned (place_as c.args.place) c.matched-matching.result) steps.Looks (Ends v)) is ended))
    c.told.ensures.run

pub loop-preserved : goal.loop-preserved
loop-preserved g c =
    let kept = c.ask_of_get-answer.ensures.kept in
    let hands = c.ask_of_get-answer.ensures.hands in
    record {
      run = get_on c.args.place c.matched-matching.result c.loop.bytes.items c.ask_of_get-answer.new.bytes.items c.as_slice.result.now c.loop.step c.ask.result c.ask_of_get-answer.result.told (get_nexts.Goes c.in-Goes.next) c.as_slice.ensures.value c.ask.ensures.asks c.ask_of_get-answer.ensures.read (c.in-Goes.ensures.so 0) c.loop.invariant.run;
      got = got_on c.args.place c.matched-matching.result c.loop.bytes.items c.ask_of_get-answer.new.bytes.items c.as_slice.result.now c.loop.step c.ask.result c.ask_of_get-answer.result.told (get_nexts.Goes c.in-Goes.next) c.as_slice.ensures.value c.ask.ensures.asks c.ask_of_get-answer.ensures.read c.in-Goes.ensures.token c.loop.invariant.got;
      file = hands.0 ∙ c.loop.invariant.file ∙ ap (λ (o : ObjectFiles). place_file o c.args.place) (sym kept.2);
      hands = hands.1 ∙ c.loop.invariant.hands ∙ sym kept.1;
      numbers = kept.0 ∙ c.loop.invariant.numbers;
      syncs = kept.1 ∙ c.loop.invariant.syncs;
      folder = kept.2 ∙ c.loop.invariant.folder;
    }

pub returns-in-Ends-clause-error : goal.returns-in-Ends-clause-error
returns-in-Ends-clause-error g c =
    let ended = got_on c.args.place c.matched-matching.result c.loop.bytes.items c.ask_of_get-answer.new.bytes.items c.as_slice.result.now c.loop.step c.ask.result c.ask_of_get-answer.result.told (get_nexts.Ends c.in-Ends.end) c.as_slice.ensures.value c.ask.ensures.asks c.ask_of_get-answer.ensures.read c.in-Ends.ensures.token c.loop.invariant.got in
    IfOk-weaker c.told.result _ _
    (λ told is. IfErr-weaker told _ _ (λ error of. get_error c.args.known error (subst (λ (k : Option ℕ). IsGetError k error) c.matched-matching.ensures of)) is)
    (c.told.ensures.error c.args.place c.matched-matching.result ended)
