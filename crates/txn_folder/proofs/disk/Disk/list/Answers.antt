use Rattle.std.proofs.Common.{Bool, sym, subst, ◌∙◌, IfSome}
use Rattle.std.proofs.lemmas.Result.{IfOk-weaker}
use Rattle.txn_folder_files.specs.Names.{IsHeld}
use Rattle.txn_folder_files.specs.declared.lock.Sharing.TheVariants.{WithOthers}
use Rattle.txn_folder.specs.Files.{ObjectFiles}
use Rattle.txn_folder.specs.Listings.{IsNewest, IsToldLast, WasSeen}
use Rattle.txn_folder.specs.Places.{versions_lock}
use Rattle.txn_folder.specs.declared.lasting.Lasting.{Lasting}
use Rattle.txn_folder.proofs.ListLemmas as on
use Rattle.txn_folder.proofs.disk.Disk.list.Goals as goal

pub loop-preserved : goal.loop-preserved
loop-preserved g c =
    let kept = c.ask_of_list-answer.ensures.kept in
    record {
      run = on.run_on c.args.names.now c.args.after c.args.limit c.loop.self.folder c.loop.self.lasting c.loop.self.syncs c.loop.step c.ask.result c.ask_of_list-answer.result.told c.loop.hands.newest c.ask_of_list-answer.new.hands.newest c.ask_of_list-answer.new.self.lasting c.in_ok-next.field-0 c.ask.ensures.asks c.in_ok-next.ensures c.loop.invariant.run c.loop.invariant.part c.ask_of_list-answer.ensures.shown c.ask_of_list-answer.ensures.newest c.ask_of_list-answer.ensures.known c.ask_of_list-answer.ensures.lasting c.in-Goes.next c.in-Goes.is;
      part = on.part_on c.args.names.now c.args.after c.args.limit c.loop.self.folder c.loop.self.lasting c.loop.self.syncs c.loop.step c.ask.result c.ask_of_list-answer.result.told c.loop.hands.newest c.ask_of_list-answer.new.hands.newest c.ask_of_list-answer.new.self.lasting c.in_ok-next.field-0 c.ask.ensures.asks c.in_ok-next.ensures c.loop.invariant.run c.loop.invariant.part c.ask_of_list-answer.ensures.shown c.ask_of_list-answer.ensures.newest c.ask_of_list-answer.ensures.known c.ask_of_list-answer.ensures.lasting c.in-Goes.next c.in-Goes.is;
      lock = subst (λ (o : ObjectFiles). IfSome c.ask_of_list-answer.new.hands.lock (IsHeld (versions_lock o) WithOthers)) (sym kept.2) c.ask_of_list-answer.ensures.lock;
      seen = subst (λ (o : ObjectFiles). WasSeen o c.ask_of_list-answer.new.hands.newest) (sym kept.2) (on.seen_on c.args.names.now c.args.after c.args.limit c.loop.self.folder c.loop.self.lasting c.loop.self.syncs c.loop.step c.ask.result c.ask_of_list-answer.result.told c.loop.hands.newest c.ask_of_list-answer.new.hands.newest c.ask_of_list-answer.new.self.lasting c.in_ok-next.field-0 c.ask.ensures.asks c.in_ok-next.ensures c.loop.invariant.run c.loop.invariant.part c.ask_of_list-answer.ensures.shown c.ask_of_list-answer.ensures.newest c.ask_of_list-answer.ensures.known c.ask_of_list-answer.ensures.lasting c.in-Goes.next c.in-Goes.is);
      lasting = on.lasting_on c.args.names.now c.args.after c.args.limit c.loop.self.folder c.loop.self.lasting c.loop.self.syncs c.loop.step c.ask.result c.ask_of_list-answer.result.told c.loop.hands.newest c.ask_of_list-answer.new.hands.newest c.ask_of_list-answer.new.self.lasting c.in_ok-next.field-0 c.ask.ensures.asks c.in_ok-next.ensures c.loop.invariant.run c.loop.invariant.part c.ask_of_list-answer.ensures.shown c.ask_of_list-answer.ensures.newest c.ask_of_list-answer.ensures.known c.ask_of_list-answer.ensures.lasting c.in-Goes.next c.in-Goes.is ∙ c.loop.invariant.lasting;
      numbers = kept.0 ∙ c.loop.invariant.numbers;
      syncs = kept.1 ∙ c.loop.invariant.syncs;
      folder = kept.2 ∙ c.loop.invariant.folder;
    }

pub returns-in-Ends-clause-run : goal.returns-in-Ends-clause-run
returns-in-Ends-clause-run g c = IfOk-weaker c.told.result _ _ (λ told is. on.run_ends c.args.names.now c.args.after c.args.limit c.loop.self.folder c.loop.self.lasting c.loop.self.syncs c.loop.step c.ask.result c.ask_of_list-answer.result.told c.loop.hands.newest c.ask_of_list-answer.new.hands.newest c.ask_of_list-answer.new.self.lasting c.in_ok-next.field-0 c.ask.ensures.asks c.in_ok-next.ensures c.loop.invariant.run c.loop.invariant.part c.ask_of_list-answer.ensures.shown c.ask_of_list-answer.ensures.newest c.ask_of_list-answer.ensures.known c.ask_of_list-answer.ensures.lasting c.in-Ends.end c.in-Ends.is told.page is) c.told.ensures.page

pub returns-in-Ends-clause-page : goal.returns-in-Ends-clause-page
returns-in-Ends-clause-page g c = IfOk-weaker c.told.result _ _ (λ told is. on.page_ends c.args.names.now c.args.after c.args.limit c.loop.self.folder c.loop.self.lasting c.loop.self.syncs c.loop.step c.ask.result c.ask_of_list-answer.result.told c.loop.hands.newest c.ask_of_list-answer.new.hands.newest c.ask_of_list-answer.new.self.lasting c.in_ok-next.field-0 c.ask.ensures.asks c.in_ok-next.ensures c.loop.invariant.run c.loop.invariant.part c.ask_of_list-answer.ensures.shown c.ask_of_list-answer.ensures.newest c.ask_of_list-answer.ensures.known c.ask_of_list-answer.ensures.lasting c.in-Ends.end c.in-Ends.is told.page is) c.told.ensures.page

pub returns-in-Ends-clause-newest : goal.returns-in-Ends-clause-newest
returns-in-Ends-clause-newest g c =
    IfOk-weaker c.told.result _ _
    (λ told both. subst (IsNewest c.args.names.now told.page.metas) (sym both.1) (on.newest_ends c.args.names.now c.args.after c.args.limit c.loop.self.folder c.loop.self.lasting c.loop.self.syncs c.loop.step c.ask.result c.ask_of_list-answer.result.told c.loop.hands.newest c.ask_of_list-answer.new.hands.newest c.ask_of_list-answer.new.self.lasting c.in_ok-next.field-0 c.ask.ensures.asks c.in_ok-next.ensures c.loop.invariant.run c.loop.invariant.part c.ask_of_list-answer.ensures.shown c.ask_of_list-answer.ensures.newest c.ask_of_list-answer.ensures.known c.ask_of_list-answer.ensures.lasting c.in-Ends.end c.in-Ends.is told.page both.0))
    (on.ok_both c.told.result _ _ c.told.ensures.page c.told.ensures.newest)

pub returns-in-Ends-clause-lasts : goal.returns-in-Ends-clause-lasts
returns-in-Ends-clause-lasts g c =
    IfOk-weaker c.told.result _ _
    (λ told both.
    subst (IsToldLast c.args.self.now.folder c.args.self.now.lasting c.args.self.now.syncs) (sym both.1)
    (subst (λ (o : ObjectFiles). IsToldLast o c.args.self.now.lasting c.args.self.now.syncs c.ask_of_list-answer.new.hands.newest) c.loop.invariant.folder
    (subst (λ (l : Lasting). IsToldLast c.loop.self.folder l c.args.self.now.syncs c.ask_of_list-answer.new.hands.newest) c.loop.invariant.lasting
    (subst (λ (s : Bool). IsToldLast c.loop.self.folder c.loop.self.lasting s c.ask_of_list-answer.new.hands.newest) c.loop.invariant.syncs
    (on.last_ends c.args.names.now c.args.after c.args.limit c.loop.self.folder c.loop.self.lasting c.loop.self.syncs c.loop.step c.ask.result c.ask_of_list-answer.result.told c.loop.hands.newest c.ask_of_list-answer.new.hands.newest c.ask_of_list-answer.new.self.lasting c.in_ok-next.field-0 c.ask.ensures.asks c.in_ok-next.ensures c.loop.invariant.run c.loop.invariant.part c.ask_of_list-answer.ensures.shown c.ask_of_list-answer.ensures.newest c.ask_of_list-answer.ensures.known c.ask_of_list-answer.ensures.lasting c.in-Ends.end c.in-Ends.is told.page both.0)))))
    (on.ok_both c.told.result _ _ c.told.ensures.page c.told.ensures.newest)
