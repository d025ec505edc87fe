use Rattle.std.proofs.Common.{◌∙◌, ◌≡◌, sym, ap, None, Some, true, is_some}
use Rattle.std.proofs.lemmas.Option.{same_Some}
use Rattle.txn_history.specs.Seen.{Store}
use Rattle.txn_history.specs.Allowed.{ask_fault}
use Rattle.txn_machine.specs.plain.Doing.{first_of}
use Rattle.txn_client_journals.specs.tables.Operations.{asked_by, request_of}
use Rattle.txn_client_journals.specs.declared.rows.Act.TheVariants as acts
use Rattle.txn_client_journals.specs.declared.rows.Step.TheVariants as steps
use Rattle.txn_diary.specs.Keepers.{keeper_asked}
use Rattle.txn_diary.specs.Shown.{operations_of, shown}
use Rattle.txn_diary.proofs.Acting.{fails_so}
use Rattle.txn_diary.proofs.Stepping.{met_ask, stores_so, room_made, ready_sound, ready_asks, stepped, IsReady, IsStepped}
use Rattle.txn_diary.proofs.keeper.Keeper.failed.Goals.{In_ok-make_room, After-refuse-answers}
use Rattle.txn_diary.proofs.keeper.Keeper.failed.Goals as goal

pub returns-in-Some-clause-refused : goal.returns-in-Some-clause-refused
returns-in-Some-clause-refused g c = met_ask (Unit {0}) true (keeper_asked c.args.self.now c.args.op) c.in-Some.fault (c.in-Some.ensures ∙ ap (ask_fault true) c.asks.ensures)

pub unreachable-requires : goal.unreachable-requires
unreachable-requires g c =
    let is = stores_so (keeper_asked c.args.self.now c.args.op) (c.in_default.ensures ∙ ap (ask_fault true) c.asks.ensures) in
    let clash : None ≡ Some is.0 = c.in_default-request_of.ensures ∙ (ap request_of c.asks-2.ensures ∙ ap request_of is.1) in
    cc

-- room was made in what the client keeps
ready : (g : _) (c : In_ok-make_room g) → IsReady c.args.self.now c.make_room.new.tables c.self.inside.alive
ready g c = room_made c.args.self.now c.self.inside.tables c.make_room.new.tables c.self.inside.alive c.self.view_is c.self.invariant c.make_room.ensures.client c.make_room.ensures.layout c.make_room.ensures.epochs c.make_room.ensures.shown

-- the operation asks for the store call that was copied
asks : (g : _) (c : In_ok-make_room g) → (c.self.inside.alive ≡ true) × (asked_by (operations_of c.make_room.new.tables.calls) c.args.op ≡ Some (Store c.in-Ok.request))
asks g c =
    let is = stores_so (keeper_asked c.args.self.now c.args.op) (c.in_default.ensures ∙ ap (ask_fault true) c.asks.ensures) in
    let same = same_Some c.in-Ok.request is.0 (ap Some c.in-Ok.ensures ∙ (c.in-Some-request_of.ensures ∙ (ap request_of c.asks-2.ensures ∙ ap request_of is.1))) in
    ready_asks (ready g c) c.args.op (Store c.in-Ok.request) (is.1 ∙ ap (λ r. Some (Store r)) (sym same))

pub refuse-answers-requires-clause-sound : goal.refuse-answers-requires-clause-sound
refuse-answers-requires-clause-sound g c = ready_sound (ready g (goal.at.refuse-answers-requires-clause-sound g c).In_ok-make_room)

pub refuse-answers-requires-clause-runs : goal.refuse-answers-requires-clause-runs
refuse-answers-requires-clause-runs g c = ap (λ a. is_some a) (asks g (goal.at.refuse-answers-requires-clause-runs g c).In_ok-make_room).1

call_failed : (g : _) (c : After-refuse-answers g) → IsStepped c.args.self.now (steps.Act c.args.op (acts.Fails c.in-Ok.request)) (first_of c.refuse-answers.result) c.refuse-answers.new.self c.self.inside.alive
call_failed g c =
    let live = asks g (goal.at.After-refuse-answers g c).In_ok-make_room in
    let fails = fails_so (g.E.EpochField.epoch_of c.make_room.new.tables.epochs) (shown c.make_room.new.tables) (shown c.refuse-answers.new.self) c.args.op c.in-Ok.request (first_of c.refuse-answers.result) live.1 c.refuse-answers.ensures.answer c.refuse-answers.ensures.shown in
    stepped (ready g (goal.at.After-refuse-answers g c).In_ok-make_room) live.0 live.0 fails c.refuse-answers.ensures.client c.refuse-answers.ensures.layout c.refuse-answers.ensures.epochs

pub invariant_of-self-2 : goal.invariant_of-self-2
invariant_of-self-2 g c = (call_failed g (goal.at.invariant_of-self-2 g c).After-refuse-answers).kept

pub returns-clause-ok : goal.returns-clause-ok
returns-clause-ok g c = (call_failed g (goal.at.returns-clause-ok g c).After-refuse-answers).does
