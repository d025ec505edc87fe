use Rattle.std.proofs.Common.{◌∙◌, ◌≡◌, sym, ap, subst, None, Some, true, is_some}
use Rattle.std.proofs.lemmas.Option.{same_Some}
use Rattle.txn_store.specs.declared.request.Reply.{Reply}
use Rattle.txn_history.specs.Seen.{Store}
use Rattle.txn_machine.specs.plain.Doing.{first_of}
use Rattle.txn_client_journals.specs.tables.Operations.{asked_by, request_of}
use Rattle.txn_client_journals.specs.declared.rows.Act.TheVariants as acts
use Rattle.txn_client_journals.specs.declared.rows.Step.TheVariants as steps
use Rattle.txn_client_journals.specs.Logged.{IsOfKind}
use Rattle.txn_diary.specs.Keepers.{keeper_asked}
use Rattle.txn_diary.specs.Shown.{operations_of, shown}
use Rattle.txn_diary.proofs.Acting.{takes_so, lacks_so}
use Rattle.txn_diary.proofs.Stepping.{stores_so, room_made, ready_sound, ready_asks, stepped, IsReady, IsStepped}
use Rattle.txn_diary.proofs.keeper.Keeper.serve.Goals.{In_ok-make_room, In-Some, After-turn-answers, After-refuse-answers}
use Rattle.txn_diary.proofs.keeper.Keeper.serve.Goals as goal

-- room was made in what the client keeps
ready : (g : _) (c : In_ok-make_room g) → IsReady c.args.self.now c.make_room.new.tables c.self.inside.alive
ready g c = room_made c.args.self.now c.self.inside.tables c.make_room.new.tables c.self.inside.alive c.self.view_is c.self.invariant c.make_room.ensures.client c.make_room.ensures.layout c.make_room.ensures.epochs c.make_room.ensures.shown

pub unreachable-requires : goal.unreachable-requires
unreachable-requires g c =
    let is = stores_so (keeper_asked c.args.self.now c.args.op) (sym c.requires.asks) in
    let clash : None ≡ Some is.0 = c.in_default.ensures ∙ ap request_of (c.asks.ensures ∙ (ap (λ d. keeper_asked d c.args.op) (ready g (goal.at.unreachable-requires g c).In_ok-make_room).is ∙ is.1)) in
    cc

-- the operation asks for the store call that is served
asks : (g : _) (c : In-Some g) → (c.self.inside.alive ≡ true) × (asked_by (operations_of c.make_room.new.tables.calls) c.args.op ≡ Some (Store c.in-Some.request.now))
asks g c =
    let r = ready g (goal.at.In-Some g c).In_ok-make_room in
    let is = stores_so (keeper_asked c.args.self.now c.args.op) (sym c.requires.asks) in
    let same = same_Some c.in-Some.request.now is.0 (c.in-Some.ensures ∙ ap request_of (c.asks.ensures ∙ (ap (λ d. keeper_asked d c.args.op) r.is ∙ is.1))) in
    ready_asks r c.args.op (Store c.in-Some.request.now) (is.1 ∙ ap (λ r. Some (Store r)) (sym same))

pub turn-answers-requires-clause-sound : goal.turn-answers-requires-clause-sound
turn-answers-requires-clause-sound g c = ready_sound (ready g (goal.at.turn-answers-requires-clause-sound g c).In_ok-make_room)

pub turn-answers-requires-clause-takes : goal.turn-answers-requires-clause-takes
turn-answers-requires-clause-takes g c =
    let at = goal.at.turn-answers-requires-clause-takes g c in
    takes_so (operations_of c.make_room.new.tables.calls) c.args.op (Store c.in-Some.request.now) (Some c.in-Ok.reply) (ready_sound (ready g at.In_ok-make_room)) (asks g at.In-Some).1 (subst (λ (x : Reply). IsOfKind c.in-Some.request.now x) (sym c.in-Ok.ensures.again) c.in-Ok.ensures.receipt.kind)

served : (g : _) (c : After-turn-answers g) → IsStepped c.args.self.now (steps.Act c.args.op (acts.Receive c.in-Ok.taken)) (first_of c.turn-answers.result) c.turn-answers.new.self c.self.inside.alive
served g c =
    let live = asks g (goal.at.After-turn-answers g c).In-Some in
    let turned = rw (← c.in-Ok.ensures.receipt.request_is, c.in-Ok.ensures.again) at (c.turn-answers.ensures.turned (Store c.in-Some.request.now) live.1) in
    stepped (ready g (goal.at.After-turn-answers g c).In_ok-make_room) live.0 live.0 turned c.turn-answers.ensures.client c.turn-answers.ensures.layout c.turn-answers.ensures.epochs

pub invariant_of-self-in-Ok : goal.invariant_of-self-in-Ok
invariant_of-self-in-Ok g c = (served g (goal.at.invariant_of-self-in-Ok g c).After-turn-answers).kept

pub returns-in-Ok-clause-ok : goal.returns-in-Ok-clause-ok
returns-in-Ok-clause-ok g c = (tt, (served g (goal.at.returns-in-Ok-clause-ok g c).After-turn-answers).does)

pub refuse-answers-requires-clause-sound : goal.refuse-answers-requires-clause-sound
refuse-answers-requires-clause-sound g c = ready_sound (ready g (goal.at.refuse-answers-requires-clause-sound g c).In_ok-make_room)

pub refuse-answers-requires-clause-runs : goal.refuse-answers-requires-clause-runs
refuse-answers-requires-clause-runs g c = ap (λ a. is_some a) (asks g (goal.at.refuse-answers-requires-clause-runs g c).In-Some).1

lacked : (g : _) (c : After-refuse-answers g) → IsStepped c.args.self.now (steps.Act c.args.op acts.Lacks) (first_of c.refuse-answers.result) c.refuse-answers.new.self c.self.inside.alive
lacked g c =
    let live = asks g (goal.at.After-refuse-answers g c).In-Some in
    let lacks = lacks_so (g.E.EpochField.epoch_of c.make_room.new.tables.epochs) (shown c.make_room.new.tables) (shown c.refuse-answers.new.self) c.args.op c.in-Some.request.now (first_of c.refuse-answers.result) live.1 c.refuse-answers.ensures.answer c.refuse-answers.ensures.shown in
    stepped (ready g (goal.at.After-refuse-answers g c).In_ok-make_room) live.0 live.0 lacks c.refuse-answers.ensures.client c.refuse-answers.ensures.layout c.refuse-answers.ensures.epochs

pub invariant_of-self-in-Err : goal.invariant_of-self-in-Err
invariant_of-self-in-Err g c = (lacked g (goal.at.invariant_of-self-in-Err g c).After-refuse-answers).kept

pub returns-in-Err-clause-ok : goal.returns-in-Err-clause-ok
returns-in-Err-clause-ok g c = (tt, (lacked g (goal.at.returns-in-Err-clause-ok g c).After-refuse-answers).does)
