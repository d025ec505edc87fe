use Rattle.std.proofs.Common.{◌≡◌, ◌∙◌, ap, None, Some, true, false}
use Rattle.txn_history.specs.Seen.{Look}
use Rattle.txn_history.specs.Allowed.{ask_fault}
use Rattle.txn_machine.specs.plain.Doing.{first_of}
use Rattle.txn_client_journals.specs.tables.Operations.{asked_by}
use Rattle.txn_client_journals.specs.declared.rows.Act.TheVariants as acts
use Rattle.txn_client_journals.specs.declared.rows.Step.TheVariants as steps
use Rattle.txn_diary.specs.Keepers.{keeper_asked}
use Rattle.txn_diary.proofs.Acting.{takes_so}
use Rattle.txn_diary.proofs.Stepping.{met_ask, looks_so, room_made, ready_sound, ready_asks, stepped, IsReady, IsStepped}
use Rattle.txn_diary.proofs.keeper.Keeper.look.Goals.{In_ok-make_room, After-turn}
use Rattle.txn_diary.specs.Shown.{operations_of}
use Rattle.txn_diary.proofs.keeper.Keeper.look.Goals as goal

pub returns-in-Some-clause-refused : goal.returns-in-Some-clause-refused
returns-in-Some-clause-refused g c = met_ask (Unit {0}) false (keeper_asked c.args.self.now c.args.op) c.in-Some.fault (c.in-Some.ensures ∙ ap (ask_fault false) c.asks.ensures)

-- room was made in what the client keeps
ready : (g : _) (c : In_ok-make_room g) → IsReady c.args.self.now c.make_room.new.tables c.self.inside.alive
ready g c = room_made c.args.self.now c.self.inside.tables c.make_room.new.tables c.self.inside.alive c.self.view_is c.self.invariant c.make_room.ensures.client c.make_room.ensures.layout c.make_room.ensures.epochs c.make_room.ensures.shown

-- the operation asks for a look
asks : (g : _) (c : In_ok-make_room g) → (c.self.inside.alive ≡ true) × (asked_by (operations_of c.make_room.new.tables.calls) c.args.op ≡ Some Look)
asks g c = ready_asks (ready g c) c.args.op Look (looks_so (keeper_asked c.args.self.now c.args.op) (c.in_default.ensures ∙ ap (ask_fault false) c.asks.ensures))

pub turn-requires-clause-sound : goal.turn-requires-clause-sound
turn-requires-clause-sound g c = ready_sound (ready g (goal.at.turn-requires-clause-sound g c).In_ok-make_room)

pub turn-requires-clause-takes : goal.turn-requires-clause-takes
turn-requires-clause-takes g c =
    let at = (goal.at.turn-requires-clause-takes g c).In_ok-make_room in
    takes_so (operations_of c.make_room.new.tables.calls) c.args.op Look None (ready_sound (ready g at)) (asks g at).1 tt

looked : (g : _) (c : After-turn g) → IsStepped c.args.self.now (steps.Act c.args.op acts.Look) (first_of c.turn.result) c.turn.new.self c.self.inside.alive
looked g c =
    let live = asks g (goal.at.After-turn g c).In_ok-make_room in
    stepped (ready g (goal.at.After-turn g c).In_ok-make_room) live.0 live.0 (c.turn.ensures.turned Look live.1) c.turn.ensures.client c.turn.ensures.layout c.turn.ensures.epochs

pub invariant_of-self-2 : goal.invariant_of-self-2
invariant_of-self-2 g c = (looked g (goal.at.invariant_of-self-2 g c).After-turn).kept

pub returns-clause-ok : goal.returns-clause-ok
returns-clause-ok g c = (looked g (goal.at.returns-clause-ok g c).After-turn).does
