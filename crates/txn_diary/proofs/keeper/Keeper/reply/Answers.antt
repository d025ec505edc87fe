use Rattle.std.proofs.Common.{◌≡◌, ℕ, subst, Some, None, true}
use Rattle.txn_store.specs.declared.request.Request.{Request}
use Rattle.txn_history.specs.Seen.{Store}
use Rattle.txn_machine.specs.plain.Doing.{first_of}
use Rattle.txn_client_journals.specs.tables.Operations.{asked_by}
use Rattle.txn_client_journals.specs.declared.rows.Act.TheVariants as acts
use Rattle.txn_client_journals.specs.declared.rows.Step.TheVariants as steps
use Rattle.txn_client_journals.specs.Logged.{IsOfKind}
use Rattle.txn_diary.specs.Keepers.{keeper_asked, IsReplyFault}
use Rattle.txn_diary.proofs.Acting.{takes_so}
use Rattle.txn_diary.proofs.Stepping.{met_reply, replies_so, room_made, ready_sound, ready_asks, stepped, IsReady, IsStepped}
use Rattle.txn_diary.proofs.keeper.Keeper.reply.Goals.{In_ok-make_room, After-turn}
use Rattle.txn_diary.specs.Shown.{operations_of}
use Rattle.txn_diary.proofs.keeper.Keeper.reply.Goals as goal

pub returns-in-Some-clause-refused : goal.returns-in-Some-clause-refused
returns-in-Some-clause-refused g c = met_reply (Unit {0}) (keeper_asked c.args.self.now c.args.op) c.args.reply c.in-Some.fault (subst (λ a. IsReplyFault a c.args.reply (Some c.in-Some.fault)) c.asks.ensures c.in-Some.ensures)

-- room was made in what the client keeps
ready : (g : _) (c : In_ok-make_room g) → IsReady c.args.self.now c.make_room.new.tables c.self.inside.alive
ready g c = room_made c.args.self.now c.self.inside.tables c.make_room.new.tables c.self.inside.alive c.self.view_is c.self.invariant c.make_room.ensures.client c.make_room.ensures.layout c.make_room.ensures.epochs c.make_room.ensures.shown

-- the reply is of the kind that the operation asks for
asks : (g : _) (c : In_ok-make_room g) → (request : Request) × (keeper_asked c.args.self.now c.args.op ≡ Some (Store request)) × IsOfKind request c.args.reply
asks g c = replies_so (keeper_asked c.args.self.now c.args.op) c.args.reply (subst (λ a. IsReplyFault a c.args.reply None) c.asks.ensures c.in_default.ensures)

found : (g : _) (c : In_ok-make_room g) (request : Request) → keeper_asked c.args.self.now c.args.op ≡ Some (Store request) → (c.self.inside.alive ≡ true) × (asked_by (operations_of c.make_room.new.tables.calls) c.args.op ≡ Some (Store request))
found g c request wants = ready_asks (ready g c) c.args.op (Store request) wants

pub turn-requires-clause-sound : goal.turn-requires-clause-sound
turn-requires-clause-sound g c = ready_sound (ready g (goal.at.turn-requires-clause-sound g c).In_ok-make_room)

pub turn-requires-clause-takes : goal.turn-requires-clause-takes
turn-requires-clause-takes g c =
    let at = (goal.at.turn-requires-clause-takes g c).In_ok-make_room in
    let wants = asks g at in
    takes_so (operations_of c.make_room.new.tables.calls) c.args.op (Store wants.0) (Some c.args.reply) (ready_sound (ready g at)) (found g at wants.0 wants.1).1 wants.2

replied : (g : _) (c : After-turn g) (request : Request) (place : ℕ) → keeper_asked c.args.self.now c.args.op ≡ Some (Store request) → IsStepped c.args.self.now (steps.Act c.args.op (acts.Receive (record { place = place; request = request; reply = c.args.reply }))) (first_of c.turn.result) c.turn.new.self c.self.inside.alive
replied g c request place wants =
    let at = (goal.at.After-turn g c).In_ok-make_room in
    let live = found g at request wants in
    stepped (ready g at) live.0 live.0 (c.turn.ensures.turned (Store request) live.1) c.turn.ensures.client c.turn.ensures.layout c.turn.ensures.epochs

pub invariant_of-self-2 : goal.invariant_of-self-2
invariant_of-self-2 g c =
    let after = (goal.at.invariant_of-self-2 g c).After-turn in
    let wants = asks g (goal.at.After-turn g after).In_ok-make_room in
    (replied g after wants.0 0 wants.1).kept

pub returns-clause-ok : goal.returns-clause-ok
returns-clause-ok g c request place wants = (replied g (goal.at.returns-clause-ok g c).After-turn request place wants).does
