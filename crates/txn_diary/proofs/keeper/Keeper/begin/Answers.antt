use Rattle.std.proofs.Common.{◌∙◌, length, ap}
use Rattle.txn_history.specs.Calls.{view_used}
use Rattle.txn_machine.specs.plain.Doing.{first_of}
use Rattle.txn_client_journals.specs.declared.rows.Step.TheVariants as steps
use Rattle.txn_client_journals.specs.Parts.{client_begin_fault}
use Rattle.txn_diary.specs.Keepers.{KeeperState}
use Rattle.txn_diary.proofs.Stepping.{alive_so, permits_so, met_begin, room_made, stepped, IsReady, IsStepped}
use Rattle.txn_diary.proofs.keeper.Keeper.begin.Goals.{In_ok-make_room, After-refusals}
use Rattle.txn_diary.specs.Shown.{views_of}
use Rattle.txn_diary.proofs.keeper.Keeper.begin.Goals as goal

-- room was made in what the client keeps
ready : (g : _) (c : In_ok-make_room g) → IsReady c.args.self.now c.make_room.new.tables c.self.inside.alive
ready g c = room_made c.args.self.now c.self.inside.tables c.make_room.new.tables c.self.inside.alive c.self.view_is c.self.invariant c.make_room.ensures.client c.make_room.ensures.layout c.make_room.ensures.epochs c.make_room.ensures.shown

begun : (g : _) (c : After-refusals g) → IsStepped c.args.self.now (steps.Begin c.args.call.now) (first_of c.refusals.result) c.begin.new.self c.self.inside.alive
begun g c =
    let k = c.args.self.now in
    let lived = alive_so k.alive (client_begin_fault (g.E.EpochField.epoch_of k.epochs) k.client k.part c.args.call.now) c.in_default.ensures in
    let live = ap (λ (keeper : KeeperState _ _ _). keeper.alive) c.self.view_is ∙ lived in
    stepped (ready g (goal.at.After-refusals g c).In_ok-make_room) live live (rw (c.refusals.ensures.answer (length (views_of c.make_room.new.tables.views)) (view_used c.args.call.now)) c.in-Ok.ensures.ok) c.begin.ensures.client c.begin.ensures.layout c.begin.ensures.epochs

pub invariant_of-self-2 : goal.invariant_of-self-2
invariant_of-self-2 g c = (begun g (goal.at.invariant_of-self-2 g c).After-refusals).kept

pub returns-clause-ok : goal.returns-clause-ok
returns-clause-ok g c = (begun g (goal.at.returns-clause-ok g c).After-refusals).does

pub returns-in-Some-clause-refused : goal.returns-in-Some-clause-refused
returns-in-Some-clause-refused g c =
    let k = c.args.self.now in
    met_begin (Unit {0}) (g.E.EpochField.epoch_of k.epochs) k.alive k.client k.part c.args.call.now c.in-Some.fault c.in-Some.ensures

pub begin-requires-clause-permits : goal.begin-requires-clause-permits
begin-requires-clause-permits g c =
    let k = c.args.self.now in
    ap (λ (keeper : KeeperState _ _ _). client_begin_fault (g.E.EpochField.epoch_of keeper.epochs) keeper.client keeper.part c.args.call.now) (ready g (goal.at.begin-requires-clause-permits g c).In_ok-make_room).is
    ∙ permits_so k.alive (client_begin_fault (g.E.EpochField.epoch_of k.epochs) k.client k.part c.args.call.now) c.in_default.ensures
