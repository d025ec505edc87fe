use Rattle.std.proofs.Common.{◌≡◌, ◌∙◌, ap, refl, None, Some, true, is_some}
use Rattle.txn_history.specs.Seen.{Ask}
use Rattle.txn_client_journals.specs.tables.Operations.{asked_by}
use Rattle.txn_client_journals.specs.declared.rows.Act.TheVariants as acts
use Rattle.txn_client_journals.specs.declared.rows.Step.TheVariants as steps
use Rattle.txn_diary.specs.Keepers.{keeper_asked, end_fault}
use Rattle.txn_diary.proofs.Stepping.{met_end, asks_so, room_made, ready_sound, ready_asks, stepped, IsReady, IsStepped}
use Rattle.txn_diary.proofs.keeper.Keeper.give_up.Goals.{In_default, In-Ok}
use Rattle.txn_diary.specs.Shown.{operations_of}
use Rattle.txn_diary.proofs.keeper.Keeper.give_up.Goals as goal

pub returns-in-Some-clause-refused : goal.returns-in-Some-clause-refused
returns-in-Some-clause-refused g c = met_end (Unit {0}) (keeper_asked c.args.self.now c.args.op) c.in-Some.fault (c.in-Some.ensures ∙ ap end_fault c.asks.ensures)

-- the client as it was
ready : (g : _) (c : In_default g) → IsReady c.args.self.now c.self.inside.tables c.self.inside.alive
ready g c = room_made c.args.self.now c.self.inside.tables c.self.inside.tables c.self.inside.alive c.self.view_is c.self.invariant refl refl refl refl

-- the operation asks for something
asks : (g : _) (c : In_default g) → (ask : Ask) × ((c.self.inside.alive ≡ true) × (asked_by (operations_of c.self.inside.tables.calls) c.args.op ≡ Some ask))
asks g c = (let is = asks_so (keeper_asked c.args.self.now c.args.op) (c.in_default.ensures ∙ ap end_fault c.asks.ensures) in (is.0, ready_asks (ready g c) c.args.op is.0 is.1))

pub give_up-requires-clause-sound : goal.give_up-requires-clause-sound
give_up-requires-clause-sound g c = ready_sound (ready g (goal.at.give_up-requires-clause-sound g c).In_default)

pub give_up-requires-clause-runs : goal.give_up-requires-clause-runs
give_up-requires-clause-runs g c = ap (λ a. is_some a) (asks g (goal.at.give_up-requires-clause-runs g c).In_default).1.1

given_up : (g : _) (c : In-Ok g) → IsStepped c.args.self.now (steps.Act c.args.op (acts.GiveUp c.in-Ok.left)) None c.give_up.new.self c.self.inside.alive
given_up g c =
    let live = (asks g (goal.at.In-Ok g c).In_default).1.0 in
    stepped (ready g (goal.at.In-Ok g c).In_default) live live c.in-Ok.ensures.ok c.give_up.ensures.client c.give_up.ensures.layout c.give_up.ensures.epochs

pub invariant_of-self-2 : goal.invariant_of-self-2
invariant_of-self-2 g c = (given_up g (goal.at.invariant_of-self-2 g c).In-Ok).kept

pub returns-clause-ok : goal.returns-clause-ok
returns-clause-ok g c = (given_up g (goal.at.returns-clause-ok g c).In-Ok).does
