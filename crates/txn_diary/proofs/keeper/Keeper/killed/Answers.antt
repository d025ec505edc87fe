use Rattle.std.proofs.Common.{◌∙◌, sym, ap, refl, None, false}
use Rattle.txn_client_journals.specs.declared.rows.Step.TheVariants as steps
use Rattle.txn_diary.specs.Keepers.{fault_if}
use Rattle.txn_diary.proofs.Stepping.{alive_so, met_kill, room_made, stepped, IsStepped}
use Rattle.txn_diary.proofs.keeper.Keeper.killed.Goals.{In-Ok}
use Rattle.txn_diary.proofs.keeper.Keeper.killed.Goals as goal

ended : (g : _) (c : In-Ok g) → IsStepped c.args.self.now (steps.Killed c.in-Ok.lefts) None c.kill.new.self false
ended g c = stepped (room_made c.args.self.now c.self.inside.tables c.self.inside.tables c.self.inside.alive c.self.view_is c.self.invariant refl refl refl refl) (alive_so c.self.inside.alive None (c.in_default.ensures ∙ sym (ap (λ k. fault_if k.alive None) c.self.view_is))) refl c.in-Ok.ensures.ok c.kill.ensures.client c.kill.ensures.layout c.kill.ensures.epochs

pub invariant_of-self-2 : goal.invariant_of-self-2
invariant_of-self-2 g c = (ended g (goal.at.invariant_of-self-2 g c).In-Ok).kept

pub returns-clause-ok : goal.returns-clause-ok
returns-clause-ok g c = (ended g (goal.at.returns-clause-ok g c).In-Ok).does

pub returns-in-Some-clause-refused : goal.returns-in-Some-clause-refused
returns-in-Some-clause-refused g c = met_kill (Unit {0}) c.args.self.now.alive c.in-Some.fault c.in-Some.ensures
