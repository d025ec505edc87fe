use Rattle.std.proofs.Common.{◌≡◌, ℕ, IfOk, subst}
use Rattle.txn_folder.specs.steps.Runs.{ComesTo}
use Rattle.txn_folder.specs.steps.Steps as steps
use Rattle.txn_folder.specs.steps.Steps.{Ends, update_turned}
use Rattle.txn_folder.specs.declared.steps.place.Place.TheVariants as places
use Rattle.txn_folder.specs.Calls.{updated}
use Rattle.txn_folder.proofs.disk.Disk.update.Goals as goal

pub returns-clause-run : goal.returns-clause-run
returns-clause-run g c = subst (λ (token : ℕ). IfOk c.replace.result (λ told. c.args.place ≡ places.Boundary → ComesTo (update_turned c.args.bytes.now token) steps.Locks (Ends (updated told)))) c.number.ensures c.replace.ensures.run
