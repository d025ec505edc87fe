use Rattle.txn_folder_model.proofs.Raising.{raise_ends}
use Rattle.txn_folder_model.proofs.laws.a_boundary_that_two_raise.Goals as goal

pub returns : goal.returns
returns c one two three first second = raise_ends one two three first second
