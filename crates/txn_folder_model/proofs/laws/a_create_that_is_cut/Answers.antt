use Rattle.txn_folder_model.proofs.Outcomes.{cut_ends}
use Rattle.txn_folder_model.proofs.laws.a_create_that_is_cut.Goals as goal

pub returns : goal.returns
returns c = cut_ends
