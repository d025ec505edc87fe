use Rattle.txn_folder_model.proofs.Rises.{allowed}
use Rattle.txn_folder_model.proofs.LeftStore.{of_store}
use Rattle.txn_folder_model.proofs.laws.what_is_left_is_of_a_store.Goals as goal

pub returns : goal.returns
returns c names boundary floor n many ops events listings syncs left apart elsewhere may raises room runs in_order listed is = of_store names boundary floor events apart (allowed floor events may raises) elsewhere ops syncs n room left is listings many runs in_order listed
