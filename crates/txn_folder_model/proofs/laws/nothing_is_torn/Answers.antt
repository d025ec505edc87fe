use Rattle.txn_folder_model.proofs.Power.{left_whole}
use Rattle.txn_folder_model.proofs.laws.nothing_is_torn.Goals as goal

pub returns : goal.returns
returns c floor t number events syncs left place is has = left_whole floor events syncs t number left place is has
