-- The effects of one history of plain calls are moves.
use Rattle.std.proofs.Common.{ℕ, List, Option}
use Rattle.txn_history.specs.Trace.{PlainRow}
use Rattle.txn_history.specs.declared.trace.RowOf.TheVariants.{Effect}
use Rattle.txn_machine.specs.plain.PlainHistory.{IsOneHistory}
use Rattle.txn_history.proofs.Moves.{AreMoves}
use Rattle.txn_history.proofs.Legal.{move_of}

pub are_moves : {T : Type 0} (decode : List ℕ → Option T) (get_epoch : T → ℕ) (failed : List ℕ) (rows : List (PlainRow T)) → IsOneHistory decode get_epoch failed rows → AreMoves decode get_epoch rows
are_moves decode get_epoch failed rows good k op request e = move_of decode get_epoch _ _ _ _ op request (good k (Effect op request) e)
