-- Room for what a client keeps. It stands alone, because it names that.
use Rattle.std.specs.Prelude.{◌<◌, ◌≤◌, ◌-◌, ◌^◌, vec_len, vec_capacity}
use Rattle.std.specs.HashMap.{spare}
use Rattle.txn_diary.specs.declared.notes.Notes.{Notes}
use Rattle.txn_diary.specs.declared.calls.Calls.{Calls}
use Rattle.txn_diary.specs.declared.standing.Standing.{Standing}

-- one note more can be added
pub record HasRoom (notes : Notes) : Type 0 where
  pub list : vec_len notes.noted < vec_capacity notes.noted
  pub map : 1 ≤ spare notes.epochs

-- one call more can be added
pub record HasRoomForCall {T : Type 0} (calls : Calls T) : Type 0 where
  pub operations : vec_len calls.operations < vec_capacity calls.operations
  pub writes : vec_len calls.writes < vec_capacity calls.writes

-- one view more can be added
pub record HasRoomForView {T : Type 0} (views : Standing T) : Type 0 where
  pub number : views.count < 2 ^ 64 - 1
  pub map : 1 ≤ spare views.used
