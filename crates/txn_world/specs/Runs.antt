-- That events led a world to where it is.
use Rattle.std.specs.Prelude.{◌≤◌, ℕ, List, Option}
use Rattle.txn_history.specs.Trace.{Event, Told}
use Rattle.txn_machine.specs.Machine.{State, opening, Runs}

module _ {T : Type 0} (encode : T → List ℕ) (decode : List ℕ → Option T) (get_epoch : T → ℕ) (set_epoch : T → ℕ → T) where
  -- Some events, each with what it told, lead here from a world of as many clients and of the same pages in which nothing has happened. A page has room for a file at least.
  pub record EndsRun (s : State T) : Type 0 where
    pub taken : List (Event T × Told T)
    pub runs : Runs encode decode get_epoch set_epoch (opening s.clients s.page) taken s
    pub paged : 1 ≤ s.page
