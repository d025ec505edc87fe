-- The views of clients, as their tests and changes see them.
use Rattle.std.specs.Prelude.{◌≤◌, ℕ, List, [], ◌∷◌, Bool, false, Option, Some, None, is_some}
use Rattle.std.specs.Option.{ForSome}
use Rattle.txn_history.specs.Seen.{AllSeen}
use Rattle.txn_machine.specs.views.Layer.{Used}
use Rattle.txn_machine.specs.Machine.{seen_views}

-- a number, where there is one, is counted from 1
abbrev pub IsFromOne : Option ℕ → Type 0
IsFromOne number = ForSome number (λ n. 1 ≤ n)

module _ {T : Type 0} where
  -- what a test of views sees: the views, and no operations
  abbrev pub seen_with : List (Option (Used T)) → AllSeen T
  seen_with views = record { calls = record { clients = 0; operations = []; loose = []; failed = [] }; views = seen_views views }

  -- an operation uses it
  abbrev pub is_used : Option (Used T) → Bool
  is_used None = false
  is_used (Some used) = is_some used.busy

  -- the view that is made, as the views that are added
  abbrev pub as_made : Option (Used T) → List (Option (Used T))
  as_made None = []
  as_made (Some used) = Some used ∷ []
