-- Sets of numbers, by client; which views stand, by client, and how a table of views changes.
use Rattle.std.specs.Prelude.{◌==◌, ℕ, nat_eq, List, Bool, false, if◌then◌else◌, Option, Some, None}
use Rattle.std.specs.HashSet.{HashSet, contains, spare}
use Rattle.txn_history.specs.Lists.{numbered}
use Rattle.txn_machine.specs.views.Layer.{Used}

module _ {S : Type 0} where
  -- a set, where there is one, has the number
  abbrev pub is_in_set : Option (HashSet ℕ S) → ℕ → Bool
  is_in_set None n = false
  is_in_set (Some set) n = contains nat_eq set n

  -- the set of this client has the number
  abbrev pub owns : List (HashSet ℕ S) → ℕ → ℕ → Bool
  owns sets client n = is_in_set (numbered sets client) n

  -- how many more numbers fit into a set, where there is one
  abbrev pub room_in : Option (HashSet ℕ S) → ℕ
  room_in None = 0
  room_in (Some set) = spare set

  -- how many more numbers fit into the set of this client
  abbrev pub room_of : List (HashSet ℕ S) → ℕ → ℕ
  room_of sets client = room_in (numbered sets client)

module _ {T : Type 0} where
  -- a view stands, and is this client's
  abbrev pub is_own : ℕ → Option (Option (Used T)) → Bool
  is_own client None = false
  is_own client (Some None) = false
  is_own client (Some (Some used)) = used.view.client == client

  -- the view of this number stands, and is this client's
  abbrev pub stands_for : List (Option (Used T)) → ℕ → ℕ → Bool
  stands_for views client number = is_own client (numbered views number)

  -- its client, where it stands
  abbrev pub owner_of : Option (Used T) → Option ℕ
  owner_of None = None
  owner_of (Some used) = Some used.view.client

  -- a place of the table, with no view where this is so
  abbrev pub emptied_where : Bool → Option (Option (Used T)) → Option (Option (Used T))
  emptied_where ends None = None
  emptied_where ends (Some used) = Some (if ends then None else used)
