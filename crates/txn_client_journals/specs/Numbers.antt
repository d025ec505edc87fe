-- The numbers of what clients count by themselves: each counts its own operations and views from 1, and all are numbered in the order in which they come. What stands here is read off a list of the owners of all, the newest first.
use Rattle.std.specs.Prelude.{ℕ, List, [], ◌∷◌, ◌+◌, ◌==◌, ◌&&◌, nat_lt, if◌then◌else◌, length}

-- how many are this client's
abbrev pub count : ℕ → List ℕ → ℕ
count client [] = 0
count client (owner ∷ owners) = if owner == client then count client owners + 1 else count client owners

-- the number among all, from 1, of what is the client's own number k
abbrev pub number : List ℕ → ℕ → ℕ → ℕ
number [] client k = 0
number (owner ∷ owners) client k = if (owner == client) && (k == count client owners + 1) then length owners + 1 else number owners client k

-- the same, and the next number for one that the client has not given yet
abbrev pub number_or_next : List ℕ → ℕ → ℕ → ℕ
number_or_next owners client k = if nat_lt (count client owners) k then length owners + 1 else number owners client k
