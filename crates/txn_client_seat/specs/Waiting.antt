-- Lines of a client that wait to be taken off, where they are kept.
use Rattle.std.specs.Prelude.{◌≡◌, ℕ, List, [], ◌++◌, Option, Some, None}
use Rattle.txn_client_seat.specs.Lines.{client_line}

-- The lines that wait, each with its line feed, the oldest first, and the time of those that come next.
pub record Waiting : Type 0 where
  pub at : ℕ
  pub lines : List ℕ

-- of a client of this number that has done nothing
abbrev pub first_waiting : ℕ → ℕ → Waiting
first_waiting client page = record { at = 0; lines = client_line client page }

-- the lines that wait, none where they are not kept
abbrev pub lines_in : Option Waiting → List ℕ
lines_in None = []
lines_in (Some waiting) = waiting.lines

-- these wait too, by the time that was said
abbrev pub adds : Option Waiting → (ℕ → List ℕ) → Option Waiting
adds None told = None
adds (Some waiting) told = Some (record { at = waiting.at; lines = waiting.lines ++ told waiting.at })

-- lines have this time from now on
abbrev pub from_time : ℕ → Option Waiting → Option Waiting
from_time at None = None
from_time at (Some waiting) = Some (record { at = at; lines = waiting.lines })

-- the lines are gone
abbrev pub emptied : Option Waiting → Option Waiting
emptied None = None
emptied (Some waiting) = Some (record { at = waiting.at; lines = [] })

-- a line, where there is one
abbrev pub or_none : Option (List ℕ) → List ℕ
or_none None = []
or_none (Some line) = line

-- where lines are kept, this was made of what is told
abbrev pub IsLine : Option Waiting → (ℕ → List ℕ) → Option (List ℕ) → Type 0
IsLine None told line = Unit {0}
IsLine (Some waiting) told line = or_none line ≡ told waiting.at
