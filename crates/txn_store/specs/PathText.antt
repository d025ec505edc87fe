-- How a `Path` is kept: one text, a line for each segment. A line feed stands below every plain byte, so these texts have the order of their paths.
use Rattle.std.specs.Prelude.{◌≡◌, ℕ, ◌==◌, if◌then◌else◌, List, [], ◌∷◌, ◌++◌, IsTrue}
use Rattle.txn_store.specs.Paths.{Segments, all_plain}

-- each segment, and a line feed after it
abbrev pub lines_of : Segments → List ℕ
lines_of [] = []
lines_of (s ∷ ss) = s ++ 10 ∷ lines_of ss

-- the lines of a text, the first of which has begun already
abbrev pub lines_from : List ℕ → List ℕ → Segments
lines_from begun [] = []
lines_from begun (b ∷ bs) = if b == 10 then begun ∷ lines_from [] bs else lines_from (begun ++ b ∷ []) bs

abbrev pub segments_in : List ℕ → Segments
segments_in text = lines_from [] text

-- a text of plain lines
pub record IsKept (text : List ℕ) : Type 0 where
  pub plain : IsTrue (all_plain (segments_in text))
  pub whole : text ≡ lines_of (segments_in text)
