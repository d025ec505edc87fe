-- Lines of what is printed.
use Rattle.std.specs.Prelude.{ℕ, List, [], ◌∷◌, ◌++◌}
use Rattle.std.specs.Fmt.{decimal}

-- a printed line, which ends with a line feed
abbrev pub with_feed : List ℕ → List ℕ
with_feed text = text ++ 10 ∷ []

-- a line of each, one after another
abbrev pub lines_of : {X : Type 0} → (X → List ℕ) → List X → List ℕ
lines_of text [] = []
lines_of text (x ∷ xs) = with_feed (text x) ++ lines_of text xs

-- a stored version: its id, a space, and what it says
abbrev pub stored_text : {T : Type 0} → (T → List ℕ) → ℕ → T → List ℕ
stored_text text id value = decimal id ++ 32 ∷ text value
