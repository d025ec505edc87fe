-- The line of a row.
use Rattle.std.specs.Prelude.{ℕ, List, [], ◌∷◌, ◌++◌}

-- a row, and the line feed at its end
abbrev pub row_line : List ℕ → List ℕ
row_line row = row ++ 10 ∷ []
