-- The lines of a script's bytes, and those that are skipped.
use Rattle.std.specs.Prelude.{ℕ, List, [], ◌∷◌, ◌==◌, Bool, true, false, not, filter, if◌then◌else◌}

-- a byte goes onto the first of the lines after it
abbrev pub onto : ℕ → List (List ℕ) → List (List ℕ)
onto b [] = (b ∷ []) ∷ []
onto b (line ∷ rest) = (b ∷ line) ∷ rest

-- the lines of a text: each ends with a line feed, which the last may lack
abbrev pub lines_of : List ℕ → List (List ℕ)
lines_of [] = []
lines_of (b ∷ bs) = if b == 10 then [] ∷ lines_of bs else onto b (lines_of bs)

-- it begins with `#`
abbrev pub is_comment : List ℕ → Bool
is_comment [] = false
is_comment (b ∷ bs) = b == 35

-- an empty line or a comment
abbrev pub is_skipped : List ℕ → Bool
is_skipped [] = true
is_skipped (b ∷ bs) = is_comment (b ∷ bs)

-- the lines that are not skipped
abbrev pub kept : List (List ℕ) → List (List ℕ)
kept lines = filter (λ line. not (is_skipped line)) lines
