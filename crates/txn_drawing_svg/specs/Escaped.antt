-- How a text stands in a picture.
use Rattle.std.specs.Prelude.{ℕ, ◌==◌, List, [], ◌∷◌, ◌++◌, codes, if◌then◌else◌, nat_lt}

-- A byte of a text in XML: what would be markup stands as its name, and a control character as a question mark.
abbrev pub escaped_byte : ℕ → List ℕ
escaped_byte b =
    if b == 38 then codes "&amp;"
    else if b == 60 then codes "&lt;"
    else if b == 62 then codes "&gt;"
    else if nat_lt b 32 then 63 ∷ []
    else b ∷ []

-- what stands for each byte, one after another
abbrev pub each : (ℕ → List ℕ) → List ℕ → List ℕ
each stands_for [] = []
each stands_for (b ∷ rest) = stands_for b ++ each stands_for rest

-- a text in XML
abbrev pub escaped : List ℕ → List ℕ
escaped text = each escaped_byte text

-- A byte of lines: where one ends the next begins below it.
abbrev pub line_byte : ℕ → List ℕ
line_byte b = if b == 10 then codes "</tspan><tspan x='14' dy='14'>" else escaped_byte b

-- lines of text in XML, each below the one before it
abbrev pub escaped_lines : List ℕ → List ℕ
escaped_lines lines = each line_byte lines
