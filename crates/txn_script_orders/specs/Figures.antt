-- The printed lines of figures.
use Rattle.std.specs.Prelude.{ℕ, List, ◌++◌, ◌∷◌, [], codes, decimal}

-- how many states, orders and outcomes a question has, how many outcomes with their mirror images, and that each of the first keeps the rules
abbrev pub figures_text : ℕ → ℕ → ℕ → ℕ → List ℕ
figures_text states orders outcomes images = codes "states " ++ (decimal states ++ (codes "\norders " ++ (decimal orders ++ (codes "\noutcomes " ++ (decimal outcomes ++ (codes ", with mirror images " ++ (decimal images ++ (codes "\nrules kept by " ++ (decimal outcomes ++ codes " outcomes")))))))))

-- the first line of an outcome: its number among how many, in how many orders it is reached, and how many mirror images it has
abbrev pub heading_text : ℕ → ℕ → ℕ → ℕ → List ℕ
heading_text number of orders images = codes "outcome " ++ (decimal number ++ (codes " of " ++ (decimal of ++ (codes ", orders " ++ (decimal orders ++ (codes ", mirror images " ++ decimal images))))))
