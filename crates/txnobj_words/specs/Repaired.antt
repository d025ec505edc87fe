-- What is printed of a repair.
use Rattle.std.specs.Prelude.{ℕ, List, ◌++◌, codes}
use Rattle.std.specs.Fmt.{decimal}
use Rattle.txnobj_words.specs.Said.{with_feed, lines_of}

-- a version that was removed
abbrev pub removed_text : ℕ → List ℕ
removed_text id = codes "removed " ++ decimal id

-- at which version the object goes on
abbrev pub goes_on_text : ℕ → List ℕ
goes_on_text id = codes "goes on at " ++ (decimal id ++ codes ": a write that was answered with a greater id is lost")

-- a line of each version that was removed, and then one of the newest that is left
abbrev pub repaired_text : ℕ → List ℕ → List ℕ
repaired_text newest ids = lines_of removed_text ids ++ with_feed (goes_on_text newest)
