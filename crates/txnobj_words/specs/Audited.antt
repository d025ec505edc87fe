-- What is printed of recordings that are one history.
use Rattle.std.specs.Prelude.{ℕ, List, ◌++◌, codes}
use Rattle.std.specs.Fmt.{decimal}
use Rattle.txnobj_words.specs.declared.audited.Ended.{Ended}

-- how many entries there are, where the boundary stands, how many clients and how many store calls
abbrev pub ended_text : Ended → List ℕ
ended_text ended = codes "one history: " ++ (decimal ended.entries ++ (codes " entries, boundary " ++ (decimal ended.boundary ++ (codes ", " ++ (decimal ended.clients ++ (codes " clients, " ++ (decimal ended.calls ++ codes " store calls")))))))

-- how many puts have no reply and may decide the first two
abbrev pub undecided_text : ℕ → List ℕ
undecided_text puts = codes "(the entries and the boundary rest on puts without a reply that no get tells of: " ++ (decimal puts ++ codes ")")
