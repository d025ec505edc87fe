-- A word of private contracts: where a search through a log stops.
use Rattle.std.specs.Prelude.{◌≡◌, ℕ, List, [], ◌∷◌, true}
use Rattle.txn_client_journals.specs.declared.rows.LogRow.{LogRow}
use Rattle.txn_client_journals.specs.Verdict.{is_taken}

-- the first of these rows, where there is one, is one whose reply this client took
abbrev pub IsNext : ℕ → List LogRow → Type 0
IsNext client [] = Unit {0}
IsNext client (row ∷ log) = is_taken client row ≡ true
