-- What is printed of a question.
use Rattle.std.specs.Prelude.{◌≡◌, ◌≤◌, ℕ, zero, suc, List, [], ◌∷◌, ◌++◌, Option}
use Rattle.std.specs.Io.KnownBytes.{Appends}
use Rattle.txn_script.specs.Printed.{with_feed}
use Rattle.txn_script.specs.Records.{record_rules}
use Rattle.txn_script.specs.Script.{Prints}
use Rattle.txn_script_orders.specs.Figures.{figures_text, heading_text}

-- Behind a text an outcome is listed: an empty line, its first line, a line for each client, an empty line, a script, an empty line, and what `txnworld script` prints of that script.
pub record Lists (of number : ℕ) (before after : List ℕ) : Type 0 where
  pub orders : ℕ
  pub images : ℕ
  pub clients : List ℕ
  pub script : List ℕ
  pub printed : List ℕ
  pub prints : Prints record_rules script printed
  pub whole : after ≡ ((((((before ++ 10 ∷ []) ++ with_feed (heading_text number of orders images)) ++ clients) ++ 10 ∷ []) ++ script) ++ 10 ∷ []) ++ printed

-- Behind a text so many outcomes are listed, numbered from 1. It is no abbreviation, so that a count stays as it is.
unfoldable pub ListsAll : ℕ → ℕ → List ℕ → List ℕ → Type 0
ListsAll of zero before after = after ≡ before
ListsAll of (suc n) before after = (middle : List ℕ) × ListsAll of n before middle × Lists of (suc n) middle after

-- The figures are printed, and behind them at most 20 outcomes are listed, each with a script that plays to what stands beside it.
pub record Explores (text : List ℕ) : Type 0 where
  pub states : ℕ
  pub orders : ℕ
  pub outcomes : ℕ
  pub images : ℕ
  pub listed : ℕ
  pub few : listed ≤ 20
  pub lists : ListsAll outcomes listed (with_feed (figures_text states orders outcomes images)) text

-- All of that was written, where the bytes of the writer are known.
abbrev pub IsExplored : Option (List ℕ) → Option (List ℕ) → Type 0
IsExplored old new = (text : List ℕ) × Explores text × Appends old new text
