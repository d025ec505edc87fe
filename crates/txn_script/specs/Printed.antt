-- The printed lines, one after another.
use Rattle.std.specs.Prelude.{ℕ, List, [], ◌∷◌, ◌++◌, ◌+◌, Option, Some, None}
use Rattle.txn_script_lines.specs.Printed.{entry_text, boundary_text, erased_text, pinned_text, stands_text}
use Rattle.txn_history.specs.Views.{View}

-- a printed line, which ends with a line feed
abbrev pub with_feed : List ℕ → List ℕ
with_feed text = text ++ 10 ∷ []

-- the line of what is pinned, where values pin some
abbrev pub pinned_line : Option (List ℕ) → List ℕ
pinned_line None = []
pinned_line (Some ids) = with_feed (pinned_text ids)

module _ {T : Type 0} (text : T → List ℕ) where
  -- the lines of the entries, numbered from this number on
  abbrev pub entries_text : ℕ → List T → List ℕ
  entries_text n [] = []
  entries_text n (value ∷ values) = with_feed (entry_text text n value) ++ entries_text (n + 1) values

  -- the line of a view; an ended one has none
  abbrev pub view_line : ℕ → Option (View T) → List ℕ
  view_line n None = []
  view_line n (Some view) = with_feed (stands_text text n view)

  -- the lines of the views that have not ended, numbered from this number on
  abbrev pub views_text : ℕ → List (Option (View T)) → List ℕ
  views_text n [] = []
  views_text n (view ∷ views) = view_line n view ++ views_text (n + 1) views

  -- the end lines: the entries, the boundary, the erased ids, what is pinned where values pin some, and the views
  abbrev pub end_text : List T → ℕ → List ℕ → Option (List ℕ) → List (Option (View T)) → List ℕ
  end_text values boundary ids pins views = entries_text 1 values ++ (with_feed (boundary_text boundary) ++ (with_feed (erased_text ids) ++ (pinned_line pins ++ views_text 1 views)))
