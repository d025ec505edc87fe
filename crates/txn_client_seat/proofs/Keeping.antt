-- A row more.
use Rattle.std.proofs.Common.{◌≡◌, ℕ, List, [], ◌∷◌, ◌++◌, Option, Some, None, refl, sym, ap, ◌∙◌, append_assoc, append-nil}
use Rattle.txn_client_seat.specs.declared.rows_kept.KeptRow.{KeptRow}
use Rattle.txn_client_seat.specs.Kept.{line_of, lines_of}
use Rattle.txn_client_seat.specs.Waiting.{Waiting, adds}

pub lines_more : (rows : List KeptRow) (row : KeptRow) → lines_of (rows ++ row ∷ []) ≡ lines_of rows ++ line_of row
lines_more [] row = append-nil (line_of row)
lines_more (one ∷ rows) row = ap (λ l. line_of one ++ l) (lines_more rows row) ∙ sym (append_assoc (line_of one) (lines_of rows) (line_of row))

-- a row without an answer
pub adds_no_more : (waiting : Option Waiting) (told : ℕ → List ℕ) → adds waiting (λ at. told at ++ []) ≡ adds waiting told
adds_no_more None told = refl
adds_no_more (Some waiting) told = ap (λ l. Some (record { at = waiting.at; lines = waiting.lines ++ l })) (append-nil (told waiting.at))
