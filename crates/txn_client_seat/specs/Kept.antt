-- Rows that wait, as their lines. It stands alone, because it names the rows.
use Rattle.std.specs.Prelude.{◌<◌, List, [], ◌∷◌, ◌++◌, ℕ, Option, Some, None, option_map, string_bytes, vec_len, vec_capacity}
use Rattle.txn_client_seat.specs.declared.rows_kept.KeptRow.{KeptRow}
use Rattle.txn_client_seat.specs.declared.rows_kept.KeptRows.{KeptRows}
use Rattle.txn_client_seat.specs.Lines.{answer_line}
use Rattle.txn_client_seat.specs.Waiting.{Waiting, or_none}

-- the lines of a row: of what was done, and of the answer
abbrev pub line_of : KeptRow → List ℕ
line_of row = or_none (option_map (λ s. string_bytes s) row.line) ++ answer_line row.op row.answer

abbrev pub lines_of : List KeptRow → List ℕ
lines_of [] = []
lines_of (row ∷ rows) = line_of row ++ lines_of rows

abbrev pub waiting_of : KeptRows → Waiting
waiting_of kept = record { at = kept.at; lines = lines_of kept.rows.items }

-- what waits, where rows are kept
abbrev pub seen : Option KeptRows → Option Waiting
seen None = None
seen (Some kept) = Some (waiting_of kept)

-- one row more can be kept, where rows are
abbrev pub HasRoom : Option KeptRows → Type 0
HasRoom None = Unit {0}
HasRoom (Some kept) = vec_len kept.rows < vec_capacity kept.rows
