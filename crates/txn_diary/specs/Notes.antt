-- What a client was told, as it is looked up. Notes stand newest first.
use Rattle.std.specs.Prelude.{ℕ, List, [], ◌∷◌, Option, Some, None}
use Rattle.txn_diary.specs.Maps.{value_at}

-- the epoch that the last note of this id has, where there is one
abbrev pub note_at : List (ℕ × ℕ) → ℕ → Option ℕ
note_at [] id = None
note_at (note ∷ told) id = value_at id note.0 (Some note.1) (note_at told id)

-- a note, where there is one, as the notes that are added
abbrev pub as_told : Option (ℕ × ℕ) → List (ℕ × ℕ)
as_told None = []
as_told (Some note) = note ∷ []
