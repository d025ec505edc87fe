-- How lines are added to recordings, one after another: each is the text of what it is added as.
use Rattle.std.specs.Prelude.{◌≡◌, ◌⊎◌, ◌+◌, ◌-◌, ℕ, List, [], ◌∷◌, ◌++◌, Bool, true, false, Some, None, IfSome, MatchOption, length, map, slice_get, string_bytes}
use Rattle.txn_audit_recordings.specs.declared.row.RecordedRow.{RecordedRow}
use Rattle.txn_audit_recordings.specs.declared.row.RecordedRow.TheVariants as kinds
use Rattle.txn_audit_recordings.specs.declared.source.Source.{Source}
use Rattle.txn_audit_recordings.specs.Rows.{row_text}
use Rattle.txn_audit_recordings.specs.Written.{source_row_text}
use Rattle.txn_audit_recordings.specs.declared.recordings.LinePlace.{LinePlace}
use Rattle.txn_audit_recordings.specs.declared.recordings.Recordings.{Recordings}

-- The clocks are of this source's object: the first of them was named for it.
abbrev pub IsOfObject : List Source → Source → Type 0
IsOfObject clocks source = IfSome (slice_get clocks 0) (λ first. string_bytes first.object ≡ string_bytes source.object)

-- The source names this clock.
abbrev pub IsClockOf : Source → Source → Type 0
IsClockOf clock source = string_bytes clock.clock ≡ string_bytes source.clock

-- The source names the clock at this place.
abbrev pub IsNamedAt : List Source → ℕ → Source → Type 0
IsNamedAt clocks place source = MatchOption (slice_get clocks place) ⊥ (λ clock. IsClockOf clock source)

module _ {T : Type 0} where
  -- the first row of a client
  abbrev pub is_first : RecordedRow T → Bool
  is_first (kinds.Client client page) = true
  is_first (kinds.Begin op call) = false
  is_first (kinds.Ask op at request) = false
  is_first (kinds.Reply op at reply) = false
  is_first (kinds.Failed op at) = false
  is_first (kinds.GiveUp op) = false
  is_first (kinds.Answer op words) = false

  -- the rows of each recording
  abbrev pub told : Recordings T → List (List (RecordedRow T))
  told recordings = map (λ rows. rows.items) recordings.rows.items

  -- before the first line of a file: nothing is noted of a recording that comes next
  abbrev pub before_file : Recordings T → Recordings T
  before_file recordings = record recordings { next = None }

  -- The clock that a source names is noted for the next recording. One that was not named before is added. No row is.
  pub record NotesSource (source : Source) (old new : Recordings T) : Type 0 where
    pub place : ℕ
    pub next_is : new.next ≡ Some place
    pub named : IsNamedAt new.clocks.items place source
    pub clocks_are : (new.clocks ≡ old.clocks) ⊎ (new.clocks.items ≡ old.clocks.items ++ source ∷ [])
    pub rows_are : new.rows ≡ old.rows
    pub begins_are : new.begins ≡ old.begins

  -- The same of a source of the object of the recordings before.
  abbrev pub AddsSource : Source → Recordings T → Recordings T → Type 0
  AddsSource source old new = IsOfObject old.clocks.items source × NotesSource source old new

  -- A recording begins at this place with this row, by the clock that was noted.
  pub record Begins (at : LinePlace) (row : RecordedRow T) (old new : Recordings T) : Type 0 where
    pub clock : ℕ
    pub noted : old.next ≡ Some clock
    pub rows_are : told new ≡ told old ++ (row ∷ []) ∷ []
    pub begins_are : new.begins.items ≡ old.begins.items ++ (record { at = at; clock = clock }) ∷ []
    pub clocks_are : new.clocks ≡ old.clocks
    pub next_is : new.next ≡ None

  -- The last recording began in this file, and no other is noted.
  pub record BeganIn (file : ℕ) (recordings : Recordings T) : Type 0 where
    pub last : IfSome (slice_get recordings.begins.items (length recordings.begins.items - 1)) (λ begin. begin.at.file ≡ file)
    pub none_noted : recordings.next ≡ None

  -- The last recording has this row more, and all else is as it was.
  pub record AddsToLast (row : RecordedRow T) (old new : Recordings T) : Type 0 where
    pub before : List (List (RecordedRow T))
    pub last : List (RecordedRow T)
    pub rows_were : told old ≡ before ++ last ∷ []
    pub rows_are : told new ≡ before ++ (last ++ row ∷ []) ∷ []
    pub begins_are : new.begins ≡ old.begins
    pub clocks_are : new.clocks ≡ old.clocks
    pub next_is : new.next ≡ old.next

  -- A row is added: the first of a client begins a recording, and another goes on with one that began in its file.
  abbrev pub AddsRow : LinePlace → RecordedRow T → Recordings T → Recordings T → Type 0
  AddsRow at row old new = ((is_first row ≡ true) × Begins at row old new) ⊎ ((is_first row ≡ false) × BeganIn at.file old × AddsToLast row old new)

module _ {T : Type 0} (text : T → List ℕ) where
  -- A line is the text of a source, which is noted, or of a row, which is added.
  abbrev pub AddsLine : LinePlace → List ℕ → Recordings T → Recordings T → Type 0
  AddsLine at words old new =
      ((source : Source) × (words ≡ source_row_text (string_bytes source.object) (string_bytes source.clock) source.ahead) × AddsSource source old new)
      ⊎ ((row : RecordedRow T) × (words ≡ row_text text row) × AddsRow at row old new)

  -- Lines of a file are added, one after another, the first of this number.
  abbrev pub AddsLines : (file line : ℕ) → List (List ℕ) → Recordings T → Recordings T → Type 0
  AddsLines file line [] old new = new ≡ old
  AddsLines file line (words ∷ rest) old new = (between : Recordings T) × AddsLine (record { file = file; line = line }) words old between × AddsLines file (line + 1) rest between new
