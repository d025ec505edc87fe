-- Which puts without a reply may decide how many entries the recordings have, and where their boundary stands.
use Rattle.std.specs.Prelude.{◌+◌, ◌==◌, ◌||◌, Bool, false, ℕ, zero, suc, nat_lt, max, List, Option, Some, None, Ok, unwrap_or, length, if◌then◌else◌, slice_get}
use Rattle.std.specs.Option.{option_map}
use Rattle.txn_store.specs.Paths.{Segments}
use Rattle.txn_store.specs.VersionOf.{version_of}
use Rattle.txn_store.specs.declared.request.Request.{Request}
use Rattle.txn_store.specs.declared.request.Request.TheVariants as requests
use Rattle.txn_store.specs.declared.request.Reply.{Reply}
use Rattle.txn_store.specs.declared.request.Reply.TheVariants as replies
use Rattle.txn_history.specs.Names.{world_names}
use Rattle.txn_history.specs.History.{is_boundary, boundary_said}
use Rattle.txn_audit_recordings.specs.declared.row.RecordedRow.{RecordedRow}
use Rattle.txn_audit_recordings.specs.declared.row.RecordedRow.TheVariants as kinds

-- a file as it is put: its path and its bytes
abbrev pub FilePut : Type 0
FilePut = Segments × List ℕ

-- the file that a request puts
abbrev pub file_put : Request → Option FilePut
file_put (requests.Put path bytes mode) = Some (path, bytes)
file_put _ = None

-- the file of which a reply shows that it was put: by the call itself, or before it, as a get that found it shows
abbrev pub file_shown : Request → Reply → Option FilePut
file_shown (requests.Put path bytes mode) (replies.Put (Ok token)) = Some (path, bytes)
file_shown (requests.Get path known) (replies.Get (Ok got)) = Some (path, got.bytes)
file_shown _ _ = None

-- the id of the version that a file is, 0 for none
abbrev pub version_in : FilePut → ℕ
version_in file = unwrap_or (version_of world_names file.0) 0

-- the boundary that a file says, 0 for none
abbrev pub boundary_in : FilePut → ℕ
boundary_in file = if is_boundary file.0 then boundary_said (Some file.1) else 0

module _ {T : Type 0} where
  -- the file that the call of a row shows to have been put, by the reply in the row behind it
  abbrev pub shown_by : Option (RecordedRow T) → Option (RecordedRow T) → Option FilePut
  shown_by (Some (kinds.Ask op asked request)) (Some (kinds.Reply of at reply)) = if of == op then file_shown request reply else None
  shown_by _ _ = None

  -- a row is a reply to an operation
  abbrev pub answers : ℕ → Option (RecordedRow T) → Bool
  answers op (Some (kinds.Reply of at reply)) = of == op
  answers op _ = false

  -- the file that the call of a row puts, where the row behind it is no reply
  abbrev pub lost_by : Option (RecordedRow T) → Option (RecordedRow T) → Option FilePut
  lost_by (Some (kinds.Ask op asked request)) next = if answers op next then None else file_put request
  lost_by _ next = None

  abbrev pub shown_at : List (RecordedRow T) → ℕ → Option FilePut
  shown_at rows place = shown_by (slice_get rows place) (slice_get rows (place + 1))

  abbrev pub lost_at : List (RecordedRow T) → ℕ → Option FilePut
  lost_at rows place = lost_by (slice_get rows place) (slice_get rows (place + 1))

  -- the greatest, by this measure, of what the replies in the first rows of a recording show
  abbrev pub greatest_in : (FilePut → ℕ) → List (RecordedRow T) → ℕ → ℕ
  greatest_in measure rows zero = 0
  greatest_in measure rows (suc place) = max (greatest_in measure rows place) (unwrap_or (option_map measure (shown_at rows place)) 0)

  abbrev pub greatest_at : (FilePut → ℕ) → Option (List (RecordedRow T)) → ℕ
  greatest_at measure None = 0
  greatest_at measure (Some rows) = greatest_in measure rows (length rows)

  -- and of what those in the first recordings show
  abbrev pub greatest_of : (FilePut → ℕ) → List (List (RecordedRow T)) → ℕ → ℕ
  greatest_of measure recordings zero = 0
  greatest_of measure recordings (suc recording) = max (greatest_of measure recordings recording) (greatest_at measure (slice_get recordings recording))

  -- the newest version that a reply shows, 0 for none
  abbrev pub version_shown : List (List (RecordedRow T)) → ℕ
  version_shown recordings = greatest_of version_in recordings (length recordings)

  -- the greatest boundary that a reply shows
  abbrev pub boundary_shown : List (List (RecordedRow T)) → ℕ
  boundary_shown recordings = greatest_of boundary_in recordings (length recordings)

-- a file, where there is one, is a version or says a boundary above these
abbrev pub goes_beyond : ℕ → ℕ → Option FilePut → Bool
goes_beyond version boundary None = false
goes_beyond version boundary (Some file) = nat_lt version (version_in file) || nat_lt boundary (boundary_in file)

module _ {T : Type 0} (version boundary : ℕ) where
  -- how many of the first rows of a recording put such a file, and have no reply
  abbrev pub lost_in : List (RecordedRow T) → ℕ → ℕ
  lost_in rows zero = 0
  lost_in rows (suc place) = lost_in rows place + (if goes_beyond version boundary (lost_at rows place) then 1 else 0)

  abbrev pub lost_here : Option (List (RecordedRow T)) → ℕ
  lost_here None = 0
  lost_here (Some rows) = lost_in rows (length rows)

  -- and of those of the first recordings
  abbrev pub lost_of : List (List (RecordedRow T)) → ℕ → ℕ
  lost_of recordings zero = 0
  lost_of recordings (suc recording) = lost_of recordings recording + lost_here (slice_get recordings recording)

-- How many puts have no reply, and would make a version above all that replies show, or raise the boundary above all that these show.
abbrev pub undecided : {T : Type 0} → List (List (RecordedRow T)) → ℕ
undecided recordings = lost_of (version_shown recordings) (boundary_shown recordings) recordings (length recordings)
