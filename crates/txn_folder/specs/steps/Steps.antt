-- The calls of a store in a folder as small machines: each state asks one step of the file system, and is turned by what it is told.
use Rattle.std.specs.Prelude.{ℕ, ◌==◌, Bool, true, false, List, Option, Some, None, unwrap_or, Ok, Err, if◌then◌else◌}
use Rattle.txn_store.specs.types.BoundaryText.{boundary_read}
use Rattle.txn_store.specs.Store.{known_fault}
use Rattle.txn_store.specs.declared.store.Got.{Got}
use Rattle.txn_store.specs.declared.store.StoreError.{StoreError}
use Rattle.txn_store.specs.declared.store.StoreError.TheVariants as errors
use Rattle.txn_store.specs.declared.request.Reply.{Reply}
use Rattle.txn_store.specs.declared.request.Reply.TheVariants as replies
use Rattle.txn_folder.specs.steps.Folders.{Place, Version, Boundary, At, Temporary, File, OfBoundary, OfVersions, Ask, Draw, Make, Write, SetTime, Link, Rename, Unlink, Find, Read, Take, Let, Sync, Told, Done, More, Taken, Missing, Gone, Holds, Says, Number}

-- how a call is to end: with a reply, or failed, with no word whether it had its effect
pub data Verdict : Type 0 where
  Tells : (reply : Reply) → Verdict
  Fails : Verdict

-- a call is in a state, or at its end
pub data Phase (S : Type 0) : Type 0 where
  Is : (state : S) → Phase S
  Ends : (verdict : Verdict) → Phase S

-- a version's token is its time, the boundary's what it says
abbrev pub token_at : Place → List ℕ → ℕ → ℕ
token_at (Version id) bytes time = time
token_at Boundary bytes time = unwrap_or (boundary_read bytes) 0

abbrev pub got_at : Place → File → Got
got_at place file = record { bytes = file.bytes; token = token_at place file.bytes file.time }

abbrev pub put_ok : ℕ → Verdict
put_ok token = Tells (replies.Put (Ok token))

abbrev pub put_error : StoreError → Verdict
put_error error = Tells (replies.Put (Err error))

-- A put that makes a file where none stands.
pub data Creating : Type 0 where
  -- with syncs the name is looked up first
  LooksFirst : Creating
  Draws : Creating
  Makes : (number : ℕ) → Creating
  Writes : (number : ℕ) → Creating
  SetsTime : (number : ℕ) → Creating
  -- makes the new file last
  SyncsNew : (number : ℕ) → Creating
  Links : (number : ℕ) → Creating
  -- The link was refused, since the name is taken, or answered with an error: are both names one file?
  LooksOwn : (number : ℕ) (taken : Bool) → Creating
  LooksThere : (number : ℕ) (taken : Bool) (own : ℕ) → Creating
  -- what stands there
  LooksTaken : (number : ℕ) → Creating
  -- removes the temporary name
  Cleans : (verdict : Verdict) → Creating
  Syncs : (verdict : Verdict) → Creating

abbrev pub create_asked : ℕ → Place → List ℕ → Creating → Ask
create_asked call place bytes LooksFirst = Find (At place)
create_asked call place bytes Draws = Draw
create_asked call place bytes (Makes number) = Make
create_asked call place bytes (Writes number) = Write bytes
create_asked call place bytes (SetsTime number) = SetTime number
create_asked call place bytes (SyncsNew number) = Sync
create_asked call place bytes (Links number) = Link place
create_asked call place bytes (LooksOwn number taken) = Find (Temporary call)
create_asked call place bytes (LooksThere number taken own) = Find (At place)
create_asked call place bytes (LooksTaken number) = Find (At place)
create_asked call place bytes (Cleans verdict) = Unlink (Temporary call)
create_asked call place bytes (Syncs verdict) = Sync

-- the names are not of one file
abbrev pub not_same : ℕ → Bool → Phase Creating
not_same number true = Is (LooksTaken number)
not_same number false = Is (Cleans Fails)

-- the temporary name is gone: what took its effect is made to last
abbrev pub cleaned : Verdict → Phase Creating
cleaned (Tells (replies.Put (Ok token))) = Is (Syncs (put_ok token))
cleaned verdict = Ends verdict

abbrev pub create_turned : Place → List ℕ → Creating → Told → Phase Creating
create_turned place bytes LooksFirst Missing = Is Draws
create_turned place bytes LooksFirst (Holds file time) = Ends (put_error errors.AlreadyExists)
create_turned place bytes LooksFirst told = Ends Fails
create_turned place bytes Draws (Number number) = Is (Makes number)
create_turned place bytes Draws told = Ends Fails
create_turned place bytes (Makes number) Done = Is (Writes number)
create_turned place bytes (Makes number) Taken = Is Draws
create_turned place bytes (Makes number) told = Ends Fails
create_turned place bytes (Writes number) Done = Is (SetsTime number)
create_turned place bytes (Writes number) More = Is (Writes number)
create_turned place bytes (Writes number) told = Is (Cleans Fails)
create_turned place bytes (SetsTime number) Done = Is (SyncsNew number)
create_turned place bytes (SetsTime number) told = Is (Cleans Fails)
create_turned place bytes (SyncsNew number) Done = Is (Links number)
create_turned place bytes (SyncsNew number) told = Is (Cleans Fails)
create_turned place bytes (Links number) Done = Is (Cleans (put_ok (token_at place bytes number)))
create_turned place bytes (Links number) Taken = Is (LooksOwn number true)
create_turned place bytes (Links number) told = Is (LooksOwn number false)
create_turned place bytes (LooksOwn number taken) (Holds file time) = Is (LooksThere number taken file)
create_turned place bytes (LooksOwn number taken) told = not_same number taken
create_turned place bytes (LooksThere number taken own) (Holds file time) = if file == own then Is (Cleans (put_ok (token_at place bytes number))) else not_same number taken
create_turned place bytes (LooksThere number taken own) told = not_same number taken
create_turned place bytes (LooksTaken number) (Holds file time) = Is (Cleans (put_error errors.AlreadyExists))
create_turned place bytes (LooksTaken number) told = Is (Cleans Fails)
create_turned place bytes (Cleans verdict) told = cleaned verdict
create_turned place bytes (Syncs verdict) Done = Ends verdict
create_turned place bytes (Syncs verdict) told = Ends Fails

-- A get.
pub data Getting : Type 0 where
  Looks : Getting
  Opens : Getting
  Reads : (file : ℕ) → Getting
  -- what is told is made to last
  Lasts : (verdict : Verdict) → Getting

abbrev pub get_asked : Place → Getting → Ask
get_asked place Looks = Find (At place)
get_asked place Opens = Find (At place)
get_asked place (Reads file) = Read file
get_asked place (Lasts verdict) = Sync

-- what is answered where this was read
abbrev pub known_told : Option StoreError → Got → Verdict
known_told (Some error) got = Tells (replies.Get (Err error))
known_told None got = Tells (replies.Get (Ok got))

abbrev pub got_told : Option ℕ → Got → Verdict
got_told known got = known_told (known_fault known got) got

abbrev pub get_turned : Place → Option ℕ → Getting → Told → Phase Getting
get_turned place known Looks (Holds file time) = Is Opens
get_turned place known Looks Missing = Ends (Tells (replies.Get (Err errors.NotFound)))
get_turned place known Looks told = Ends Fails
get_turned place known Opens (Holds file time) = Is (Reads file)
get_turned place known Opens Missing = Ends (Tells (replies.Get (Err errors.NotFound)))
-- the file is none any more: it is looked up anew
get_turned place known Opens Gone = Is Looks
get_turned place known Opens told = Ends Fails
get_turned place known (Reads file) (Says bytes time) = Is (Lasts (got_told known (got_at place (record { bytes = bytes; time = time }))))
get_turned place known (Reads file) Gone = Is Looks
get_turned place known (Reads file) told = Ends Fails
get_turned place known (Lasts verdict) Done = Ends verdict
get_turned place known (Lasts verdict) told = Ends Fails

-- An update of the boundary, under its lock.
pub data Updating : Type 0 where
  Locks : Updating
  Seeks : Updating
  Enters : Updating
  Compares : (file : ℕ) → Updating
  UpdateDraws : Updating
  UpdateMakes : (number : ℕ) → Updating
  UpdateWrites : (number : ℕ) → Updating
  UpdateSetsTime : (number : ℕ) → Updating
  UpdateSyncsNew : (number : ℕ) → Updating
  Renames : (number : ℕ) → Updating
  -- the rename was answered with an error: does the file there have the number?
  LooksNumber : (number : ℕ) → Updating
  UpdateCleans : Updating
  UpdateSyncs : (verdict : Verdict) → Updating
  -- lets the lock go
  Frees : (verdict : Verdict) → Updating

abbrev pub update_asked : ℕ → List ℕ → Updating → Ask
update_asked call bytes Locks = Take OfBoundary
update_asked call bytes Seeks = Find (At Boundary)
update_asked call bytes Enters = Find (At Boundary)
update_asked call bytes (Compares file) = Read file
update_asked call bytes UpdateDraws = Draw
update_asked call bytes (UpdateMakes number) = Make
update_asked call bytes (UpdateWrites number) = Write bytes
update_asked call bytes (UpdateSetsTime number) = SetTime number
update_asked call bytes (UpdateSyncsNew number) = Sync
update_asked call bytes (Renames number) = Rename Boundary
update_asked call bytes (LooksNumber number) = Find (At Boundary)
update_asked call bytes UpdateCleans = Unlink (Temporary call)
update_asked call bytes (UpdateSyncs verdict) = Sync
update_asked call bytes (Frees verdict) = Let OfBoundary

-- Why an update is refused by the number that the file says: one that says none matches nothing.
abbrev pub said_fault : ℕ → Option ℕ → Option StoreError
said_fault token None = Some errors.Precondition
said_fault token (Some number) = if number == token then None else Some errors.Precondition

-- what follows where the file says this number, or none
abbrev pub compared : Option StoreError → Phase Updating
compared None = Is UpdateDraws
compared (Some error) = Is (Frees (put_error error))

abbrev pub update_turned : List ℕ → ℕ → Updating → Told → Phase Updating
update_turned bytes token Locks Done = Is Seeks
-- it is tried again, for a while
update_turned bytes token Locks Taken = Is Locks
update_turned bytes token Locks told = Is (Frees Fails)
update_turned bytes token Seeks (Holds file time) = Is Enters
update_turned bytes token Seeks Missing = Is (Frees (put_error errors.Precondition))
update_turned bytes token Seeks told = Is (Frees Fails)
update_turned bytes token Enters (Holds file time) = Is (Compares file)
update_turned bytes token Enters Missing = Is (Frees (put_error errors.Precondition))
-- the file is none any more: it is looked up anew
update_turned bytes token Enters Gone = Is Seeks
update_turned bytes token Enters told = Is (Frees Fails)
update_turned bytes token (Compares file) (Says read time) = compared (said_fault token (boundary_read read))
update_turned bytes token (Compares file) Gone = Is Seeks
update_turned bytes token (Compares file) told = Is (Frees Fails)
update_turned bytes token UpdateDraws (Number number) = Is (UpdateMakes number)
update_turned bytes token UpdateDraws told = Is (Frees Fails)
update_turned bytes token (UpdateMakes number) Done = Is (UpdateWrites number)
update_turned bytes token (UpdateMakes number) Taken = Is UpdateDraws
update_turned bytes token (UpdateMakes number) told = Is (Frees Fails)
update_turned bytes token (UpdateWrites number) Done = Is (UpdateSetsTime number)
update_turned bytes token (UpdateWrites number) More = Is (UpdateWrites number)
update_turned bytes token (UpdateWrites number) told = Is UpdateCleans
update_turned bytes token (UpdateSetsTime number) Done = Is (UpdateSyncsNew number)
update_turned bytes token (UpdateSetsTime number) told = Is UpdateCleans
update_turned bytes token (UpdateSyncsNew number) Done = Is (Renames number)
update_turned bytes token (UpdateSyncsNew number) told = Is UpdateCleans
update_turned bytes token (Renames number) Done = Is (UpdateSyncs (put_ok (token_at Boundary bytes number)))
update_turned bytes token (Renames number) told = Is (LooksNumber number)
update_turned bytes token (LooksNumber number) (Holds file time) = if time == number then Is (UpdateSyncs (put_ok (token_at Boundary bytes number))) else Is UpdateCleans
update_turned bytes token (LooksNumber number) told = Is UpdateCleans
update_turned bytes token UpdateCleans told = Is (Frees Fails)
update_turned bytes token (UpdateSyncs verdict) Done = Is (Frees verdict)
update_turned bytes token (UpdateSyncs verdict) told = Is (Frees Fails)
update_turned bytes token (Frees verdict) told = Ends verdict

-- A delete of a version, under the lock of removals.
pub data Deleting : Type 0 where
  Peeks : Deleting
  DeleteLocks : Deleting
  Removes : Deleting
  DeleteSyncs : (verdict : Verdict) → Deleting
  DeleteFrees : (verdict : Verdict) → Deleting

abbrev pub delete_ok : Verdict
delete_ok = Tells (replies.Delete (Ok tt))

abbrev pub delete_asked : ℕ → Deleting → Ask
delete_asked id Peeks = Find (At (Version id))
delete_asked id DeleteLocks = Take OfVersions
delete_asked id Removes = Unlink (At (Version id))
delete_asked id (DeleteSyncs verdict) = Sync
delete_asked id (DeleteFrees verdict) = Let OfVersions

abbrev pub delete_turned : Deleting → Told → Phase Deleting
delete_turned Peeks (Holds file time) = Is DeleteLocks
-- gone already: that is made to last
delete_turned Peeks Missing = Is (DeleteSyncs delete_ok)
delete_turned Peeks told = Ends Fails
delete_turned DeleteLocks Done = Is Removes
delete_turned DeleteLocks Taken = Is DeleteLocks
delete_turned DeleteLocks told = Is (DeleteFrees Fails)
delete_turned Removes Done = Is (DeleteSyncs delete_ok)
delete_turned Removes Missing = Is (DeleteSyncs delete_ok)
delete_turned Removes told = Is (DeleteFrees Fails)
delete_turned (DeleteSyncs verdict) Done = Is (DeleteFrees verdict)
delete_turned (DeleteSyncs verdict) told = Is (DeleteFrees Fails)
delete_turned (DeleteFrees verdict) told = Ends verdict

-- a call, and where it is
pub data Work : Type 0 where
  Creates : (place : Place) (bytes : List ℕ) (phase : Phase Creating) → Work
  Gets : (place : Place) (known : Option ℕ) (phase : Phase Getting) → Work
  Updates : (bytes : List ℕ) (token : ℕ) (phase : Phase Updating) → Work
  Deletes : (id : ℕ) (phase : Phase Deleting) → Work

-- what a call asks, none at its end
abbrev pub asked : ℕ → Work → Option Ask
asked call (Creates place bytes (Is state)) = Some (create_asked call place bytes state)
asked call (Gets place known (Is state)) = Some (get_asked place state)
asked call (Updates bytes token (Is state)) = Some (update_asked call bytes state)
asked call (Deletes id (Is state)) = Some (delete_asked id state)
asked call _ = None

-- the call after it was told this
abbrev pub turned : Work → Told → Work
turned (Creates place bytes (Is state)) told = Creates place bytes (create_turned place bytes state told)
turned (Gets place known (Is state)) told = Gets place known (get_turned place known state told)
turned (Updates bytes token (Is state)) told = Updates bytes token (update_turned bytes token state told)
turned (Deletes id (Is state)) told = Deletes id (delete_turned state told)
turned work told = work

abbrev pub verdict_in : {S : Type 0} → Phase S → Option Verdict
verdict_in (Is state) = None
verdict_in (Ends verdict) = Some verdict

-- how it ends, at its end
abbrev pub verdict_of : Work → Option Verdict
verdict_of (Creates place bytes phase) = verdict_in phase
verdict_of (Gets place known phase) = verdict_in phase
verdict_of (Updates bytes token phase) = verdict_in phase
verdict_of (Deletes id phase) = verdict_in phase
