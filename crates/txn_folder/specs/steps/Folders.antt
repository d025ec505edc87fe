-- A folder of a file system as processes see it: names of files, locks, and what one step of a process asks, is told and leaves.
use Rattle.std.specs.Prelude.{ℕ, ◌==◌, Bool, true, false, List, [], take, Option, Some, None, if◌then◌else◌}

-- what a name can be of: a version of the object, or its boundary
pub data Place : Type 0 where
  Version : (id : ℕ) → Place
  Boundary : Place

-- A name in the folder: that of a place, or the temporary name of a call's own new file.
pub data Name : Type 0 where
  At : (place : Place) → Name
  Temporary : (call : ℕ) → Name

abbrev pub same_place : Place → Place → Bool
same_place (Version a) (Version b) = a == b
same_place Boundary Boundary = true
same_place _ _ = false

abbrev pub same_name : Name → Name → Bool
same_name (At a) (At b) = same_place a b
same_name (Temporary a) (Temporary b) = a == b
same_name _ _ = false

-- the bytes of a file and its time of change, a number
pub record File : Type 0 where
  pub bytes : List ℕ
  pub time : ℕ

abbrev pub no_file : File
no_file = record { bytes = []; time = 0 }

-- a lock of updates and removals of the boundary, and one of removals of versions
pub data Lock : Type 0 where
  OfBoundary : Lock
  OfVersions : Lock

abbrev pub same_lock : Lock → Lock → Bool
same_lock OfBoundary OfBoundary = true
same_lock OfVersions OfVersions = true
same_lock _ _ = false

-- Files have numbers of their own, and may have several names. Each file is made by a call, whose number it has. A lock is held by a call, alone.
pub record Folder : Type 0 where
  pub names : Name → Option ℕ
  pub files : ℕ → File
  pub locks : Lock → Option ℕ

-- the names, where one is another file's, or none's
abbrev pub renamed : (Name → Option ℕ) → Name → Option ℕ → Name → Option ℕ
renamed names name file other = if same_name other name then file else names other

-- the files, where one is another
abbrev pub rewritten : (ℕ → File) → ℕ → File → ℕ → File
rewritten files number file other = if other == number then file else files other

-- the locks, where one is held by another call, or by none
abbrev pub relocked : (Lock → Option ℕ) → Lock → Option ℕ → Lock → Option ℕ
relocked locks lock holder other = if same_lock other lock then holder else locks other

-- what a call asks of the file system
pub data Ask : Type 0 where
  -- reads the clock, and makes a number of it
  Draw : Ask
  -- makes a new file under the call's temporary name, where nothing has that name
  Make : Ask
  -- writes the bytes to the call's own file
  Write : (bytes : List ℕ) → Ask
  -- sets the time of change of the call's own file
  SetTime : (number : ℕ) → Ask
  -- gives the file that has the temporary name the name of a place too, where nothing has that
  Link : (place : Place) → Ask
  -- gives the name of a place to the file that has the temporary name, whatever had it
  Rename : (place : Place) → Ask
  -- removes a name
  Unlink : (name : Name) → Ask
  -- looks a name up, or opens what has it: which file that is, and its time
  Find : (name : Name) → Ask
  -- reads an open file to its end, and its time
  Read : (file : ℕ) → Ask
  -- tries a lock
  Take : (lock : Lock) → Ask
  -- lets a lock go
  Let : (lock : Lock) → Ask
  -- makes files or names last
  Sync : Ask

-- what it is told
pub data Told : Type 0 where
  Done : Told
  -- a part was written
  More : Told
  -- something has the name, or another the lock
  Taken : Told
  Missing : Told
  -- the file is none any more
  Gone : Told
  Holds : (file time : ℕ) → Told
  Says : (bytes : List ℕ) (time : ℕ) → Told
  Number : (number : ℕ) → Told
  Error : Told

-- How the step goes: as it was asked; with this number of the clock; so many bytes are written; the file that is opened or read is none any more, as a network can have it; it fails before its effect; or it is answered with an error, and had its effect.
pub data Way : Type 0 where
  Plainly : Way
  Draws : (number : ℕ) → Way
  Partly : (count : ℕ) → Way
  Stale : Way
  Early : Way
  Late : Way

abbrev pub with_name : Folder → Name → Option ℕ → Folder
with_name f name file = record { names = renamed f.names name file; files = f.files; locks = f.locks }

abbrev pub with_file : Folder → ℕ → File → Folder
with_file f number file = record { names = f.names; files = rewritten f.files number file; locks = f.locks }

abbrev pub with_lock : Folder → Lock → Option ℕ → Folder
with_lock f lock holder = record { names = f.names; files = f.files; locks = relocked f.locks lock holder }

-- making a file
abbrev pub made : Folder → ℕ → Option ℕ → Folder
made f call (Some file) = f
made f call None = with_name (with_file f call no_file) (Temporary call) (Some call)

-- linking what has the temporary name to a place's name, by what has that now
abbrev pub linked : Folder → Place → Option ℕ → Option ℕ → Folder
linked f place None now = f
linked f place (Some file) (Some other) = f
linked f place (Some file) None = with_name f (At place) (Some file)

-- renaming what has the temporary name over a place's name
abbrev pub moved : Folder → ℕ → Place → Option ℕ → Folder
moved f call place None = f
moved f call place (Some file) = with_name (with_name f (At place) (Some file)) (Temporary call) None

-- taking a lock
abbrev pub locked : Folder → ℕ → Lock → Option ℕ → Folder
locked f call lock (Some other) = f
locked f call lock None = with_lock f lock (Some call)

-- letting a lock go, by who holds it
abbrev pub let_go : Folder → ℕ → Lock → Option ℕ → Folder
let_go f call lock None = f
let_go f call lock (Some holder) = if holder == call then with_lock f lock None else f

-- the folder after a call had what it asked
abbrev pub done : ℕ → Ask → Folder → Folder
done call Make f = made f call (f.names (Temporary call))
done call (Write bytes) f = with_file f call (record { bytes = bytes; time = (f.files call).time })
done call (SetTime number) f = with_file f call (record { bytes = (f.files call).bytes; time = number })
done call (Link place) f = linked f place (f.names (Temporary call)) (f.names (At place))
done call (Rename place) f = moved f call place (f.names (Temporary call))
done call (Unlink name) f = with_name f name None
done call (Take lock) f = locked f call lock (f.locks lock)
done call (Let lock) f = let_go f call lock (f.locks lock)
done call _ f = f

-- what it is told, by what has the name
abbrev pub made_told : Option ℕ → Told
made_told (Some file) = Taken
made_told None = Done

abbrev pub linked_told : Option ℕ → Option ℕ → Told
linked_told None now = Missing
linked_told (Some file) (Some other) = Taken
linked_told (Some file) None = Done

abbrev pub there_told : Option ℕ → Told
there_told None = Missing
there_told (Some file) = Done

abbrev pub found_told : Folder → Option ℕ → Told
found_told f None = Missing
found_told f (Some file) = Holds file (f.files file).time

abbrev pub told : ℕ → Ask → Folder → Told
told call Draw f = Error
told call Make f = made_told (f.names (Temporary call))
told call (Link place) f = linked_told (f.names (Temporary call)) (f.names (At place))
told call (Rename place) f = there_told (f.names (Temporary call))
told call (Unlink name) f = there_told (f.names name)
told call (Find name) f = found_told f (f.names name)
told call (Read file) f = Says (f.files file).bytes (f.files file).time
told call (Take lock) f = made_told (f.locks lock)
told call _ f = Done

-- a step that takes another way than it was asked for: a part of the bytes
abbrev pub partly : ℕ → Ask → ℕ → Folder → Folder
partly call (Write bytes) count f = with_file f call (record { bytes = take count bytes; time = (f.files call).time })
partly call _ count f = f

abbrev pub partly_told : Ask → Told
partly_told (Write bytes) = More
partly_told _ = Error

-- a file that is none any more
abbrev pub stale_told : Ask → Told
stale_told (Find name) = Gone
stale_told (Read file) = Gone
stale_told _ = Error

-- the number of a clock
abbrev pub drawn_told : Ask → ℕ → Told
drawn_told Draw number = Number number
drawn_told _ number = Error

-- the folder after a step
abbrev pub after_step : ℕ → Ask → Way → Folder → Folder
after_step call ask Plainly f = done call ask f
after_step call ask (Draws number) f = f
after_step call ask (Partly count) f = partly call ask count f
after_step call ask Stale f = f
after_step call ask Early f = f
after_step call ask Late f = done call ask f

-- what the step tells
abbrev pub step_told : ℕ → Ask → Way → Folder → Told
step_told call ask Plainly f = told call ask f
step_told call ask (Draws number) f = drawn_told ask number
step_told call ask (Partly count) f = partly_told ask
step_told call ask Stale f = stale_told ask
step_told call ask Early f = Error
step_told call ask Late f = Error
