-- The files of places, and what is known of their names after a call.
use Rattle.std.specs.Prelude.{◌≡◌, ◌||◌, ℕ, Bool, true, false, List, ◌++◌, Option, codes}
use Rattle.txn_folder_files.specs.Names.{Known, known}
use Rattle.txn_folder.specs.Files.{ObjectFiles, versions_folder, gc_folder, boundary_file, version_file}
use Rattle.txn_folder.specs.Lasting.{is_known}
use Rattle.txn_folder.specs.declared.lasting.Lasting.{Lasting}
use Rattle.txn_folder.specs.declared.steps.place.Place.{Place}
use Rattle.txn_folder.specs.declared.steps.place.Place.TheVariants as places

-- the file at a place
abbrev pub place_file : ObjectFiles → Place → List ℕ
place_file o (places.Version id) = version_file o id
place_file o places.Boundary = boundary_file o

-- the folder of the file at a place
abbrev pub place_folder : ObjectFiles → Place → List ℕ
place_folder o (places.Version id) = versions_folder o
place_folder o places.Boundary = gc_folder o

-- the lock of a file's updates
abbrev pub update_lock : ObjectFiles → Place → List ℕ
update_lock o place = place_file o place ++ codes "#0"

-- the lock that removals of versions take alone, and listings with one another
abbrev pub versions_lock : ObjectFiles → List ℕ
versions_lock o = versions_folder o ++ codes "/#0"

-- the lock of the removal of the file at a place
abbrev pub removal_lock : ObjectFiles → Place → List ℕ
removal_lock o (places.Version id) = versions_lock o
removal_lock o places.Boundary = update_lock o places.Boundary

-- What is told of a place lasts, where that is asked: it is known to, or its folder was synced since it was seen.
abbrev pub LastsOrIsKnown : Lasting → Bool → Place → Option ℕ → Bool → Type 0
LastsOrIsKnown l false place number lasts = Unit {0}
LastsOrIsKnown l true place number lasts = (lasts || is_known l place number) ≡ true

-- A file was seen at a place, and lasts or is known to, where that is asked.
pub record IsToldAt (o : ObjectFiles) (l : Lasting) (syncs : Bool) (place : Place) (number : Option ℕ) (k : Known) : Type 0 where
  pub file_is : k.file ≡ place_file o place
  pub lasts_or_known : LastsOrIsKnown l syncs place number k.lasts
