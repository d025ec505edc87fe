-- How the steps of the code and those of the definitions are one.
use Rattle.std.specs.Prelude.{◌≡◌, ℕ, List, Option, Some, None, IfSome, IsSome, unwrap_or, Ok, Err}
use Rattle.txn_store.specs.types.BoundaryText.{boundary_read}
use Rattle.txn_store.specs.declared.store.StoreError.TheVariants as errors
use Rattle.txn_store.specs.declared.request.Reply.TheVariants as replies
use Rattle.txn_folder_files.specs.declared.asked.Ask.TheVariants as asks
use Rattle.txn_folder_files.specs.declared.asked.Ask.{Ask}
use Rattle.txn_folder_files.specs.declared.asked.Told.TheVariants as told
use Rattle.txn_folder_files.specs.declared.asked.Told.{Told}
use Rattle.txn_folder.specs.declared.steps.place.Place.{Place}
use Rattle.txn_folder.specs.declared.steps.place.Place.TheVariants as places
use Rattle.txn_folder.specs.declared.steps.put.PutEnd.{PutEnd}
use Rattle.txn_folder.specs.declared.steps.put.PutEnd.TheVariants as puts
use Rattle.txn_folder.specs.declared.steps.create.CreateStep.{CreateStep}
use Rattle.txn_folder.specs.declared.steps.create.CreateStep.TheVariants as creates
use Rattle.txn_folder.specs.declared.steps.create.CreateNext.{CreateNext}
use Rattle.txn_folder.specs.declared.steps.create.CreateNext.TheVariants as create_nexts
use Rattle.txn_folder.specs.declared.steps.get.GetEnd.{GetEnd}
use Rattle.txn_folder.specs.declared.steps.get.GetEnd.TheVariants as got
use Rattle.txn_folder.specs.declared.steps.get.GetStep.{GetStep}
use Rattle.txn_folder.specs.declared.steps.get.GetStep.TheVariants as gets
use Rattle.txn_folder.specs.declared.steps.get.GetNext.{GetNext}
use Rattle.txn_folder.specs.declared.steps.get.GetNext.TheVariants as get_nexts
use Rattle.txn_folder.specs.declared.steps.update.UpdateStep.{UpdateStep}
use Rattle.txn_folder.specs.declared.steps.update.UpdateStep.TheVariants as updates
use Rattle.txn_folder.specs.declared.steps.update.UpdateNext.{UpdateNext}
use Rattle.txn_folder.specs.declared.steps.update.UpdateNext.TheVariants as update_nexts
use Rattle.txn_folder.specs.declared.steps.delete.DeleteEnd.{DeleteEnd}
use Rattle.txn_folder.specs.declared.steps.delete.DeleteEnd.TheVariants as deleted
use Rattle.txn_folder.specs.declared.steps.delete.DeleteStep.{DeleteStep}
use Rattle.txn_folder.specs.declared.steps.delete.DeleteStep.TheVariants as deletes
use Rattle.txn_folder.specs.declared.steps.delete.DeleteNext.{DeleteNext}
use Rattle.txn_folder.specs.declared.steps.delete.DeleteNext.TheVariants as delete_nexts
use Rattle.txn_folder.specs.steps.Folders as folders
use Rattle.txn_folder.specs.steps.Steps as steps

abbrev pub place_as : Place → folders.Place
place_as (places.Version id) = folders.Version id
place_as places.Boundary = folders.Boundary

-- What a call asks, of the file at a place with these bytes, under this lock; the file that it has open has this number.
abbrev pub asked_as : ℕ → folders.Place → List ℕ → folders.Lock → ℕ → Ask → folders.Ask
asked_as call place bytes lock file asks.Draw = folders.Draw
asked_as call place bytes lock file (asks.Make number) = folders.Make
asked_as call place bytes lock file asks.Write = folders.Write bytes
asked_as call place bytes lock file (asks.SetTime number) = folders.SetTime number
asked_as call place bytes lock file asks.SyncNew = folders.Sync
asked_as call place bytes lock file asks.Link = folders.Link place
asked_as call place bytes lock file asks.Rename = folders.Rename place
asked_as call place bytes lock file asks.Clean = folders.Unlink (folders.Temporary call)
asked_as call place bytes lock file asks.Remove = folders.Unlink (folders.At place)
asked_as call place bytes lock file asks.LookOwn = folders.Find (folders.Temporary call)
asked_as call place bytes lock file asks.Look = folders.Find (folders.At place)
asked_as call place bytes lock file asks.Open = folders.Find (folders.At place)
asked_as call place bytes lock file asks.Read = folders.Read file
asked_as call place bytes lock file asks.Take = folders.Take lock
asked_as call place bytes lock file asks.Let = folders.Let lock
asked_as call place bytes lock file asks.Sync = folders.Sync

-- What it is told, where the file that it opened has this number, and these bytes were read. What is no answer to what was asked is an error.
abbrev pub told_as : ℕ → List ℕ → Ask → Told → folders.Told
told_as file read asks.Draw (told.Number number) = folders.Number number
told_as file read asks.Look (told.Holds number time) = folders.Holds number time
told_as file read asks.Look told.Missing = folders.Missing
told_as file read asks.LookOwn (told.Holds number time) = folders.Holds number time
told_as file read asks.LookOwn told.Missing = folders.Missing
told_as file read asks.Open told.Opened = folders.Holds file 0
told_as file read asks.Open told.Missing = folders.Missing
told_as file read asks.Open told.Gone = folders.Gone
told_as file read asks.Read (told.Says time) = folders.Says read (unwrap_or time 0)
told_as file read asks.Read told.Gone = folders.Gone
told_as file read asks.Remove told.Missing = folders.Missing
told_as file read ask told.Done = folders.Done
told_as file read ask told.Taken = folders.Taken
told_as file read ask other = folders.Error

-- Numbers of the clock: a step that draws one goes on with the one that it was told, each other with the one that it has.
abbrev pub IsNumberOf : Ask → Told → Option ℕ → Option ℕ → Type 0
IsNumberOf asks.Draw answer old new = IfSome new (λ number. answer ≡ told.Number number)
IsNumberOf ask answer old new = IfSome new (λ number. old ≡ Some number)

-- A put that makes a file.

abbrev pub create_verdict : folders.Place → List ℕ → PutEnd → steps.Verdict
create_verdict place bytes (puts.Put number) = steps.put_ok (steps.token_at place bytes number)
create_verdict place bytes puts.Refused = steps.put_error errors.AlreadyExists
create_verdict place bytes puts.Fails = steps.Fails

abbrev pub creating_as : folders.Place → List ℕ → CreateStep → steps.Creating
creating_as place bytes creates.LooksFirst = steps.LooksFirst
creating_as place bytes creates.Draws = steps.Draws
creating_as place bytes (creates.Makes number) = steps.Makes number
creating_as place bytes (creates.Writes number) = steps.Writes number
creating_as place bytes (creates.SetsTime number) = steps.SetsTime number
creating_as place bytes (creates.SyncsNew number) = steps.SyncsNew number
creating_as place bytes (creates.Links number) = steps.Links number
creating_as place bytes (creates.LooksOwn number taken) = steps.LooksOwn number taken
creating_as place bytes (creates.LooksThere number taken own) = steps.LooksThere number taken own
creating_as place bytes (creates.LooksTaken number) = steps.LooksTaken number
creating_as place bytes (creates.Cleans end) = steps.Cleans (create_verdict place bytes end)
creating_as place bytes (creates.Syncs end) = steps.Syncs (create_verdict place bytes end)

abbrev pub create_next_as : folders.Place → List ℕ → CreateNext → steps.Phase steps.Creating
create_next_as place bytes (create_nexts.Goes step) = steps.Is (creating_as place bytes step)
create_next_as place bytes (create_nexts.Ends end) = steps.Ends (create_verdict place bytes end)

abbrev pub create_asks : CreateStep → Ask
create_asks creates.LooksFirst = asks.Look
create_asks creates.Draws = asks.Draw
create_asks (creates.Makes number) = asks.Make number
create_asks (creates.Writes number) = asks.Write
create_asks (creates.SetsTime number) = asks.SetTime number
create_asks (creates.SyncsNew number) = asks.SyncNew
create_asks (creates.Links number) = asks.Link
create_asks (creates.LooksOwn number taken) = asks.LookOwn
create_asks (creates.LooksThere number taken own) = asks.Look
create_asks (creates.LooksTaken number) = asks.Look
create_asks (creates.Cleans end) = asks.Clean
create_asks (creates.Syncs end) = asks.Sync

-- the number of the file that a put made
abbrev pub end_number : PutEnd → Option ℕ
end_number (puts.Put number) = Some number
end_number end = None

abbrev pub create_number : CreateStep → Option ℕ
create_number (creates.Makes number) = Some number
create_number (creates.Writes number) = Some number
create_number (creates.SetsTime number) = Some number
create_number (creates.SyncsNew number) = Some number
create_number (creates.Links number) = Some number
create_number (creates.LooksOwn number taken) = Some number
create_number (creates.LooksThere number taken own) = Some number
create_number (creates.LooksTaken number) = Some number
create_number (creates.Cleans end) = end_number end
create_number (creates.Syncs end) = end_number end
create_number step = None

abbrev pub create_next_number : CreateNext → Option ℕ
create_next_number (create_nexts.Goes step) = create_number step
create_next_number (create_nexts.Ends end) = end_number end

-- A get. The file that it has open has this number, and these bytes were read.

abbrev pub get_verdict : List ℕ → GetEnd → steps.Verdict
get_verdict read got.NotFound = steps.Tells (replies.Get (Err errors.NotFound))
get_verdict read (got.Got token) = steps.Tells (replies.Get (Ok (record { bytes = read; token = token })))
get_verdict read got.NotModified = steps.Tells (replies.Get (Err errors.NotModified))
get_verdict read got.Fails = steps.Fails

abbrev pub getting_as : ℕ → List ℕ → GetStep → steps.Getting
getting_as file read gets.Looks = steps.Looks
getting_as file read gets.Opens = steps.Opens
getting_as file read gets.Reads = steps.Reads file
getting_as file read (gets.Lasts end) = steps.Lasts (get_verdict read end)

abbrev pub get_next_as : ℕ → List ℕ → GetNext → steps.Phase steps.Getting
get_next_as file read (get_nexts.Goes step) = steps.Is (getting_as file read step)
get_next_as file read (get_nexts.Ends end) = steps.Ends (get_verdict read end)

abbrev pub get_asks : GetStep → Ask
get_asks gets.Looks = asks.Look
get_asks gets.Opens = asks.Open
get_asks gets.Reads = asks.Read
get_asks (gets.Lasts end) = asks.Sync

-- The token that is told of the boundary is the number that its bytes say, 0 where they say none.
abbrev pub GotAt : Place → List ℕ → ℕ → Type 0
GotAt (places.Version id) read token = Unit {0}
GotAt places.Boundary read token = token ≡ unwrap_or (boundary_read read) 0

-- What is told of a get that ends so: such a token, and of a file that is not modified where a token is known.
abbrev pub GotEnd : Place → Option ℕ → List ℕ → GetEnd → Type 0
GotEnd place known read (got.Got token) = GotAt place read token
GotEnd place known read got.NotModified = IsSome known
GotEnd place known read end = Unit {0}

abbrev pub GotIn : Place → Option ℕ → List ℕ → GetStep → Type 0
GotIn place known read (gets.Lasts end) = GotEnd place known read end
GotIn place known read step = Unit {0}

abbrev pub GotNext : Place → Option ℕ → List ℕ → GetNext → Type 0
GotNext place known read (get_nexts.Goes step) = GotIn place known read step
GotNext place known read (get_nexts.Ends end) = GotEnd place known read end

-- An update of the boundary.

abbrev pub update_verdict : List ℕ → PutEnd → steps.Verdict
update_verdict bytes (puts.Put number) = steps.put_ok (steps.token_at folders.Boundary bytes number)
update_verdict bytes puts.Refused = steps.put_error errors.Precondition
update_verdict bytes puts.Fails = steps.Fails

abbrev pub updating_as : ℕ → List ℕ → UpdateStep → steps.Updating
updating_as file bytes updates.Locks = steps.Locks
updating_as file bytes updates.Seeks = steps.Seeks
updating_as file bytes updates.Enters = steps.Enters
updating_as file bytes updates.Compares = steps.Compares file
updating_as file bytes updates.Draws = steps.UpdateDraws
updating_as file bytes (updates.Makes number) = steps.UpdateMakes number
updating_as file bytes (updates.Writes number) = steps.UpdateWrites number
updating_as file bytes (updates.SetsTime number) = steps.UpdateSetsTime number
updating_as file bytes (updates.SyncsNew number) = steps.UpdateSyncsNew number
updating_as file bytes (updates.Renames number) = steps.Renames number
updating_as file bytes (updates.LooksNumber number) = steps.LooksNumber number
updating_as file bytes updates.Cleans = steps.UpdateCleans
updating_as file bytes (updates.Syncs end) = steps.UpdateSyncs (update_verdict bytes end)
updating_as file bytes (updates.Frees end) = steps.Frees (update_verdict bytes end)

abbrev pub update_next_as : ℕ → List ℕ → UpdateNext → steps.Phase steps.Updating
update_next_as file bytes (update_nexts.Goes step) = steps.Is (updating_as file bytes step)
update_next_as file bytes (update_nexts.Ends end) = steps.Ends (update_verdict bytes end)

abbrev pub update_asks : UpdateStep → Ask
update_asks updates.Locks = asks.Take
update_asks updates.Seeks = asks.Look
update_asks updates.Enters = asks.Open
update_asks updates.Compares = asks.Read
update_asks updates.Draws = asks.Draw
update_asks (updates.Makes number) = asks.Make number
update_asks (updates.Writes number) = asks.Write
update_asks (updates.SetsTime number) = asks.SetTime number
update_asks (updates.SyncsNew number) = asks.SyncNew
update_asks (updates.Renames number) = asks.Rename
update_asks (updates.LooksNumber number) = asks.Look
update_asks updates.Cleans = asks.Clean
update_asks (updates.Syncs end) = asks.Sync
update_asks (updates.Frees end) = asks.Let

abbrev pub update_number : UpdateStep → Option ℕ
update_number (updates.Makes number) = Some number
update_number (updates.Writes number) = Some number
update_number (updates.SetsTime number) = Some number
update_number (updates.SyncsNew number) = Some number
update_number (updates.Renames number) = Some number
update_number (updates.LooksNumber number) = Some number
update_number (updates.Syncs end) = end_number end
update_number (updates.Frees end) = end_number end
update_number step = None

abbrev pub update_next_number : UpdateNext → Option ℕ
update_next_number (update_nexts.Goes step) = update_number step
update_next_number (update_nexts.Ends end) = end_number end

-- A delete of a version.

abbrev pub delete_verdict : DeleteEnd → steps.Verdict
delete_verdict deleted.Deleted = steps.delete_ok
delete_verdict deleted.Fails = steps.Fails

abbrev pub deleting_as : DeleteStep → steps.Deleting
deleting_as deletes.Peeks = steps.Peeks
deleting_as deletes.Locks = steps.DeleteLocks
deleting_as deletes.Removes = steps.Removes
deleting_as (deletes.Syncs end) = steps.DeleteSyncs (delete_verdict end)
deleting_as (deletes.Frees end) = steps.DeleteFrees (delete_verdict end)

abbrev pub delete_next_as : DeleteNext → steps.Phase steps.Deleting
delete_next_as (delete_nexts.Goes step) = steps.Is (deleting_as step)
delete_next_as (delete_nexts.Ends end) = steps.Ends (delete_verdict end)

abbrev pub delete_asks : DeleteStep → Ask
delete_asks deletes.Peeks = asks.Look
delete_asks deletes.Locks = asks.Take
delete_asks deletes.Removes = asks.Remove
delete_asks (deletes.Syncs end) = asks.Sync
delete_asks (deletes.Frees end) = asks.Let
