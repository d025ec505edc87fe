-- How the steps of the code of a listing and those of the definitions are one.
use Rattle.std.specs.Prelude.{◌≡◌, ℕ, List, reverse, Ok}
use Rattle.std.specs.List.Sorted.{IsStrictlyIncreasing}
use Rattle.txn_folder.specs.declared.steps.list.ListAsk.{ListAsk}
use Rattle.txn_folder.specs.declared.steps.list.ListAsk.TheVariants as asks
use Rattle.txn_folder.specs.declared.steps.list.ListTold.{ListTold}
use Rattle.txn_folder.specs.declared.steps.list.ListTold.TheVariants as told
use Rattle.txn_folder.specs.declared.steps.list.ListEnd.{ListEnd}
use Rattle.txn_folder.specs.declared.steps.list.ListEnd.TheVariants as ends
use Rattle.txn_folder.specs.declared.steps.list.ListStep.{ListStep}
use Rattle.txn_folder.specs.declared.steps.list.ListStep.TheVariants as lists
use Rattle.txn_folder.specs.declared.steps.list.ListNext.{ListNext}
use Rattle.txn_folder.specs.declared.steps.list.ListNext.TheVariants as nexts
use Rattle.txn_folder.specs.declared.steps.scan.ScanStep.{ScanStep}
use Rattle.txn_folder.specs.declared.steps.scan.ScanStep.TheVariants as scans
use Rattle.txn_folder.specs.declared.steps.scan.ScanNext.{ScanNext}
use Rattle.txn_folder.specs.declared.steps.scan.ScanNext.TheVariants as scan_nexts
use Rattle.txn_folder.specs.steps.Steps.{Verdict, Fails, Phase, Is, Ends}
use Rattle.txn_folder.specs.steps.Listing as listing

-- what a listing asks
abbrev pub list_ask_as : ListAsk → listing.ListAsk
list_ask_as asks.Folder = listing.SeeFolder
list_ask_as asks.Share = listing.Share
list_ask_as asks.Scan = listing.Scan
list_ask_as (asks.Look id) = listing.SeeFile id
list_ask_as asks.Let = listing.LetGo
list_ask_as asks.Sync = listing.SyncTold

-- What it is told. What is no answer to what was asked is an error.
abbrev pub list_told_as : ListAsk → ListTold → listing.ListTold
list_told_as asks.Folder told.Missing = listing.Missing
list_told_as asks.Scan (told.Shown ids) = listing.Shown ids.items
list_told_as (asks.Look id) (told.Holds size time) = listing.Holds size time
list_told_as (asks.Look id) told.Missing = listing.Missing
list_told_as ask told.Done = listing.Done
list_told_as ask other = listing.Error

-- ids that are told ascend
abbrev pub IsAscending : ListTold → Type 0
IsAscending (told.Shown ids) = IsStrictlyIncreasing ids.items
IsAscending other = Unit {0}

-- The search, with what its scans told.
abbrev pub scanning_as : ScanStep → listing.Scanning
scanning_as scans.Once = listing.Once
scanning_as (scans.Twice first) = listing.Twice first.items
scanning_as (scans.Thrice first second) = listing.Thrice first.items second.items

abbrev pub scanned_as : ScanNext → listing.Scanned
scanned_as (scan_nexts.Goes step) = listing.Goes (scanning_as step)
scanned_as (scan_nexts.Settles ids) = listing.Settles ids.items

abbrev pub list_verdict : ListEnd → Verdict
list_verdict (ends.Listed page) = listing.page_ok page.metas page.more
list_verdict ends.Fails = Fails

-- A listing. The ids that are still to be looked up are kept with the last one first.
abbrev pub paging_as : ListStep → listing.Paging
paging_as lists.Sees = listing.ListSees
paging_as lists.Shares = listing.ListShares
paging_as (lists.Scans step) = listing.ListScans (scanning_as step)
paging_as (lists.Looks id rest metas more) = listing.ListLooks id (reverse rest.items) metas.items more
paging_as (lists.Frees end) = listing.ListFrees (list_verdict end)
paging_as (lists.Syncs end) = listing.ListSyncs (list_verdict end)

abbrev pub list_next_as : ListNext → Phase listing.Paging
list_next_as (nexts.Goes step) = Is (paging_as step)
list_next_as (nexts.Ends end) = Ends (list_verdict end)

abbrev pub list_asks : ListStep → ListAsk
list_asks lists.Sees = asks.Folder
list_asks lists.Shares = asks.Share
list_asks (lists.Scans step) = asks.Scan
list_asks (lists.Looks id rest metas more) = asks.Look id
list_asks (lists.Frees end) = asks.Let
list_asks (lists.Syncs end) = asks.Sync
