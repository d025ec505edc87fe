-- What a listing tells, and what is known of the newest version that it told.
use Rattle.std.specs.Prelude.{◌≡◌, ℕ, List, [], ◌∷◌, ◌++◌, Bool, Option, Some, None, IfSome, option_map}
use Rattle.txn_store.specs.Paths.{Segments}
use Rattle.txn_store.specs.VersionName.{Names, version_path}
use Rattle.txn_store.specs.declared.store.ObjectMeta.{ObjectMeta}
use Rattle.txn_folder_files.specs.Names.{known, seen}
use Rattle.txn_folder.specs.Files.{ObjectFiles, version_file}
use Rattle.txn_folder.specs.Pages.{AscendAbove, locations}
use Rattle.txn_folder.specs.Places.{IsToldAt}
use Rattle.txn_folder.specs.declared.lasting.Lasting.{Lasting}
use Rattle.txn_folder.specs.declared.lists.Newest.{Newest}
use Rattle.txn_folder.specs.declared.steps.list.ListAsk.{ListAsk}
use Rattle.txn_folder.specs.declared.steps.list.ListAsk.TheVariants as asks
use Rattle.txn_folder.specs.declared.steps.list.ListTold.{ListTold}
use Rattle.txn_folder.specs.declared.steps.list.ListTold.TheVariants as told
use Rattle.txn_folder.specs.declared.steps.place.Place.TheVariants as places

-- the version is the last one that is told, and there is none where none is told
abbrev pub IsNewest : Names → List ObjectMeta → Option Newest → Type 0
IsNewest names metas None = locations metas ≡ []
IsNewest names metas (Some newest) = (older : List Segments) × (locations metas ≡ older ++ version_path names newest.id ∷ [])

-- its file was seen
abbrev pub WasSeen : ObjectFiles → Option Newest → Type 0
WasSeen o newest = IfSome newest (λ version. known version.name ≡ seen (version_file o version.id))

-- it lasts or is known to, where that is asked
abbrev pub IsToldLast : ObjectFiles → Lasting → Bool → Option Newest → Type 0
IsToldLast o l syncs newest = IfSome newest (λ version. IsToldAt o l syncs (places.Version version.id) None (known version.name))

-- ids that are told of a folder ascend, each above one where that is given
abbrev pub IsShownAbove : Option ℕ → ListTold → Type 0
IsShownAbove after (told.Shown ids) = AscendAbove after ids.items
IsShownAbove after answer = Unit {0}

-- The newest version that was seen, after an answer: the one whose file was there, none where a look found none or what it tells may not last.
abbrev pub seen_after : ListAsk → ListTold → Option ℕ → Option ℕ
seen_after (asks.Look id) (told.Holds size time) newest = Some id
seen_after (asks.Look id) answer newest = None
seen_after asks.Sync told.Done newest = newest
seen_after asks.Sync answer newest = None
seen_after ask answer newest = newest

abbrev pub id_of : Newest → ℕ
id_of newest = newest.id

abbrev pub newest_id : Option Newest → Option ℕ
newest_id newest = option_map id_of newest

-- What is known of its name: it was seen, and once that was made to last it lasts or is known to, where that is asked.
abbrev pub IsKnownAfter : ObjectFiles → Lasting → Bool → ListAsk → ListTold → Option Newest → Type 0
IsKnownAfter o l syncs asks.Sync told.Done newest = IsToldLast o l syncs newest
IsKnownAfter o l syncs asks.Sync answer newest = Unit {0}
IsKnownAfter o l syncs ask answer newest = WasSeen o newest

-- only what makes names last adds to what is known to last
abbrev pub IsLastingKept : ListAsk → Lasting → Lasting → Type 0
IsLastingKept asks.Sync old new = Unit {0}
IsLastingKept ask old new = new ≡ old
