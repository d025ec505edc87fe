-- The requests that operations on versions make, and what a page of a listing tells.
use Rattle.std.specs.Prelude.{ℕ, ◌-◌, List, length, slice_get, if◌then◌else◌, Option, None}
use Rattle.std.specs.Option.{option_map}
use Rattle.txn_store.specs.Paths.{Segments}
use Rattle.txn_store.specs.VersionName.{Names, version_path}
use Rattle.txn_store.specs.declared.store.ObjectMeta.{ObjectMeta}
use Rattle.txn_store.specs.declared.page.Page.{Page}
use Rattle.txn_store.specs.declared.request.Request.{Request}
use Rattle.txn_store.specs.declared.request.Request.TheVariants as requests

-- a get of a version
abbrev pub version_got : Names → ℕ → Request
version_got names id = requests.Get (version_path names id) None

-- a page of the versions, of so many files at most
abbrev pub version_page : Names → Option Segments → ℕ → Request
version_page names after limit = requests.List names.dir after limit

-- the path of the last of listed files
abbrev pub last_location : List ObjectMeta → Option Segments
last_location metas = option_map (λ meta. meta.location) (slice_get metas (length metas - 1))

-- the path after which the next page begins: none where this page is the last, as is one that tells no file
abbrev pub next_after : Page → Option Segments
next_after page = if page.more then last_location page.metas else None
