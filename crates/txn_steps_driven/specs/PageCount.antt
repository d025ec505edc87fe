-- How many pages a listing takes.
use Rattle.std.specs.Prelude.{ℕ, List, length, max, None}
use Rattle.std.specs.Int.{div_ceil}
use Rattle.std.specs.FinMap as map
use Rattle.txn_store.specs.VersionName.{Names}
use Rattle.txn_store.specs.Store.{Files, listing}
use Rattle.txn_store.specs.declared.store.ObjectMeta.{ObjectMeta}

-- what a listing tells of all files below the directory of the versions, in the order of their paths
abbrev pub files_below : Names → Files → List ObjectMeta
files_below names files = listing names.dir None (map.entries files)

-- so many files on pages of so many: their quotient rounded up, and 1 where there is no file
abbrev pub page_count : ℕ → ℕ → ℕ
page_count page files = max 1 (div_ceil files page)

-- the pages of all files below the directory of the versions
abbrev pub pages_below : Names → ℕ → Files → ℕ
pages_below names page files = page_count page (length (files_below names files))
