-- What is known of names that were removed one after another.
use Rattle.std.specs.Prelude.{ℕ, List, Bool, true, map, string_bytes}
use Rattle.txn_folder_files.specs.Names.{lock_name}
use Rattle.txn_folder_files.specs.declared.removals.Removals.{Removals}

-- The names, in the order in which they were removed, the lock under which they were, and whether their folders were synced since.
pub record Gone : Type 0 where
  pub files : List (List ℕ)
  pub lock : List ℕ
  pub lasts : Bool

-- what is known of them
abbrev pub removed : {F : Type 0} → Removals F → Gone
removed r = record { files = map string_bytes r.files.items; lock = lock_name r.lock; lasts = r.lasts }

-- the same, once that lasts
abbrev pub lasting : Gone → Gone
lasting g = record { files = g.files; lock = g.lock; lasts = true }
