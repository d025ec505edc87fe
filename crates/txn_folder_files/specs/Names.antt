-- What is known of files and of names.
use Rattle.std.specs.Prelude.{◌≡◌, ℕ, List, Bool, true, false, string_bytes}
use Rattle.txn_folder_files.specs.declared.lock.Sharing.{Sharing}
use Rattle.txn_folder_files.specs.declared.lock.Lock.{Lock}
use Rattle.txn_folder_files.specs.declared.new_file.Written.{Written}
use Rattle.txn_folder_files.specs.declared.name.Name.{Name}

-- a lock is held of this name, alone or with others
pub record IsHeld {F : Type 0} (name : List ℕ) (sharing : Sharing) (lock : Lock F) : Type 0 where
  pub held : lock.is_held ≡ true
  pub name_is : string_bytes lock.name ≡ name
  pub sharing_is : lock.sharing ≡ sharing

-- a file was written whole, with this number as its time, and synced since or not
pub record IsWritten (number : ℕ) (synced : Bool) (written : Written) : Type 0 where
  pub number_is : written.number ≡ number
  pub synced_is : written.is_synced ≡ synced

-- What is known of a name that was seen: whether its folder was synced since.
pub record Known : Type 0 where
  pub file : List ℕ
  pub lasts : Bool

-- the name of a lock
abbrev pub lock_name : {F : Type 0} → Lock F → List ℕ
lock_name lock = string_bytes lock.name

-- what is known of a name
abbrev pub known : Name → Known
known n = record { file = string_bytes n.file; lasts = n.lasts }

-- the same, once the name lasts
abbrev pub lasting : Known → Known
lasting k = record { file = k.file; lasts = true }

-- what is known of a name that was seen just now
abbrev pub seen : List ℕ → Known
seen file = record { file = file; lasts = false }
