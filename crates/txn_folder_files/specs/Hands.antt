-- What a step leaves of what a call has in hand.
use Rattle.std.specs.Prelude.{◌≡◌, Bool, true, string_bytes}
use Rattle.txn_folder_files.specs.declared.asked.Told.{Told}
use Rattle.txn_folder_files.specs.declared.asked.Told.TheVariants.{Done}
use Rattle.txn_folder_files.specs.declared.hands.Hands.{Hands}

-- the same file, under the same lock
pub record IsKept {F : Type 0} (old new : Hands F) : Type 0 where
  pub file_is : string_bytes new.file ≡ string_bytes old.file
  pub lock_is : new.lock ≡ old.lock
  pub syncs_is : new.syncs ≡ old.syncs

-- a sync that is done made names last, where that is asked
abbrev pub Lasts : Told → Bool → Bool → Type 0
Lasts Done syncs lasts = syncs ≡ true → lasts ≡ true
Lasts told syncs lasts = Unit {0}
