-- What the steps of calls tell, and what is told of calls.
use Rattle.std.specs.Prelude.{◌≡◌, ◌<◌, ◌||◌, ◌==◌, ℕ, Bool, true, List, Option, Some, None, unwrap_or, if◌then◌else◌}
use Rattle.txn_store.specs.declared.store.StoreError.TheVariants as errors
use Rattle.txn_folder_files.specs.Hands.{Lasts}
use Rattle.txn_folder_files.specs.declared.asked.Ask.{Ask}
use Rattle.txn_folder_files.specs.declared.asked.Ask.TheVariants as asks
use Rattle.txn_folder_files.specs.declared.asked.Told.{Told}
use Rattle.txn_folder_files.specs.declared.asked.Told.TheVariants as told
use Rattle.txn_folder.specs.steps.Tokens.{place_token}
use Rattle.txn_folder.specs.steps.Steps as steps
use Rattle.txn_folder.specs.declared.steps.place.Place.{Place}
use Rattle.txn_folder.specs.declared.steps.put.PutEnd.{PutEnd}
use Rattle.txn_folder.specs.declared.steps.put.PutEnd.TheVariants as puts

-- A number that is told is above the greatest that was given before, and the greatest since; else that stays.
abbrev pub IsDrawn : Ask → Told → ℕ → ℕ → Type 0
IsDrawn asks.Draw (told.Number number) before after = (before < number) × (number ≡ after)
IsDrawn ask answer before after = after ≡ before

-- A sync that is done made the names in a folder last, where that is asked and is not known.
abbrev pub LastsAt : Told → Bool → Bool → Bool → Type 0
LastsAt answer syncs known lasts = Lasts answer syncs (known || lasts)

-- what is told of a put that ended so: a token, none where it was refused
abbrev pub IsToldOf : Place → List ℕ → PutEnd → Option ℕ → Type 0
IsToldOf place bytes (puts.Put number) (Some token) = token ≡ unwrap_or (place_token place bytes (Some number)) 0
IsToldOf place bytes puts.Refused None = Unit {0}
IsToldOf place bytes end answer = ⊥

-- with syncs a create looks the name up first
abbrev pub create_start : Bool → steps.Creating
create_start syncs = if syncs then steps.LooksFirst else steps.Draws

-- how a create ended of which this is told
abbrev pub created : Option ℕ → steps.Verdict
created (Some token) = steps.put_ok token
created None = steps.put_error errors.AlreadyExists

-- and an update
abbrev pub updated : Option ℕ → steps.Verdict
updated (Some token) = steps.put_ok token
updated None = steps.put_error errors.Precondition

-- the token that is known, but 0, which matches nothing
abbrev pub matched : Option ℕ → Option ℕ
matched None = None
matched (Some token) = if token == 0 then None else Some token
