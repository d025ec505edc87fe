-- What a repair finds, and what it removes.
use Rattle.std.specs.Prelude.{◌≡◌, ℕ, nat_lt, Bool, List, [], ◌∷◌, ◌++◌, reverse, map, Option, Some, None, IsSome, option_map, Result, Ok, Err, if◌then◌else◌}
use Rattle.std.specs.List.Sorted.{IsStrictlyIncreasing}
use Rattle.txn_folder_files.specs.Removed.{Gone, removed}
use Rattle.txn_folder.specs.Files.{ObjectFiles, version_file}
use Rattle.txn_folder.specs.Places.{versions_lock}
use Rattle.txn_folder.specs.declared.judged.Whole.{Whole}
use Rattle.txn_folder.specs.declared.judged.Torn.{Torn}
use Rattle.txn_folder.specs.declared.judged.Judged.{Judged}
use Rattle.txn_folder.specs.declared.judged.Judged.TheVariants as judges
use Rattle.txn_folder.specs.declared.tear.Tear.{Tear}
use Rattle.txn_folder.specs.declared.repair.Kept.{Kept}
use Rattle.txn_folder.specs.declared.repair.Kept.TheVariants as kept_for
use Rattle.txn_folder.specs.declared.repair.Repair.{Repair}
use Rattle.txn_folder.specs.declared.repair.Repair.TheVariants as repairs
use Rattle.txn_folder.specs.declared.repair.Repaired.{Repaired}
use Rattle.txn_folder.specs.declared.repair.Repaired.TheVariants as ends

-- a version of this id was read, as a value or as none
abbrev pub IsJudged : {T : Type 0} → Option T → ℕ → Judged → Type 0
IsJudged decoded id (judges.Whole whole) = (whole.id ≡ id) × IsSome decoded
IsJudged decoded id (judges.Torn torn) = (torn.id ≡ id) × (decoded ≡ None)

-- the id of a version that was read
abbrev pub judged_id : Judged → ℕ
judged_id (judges.Whole whole) = whole.id
judged_id (judges.Torn torn) = torn.id

abbrev pub torn_id : Torn → ℕ
torn_id torn = torn.id

abbrev pub whole_id : Whole → ℕ
whole_id whole = whole.id

-- the ids of the torn versions, the greatest first
abbrev pub torn_ids : Tear → List ℕ
torn_ids tear = map torn_id tear.torn.items

-- the id of the newest version that reads as a value
abbrev pub newest_id : Tear → Option ℕ
newest_id tear = option_map whole_id tear.newest

-- Of the versions of these ids the torn ones, the greatest first, are just those above the newest that reads as a value; where none does, they are all.
abbrev pub AreAbove : List ℕ → Option ℕ → List ℕ → Type 0
AreAbove ids None torn = ids ≡ reverse torn
AreAbove ids (Some newest) torn = (older : List ℕ) × (ids ≡ older ++ newest ∷ reverse torn)

-- the same of what was read
abbrev pub IsTear : List ℕ → Tear → Type 0
IsTear ids tear = AreAbove ids (newest_id tear) (torn_ids tear)

-- The id at which the object goes on once the torn versions are gone, or why they are kept: none is torn, none reads as a value, or the newest that does is not above the boundary.
abbrev pub goes_on_at : List ℕ → Option ℕ → Option ℕ → Result ℕ Kept
goes_on_at [] None boundary = Err kept_for.NoVersion
goes_on_at [] (Some newest) boundary = Err (kept_for.NothingTorn newest)
goes_on_at (id ∷ ids) None boundary = Err kept_for.NoValue
goes_on_at (id ∷ ids) (Some newest) None = Err kept_for.NoBoundary
goes_on_at (id ∷ ids) (Some newest) (Some boundary) = if nat_lt boundary newest then Ok newest else Err (kept_for.NotAbove newest boundary)

-- The names of these versions were removed, the first first, under the lock of removals. With syncs their folder was synced since.
abbrev pub removed_versions : ObjectFiles → Bool → List ℕ → Gone
removed_versions o syncs ids = record { files = map (version_file o) ids; lock = versions_lock o; lasts = syncs }

-- what was done of torn versions: nothing, or just that
abbrev pub IsDone : {F : Type 0} → ObjectFiles → Bool → List ℕ → Result ℕ Kept → Repaired F → Type 0
IsDone o syncs torn (Err why) (ends.Kept kept) = kept ≡ why
IsDone o syncs torn (Ok at) (ends.Removed newest ids gone) = (newest ≡ at) × (ids.items ≡ torn) × (removed gone ≡ removed_versions o syncs torn)
IsDone o syncs torn decided repaired = ⊥

-- What was done of the versions that stood.
pub record IsRepairedAt {F : Type 0} (o : ObjectFiles) (syncs : Bool) (repaired : Repaired F) : Type 0 where
  pub stood : List ℕ
  pub ascend : IsStrictlyIncreasing stood
  pub torn : List ℕ
  pub newest : Option ℕ
  pub above : AreAbove stood newest torn
  pub boundary : Option ℕ
  pub done : IsDone o syncs torn (goes_on_at torn newest boundary) repaired

-- what is told of it
abbrev pub Says : List ℕ → Result ℕ Kept → Repair → Type 0
Says torn (Err why) (repairs.Kept kept) = kept ≡ why
Says torn (Ok at) (repairs.Removed newest ids) = (newest ≡ at) × (ids.items ≡ torn)
Says torn decided repair = ⊥

-- What a repair tells: of the versions that stood it removed just those above the newest that reads as a value, the greatest first, or none.
pub record IsRepair (repair : Repair) : Type 0 where
  pub stood : List ℕ
  pub ascend : IsStrictlyIncreasing stood
  pub torn : List ℕ
  pub newest : Option ℕ
  pub above : AreAbove stood newest torn
  pub boundary : Option ℕ
  pub says : Says torn (goes_on_at torn newest boundary) repair
