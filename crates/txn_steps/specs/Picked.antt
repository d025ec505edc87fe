-- Those of listed files that are versions within bounds.
use Rattle.std.specs.Prelude.{ℕ, List, [], ◌∷◌, ◌++◌, if◌then◌else◌, Option, Some, None}
use Rattle.std.specs.declared.ops.Bound.{Bound}
use Rattle.txn_store.specs.VersionName.{Names}
use Rattle.txn_store.specs.VersionOf.{version_of}
use Rattle.txn_store.specs.declared.store.ObjectMeta.{ObjectMeta}
use Rattle.txn_store.specs.types.Numbers.{is_within}
use Rattle.txn_steps.specs.Listed.{Listed}

abbrev pub within_or : Bound ℕ → Bound ℕ → Option ℕ → Option ℕ
within_or from to None = None
within_or from to (Some id) = if is_within from to id then Some id else None

-- the id of a listed file that is a version within the bounds
abbrev pub chosen_id : Names → Bound ℕ → Bound ℕ → ObjectMeta → Option ℕ
chosen_id names from to meta = within_or from to (version_of names meta.location)

abbrev pub picked_one : Option ℕ → ObjectMeta → List Listed
picked_one None meta = []
picked_one (Some id) meta = record { id = id; metadata = meta } ∷ []

-- those of listed files that are versions within the bounds
abbrev pub picked : Names → Bound ℕ → Bound ℕ → List ObjectMeta → List Listed
picked names from to [] = []
picked names from to (meta ∷ metas) = picked_one (chosen_id names from to meta) meta ++ picked names from to metas
