-- What a holder's calls leave is told by rows, one call after another.
use Rattle.std.proofs.Common.{◌≡◌, ◌≢◌, ◌⊎◌, ℕ, ◌+◌, ◌≤◌, ◌-◌, max, List, length, inl, inr, sym, subst}
use Rattle.txn_store.specs.VersionName.{version_path}
use Rattle.txn_store.specs.Store.{State}
use Rattle.txn_history.specs.Trace.{Row}
use Rattle.slatedb_txn_obj.specs.Leaves.{MayCreate}
use Rattle.slatedb_txn_obj.specs.Protocol.{MayAppend}
use Rattle.txn_manifest.specs.declared.manifest.Manifest.{Manifest}
use Rattle.txn_manifest.specs.Stores.{EntersManifest, StandsBy}
use Rattle.txn_manifest.specs.Text.{manifest_read}
use Rattle.txn_manifest.specs.Tells.{Versions, TellsStore, TellsHolder, TellsBoth, IsNextOf, Collects}
use Rattle.txn_manifest.proofs.Growing.{goes_far}
use Rattle.txn_manifest.proofs.Telling.{enters_told, collects_told}

-- a second call, after a first
pub told_then : (p p' : Versions) (s s' : State) (rows : List (Row Manifest)) (number id id' epoch epoch' : ℕ) (object object' : Manifest) → TellsBoth p s rows number id epoch object → ((after : List (Row Manifest)) → TellsStore p s after → TellsHolder manifest_read after number id epoch object → TellsBoth p' s' after number id' epoch' object') → TellsBoth p' s' rows number id' epoch' object'
told_then p p' s s' rows number id id' epoch epoch' object object' first next =
    let second = next first.rows first.store first.holder in
    record { rows = second.rows; later = goes_far manifest_read (λ other. other ≢ number) rows first.rows second.rows first.later second.later; store = second.store; holder = second.holder }

module _ (p p' : Versions) (s s' : State) (number id id' epoch epoch' : ℕ) (object object' : Manifest) (same : epoch' ≡ epoch) (placed : p'.layout ≡ p.layout) (rows : List (Row Manifest)) (told : TellsStore p s rows) (w : TellsHolder manifest_read rows number id epoch object) where
  -- the epoch of the holder is as it was
  kept_epoch : TellsBoth p' s' rows number id' epoch object' → TellsBoth p' s' rows number id' epoch' object'
  kept_epoch both = subst (λ (e : ℕ). TellsBoth p' s' rows number id' e object') (sym same) both

  -- a manifest was entered
  pub entered_told : (made : Manifest) → IsNextOf id object made → EntersManifest (StandsBy p s) (StandsBy p' s') id id' object object' made → MayCreate (version_path p.layout.names (id + 1)) s s' → ((object.epoch ≡ epoch → ⊥) → ⊥) → TellsBoth p' s' rows number id' epoch' object'
  entered_told made next entered creates own =
      kept_epoch (enters_told p p' s s' rows number id id' epoch object object' made (record { next = next; ends = inl entered; creates = creates; placed = placed; shut = λ other. absurd (own other) }) told w)

  -- or it was not, with an error
  pub refused_told : (made : Manifest) → IsNextOf id object made → id' ≡ id → object' ≡ object → MayAppend (StandsBy p s) (StandsBy p' s') id made → MayCreate (version_path p.layout.names (id + 1)) s s' → ((object.epoch ≡ epoch → ⊥) → (p' ≡ p) × (s' ≡ s)) → TellsBoth p' s' rows number id' epoch' object'
  refused_told made next here object_is may creates shut =
      kept_epoch (enters_told p p' s s' rows number id id' epoch object object' made (record { next = next; ends = inr (here, object_is, may); creates = creates; placed = placed; shut = λ other. (let is = shut other in (is.0, is.1, here, object_is)) }) told w)

  -- versions were collected
  pub collected_told : Collects p p' s s' id id' object object' → TellsBoth p' s' rows number id' epoch' object'
  collected_told c = kept_epoch (collects_told p p' s s' rows number id id' epoch object object' c told w)
