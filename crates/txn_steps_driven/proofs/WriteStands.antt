-- What an ended write makes of what files and held versions stand for.
use Rattle.std.proofs.Common.{◌≡◌, ◌⊎◌, ℕ, ◌+◌, ◌^◌, ◌<◌, ◌≤◌, List, [], ◌∷◌, ◌++◌, length, Contains, Option, Some, Result, Ok, Err, sym, subst, inl, inr, arith}
use Rattle.std.specs.FinMap as map
use Rattle.std.proofs.lemmas.Bool.{cases_eq}
use Rattle.txn_store.specs.Paths.{Segments}
use Rattle.txn_store.specs.VersionName.{Names, version_path}
use Rattle.txn_store.specs.Store.{Files, State, Kept}
use Rattle.txn_store.specs.declared.store.Got.{Got}
use Rattle.txn_store.specs.declared.store.StoreError.TheVariants as errors
use Rattle.txn_store.specs.types.Numbers.{number_of}
use Rattle.txn_store.specs.declared.types.error.TransactionalObjectError.{TransactionalObjectError}
use Rattle.txn_store.specs.declared.types.error.TransactionalObjectError.TheVariants as kinds
use Rattle.txn_steps.specs.declared.boundary.caches.Cached.{Cached}
use Rattle.txn_steps.specs.boundary.Windows.{kept}
use Rattle.txn_steps_driven.specs.Calls.{SameBut}
use Rattle.txn_steps_driven.specs.Standing.{FilesStand, WindowFits}
use Rattle.txn_steps_driven.specs.WriteRuns.{Creates, WriteLeaves, TellsName, WriteEnds, VersionsStand, WriteStands, Written}
use Rattle.txn_steps_driven.proofs.Effects.{fenced_or_new, newest_stands, again_stands, window_grown, carried_newest, carried_again, placed-others, placed-given}
use Rattle.txn_steps_driven.proofs.Frames.{FilesStand-kept, same_at-kept, same_but-kept, kept-refl}
use Rattle.txn_steps_driven.proofs.Windows.{kept_fits}

-- nothing was done, or the create took effect
done_or_not : (path : Segments) (bytes : List ℕ) (id : ℕ) (old new : State) (latest latest' : List Cached) (stored : Option Got) (result : Result ℕ TransactionalObjectError) → WriteLeaves path bytes id old new latest latest' result → TellsName stored result → Kept old new ⊎ Creates path bytes old new
done_or_not path bytes id old new latest latest' stored (Ok n) leaves name = inr leaves.1
done_or_not path bytes id old new latest latest' stored (Err (kinds.ObjectStoreError errors.Failed)) leaves name = leaves.0
done_or_not path bytes id old new latest latest' stored (Err (kinds.ObjectStoreError errors.TokensExhausted)) leaves name = inl leaves.0
done_or_not path bytes id old new latest latest' stored (Err (kinds.ObjectStoreError error)) leaves name = absurd name
done_or_not path bytes id old new latest latest' stored (Err kinds.ObjectVersionExists) leaves name = inl leaves.0
done_or_not path bytes id old new latest latest' stored (Err kinds.NoMemory) leaves name = inl leaves.0
done_or_not path bytes id old new latest latest' stored (Err kinds.IdExhausted) leaves name = inl (kept-refl old new leaves.0)
done_or_not path bytes id old new latest latest' stored (Err error) leaves name = absurd name

others_by : (path : Segments) (bytes : List ℕ) (old new : State) → Kept old new ⊎ Creates path bytes old new → SameBut path old new
others_by path bytes old new (inl kept) = same_but-kept path old new kept
others_by path bytes old new (inr creates) = placed-others path bytes creates.token old new creates.placed

given_by : (path : Segments) (bytes : List ℕ) (old new : State) → Kept old new ⊎ Creates path bytes old new → (token : ℕ) → Contains old.given token → Contains new.given token
given_by path bytes old new (inl kept) = (same_at-kept path old new kept).given
given_by path bytes old new (inr creates) = placed-given path bytes creates.token old new creates.placed

module _ {T : Type 0} (names : Names) (decode : List ℕ → Option T) (bytes : List ℕ) (value : T) (base : ℕ) (old new : State) (latest latest' : List Cached) (reads : decode bytes ≡ Some value) (last : base + 1 < 2 ^ 64) (h : List T) (b : ℕ) (stand : FilesStand names decode old.files h b) (fits : WindowFits decode h b latest) (most : base ≤ length h) where
  abbrev path : Segments
  path = version_path names (base + 1)

  abbrev Stands : List Cached → List T → Type 0
  Stands window history = VersionsStand names decode new.files window history b

  stays : Kept old new → (window : List Cached) → WindowFits decode h b window → Stands window h
  stays kept window holds = record { files_stand = FilesStand-kept names decode h b old new kept stand; window_fits = holds }

  -- after the create
  grows : Creates path bytes old new → base ≡ length h → FilesStand names decode new.files (h ++ value ∷ []) b
  grows creates is = subst (λ (f : Files). FilesStand names decode f (h ++ value ∷ []) b) (sym creates.placed.files) (newest_stands names decode old.files h b value (base + 1) _ creates.free reads last (omega arith) stand (omega (arith, is)))

  again : Creates path bytes old new → base + 1 ≤ b → FilesStand names decode new.files h b
  again creates fenced = subst (λ (f : Files). FilesStand names decode f h b) (sym creates.placed.files) (again_stands names decode old.files h b value (base + 1) _ creates.free reads last (omega arith) stand fenced)

  fenced_by : (creates : Creates path bytes old new) → (base ≡ length h → ⊥) → base + 1 ≤ b
  fenced_by creates other = fenced_or_new names decode old.files h b value (base + 1) (record { bytes = bytes; token = creates.token }) creates.free reads last (omega arith) stand (omega (arith, most, other))

  abbrev version : Cached
  version = record { id = base + 1; bytes = bytes }

  wrote : Creates path bytes old new → latest' ≡ kept version latest → ((base ≡ length h) × Stands latest' (h ++ value ∷ [])) ⊎ ((base + 1 ≤ b) × Stands latest' h)
  wrote creates keeps = elim (cases_eq base (length h)) [
    | inl is ↦ inl (
      is,
      record {
        files_stand = grows creates is;
        window_fits = subst (WindowFits decode (h ++ value ∷ []) b) (sym keeps) (kept_fits decode (h ++ value ∷ []) b version latest (carried_newest decode h b value (base + 1) bytes (omega (arith, is)) reads) (window_grown decode h b value latest fits));
      },
    )
    | inr other ↦
        let fenced = fenced_by creates other in
        let below = stand.below in
        inr (
          fenced,
          record {
            files_stand = again creates fenced;
            window_fits = subst (WindowFits decode h b) (sym keeps) (kept_fits decode h b version latest (carried_again decode h b value (base + 1) bytes (omega arith) fenced below reads) fits);
          },
        )
  ]

  -- after a failure of the store
  failed : Kept old new ⊎ Creates path bytes old new → latest' ≡ latest → Stands latest' h ⊎ ((base ≡ length h) × Stands latest' (h ++ value ∷ []))
  failed (inl keeps) same = inl (stays keeps latest' (subst (WindowFits decode h b) (sym same) fits))
  failed (inr creates) same = elim (cases_eq base (length h)) [
    | inl is ↦ inr (is, record { files_stand = grows creates is; window_fits = subst (WindowFits decode (h ++ value ∷ []) b) (sym same) (window_grown decode h b value latest fits) })
    | inr other ↦ inl (record { files_stand = again creates (fenced_by creates other); window_fits = subst (WindowFits decode h b) (sym same) fits })
  ]

  left : Kept old new × (latest' ≡ latest) → Stands latest' h
  left (keeps, same) = stays keeps latest' (subst (WindowFits decode h b) (sym same) fits)

  stands_by : (stored : Option Got) (result : Result ℕ TransactionalObjectError) → WriteLeaves path bytes (base + 1) old new latest latest' result → TellsName stored result → WriteStands names decode h b value base new.files latest' result
  stands_by stored (Ok n) leaves name = wrote leaves.1 leaves.2
  stands_by stored (Err (kinds.ObjectStoreError errors.Failed)) leaves name = failed leaves.0 leaves.1
  stands_by stored (Err (kinds.ObjectStoreError errors.TokensExhausted)) leaves name = left leaves
  stands_by stored (Err (kinds.ObjectStoreError error)) leaves name = absurd name
  stands_by stored (Err kinds.ObjectVersionExists) leaves name = left leaves
  stands_by stored (Err kinds.NoMemory) leaves name = left leaves
  stands_by stored (Err kinds.IdExhausted) leaves name = left (kept-refl old new leaves.0, leaves.1)
  stands_by stored (Err error) leaves name = absurd name

module _ {T : Type 0} (names : Names) (decode : List ℕ → Option T) (base : Option ℕ) (bytes : List ℕ) (value : T) (old new : State) (latest latest' : List Cached) where
  -- a write that began and ended
  pub written : (result : Result ℕ TransactionalObjectError) → decode bytes ≡ Some value → number_of base + 1 < 2 ^ 64 → WriteEnds (version_path names (number_of base + 1)) bytes (number_of base + 1) (number_of base) old new latest latest' result → Written names decode base bytes value old new latest latest' result
  written result reads last ends =
      let path = version_path names (number_of base + 1) in
      let effect = done_or_not path bytes (number_of base + 1) old new latest latest' (map.get old.files path) result ends.leaves ends.name in
      record {
        ends = ends;
        exhausted = λ is. absurd (omega (arith, is, last));
        others = others_by path bytes old new effect;
        given = given_by path bytes old new effect;
        stands = λ h b stand fits most. stands_by names decode bytes value (number_of base) old new latest latest' reads last h b stand fits most (map.get old.files path) result ends.leaves ends.name;
      }
