-- A write of a value for a view that runs alone: what it answers of a history.
use Rattle.std.proofs.Common.{◌≡◌, ◌⊎◌, ℕ, ◌+◌, ◌^◌, ◌<◌, ◌≤◌, List, [], ◌∷◌, ◌++◌, length, slice_get, Option, Some, None, IsSome, Result, Ok, Err, refl, sym, subst, inl, inr, arith}
use Rattle.std.specs.FinMap as map
use Rattle.std.proofs.lemmas.List.{length_push}
use Rattle.txn_store.specs.Paths.{Segments}
use Rattle.txn_store.specs.VersionName.{Names, version_path}
use Rattle.txn_store.specs.Store.{State}
use Rattle.txn_store.specs.declared.store.Got.{Got}
use Rattle.txn_store.specs.declared.store.StoreError.TheVariants as errors
use Rattle.txn_store.specs.types.Numbers.{number_of}
use Rattle.txn_store.specs.declared.types.error.TransactionalObjectError.{TransactionalObjectError}
use Rattle.txn_store.specs.declared.types.error.TransactionalObjectError.TheVariants as kinds
use Rattle.txn_steps.specs.declared.boundary.caches.Cached.{Cached}
use Rattle.txn_steps.specs.declared.boundary.caches.CachedBoundary.{CachedBoundary}
use Rattle.txn_steps.specs.declared.write.WriteOp.{WriteOp}
use Rattle.txn_steps_driven.specs.Calls.{SameAt, Spends, HasCause, HasCauseOfCheck, HasCauseOfPut}
use Rattle.txn_steps_driven.specs.Checking.{Checked, Unbounded}
use Rattle.txn_steps_driven.specs.DriveRuns.{Scene}
use Rattle.txn_steps_laws.specs.DrivenChecks.{checked_latest}
use Rattle.txn_steps_laws.specs.DrivenReads.{AllStand}
use Rattle.txn_steps_laws.specs.DrivenWrites.{write_answer, WriteFailed, WriteChecked}
use Rattle.txn_steps_driven.specs.LatestReads.{IsLatest}
use Rattle.txn_steps_driven.specs.Standing.{WindowFits, BoundaryStands}
use Rattle.txn_steps_driven.specs.WriteRuns.{TellsName, VersionsStand, WriteStands, Written}
use Rattle.txn_steps_driven.proofs.CheckSteps.{store_cause_on}
use Rattle.txn_steps_driven.proofs.Frames.{BoundaryStands-frame, FilesStand-kept}
use Rattle.txn_steps_driven.proofs.Windows.{above_fits}
use Rattle.txn_steps_views.specs.declared.outcome.Outcome.TheVariants.{Viewed}
use Rattle.txn_steps_laws.specs.Entering.{IsApart, HasCauseOfEntry, EntryAnswers, EntryStood}
use Rattle.txn_steps_laws.specs.Seen.{entry_seen, seen_as}

-- the last entry of a history with one more

last_entry : {T : Type 0} (h : List T) (value : T) → slice_get (h ++ value ∷ []) (length h) ≡ Some value
last_entry [] value = refl
last_entry (x ∷ h) value = last_entry h value

pub latest_pushed : {T : Type 0} (h : List T) (id : ℕ) (value : T) → id ≡ length h + 1 → IsLatest (h ++ value ∷ []) id value
latest_pushed h id value is = record {
  some = omega (arith, length_push h value);
  id_is = omega (arith, is, length_push h value);
  entry = subst (λ n. slice_get (h ++ value ∷ []) n ≡ Some value) (omega (arith, is)) (last_entry h value);
}

-- the versions that are left by a check are carried where those before it were
checked_fits : {T : Type 0} (decode : List ℕ → Option T) (h : List T) (n id : ℕ) (checked : Result (Unit {0}) TransactionalObjectError) (latest : List Cached) → WindowFits decode h n latest → WindowFits decode h n (checked_latest id checked latest)
checked_fits decode h n id (Ok accepted) latest fits = fits
checked_fits decode h n id (Err kinds.ObjectVersionExists) latest fits = above_fits decode h n id latest fits
checked_fits decode h n id (Err error) latest fits = fits

-- why it failed, since an earlier store

pub cause_since : (old mid new : State) (error : TransactionalObjectError) → old.failures ≤ mid.failures → HasCause mid new error → HasCause old new error
cause_since old mid new (kinds.ObjectStoreError error) rise cause = store_cause_on old mid new error rise cause
cause_since old mid new kinds.NoMemory rise cause = cause
cause_since old mid new error rise cause = absurd cause

put_cause : (base : ℕ) (old new : State) (error : TransactionalObjectError) → base + 1 < 2 ^ 64 → HasCauseOfPut base old new error → HasCauseOfEntry old new error
put_cause base old new kinds.ObjectVersionExists last cause = tt
put_cause base old new kinds.IdExhausted last cause = absurd (omega (arith, last, cause))
put_cause base old new error last cause = cause

check_cause : (held : Type 0) (old mid new : State) (error : TransactionalObjectError) → old.failures ≤ mid.failures → (held → ⊥) → HasCauseOfCheck held mid new error → HasCauseOfEntry old new error
check_cause held old mid new kinds.ObjectVersionExists rise stood cause = tt
check_cause held old mid new kinds.InvalidObjectState rise stood cause = absurd (stood cause)
check_cause held old mid new error rise stood cause = cause_since old mid new error rise cause

module _ {T : Type 0} (names : Names) (decode : List ℕ → Option T) (path : Segments) (base : Option ℕ) (bytes : List ℕ) (value : T) (a b : Scene WriteOp) (last : number_of base + 1 < 2 ^ 64) where
  abbrev goal : ℕ
  goal = number_of base + 1

  module _ (apart : IsApart names path) (h : List T) (n : ℕ) (stood : AllStand names decode path a.store a.caches h n) (most : number_of base ≤ length h) where
    -- the write leaves the boundary's file
    same_at : (store : State) (latest : List Cached) (told : Result ℕ TransactionalObjectError) → Written names decode base bytes value a.store store a.caches.latest latest told → SameAt path a.store store
    same_at store latest told written = record { same = written.others path (λ e. apart goal last (sym e)); given = written.given }

    bounded : (store : State) (latest : List Cached) (told : Result ℕ TransactionalObjectError) → Written names decode base bytes value a.store store a.caches.latest latest told → BoundaryStands path a.caches.boundary store n
    bounded store latest told written = BoundaryStands-frame path a.caches.boundary a.store store n (same_at store latest told written) stood.boundary

    abbrev Stands : List T → Type 0
    Stands history = AllStand names decode path b.store b.caches history n

    abbrev Answers : Result ℕ TransactionalObjectError → Type 0
    Answers told = EntryStood names decode path h n (number_of base) value a.store b.store b.caches (seen_as (entry_seen value) told)

    -- the unchecked write failed

    module _ (failed : BoundaryStands path b.caches.boundary b.store n) where
      now : (history : List T) → VersionsStand names decode b.store.files b.caches.latest history n → Stands history
      now history versions = record { files = versions.files_stand; window = versions.window_fits; boundary = failed }

      newer : (got : Option Got) → map.get a.store.files (version_path names goal) ≡ got → IsSome got → number_of base < length h
      newer None is some = absurd (cc)
      newer (Some got) is some = let k = stood.files.known goal got last is in let at = k.1 in omega (arith, at)

      after_error : (error : TransactionalObjectError) → WriteStands names decode h n value (number_of base) b.store.files b.caches.latest (Err error) → TellsName (map.get a.store.files (version_path names goal)) (Err error) → EntryAnswers names decode path h n (number_of base) value b.store b.caches (Err error)
      after_error (kinds.ObjectStoreError errors.Failed) (inl stays) name = inl (now h stays)
      after_error (kinds.ObjectStoreError errors.Failed) (inr grown) name = inr (grown.0, now (h ++ value ∷ []) grown.1)
      after_error kinds.ObjectVersionExists stays name = (newer (map.get a.store.files (version_path names goal)) refl name, now h stays)
      after_error error stays name = inl (now h stays)

    write_failed : (told : Result ℕ TransactionalObjectError) → WriteFailed names decode path base bytes value a b told → Answers told
    write_failed told failed =
        let written = failed.written in
        let boundary = subst (λ (known : Option CachedBoundary). BoundaryStands path known b.store n) (sym failed.same_boundary) (bounded b.store b.caches.latest (Err failed.error) written) in
        subst Answers (sym failed.answer_is) (record {
          answers = after_error boundary failed.error (written.stands h n stood.files stood.window most) written.ends.name;
          cause = put_cause (number_of base) a.store b.store failed.error last written.ends.cause;
        })

    -- its id was checked

    module _ (store : State) (latest : List Cached) (id : ℕ) (written : Written names decode base bytes value a.store store a.caches.latest latest (Ok id)) where
      module _ (checked : Result (Unit {0}) TransactionalObjectError) (check : Checked path goal store b.store a.caches.boundary b.caches.boundary checked) (held : b.caches.latest ≡ checked_latest goal checked latest) where
        left : (history : List T) → VersionsStand names decode store.files latest history n → Stands history
        left history versions = record {
          files = FilesStand-kept names decode history n store b.store check.kept versions.files_stand;
          window = subst (WindowFits decode history n) (sym held) (checked_fits decode history n goal checked latest versions.window_fits);
          boundary = check.stands n (bounded store latest (Ok id) written);
        }

      abbrev CheckedBy : Result (Unit {0}) TransactionalObjectError → Type 0
      CheckedBy checked = Checked path goal store b.store a.caches.boundary b.caches.boundary checked

      left_by : WriteStands names decode h n value (number_of base) store.files latest (Ok id)
      left_by = written.stands h n stood.files stood.window most

      accepted : CheckedBy (Ok tt) → b.caches.latest ≡ latest → EntryAnswers names decode path h n (number_of base) value b.store b.caches (Ok (Viewed goal value))
      accepted check held = elim left_by [
        | inl newest ↦ let is = newest.0 in record { newest = is; stands = left (Ok tt) check held (h ++ value ∷ []) newest.1; shown_is = refl; at = latest_pushed h goal value (omega (arith, is)) }
        | inr fenced ↦ let up = fenced.0 in let over = check.above n (bounded store latest (Ok id) written) in absurd (omega (arith, up, over))
      ]

      other_error : (error : TransactionalObjectError) → CheckedBy (Err error) → b.caches.latest ≡ checked_latest goal (Err error) latest → Stands h ⊎ ((number_of base ≡ length h) × Stands (h ++ value ∷ []))
      other_error error check held = elim left_by [
        | inl newest ↦ inr (newest.0, left (Err error) check held (h ++ value ∷ []) newest.1)
        | inr fenced ↦ inl (left (Err error) check held h fenced.1)
      ]

      refused : CheckedBy (Err kinds.ObjectVersionExists) → b.caches.latest ≡ checked_latest goal (Err kinds.ObjectVersionExists) latest → (number_of base < length h) × Stands h
      refused check held =
          let below = stood.files.below in
          let under = check.fenced refl n (bounded store latest (Ok id) written) in
          elim left_by [
            | inl newest ↦ let is = newest.0 in absurd (omega (arith, is, below, under))
            | inr fenced ↦ let up = fenced.0 in (omega (arith, up, below), left (Err kinds.ObjectVersionExists) check held h fenced.1)
          ]

      by_error : (error : TransactionalObjectError) → CheckedBy (Err error) → b.caches.latest ≡ checked_latest goal (Err error) latest → EntryAnswers names decode path h n (number_of base) value b.store b.caches (Err error)
      by_error kinds.ObjectVersionExists check held = refused check held
      by_error error check held = other_error error check held

      by_check : (checked : Result (Unit {0}) TransactionalObjectError) → CheckedBy checked → b.caches.latest ≡ checked_latest goal checked latest → Answers (write_answer goal checked)
      by_check (Ok accept) check held = record { answers = accepted check held; cause = tt }
      by_check (Err error) check held =
          let rise = written.ends.spends.failures_rise in
          record {
            answers = by_error error check held;
            cause = check_cause (Unbounded path a.caches.boundary store) a.store store b.store error rise (λ none. none n (bounded store latest (Ok id) written)) check.cause;
          }

    write_checked : (told : Result ℕ TransactionalObjectError) → WriteChecked names decode path base bytes value a b told → Answers told
    write_checked told done = subst Answers (sym done.answer_is) (by_check done.store done.latest done.id done.written done.checked done.check done.held)

    pub write_answers : (told : Result ℕ TransactionalObjectError) → WriteFailed names decode path base bytes value a b told ⊎ WriteChecked names decode path base bytes value a b told → Answers told
    write_answers told (inl failed) = write_failed told failed
    write_answers told (inr done) = write_checked told done

  -- two calls of the store at most, and one token
  pub write_spends : (told : Result ℕ TransactionalObjectError) → WriteFailed names decode path base bytes value a b told ⊎ WriteChecked names decode path base bytes value a b told → Spends 2 1 a.store b.store
  write_spends told (inl failed) =
      let s = failed.written.ends.spends in
      let c = s.calls_most in
      record { calls_rise = s.calls_rise; calls_most = omega (arith, c); failures_rise = s.failures_rise; left_falls = s.left_falls; left_least = s.left_least }
  write_spends told (inr done) =
      let s = done.written.ends.spends in
      let t = done.check.spends in
      let c = s.calls_rise in
      let c' = t.calls_rise in
      let d = s.calls_most in
      let d' = t.calls_most in
      let e = s.failures_rise in
      let e' = t.failures_rise in
      let f = s.left_falls in
      let f' = t.left_falls in
      let g = s.left_least in
      let g' = t.left_least in
      record { calls_rise = omega (arith, c, c'); calls_most = omega (arith, d, d'); failures_rise = omega (arith, e, e'); left_falls = omega (arith, f, f'); left_least = omega (arith, g, g') }
