-- A schedule up to a moment: what happens later changes nothing before.
use Rattle.std.proofs.Common.{◌≡◌, ℕ, zero, suc, ◌<◌, ◌≤◌, if◌then◌else◌, Bool, true, false, List, [], ◌∷◌, None, refl, ap, sym, subst, ◌∙◌, arith}
use Rattle.std.specs.Prelude.{nat_lt, ◌&&◌}
use Rattle.std.proofs.lemmas.Bool.{lt-ltb, ltb-true}
use Rattle.txn_store.specs.VersionName.{Names}
use Rattle.txn_folder.specs.steps.Folders.{OfVersions}
use Rattle.txn_folder.specs.steps.Listing.{ListAsk, SeeFolder, Scan, SeeFile, ListTold, Missing, Shown, Holds, Paging, ListSees, ListScans, ListLooks, list_asked, list_turned}
use Rattle.txn_folder.specs.steps.Steps.{Phase, Is, Ends}
use Rattle.txn_folder_model.specs.Worlds.{World, Event, Clean, MayHappen, after, world}
use Rattle.txn_folder_model.specs.Listings.{stands, is_over, IsScanOf, IsShared, Listing}
use Rattle.txn_folder_model.proofs.Ghosts.{RisesIn, effect_of}
use Rattle.txn_folder_model.specs.Runs.{ListingStep, IsFileAt, IsToldOf, HasLock, GoesOn, IsRun}

-- the events before a moment, and then none that matters
abbrev pub until : ℕ → (ℕ → Event) → ℕ → Event
until p events t = if nat_lt t p then events t else Clean 0

pub same_until : (floor : ℕ) (events : ℕ → Event) (p t : ℕ) → t ≤ p → world floor (until p events) t ≡ world floor events t
same_until floor events p zero low = refl
same_until floor events p (suc t) low =
    let one : until p events t ≡ events t = ap (λ (b : Bool). if b then events t else Clean 0) (lt-ltb t p (omega (arith, low))) in
    ap (λ (e : Event). after floor t e (world floor (until p events) t)) one ∙ ap (λ (w : World). after floor t (events t) w) (same_until floor events p t (omega (arith, low)))

pub may_until : (floor : ℕ) (events : ℕ → Event) → ((t : ℕ) → MayHappen floor (events t)) → (p t : ℕ) → MayHappen floor (until p events t)
may_until floor events may p t = by (nat_lt t p)
  where
    by : (b : Bool) → MayHappen floor (if b then events t else Clean 0)
    by true = may t
    by false = tt

pub rises_until : (floor : ℕ) (events : ℕ → Event) (p : ℕ) → ((t : ℕ) → t < p → RisesIn (effect_of (world floor events t) (events t))) → (t : ℕ) → RisesIn (effect_of (world floor (until p events) t) (until p events t))
rises_until floor events p rises t = by (nat_lt t p) refl
  where
    by : (b : Bool) → nat_lt t p ≡ b → RisesIn (effect_of (world floor (until p events) t) (if b then events t else Clean 0))
    by true is =
        let low = ltb-true t p is in
        subst (λ (u : World). RisesIn (effect_of u (events t))) (sym (same_until floor events p t (omega (arith, low)))) (rises t low)
    by false is = tt

-- a run of a listing ends no earlier than it goes on
module _ (names : Names) (w : ℕ → World) (l : Listing) where
  pub ends_by : (steps : List ListingStep) (now : ℕ) (phase : Phase Paging) → GoesOn names w l now phase steps → now ≤ l.ended
  ends_by [] now (Is state) goes = absurd goes
  ends_by [] now (Ends verdict) goes = goes.1
  ends_by (step ∷ steps) now (Is state) goes =
      let low = goes.0 in let takes = goes.1 in
      let more = ends_by steps step.to (list_turned names l.after l.limit state step.told) goes.4 in
      omega (arith, low, takes, more)
  ends_by (step ∷ steps) now (Ends verdict) goes = absurd goes

  pub run_ends : IsRun names w l → l.began ≤ l.ended
  run_ends run = ends_by run.steps l.began (Is ListSees) run.goes

-- It is a run beside other worlds too that are the same before a moment after its end.
module _ (names : Names) (w v : ℕ → World) (l : Listing) (m : ℕ) (same : (t : ℕ) → t < m → w t ≡ v t) (ended : l.ended < m) where
  scan_same : (from to : ℕ) (ids : List ℕ) → to < m → IsScanOf w l.after from to ids → IsScanOf v l.after from to ids
  scan_same from to ids low scan = record {
    ascend = scan.ascend;
    all = λ id h. scan.all id (λ s since until. subst (λ (u : World). (is_over l.after id && stands u id) ≡ true) (sym (same s (omega (arith, until, low)))) (h s since until));
    only = λ id has. (
        let it = scan.only id has in
        let past = it.2 in
        (it.0, it.1, it.2, subst (λ (u : World). (is_over l.after id && stands u id) ≡ true) (same it.0 (omega (arith, past, low))) it.3));
  }

  shared_same : (from to : ℕ) → to < m → IsShared w from to → IsShared v from to
  shared_same from to low shared s since until = subst (λ (u : World). u.folder.locks OfVersions ≡ None) (same s (omega (arith, until, low))) (shared s since until)

  lock_same : (state : Paging) (from to : ℕ) → to < m → HasLock names w l state from to → HasLock names v l state from to
  lock_same (ListScans scanning) from to low lock = shared_same from to low lock
  lock_same (ListLooks id ids metas more) from to low lock = shared_same from to low lock
  lock_same state from to low lock = lock

  told_same : (ask : ListAsk) (from to : ℕ) (told : ListTold) → to < m → IsToldOf names w l ask from to told → IsToldOf names v l ask from to told
  told_same SeeFolder from to Missing low so = let past = so.2 in (so.0, so.1, so.2, λ id. subst (λ (u : World). stands u id ≡ false) (same so.0 (omega (arith, past, low))) (so.3 id))
  told_same Scan from to (Shown ids) low so = (scan_same from to ids low so.0, so.1)
  told_same (SeeFile id) from to (Holds size time) low so = let past = so.2 in (so.0, so.1, so.2, subst (λ (u : World). IsFileAt u id size time) (same so.0 (omega (arith, past, low))) so.3)
  told_same ask from to told low so = so

  goes_same : (steps : List ListingStep) (now : ℕ) (phase : Phase Paging) → GoesOn names w l now phase steps → GoesOn names v l now phase steps
  goes_same [] now (Is state) goes = goes
  goes_same [] now (Ends verdict) goes = goes
  goes_same (step ∷ steps) now (Is state) goes =
      let end = ends_by names w l steps step.to (list_turned names l.after l.limit state step.told) goes.4 in (
        goes.0,
        goes.1,
        lock_same state now step.to (omega (arith, end, ended)) goes.2,
        told_same (list_asked state) step.from step.to step.told (omega (arith, end, ended)) goes.3,
        goes_same steps step.to (list_turned names l.after l.limit state step.told) goes.4,
      )
  goes_same (step ∷ steps) now (Ends verdict) goes = goes

  pub run_same : IsRun names w l → IsRun names v l
  run_same run = record { steps = run.steps; goes = goes_same run.steps l.began (Is ListSees) run.goes; after_fits = run.after_fits }
