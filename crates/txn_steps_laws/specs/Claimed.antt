-- What the calls that make a view a holder leave, where they run alone from their start.
use Rattle.std.specs.Prelude.{◌≡◌, ◌⊎◌, ℕ, ◌+◌, ◌-◌, ◌*◌, ◌^◌, ◌<◌, ◌≤◌, List, [], ◌∷◌, ◌++◌, length, slice_get, Option, Some, None, Result, Ok, Err, IfErr}
use Rattle.txn_store.specs.Paths.{Segments}
use Rattle.txn_store.specs.VersionName.{Names}
use Rattle.txn_store.specs.Store.{State}
use Rattle.txn_store.specs.declared.types.error.TransactionalObjectError.{TransactionalObjectError}
use Rattle.txn_store.specs.declared.types.error.TransactionalObjectError.TheVariants.{Fenced, IdExhausted}
use Rattle.txn_store.specs.types.Epochs.{claimed_epoch}
use Rattle.txn_steps.specs.declared.boundary.caches.Caches.{Caches}
use Rattle.txn_steps_driven.specs.Calls.{HasCause}
use Rattle.txn_steps_driven.specs.DriveRuns.{Scene}
use Rattle.txn_steps_laws.specs.DrivenReads.{AllStand}
use Rattle.txn_steps_driven.specs.LatestReads.{IsLatest}
use Rattle.txn_steps_driven.specs.PageCount.{pages_below}
use Rattle.txn_steps_views.specs.declared.outcome.Outcome.{Outcome}
use Rattle.txn_steps_views.specs.declared.outcome.Outcome.TheVariants.{Viewed, Held, Shut}
use Rattle.txn_steps_laws.specs.Entering.{IsApart}

-- a view of this id and this value is at a version of the history
pub record IsAt {T : Type 0} (h : List T) (id : ℕ) (value : T) : Type 0 where
  pub positive : 1 ≤ id
  pub within : id ≤ length h
  pub entry : slice_get h (id - 1) ≡ Some value

-- `asked` is the epoch that is asked for, if any.
module _ {T : Type 0} (names : Names) (decode : List ℕ → Option T) (path : Segments) (epoch_of : T → ℕ) (with_epoch : T → ℕ → T) (asked : Option ℕ) where
  -- The newest value, with the holder's epoch set, stands straight on it, and the holder's view is at that.
  pub record Claimed (h : List T) (n : ℕ) (store : State) (caches : Caches) (id : ℕ) (held : T) (epoch : ℕ) : Type 0 where
    pub newest : T
    pub latest : IsLatest h (length h) newest
    pub next : claimed_epoch asked (epoch_of newest) ≡ Ok epoch
    pub value : held ≡ with_epoch newest epoch
    pub own : epoch_of held ≡ epoch
    pub stands : AllStand names decode path store caches (h ++ held ∷ []) n
    pub at : IsLatest (h ++ held ∷ []) id held

  -- nothing moved, or the newest value was written with its next epoch
  abbrev pub NotClaimed : List T → ℕ → State → Caches → Type 0
  NotClaimed h n store caches = AllStand names decode path store caches h n ⊎ ((newest : T) × (epoch : ℕ) × IsLatest h (length h) newest × (claimed_epoch asked (epoch_of newest) ≡ Ok epoch) × AllStand names decode path store caches (h ++ with_epoch newest epoch ∷ []) n)

  -- what stands after a claim, by its answer
  abbrev pub ClaimAnswers : List T → ℕ → State → Caches → Result (Outcome T) TransactionalObjectError → Type 0
  ClaimAnswers h n store caches (Ok (Held id held epoch)) = Claimed h n store caches id held epoch
  ClaimAnswers h n store caches (Ok (Viewed id value)) = ⊥
  ClaimAnswers h n store caches (Ok (Shut id value error)) = ⊥
  ClaimAnswers h n store caches (Err error) = NotClaimed h n store caches

  -- the newest version has no next epoch
  abbrev pub IsBlocked : List T → TransactionalObjectError → Type 0
  IsBlocked h error = (newest : T) × IsLatest h (length h) newest × (claimed_epoch asked (epoch_of newest) ≡ Err error)

  -- Why a claim failed: the newest version has no next epoch, or no next id, or a failure with its cause. It is never a conflict.
  abbrev pub HasCauseOfClaim : List T → State → State → TransactionalObjectError → Type 0
  HasCauseOfClaim h old new Fenced = IsBlocked h Fenced
  HasCauseOfClaim h old new IdExhausted = IsBlocked h IdExhausted ⊎ (2 ^ 64 ≤ length h + 1)
  HasCauseOfClaim h old new error = HasCause old new error

  -- a claim that ended, where all stood as it began
  pub record ClaimStood (page : ℕ) (h : List T) (n : ℕ) (old new : State) (caches : Caches) (answer : Result (Outcome T) TransactionalObjectError) : Type 0 where
    pub answers : ClaimAnswers h n new caches answer
    pub cause : IfErr answer (HasCauseOfClaim h old new)
    -- two attempts at most, of two calls each, and a read between them
    pub calls : new.calls ≤ old.calls + 18 + 2 * pages_below names page old.files

  -- A claim on a version of the history. Where all stood it has no answer only where it was given fewer steps than 56 and two for each page: two attempts of seven, and a read between them, of 40 and two for each page, since the first one may leave one page more.
  abbrev pub ClaimRan : ℕ → List T → ℕ → ℕ → State → Option (Result (Outcome T) TransactionalObjectError) → State → Caches → Type 0
  ClaimRan page h n steps old (Some answer) new caches = ClaimStood page h n old new caches answer
  ClaimRan page h n steps old None new caches = steps < 56 + 2 * pages_below names page old.files

  -- what a claim on a view leaves
  abbrev pub ClaimDriven : {O : Type 0} → ℕ → ℕ → T → ℕ → Scene O → Option (Result (Outcome T) TransactionalObjectError) → Scene O → Type 0
  ClaimDriven page id object steps a answer b = IsApart names path → (h : List T) (n : ℕ) → AllStand names decode path a.store a.caches h n → IsAt h id object → ClaimRan page h n steps a.store answer b.store b.caches
