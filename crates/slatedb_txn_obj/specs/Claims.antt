-- The claims of holders.
use Rattle.std.specs.Prelude.{◌≡◌, ◌⊎◌, ℕ, ◌+◌, ◌-◌, ◌*◌, ◌^◌, ◌<◌, ◌≤◌, List, [], ◌∷◌, ◌++◌, All, length, Option, Some, Result, IfOk, IfErr, IsErr, IsErrOf}
use Rattle.txn_store.specs.declared.types.error.TransactionalObjectError.{TransactionalObjectError}
use Rattle.txn_store.specs.declared.types.error.TransactionalObjectError.TheVariants.{Fenced, InvalidObjectState, ObjectVersionExists, ObjectUpdateTimeout, CallbackError, IdExhausted, TurnsExhausted}
use Rattle.txn_store.specs.declared.types.callback.CallbackFault.{CallbackFault}
use Rattle.txn_store.specs.types.Epochs.{NextEpoch, HasNoEpoch}
use Rattle.txn_store.specs.Paths.{Segments}
use Rattle.txn_store.specs.Store.{State}
use Rattle.txn_steps_driven.specs.Calls.{HasCause, SpendsTurns}
use Rattle.txn_steps_driven.specs.LatestReads.{IsLatest}
use Rattle.slatedb_txn_obj.specs.Leaves.{KeepsFiles, LeavesOthers}
use Rattle.slatedb_txn_obj.specs.Views.{IsVersion, IsTestFailure}
use Rattle.slatedb_txn_obj.specs.declared.fenceable.FenceableTransactionalObject.{FenceableTransactionalObject}
use Rattle.slatedb_txn_obj.specs.declared.simple.SimpleTransactionalObject.{SimpleTransactionalObject}

-- the clock was read once, and the reading is such
abbrev pub ReadsOne : (ℕ → Type 0) → List ℕ → List ℕ → Type 0
ReadsOne is old new = (r : ℕ) × (new ≡ old ++ r ∷ []) × is r

-- a holder's value has another epoch than its own
abbrev pub IsUnlike : ℕ → ℕ → TransactionalObjectError → Type 0
IsUnlike local epoch InvalidObjectState = epoch ≡ local → ⊥
IsUnlike local epoch error = ⊥

-- the clock was read as a call began, and then these times, each before its end
abbrev pub ReadsInTime : ℕ → ℕ → List ℕ → List ℕ → List ℕ → Type 0
ReadsInTime start timeout later old new = (new ≡ old ++ start ∷ later) × All (λ r. r - start < timeout) later

-- How often a claim on a version of this number reads its clock after its start: before its update where that is the newest; else also before the refresh, and before the update after it.
abbrev pub IsReadFor : ℕ → ℕ → ℕ → Type 0
IsReadFor number newest times = (number ≡ newest → times ≡ 1) × (number < newest → times ≡ 3)

-- so it was, and a last reading was at its end or past it
abbrev pub ReadsLate : ℕ → List ℕ → List ℕ → Type 0
ReadsLate timeout old new = (start : ℕ) × (later : List ℕ) × (last : ℕ) × (new ≡ old ++ start ∷ later ++ last ∷ []) × All (λ r. r - start < timeout) later × (timeout ≤ last - start)

-- Why an attempt of a claim failed: its time was over, there is no next epoch, or its update failed. `fails` says why an invariant did.
abbrev pub HasCauseOfAttempt : (asked : Option ℕ) (stored timeout number : ℕ) (late : Type 0) (fails : TransactionalObjectError → Type 0) (unheld : Type 0) → State → State → TransactionalObjectError → Type 0
HasCauseOfAttempt asked stored timeout number late fails unheld old new (ObjectUpdateTimeout t) = (t ≡ timeout) × late
HasCauseOfAttempt asked stored timeout number late fails unheld old new Fenced = HasNoEpoch asked stored Fenced
HasCauseOfAttempt asked stored timeout number late fails unheld old new IdExhausted = HasNoEpoch asked stored IdExhausted ⊎ (number + 1 ≡ 2 ^ 64)
HasCauseOfAttempt asked stored timeout number late fails unheld old new (CallbackError error) = fails (CallbackError error)
HasCauseOfAttempt asked stored timeout number late fails unheld old new InvalidObjectState = unheld
HasCauseOfAttempt asked stored timeout number late fails unheld old new ObjectVersionExists = Unit {0}
HasCauseOfAttempt asked stored timeout number late fails unheld old new error = HasCause old new error

-- Why a claim failed. `fails` says why an invariant did, `blocked` that a version has no next epoch, `full` that it has no next number. It is never a conflict.
abbrev pub HasCauseOfClaim : (timeout : ℕ) (late : Type 0) (fails blocked : TransactionalObjectError → Type 0) (full unheld : Type 0) (left : ℕ) → State → State → TransactionalObjectError → Type 0
HasCauseOfClaim timeout late fails blocked full unheld left old new (ObjectUpdateTimeout t) = (t ≡ timeout) × late
HasCauseOfClaim timeout late fails blocked full unheld left old new Fenced = blocked Fenced
HasCauseOfClaim timeout late fails blocked full unheld left old new IdExhausted = blocked IdExhausted ⊎ full
HasCauseOfClaim timeout late fails blocked full unheld left old new (CallbackError error) = fails (CallbackError error) ⊎ unheld
HasCauseOfClaim timeout late fails blocked full unheld left old new InvalidObjectState = unheld
HasCauseOfClaim timeout late fails blocked full unheld left old new TurnsExhausted = left ≡ 0
HasCauseOfClaim timeout late fails blocked full unheld left old new error = HasCause old new error

-- an error by which an attempt ends before it writes: there is no next epoch, or no next number
abbrev pub IsBlocking : TransactionalObjectError → Type 0
IsBlocking Fenced = Unit {0}
IsBlocking IdExhausted = Unit {0}
IsBlocking error = ⊥

-- the time was over
abbrev pub IsLate : TransactionalObjectError → Type 0
IsLate (ObjectUpdateTimeout t) = Unit {0}
IsLate error = ⊥

-- an error of no write: one of these, or an invariant or a codec refused, or the turns were spent
abbrev pub IsUnwritten : TransactionalObjectError → Type 0
IsUnwritten (ObjectUpdateTimeout t) = Unit {0}
IsUnwritten Fenced = Unit {0}
IsUnwritten IdExhausted = Unit {0}
IsUnwritten (CallbackError error) = Unit {0}
IsUnwritten TurnsExhausted = Unit {0}
IsUnwritten error = ⊥

-- `epoch_of` and `with_epoch` read and set the epoch of a value.
module _ {T : Type 0} (epoch_of : T → ℕ) (with_epoch : T → ℕ → T) where
  -- nothing moved, or the value was the newest, and was written with its next epoch
  abbrev pub MayClaim : (before after : List T → ℕ → Type 0) → ℕ → T → Option ℕ → Type 0
  MayClaim before after number value asked = (h : List T) (b : ℕ) → before h b → number ≤ length h → after h b ⊎ ((number ≡ length h) × (epoch : ℕ) × NextEpoch asked (epoch_of value) epoch × after (h ++ with_epoch value epoch ∷ []) b)

  -- What a claim over a history leaves: the newest value, with the holder's epoch set, stands straight on it, and the holder is at it. `allows` says which value may follow which.
  pub record Claimed (allows : T → T → Type 0) (h : List T) (b : ℕ) (after : List T → ℕ → Type 0) (asked : Option ℕ) (number : ℕ) (held : T) (epoch : ℕ) : Type 0 where
    pub newest : T
    pub latest : IsLatest h (length h) newest
    pub next : NextEpoch asked (epoch_of newest) epoch
    pub value : held ≡ with_epoch newest epoch
    pub own : epoch_of held ≡ epoch
    pub allowed : allows held newest
    pub stands : after (h ++ held ∷ []) b
    pub at : IsLatest (h ++ held ∷ []) number held

  -- what stands where a claim failed: nothing moved, or the newest value was written with its next epoch
  abbrev pub NotClaimed : (h : List T) (b : ℕ) (after : List T → ℕ → Type 0) (asked : Option ℕ) → Type 0
  NotClaimed h b after asked = after h b ⊎ ((number : ℕ) × (value : T) × (epoch : ℕ) × IsLatest h number value × NextEpoch asked (epoch_of value) epoch × after (h ++ with_epoch value epoch ∷ []) b)

-- A claim on a view: `number_of` is the number of an id, and `before` and `after` say for which histories and boundaries the protocol and the store stand, before it and after it. `own` says which files are the protocol's, and `place` and `place'` where they lie, before it and after it.
module _ {T I X Place : Type 0} (epoch_of : X → T → ℕ) (with_epoch : X → T → ℕ → T) (holds : I → T → T → Type 0) (fails : I → T → T → CallbackFault → Type 0) (number_of : ℕ → ℕ) (epochs : X) (view : SimpleTransactionalObject T ℕ I) (before after : List T → ℕ → Type 0) (own : Segments → Type 0) (place place' : Place) where
  -- a fact of each history and boundary that stood with the view in it
  abbrev pub WhereItStood : (List T → ℕ → Type 0) → Type 0
  WhereItStood fact = (h : List T) (b : ℕ) → before h b → IsVersion h (number_of view.id) view.object → fact h b

  -- A version that an attempt was made on: the view's own, or the newest, which a refresh read.
  abbrev pub IsMet : ℕ → T → Type 0
  IsMet number value = ((number ≡ number_of view.id) × (value ≡ view.object)) ⊎ WhereItStood (λ h b. IsLatest h number value)

  -- such a version has no next epoch
  abbrev pub MetBlocked : Option ℕ → TransactionalObjectError → Type 0
  MetBlocked asked error = (number : ℕ) × (value : T) × IsMet number value × HasNoEpoch asked (epoch_of epochs value) error

  -- such a version has no next number
  abbrev pub MetFull : Type 0
  MetFull = (number : ℕ) × (value : T) × IsMet number value × (number + 1 ≡ 2 ^ 64)

  -- an invariant failed for such a version with its next epoch, the first that did
  abbrev pub MetFailing : Option ℕ → TransactionalObjectError → Type 0
  MetFailing asked error = (number : ℕ) × (value : T) × IsMet number value × ((epoch : ℕ) × NextEpoch asked (epoch_of epochs value) epoch × IsTestFailure (λ i. holds i (with_epoch epochs value epoch) value) (λ i. fails i (with_epoch epochs value epoch) value) view.invariants.items error)

  -- What it answers and leaves, by the epoch that is asked for, if any, the pages of a listing, and the turns, the store and the readings of the clock, each before it and after it.
  pub record ClaimEnds (asked : Option ℕ) (timeout pages pages' turns left : ℕ) (old new : State) (readings readings' : List ℕ) (result : Result (FenceableTransactionalObject T I X) TransactionalObjectError) : Type 0 where
    -- the newest value, with the holder's epoch in it, stands straight on it, and the holder is at that
    pub claimed : IfOk result (λ holder. WhereItStood (λ h b. Claimed (epoch_of epochs) (with_epoch epochs) (λ v c. All (λ i. holds i v c) view.invariants.items) h b after asked (number_of holder.delegate.id) holder.delegate.object holder.local_epoch))
    -- it has the view's invariants, and what reads and sets epochs; its own epoch is its value's, and the one that was asked for
    pub holder : IfOk result (λ holder. (holder.epochs ≡ epochs) × (holder.delegate.invariants ≡ view.invariants) × (epoch_of epochs holder.delegate.object ≡ holder.local_epoch) × ((epoch : ℕ) → asked ≡ Some epoch → holder.local_epoch ≡ epoch))
    -- the clock was read as often as it has to be, each time before the end
    pub timely : IfOk result (λ _. (start : ℕ) × (later : List ℕ) × ReadsInTime start timeout later readings readings' × WhereItStood (λ h b. IsReadFor (number_of view.id) (length h) (length later)))
    -- nothing moved, or the newest value was written with its next epoch
    pub failed : IfErr result (λ _. WhereItStood (λ h b. NotClaimed (epoch_of epochs) (with_epoch epochs) h b after asked))
    pub spends : SpendsTurns 7 0 (turns - left) turns left old new
    -- two attempts are enough
    pub few : WhereItStood (λ h b. (turns ≤ left + 4 + 2 * pages) × (old.left ≤ new.left + 2))
    pub enough : WhereItStood (λ h b. 4 + 2 * pages ≤ turns → IsErrOf result TurnsExhausted → ⊥)
    pub cause : IfErr result (HasCauseOfClaim timeout (ReadsLate timeout readings readings') (MetFailing asked) (MetBlocked asked) MetFull (WhereItStood (λ h b. ⊥)) left old new)
    -- an error of no write ends it without a move
    pub unwritten : IfErr result (λ e. IsUnwritten e → WhereItStood after)
    -- where the view's own version has no next epoch, that is the answer, and where an invariant fails for it, an error is; the store is not called
    pub blocked : (e : TransactionalObjectError) → HasNoEpoch asked (epoch_of epochs view.object) e → 1 ≤ turns → IsErrOf result e × (new ≡ old)
    pub barred : (e : ℕ) → NextEpoch asked (epoch_of epochs view.object) e → (All (λ i. holds i (with_epoch epochs view.object e) view.object) view.invariants.items → ⊥) → IsErr result × (new ≡ old)
    -- the attempt that has no next epoch, or no next number, makes no call: its turn has none
    pub idle : IfErr result (λ e. IsBlocking e → new.calls + 7 * left + 7 ≤ old.calls + 7 * turns)
    -- and one that is late has two at most
    pub late : IfErr result (λ e. IsLate e → new.calls + 7 * left + 5 ≤ old.calls + 7 * turns)
    -- two versions at most were created
    pub paged : WhereItStood (λ h b. pages' ≤ pages + 2)
    -- the files lie where they lay, and no other was changed
    pub placed : place' ≡ place
    pub others : LeavesOthers own old new
    -- each file that stood stands as it was: a claim removes none and writes over none
    pub kept : KeepsFiles old new
