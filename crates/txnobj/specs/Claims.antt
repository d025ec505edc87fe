-- Claims: the clock is read before each attempt, and one that is not answered within its steps is followed by another.
use Rattle.std.specs.Prelude.{◌≡◌, ◌⊎◌, ◌-◌, ◌<◌, ◌≤◌, ◌++◌, ◌∷◌, [], ℕ, List, Option, Some, None, Result, Ok, Err}
use Rattle.txn_history.specs.declared.event.Call.{Call}
use Rattle.txn_history.specs.declared.event.Call.TheVariants as calls
use Rattle.txn_history.specs.declared.event.ViewCall.{ViewCall}
use Rattle.txn_history.specs.declared.event.ViewCall.TheVariants as view_calls
use Rattle.txn_history.specs.declared.event.Answer.{Answer}
use Rattle.txnobj.specs.declared.clients.stop.Stop.{Stop}
use Rattle.slatedb_txn_obj.specs.Claims.{ReadsOne}
use Rattle.txnobj.specs.declared.error.Error.{Error}
use Rattle.txnobj.specs.declared.error.Error.TheVariants as error
use Rattle.txnobj.specs.declared.answers.Held.{Held}
use Rattle.txnobj.specs.declared.simple.SimpleTransactionalObject.{SimpleTransactionalObject}
use Rattle.txnobj.specs.declared.fenceable.FenceableTransactionalObject.{FenceableTransactionalObject}
use Rattle.txnobj.specs.Answers.{held_in}
use Rattle.txnobj.specs.Calls.{Ends, ViewEnds}
use Rattle.txnobj.specs.Rounds.{Rounds, AfterRounds}

module _ {T : Type 0} where
  -- the claim of a view, at an epoch where one is asked for
  abbrev pub claim_of : ℕ → Option ℕ → ViewCall T
  claim_of view None = view_calls.Claim view
  claim_of view (Some epoch) = view_calls.ClaimAt view epoch

-- A view that is to be claimed, its client, and what the clock has read so far.
pub record Claiming (P : Type 0) : Type 0 where
  pub view : ℕ
  pub protocol : P
  pub readings : List ℕ

-- the clock is read once, and less time than this has passed since the start, or as much or more
abbrev pub InTime : (start timeout : ℕ) → List ℕ → List ℕ → Type 0
InTime start timeout old new = ReadsOne (λ reading. reading - start < timeout) old new

abbrev pub Late : (start timeout : ℕ) → List ℕ → List ℕ → Type 0
Late start timeout old new = ReadsOne (λ reading. timeout ≤ reading - start) old new

module _ {T F P : Type 0} (made : P → Call T → Answer T → P → Type 0) (stopped : P → Call T → Stop → P → Type 0) (tells : P → Option F → Type 0) where
  -- the newest version was loaded in a view of this number, or the load failed
  abbrev pub LoadsView : P → Result ℕ (Error F) → P → Type 0
  LoadsView old (Ok view) new = (id : ℕ) × (value : T) × ViewEnds made stopped tells view_calls.Load old (Ok (record { view = view; id = id; value = value })) new
  LoadsView old (Err e) new = ViewEnds made stopped tells view_calls.Load old (Err e) new

  module _ (asked : Option ℕ) (start timeout : ℕ) where
    -- The clock was read in time, and then this came of the claim of the view.
    pub record Attempts (old : Claiming P) (result : Result (Held T) (Error F)) (protocol : P) (readings : List ℕ) : Type 0 where
      pub in_time : InTime start timeout old.readings readings
      pub claim : Ends made stopped tells held_in (calls.View (claim_of old.view asked)) old.protocol result protocol

    -- A round: a claim was not answered within its steps, and the newest version was loaded.
    pub record Round (old new : Claiming P) : Type 0 where
      pub between : P
      pub spent : Attempts old (Err error.TurnsExhausted) between new.readings
      pub loaded : LoadsView between (Ok new.view) new.protocol

  module _ (lets_go : P → ℕ → P → Type 0) where
    -- How a claim ends after rounds alone.
    pub data EndsSo (asked : Option ℕ) (start timeout : ℕ) (last : Claiming P) (result : Result (Held T) (Error F)) (new : P) (readings : List ℕ) : Type 0 where
      -- the deadline was reached, no call was made, and the view was let go
      TimedOut : Late start timeout last.readings readings → result ≡ Err (error.ObjectUpdateTimeout timeout) → lets_go last.protocol last.view new → EndsSo asked start timeout last result new readings
      -- the claim was held, or refused, or stopped
      Answered : Attempts asked start timeout last result new readings → (result ≡ Err error.TurnsExhausted → ⊥) → EndsSo asked start timeout last result new readings
      -- it was not answered within its steps, and the load failed
      NotLoaded : (between : P) (e : Error F) → Attempts asked start timeout last (Err error.TurnsExhausted) between readings → LoadsView between (Err e) new → result ≡ Err e → EndsSo asked start timeout last result new readings

    -- What came of a claim of a view that is tried at most so many times: the clock was read at the start, and then it ended after fewer rounds than these, or each attempt was a round, and the last view was let go.
    pub record Claims (asked : Option ℕ) (timeout attempts view : ℕ) (old : P) (readings : List ℕ) (result : Result (Held T) (Error F)) (new : P) (readings' : List ℕ) : Type 0 where
      pub start : ℕ
      pub ends : AfterRounds (Round asked start timeout) attempts (record { view = view; protocol = old; readings = readings ++ start ∷ [] }) (λ last. EndsSo asked start timeout last result new readings')
          ⊎ ((last : ℕ) × (before : P) × Rounds (Round asked start timeout) attempts (record { view = view; protocol = old; readings = readings ++ start ∷ [] }) (record { view = last; protocol = before; readings = readings' }) × lets_go before last new × (result ≡ Err error.TurnsExhausted))

module _ {T I : Type 0} where
  -- the holder of what a claim gave
  abbrev pub holder_of : SimpleTransactionalObject T I → Held T → FenceableTransactionalObject T I
  holder_of delegate held = record { delegate = record delegate { view = held.view; id = held.id; object = held.value }; local_epoch = held.epoch }

module _ {T F P I : Type 0} (made : P → Call T → Answer T → P → Type 0) (stopped : P → Call T → Stop → P → Type 0) (tells : P → Option F → Type 0) (lets_go : P → ℕ → P → Type 0) where
  -- a claim of an object's view gave a holder, or it failed
  abbrev pub ClaimEnds : Option ℕ → (timeout attempts : ℕ) → SimpleTransactionalObject T I → P → List ℕ → Result (FenceableTransactionalObject T I) (Error F) → P → List ℕ → Type 0
  ClaimEnds asked timeout attempts delegate old readings (Ok holder) new readings' = (held : Held T) × (holder ≡ holder_of delegate held) × Claims made stopped tells lets_go asked timeout attempts delegate.view old readings (Ok held) new readings'
  ClaimEnds asked timeout attempts delegate old readings (Err e) new readings' = Claims made stopped tells lets_go asked timeout attempts delegate.view old readings (Err e) new readings'
