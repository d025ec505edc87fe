-- An update that is made again after each conflict.
use Rattle.std.specs.Prelude.{◌≡◌, ◌⊎◌, ℕ, Option, Some, None, Result, Ok, Err}
use Rattle.txn_store.specs.declared.types.callback.CallbackFault.{CallbackFault}
use Rattle.txn_store.specs.declared.types.dirty.DirtyObject.{DirtyObject}
use Rattle.txnobj.specs.declared.error.Error.{Error}
use Rattle.txnobj.specs.declared.error.Error.TheVariants as error
use Rattle.txnobj.specs.Errors.{error_of_callback}
use Rattle.txnobj.specs.Rounds.{Rounds, AfterRounds}

-- An object and the client that it is lent.
pub record Lent (O P : Type 0) : Type 0 where
  pub object : O
  pub protocol : P

-- `asks` says what the mutator may ask for, of an object; `refreshes` and `updates` what comes of these.
module _ {T F O P : Type 0} (asks : O → Result (Option (DirtyObject T ℕ)) CallbackFault → Type 0) (refreshes : O → P → Result (Unit {0}) (Error F) → O → P → Type 0) (updates : O → P → DirtyObject T ℕ → Result (Unit {0}) (Error F) → O → P → Type 0) where
  -- The mutator asked for a candidate, of the object as it is, and this came of the update by it.
  pub record Tries (old : Lent O P) (result : Result (Unit {0}) (Error F)) (new : Lent O P) : Type 0 where
    pub dirty : DirtyObject T ℕ
    pub asked : asks old.object (Ok (Some dirty))
    pub update : updates old.object old.protocol dirty result new.object new.protocol

  -- Such an update was a conflict, and this came of the refresh that was made next.
  pub record Refreshed (old : Lent O P) (result : Result (Unit {0}) (Error F)) (new : Lent O P) : Type 0 where
    pub between : Lent O P
    pub conflict : Tries old (Err error.ObjectVersionExists) between
    pub refresh : refreshes between.object between.protocol result new.object new.protocol

  -- A round: an update that was a conflict, and a refresh.
  abbrev pub Round : Lent O P → Lent O P → Type 0
  Round old new = Refreshed old (Ok tt) new

  -- How an update ends after rounds alone.
  pub data EndsSo (last : Lent O P) (result : Result (Unit {0}) (Error F)) (new : Lent O P) : Type 0 where
    -- the mutator asked for nothing, of the object as it is, and no call was made
    Unchanged : asks last.object (Ok None) → result ≡ Ok tt → new ≡ last → EndsSo last result new
    -- it refused, and no call was made
    NotAsked : (fault : CallbackFault) → asks last.object (Err fault) → result ≡ Err (error_of_callback fault) → new ≡ last → EndsSo last result new
    -- the update by its candidate ended so, and that was no conflict
    Tried : Tries last result new → (result ≡ Err error.ObjectVersionExists → ⊥) → EndsSo last result new
    -- it was a conflict, and the refresh failed
    NotRefreshed : (e : Error F) → Refreshed last (Err e) new → result ≡ Err e → EndsSo last result new

  -- What came of an update that is tried at most so many times: it ended after fewer rounds than these, or each attempt was a round.
  abbrev pub Applies : ℕ → O → P → Result (Unit {0}) (Error F) → O → P → Type 0
  Applies attempts object old result object' new = AfterRounds Round attempts (record { object = object; protocol = old }) (λ last. EndsSo last result (record { object = object'; protocol = new }))
      ⊎ (Rounds Round attempts (record { object = object; protocol = old }) (record { object = object'; protocol = new }) × (result ≡ Err error.TurnsExhausted))
