-- Objects: how they begin, and what a refresh and an update make of them.
use Rattle.std.specs.Prelude.{◌≡◌, ℕ, Bool, true, false, [], Option, Some, None, Result, Ok, Err}
use Rattle.txn_store.specs.declared.types.callback.CallbackFault.{CallbackFault}
use Rattle.txn_store.specs.declared.types.dirty.DirtyObject.{DirtyObject}
use Rattle.txn_history.specs.declared.event.Call.{Call}
use Rattle.txn_history.specs.declared.event.ViewCall.{ViewCall}
use Rattle.txn_history.specs.declared.event.ViewCall.TheVariants as view_calls
use Rattle.txn_history.specs.declared.event.Answer.{Answer}
use Rattle.txnobj.specs.declared.clients.stop.Stop.{Stop}
use Rattle.txnobj.specs.declared.answers.Viewed.{Viewed}
use Rattle.slatedb_txn_obj.specs.Views.{Tested}
use Rattle.txnobj.specs.declared.error.Error.{Error}
use Rattle.txnobj.specs.declared.error.Error.TheVariants as error
use Rattle.txnobj.specs.declared.simple.SimpleTransactionalObject.{SimpleTransactionalObject}
use Rattle.txnobj.specs.Errors.{error_of_callback}
use Rattle.txnobj.specs.Calls.{ViewEnds}

module _ {T : Type 0} where
  -- the refresh and the update of a view, by its holder or not
  abbrev pub refresh_of : Bool → ℕ → ViewCall T
  refresh_of true view = view_calls.HolderRefresh view
  refresh_of false view = view_calls.Refresh view

  abbrev pub update_of : Bool → ℕ → T → ViewCall T
  update_of true view value = view_calls.HolderUpdate view value
  update_of false view value = view_calls.Update view value

module _ {T I : Type 0} where
  -- the view of an object
  abbrev pub viewed_of : SimpleTransactionalObject T I → Viewed T
  viewed_of object = record { view = object.view; id = object.id; value = object.object }

  -- an object that moved to a view
  abbrev pub moved_to : SimpleTransactionalObject T I → Viewed T → SimpleTransactionalObject T I
  moved_to object viewed = record object { view = viewed.view; id = viewed.id; object = viewed.value }

module _ {T F P I : Type 0} (made : P → Call T → Answer T → P → Type 0) (stopped : P → Call T → Stop → P → Type 0) (tells : P → Option F → Type 0) where
  -- a call gave an object's view, which has no invariants; or it failed
  abbrev pub Begins : ViewCall T → P → Result (SimpleTransactionalObject T I) (Error F) → P → Type 0
  Begins call old (Ok object) new = ViewEnds made stopped tells call old (Ok (viewed_of object)) new × (object.invariants.items ≡ [])
  Begins call old (Err e) new = ViewEnds made stopped tells call old (Err e) new

  -- a load gave an object, or no version is there, or the load failed for another reason
  abbrev pub TriesToLoad : P → Result (Option (SimpleTransactionalObject T I)) (Error F) → P → Type 0
  TriesToLoad old (Ok (Some object)) new = Begins view_calls.Load old (Ok object) new
  TriesToLoad old (Ok None) new = ViewEnds made stopped tells view_calls.Load old (Err error.LatestRecordMissing) new
  TriesToLoad old (Err e) new = ViewEnds made stopped tells view_calls.Load old (Err e) new × (e ≡ error.LatestRecordMissing → ⊥)

  -- a refresh of an object's view gave what the object is at then; or it failed, and the object is as it was
  abbrev pub Refreshes : (ℕ → ViewCall T) → SimpleTransactionalObject T I → P → Result (Unit {0}) (Error F) → SimpleTransactionalObject T I → P → Type 0
  Refreshes refresh object old (Ok done) object' new = (viewed : Viewed T) × ViewEnds made stopped tells (refresh object.view) old (Ok viewed) new × (object' ≡ moved_to object viewed)
  Refreshes refresh object old (Err e) object' new = ViewEnds made stopped tells (refresh object.view) old (Err e) new × (object' ≡ object)

module _ {T F P I : Type 0} (holds : I → T → T → Type 0) (fails : I → T → T → CallbackFault → Type 0) (made : P → Call T → Answer T → P → Type 0) (stopped : P → Call T → Stop → P → Type 0) (tells : P → Option F → Type 0) where
  -- what came of the test of an object's invariants, of a candidate
  abbrev pub Tests : SimpleTransactionalObject T I → T → Result (Unit {0}) CallbackFault → Type 0
  Tests object candidate result = Tested (λ i. holds i candidate object.object) (λ i. fails i candidate object.object) object.invariants.items result

  -- What came of an update of an object by a candidate. No call is made where the candidate is of another version, or an invariant fails.
  pub data Updates (update : ℕ → T → ViewCall T) (object : SimpleTransactionalObject T I) (old : P) (dirty : DirtyObject T ℕ) (result : Result (Unit {0}) (Error F)) (object' : SimpleTransactionalObject T I) (new : P) : Type 0 where
    -- the candidate is of another version
    OfAnother : (dirty.id ≡ object.id → ⊥) → result ≡ Err error.ObjectVersionExists → object' ≡ object → new ≡ old → Updates update object old dirty result object' new
    -- an invariant does not hold, or memory was wanting for its test
    Barred : (fault : CallbackFault) → dirty.id ≡ object.id → Tests object dirty.value (Err fault) → result ≡ Err (error_of_callback fault) → object' ≡ object → new ≡ old → Updates update object old dirty result object' new
    -- the update of its view by the candidate gave what the object is at then
    Written : (viewed : Viewed T) → dirty.id ≡ object.id → Tests object dirty.value (Ok tt) → ViewEnds made stopped tells (update object.view dirty.value) old (Ok viewed) new → result ≡ Ok tt → object' ≡ moved_to object viewed → Updates update object old dirty result object' new
    -- it failed, and the object is as it was
    Unwritten : (e : Error F) → dirty.id ≡ object.id → Tests object dirty.value (Ok tt) → ViewEnds made stopped tells (update object.view dirty.value) old (Err e) new → result ≡ Err e → object' ≡ object → Updates update object old dirty result object' new
