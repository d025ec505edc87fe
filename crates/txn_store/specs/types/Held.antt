-- The error that a small one becomes.
use Rattle.txn_store.specs.declared.types.error.TransactionalObjectError.{TransactionalObjectError}
use Rattle.txn_store.specs.declared.types.error.TransactionalObjectError.TheVariants.{ObjectStoreError, CallbackError}
use Rattle.txn_store.specs.declared.types.step_error.Held.{Held}
use Rattle.txn_store.specs.declared.types.step_error.Held.TheVariants.{Plain, Store, Callback}
use Rattle.txn_store.specs.types.StepErrors.{error_of_kind}

abbrev pub error_held : Held → TransactionalObjectError
error_held (Plain kind) = error_of_kind kind
error_held (Store error) = ObjectStoreError error
error_held (Callback error) = CallbackError error.value
