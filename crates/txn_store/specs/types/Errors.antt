-- The numbers of the errors, and what the errors of a store and of a codec become.
use Rattle.std.specs.Prelude.{ℕ}
use Rattle.txn_store.specs.declared.store.StoreError.{StoreError}
use Rattle.txn_store.specs.declared.store.StoreError.TheVariants as store
use Rattle.txn_store.specs.declared.types.codec.CodecFault.{CodecFault}
use Rattle.txn_store.specs.declared.types.codec.CodecFault.TheVariants as codec
use Rattle.txn_store.specs.declared.types.error.TransactionalObjectError.{TransactionalObjectError}
use Rattle.txn_store.specs.declared.types.error.TransactionalObjectError.TheVariants.{IoError, ObjectStoreError, ObjectUpdateTimeout, LatestRecordMissing, ObjectVersionExists, Fenced, InvalidObjectState, CallbackError, NoMemory, IdExhausted, TurnsExhausted}

-- the number of an error's kind
abbrev pub error_number : TransactionalObjectError → ℕ
error_number IoError = 1
error_number (ObjectStoreError _) = 2
error_number (ObjectUpdateTimeout _) = 3
error_number LatestRecordMissing = 4
error_number ObjectVersionExists = 5
error_number Fenced = 6
error_number InvalidObjectState = 7
error_number (CallbackError _) = 8
error_number NoMemory = 9
error_number IdExhausted = 10
error_number TurnsExhausted = 11

-- what a store's error becomes
abbrev pub error_of_store : StoreError → TransactionalObjectError
error_of_store store.NoMemory = NoMemory
error_of_store error = ObjectStoreError error

-- the number of what a store's error becomes
abbrev pub store_error_number : StoreError → ℕ
store_error_number store.NoMemory = 9
store_error_number _ = 2

-- what a codec's fault becomes
abbrev pub error_of_fault : CodecFault → TransactionalObjectError
error_of_fault (codec.Refused error) = CallbackError error
error_of_fault codec.NoMemory = NoMemory
