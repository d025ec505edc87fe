-- The errors of steps, as what they become.
use Rattle.std.specs.Prelude.{◌≡◌, ◌⊎◌}
use Rattle.txn_store.specs.declared.types.codec.CodecFault.{CodecFault}
use Rattle.txn_store.specs.declared.types.codec.CodecFault.TheVariants.{Refused, NoMemory}
use Rattle.txn_store.specs.declared.types.error.TransactionalObjectError.{TransactionalObjectError}
use Rattle.txn_store.specs.declared.types.error.TransactionalObjectError.TheVariants as error
use Rattle.txn_store.specs.declared.types.step_error.ErrorKind.{ErrorKind}
use Rattle.txn_store.specs.declared.types.step_error.ErrorKind.TheVariants as kind

-- the error of a kind
abbrev pub error_of_kind : ErrorKind → TransactionalObjectError
error_of_kind kind.LatestRecordMissing = error.LatestRecordMissing
error_of_kind kind.ObjectVersionExists = error.ObjectVersionExists
error_of_kind kind.Fenced = error.Fenced
error_of_kind kind.InvalidObjectState = error.InvalidObjectState
error_of_kind kind.NoMemory = error.NoMemory
error_of_kind kind.IdExhausted = error.IdExhausted
error_of_kind kind.TurnsExhausted = error.TurnsExhausted

-- what a codec's fault becomes where its text has to be kept: that text, or want of memory
abbrev pub BecomesOf : CodecFault → TransactionalObjectError → Type 0
BecomesOf (Refused refused) made = (made ≡ error.CallbackError refused) ⊎ (made ≡ error.NoMemory)
BecomesOf NoMemory made = made ≡ error.NoMemory
