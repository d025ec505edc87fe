-- How code of the caller's refuses, and what that becomes.
use Rattle.txn_store.specs.declared.types.callback.CallbackFault.{CallbackFault}
use Rattle.txn_store.specs.declared.types.callback.CallbackFault.TheVariants.{Refused, NoMemory}
use Rattle.txn_store.specs.declared.types.error.TransactionalObjectError.{TransactionalObjectError}
use Rattle.txn_store.specs.declared.types.error.TransactionalObjectError.TheVariants as error

-- a fact where it was a refusal, and not want of memory
abbrev pub OnRefusal : Type 0 → CallbackFault → Type 0
OnRefusal P (Refused e) = P
OnRefusal P NoMemory = Unit {0}

-- what a callback's fault becomes
abbrev pub error_of_callback : CallbackFault → TransactionalObjectError
error_of_callback (Refused e) = error.CallbackError e
error_of_callback NoMemory = error.NoMemory

-- a callback refused
abbrev pub IsCallback : TransactionalObjectError → Type 0
IsCallback (error.CallbackError e) = Unit {0}
IsCallback e = ⊥
