-- Which error an operation tells, by its number and the store's error.
use Rattle.std.proofs.Common.{◌≡◌, ℕ, Some, Result, Ok, Err, refl, sym, ap, arith}
use Rattle.std.proofs.lemmas.Option.{same_Some}
use Rattle.txn_store.specs.declared.store.StoreError.{StoreError}
use Rattle.txn_store.specs.declared.store.StoreError.TheVariants as errors
use Rattle.txn_store.specs.types.Errors.{error_number, store_error_number, error_of_store}
use Rattle.txn_store.specs.declared.types.error.TransactionalObjectError.{TransactionalObjectError}
use Rattle.txn_store.specs.declared.types.error.TransactionalObjectError.TheVariants as kinds
use Rattle.txn_steps.specs.declared.boundary.turned.Turned.{Turned}
use Rattle.txn_steps.specs.declared.boundary.turned.Turned.TheVariants.{Goes, Done}
use Rattle.txn_steps.specs.boundary.Steps.{turned_by_number, IsErrorOf, TellsErrorOf}

-- an error that holds nothing is known by its number

abbrev pub HoldsNothing : TransactionalObjectError → Type 0
HoldsNothing (kinds.ObjectStoreError error) = ⊥
HoldsNothing (kinds.ObjectUpdateTimeout timeout) = ⊥
HoldsNothing (kinds.CallbackError error) = ⊥
HoldsNothing error = Unit {0}

pub error_is : (kind error : TransactionalObjectError) → HoldsNothing kind → error_number error ≡ error_number kind → error ≡ kind
error_is kinds.IoError kinds.IoError bare is = refl
error_is kinds.LatestRecordMissing kinds.LatestRecordMissing bare is = refl
error_is kinds.ObjectVersionExists kinds.ObjectVersionExists bare is = refl
error_is kinds.Fenced kinds.Fenced bare is = refl
error_is kinds.InvalidObjectState kinds.InvalidObjectState bare is = refl
error_is kinds.NoMemory kinds.NoMemory bare is = refl
error_is kinds.IdExhausted kinds.IdExhausted bare is = refl
error_is kinds.TurnsExhausted kinds.TurnsExhausted bare is = refl
error_is (kinds.ObjectStoreError own) error bare is = absurd bare
error_is (kinds.ObjectUpdateTimeout timeout) error bare is = absurd bare
error_is (kinds.CallbackError own) error bare is = absurd bare
error_is kind error bare is = absurd (omega (arith, is))

is_stores : (e : StoreError) (error : TransactionalObjectError) → error_number error ≡ 2 → IsErrorOf (Some e) error → error ≡ kinds.ObjectStoreError e
is_stores e (kinds.ObjectStoreError own) is told = ap kinds.ObjectStoreError (sym (same_Some e own told))
is_stores e error is told = absurd (omega (arith, is))

-- an error that has the number of the store's error, and holds no other, is what that becomes
is_told : (e : StoreError) (error : TransactionalObjectError) → error_number error ≡ store_error_number e → IsErrorOf (Some e) error → error ≡ error_of_store e
is_told errors.NoMemory error is told = error_is kinds.NoMemory error tt is
is_told e error is told = is_stores e error is told

module _ {A : Type 0} where
  -- what goes on by number goes on
  pub goes : (told : Turned (Result A TransactionalObjectError)) → turned_by_number told ≡ Goes → told ≡ Goes
  goes Goes is = refl
  goes (Done answer) is = absurd (cc)

  -- what answers by number answers
  pub answers : (told : Turned (Result A TransactionalObjectError)) (x : A) → turned_by_number told ≡ Done (Ok x) → told ≡ Done (Ok x)
  answers Goes x is = absurd (cc)
  answers (Done (Ok y)) x is = let same : y ≡ x = cc in ap (λ (k : A). Done (Ok k)) same
  answers (Done (Err error)) x is = absurd (cc)

  -- what refuses by number refuses
  pub refuses : (told : Turned (Result A TransactionalObjectError)) (number : ℕ) → turned_by_number told ≡ Done (Err number) → (error : TransactionalObjectError) × (told ≡ Done (Err error)) × (error_number error ≡ number)
  refuses Goes number is = absurd (cc)
  refuses (Done (Ok x)) number is = absurd (cc)
  refuses (Done (Err error)) number is = (error, refl, cc)

  -- an operation that ends with the number of the store's error tells what that becomes
  pub tells_store : (told : Turned (Result A TransactionalObjectError)) (e : StoreError) → turned_by_number told ≡ Done (Err (store_error_number e)) → TellsErrorOf (Some e) told → told ≡ Done (Err (error_of_store e))
  tells_store Goes e is own = absurd (cc)
  tells_store (Done (Ok x)) e is own = absurd (cc)
  tells_store (Done (Err error)) e is own = ap (λ (k : TransactionalObjectError). Done (Err k)) (is_told e error (cc) own)
