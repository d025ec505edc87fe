-- What a put asks for of the version that it is written on, and how a version is printed.
use Rattle.std.specs.Prelude.{◌≡◌, ◌≢◌, ℕ, List, ◌∷◌, ◌++◌, Option, Some, None, Result, Ok, Err}
use Rattle.std.specs.Fmt.{decimal}
use Rattle.txn_script_lines.specs.declared.values.entry.Entry.{Entry}
use Rattle.txn_script_lines.specs.values.Holder.{may_write, FollowsEpoch}
use Rattle.txn_store.specs.declared.types.callback.CallbackFault.{CallbackFault}
use Rattle.txn_store.specs.declared.types.callback.CallbackFault.TheVariants.{NoMemory}
use Rattle.txn_store.specs.declared.types.dirty.DirtyObject.{DirtyObject}
use Rattle.txn_store.specs.declared.types.invariant.NoInvariant.{NoInvariant}
use Rattle.txnobj.specs.declared.simple.SimpleTransactionalObject.{SimpleTransactionalObject}
use Rattle.txnobj_cli.specs.declared.printed.Version.{Version}

-- a version in a view
abbrev pub Object : Type 0
Object = SimpleTransactionalObject Entry NoInvariant

-- What a put on the newest version asks for: a candidate of the object's version, in its epoch; a holder's is of its own epoch, and where that is another, nothing is asked for.
abbrev pub AsksNext : Option ℕ → List ℕ → Object → Result (Option (DirtyObject Entry ℕ)) CallbackFault → Type 0
AsksNext holder payload object (Ok (Some dirty)) = (dirty.id ≡ object.id) × FollowsEpoch holder object.object.epoch payload dirty.value
AsksNext holder payload object (Ok None) = may_write holder object.object.epoch ≢ Ok tt
AsksNext holder payload object (Err fault) = fault ≡ NoMemory

-- the id, a space and the epoch
abbrev pub version_words : Version → List ℕ
version_words version = decimal version.id ++ 32 ∷ decimal version.epoch
