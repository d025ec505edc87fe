-- Why a step did not go on.
use Rattle.std.specs.Prelude.{◌≡◌, ◌⊎◌, Option, Some, None, Result, Ok, Err}
use Rattle.std.specs.declared.io.Error.{Error}
use Rattle.std.specs.declared.io.ErrorKind.TheVariants.{NotFound, NotADirectory}
use Rattle.std.specs.IoError.{error_kind}
use Rattle.txn_folder_files.specs.declared.fault.Fault.{Fault}
use Rattle.txn_folder_files.specs.declared.fault.Halt.{Halt}
use Rattle.txn_folder_files.specs.declared.fault.Halt.TheVariants as halts

-- the folder of a file is missing: the system found no such name, or found no folder where one has to be
abbrev pub FindsNoFolder : Option Error → Type 0
FindsNoFolder None = ⊥
FindsNoFolder (Some error) = (error_kind error ≡ NotFound) ⊎ (error_kind error ≡ NotADirectory)

-- a step did not go on since the folder of its file is missing
abbrev pub LacksFolder : {T : Type 0} → Result T Halt → Type 0
LacksFolder (Ok value) = ⊥
LacksFolder (Err halts.NoMemory) = ⊥
LacksFolder (Err (halts.Fault fault)) = FindsNoFolder fault.error
