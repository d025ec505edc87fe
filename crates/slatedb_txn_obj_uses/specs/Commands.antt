-- The words of each command, after the program's name.
use Rattle.std.specs.Prelude.{ℕ, List, [], ◌∷◌, codes}
use Rattle.slatedb_txn_obj_uses.specs.declared.command.Command.{Command}
use Rattle.slatedb_txn_obj_uses.specs.declared.command.Command.TheVariants as commands

abbrev pub command_words : Command → List (List ℕ)
command_words commands.Run = codes "run" ∷ []
command_words commands.Check = codes "check" ∷ []
