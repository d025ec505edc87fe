-- Which commands a client makes calls for.
use Rattle.std.specs.Prelude.{Bool, true, false}
use Rattle.txnobj_words.specs.declared.options.Command.{Command}
use Rattle.txnobj_words.specs.declared.options.Command.TheVariants as commands

-- A client makes calls for the command, so that there is something to record.
abbrev pub is_of_client : Command → Bool
is_of_client (commands.Audit diaries clock_error) = false
is_of_client (commands.Trace drawing) = false
is_of_client (commands.Picture drawing) = false
is_of_client (commands.Doctor beside) = false
is_of_client (commands.Clean seconds) = false
is_of_client commands.Repair = false
is_of_client (commands.Bench times lists) = false
is_of_client _ = true
