-- The words of each command, after the program's name.
use Rattle.std.specs.Prelude.{ℕ, ◌+◌, ◌≤◌, List, [], ◌∷◌, codes}
use Rattle.txnworld_commands.specs.declared.command.Command.{Command}
use Rattle.txnworld_commands.specs.declared.command.Command.TheVariants as commands

-- a count of workers, and the one digit that is its text
abbrev pub IsCount : ℕ → Type 0
IsCount n = (1 ≤ n) × (n ≤ 8)

abbrev pub count_text : ℕ → List ℕ
count_text n = (48 + n) ∷ []

abbrev pub IsCommand : Command → Type 0
IsCommand commands.Script = Unit {0}
IsCommand commands.Manifest = Unit {0}
IsCommand commands.Trace = Unit {0}
IsCommand commands.ManifestTrace = Unit {0}
IsCommand commands.Picture = Unit {0}
IsCommand commands.ManifestPicture = Unit {0}
IsCommand (commands.Threads workers) = IsCount workers
IsCommand commands.Explore = Unit {0}

abbrev pub command_words : Command → List (List ℕ)
command_words commands.Script = codes "script" ∷ []
command_words commands.Manifest = codes "manifest" ∷ []
command_words commands.Trace = codes "trace" ∷ []
command_words commands.ManifestTrace = codes "trace" ∷ codes "manifest" ∷ []
command_words commands.Picture = codes "picture" ∷ []
command_words commands.ManifestPicture = codes "picture" ∷ codes "manifest" ∷ []
command_words (commands.Threads workers) = codes "threads" ∷ count_text workers ∷ []
command_words commands.Explore = codes "explore" ∷ []
