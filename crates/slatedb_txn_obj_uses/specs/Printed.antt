-- What each command prints.
use Rattle.std.specs.Prelude.{ℕ, List, [], ◌∷◌, ◌++◌, Option, codes, decimal}
use Rattle.std.specs.Io.KnownBytes.{Appends}
use Rattle.slatedb_txn_obj_uses.specs.declared.command.Command.{Command}
use Rattle.slatedb_txn_obj_uses.specs.declared.command.Command.TheVariants as commands
use Rattle.slatedb_txn_obj_uses.specs.declared.workload.Workload.{Workload}
use Rattle.slatedb_txn_obj_uses.specs.declared.workload.Workload.TheVariants.{Update, ReadWarm, LoadCold100, List10000, LoadClaimFresh}
use Rattle.slatedb_txn_obj_uses.specs.Workloads.{workload_name}

-- a workload's name and its figure, and a workload whose calls were made
abbrev pub figure_text : Workload → ℕ → List ℕ
figure_text workload nanos = workload_name workload ++ (codes " " ++ decimal nanos)

abbrev pub passed_text : Workload → List ℕ
passed_text workload = workload_name workload ++ codes " ok"

abbrev pub with_feed : List ℕ → List ℕ
with_feed text = text ++ 10 ∷ []

-- the line of a workload is printed
abbrev pub PrintsLine : Command → Workload → Option (List ℕ) → Option (List ℕ) → Type 0
PrintsLine commands.Run workload old new = (nanos : ℕ) × Appends old new (with_feed (figure_text workload nanos))
PrintsLine commands.Check workload old new = Appends old new (with_feed (passed_text workload))

-- the lines of all workloads are printed, and nothing else
abbrev pub Prints : Command → Option (List ℕ) → Option (List ℕ) → Type 0
Prints commands.Run old new = (update read load listing claim : ℕ) × Appends old new
    (with_feed (figure_text Update update) ++ (with_feed (figure_text ReadWarm read) ++ (with_feed (figure_text LoadCold100 load) ++ (with_feed (figure_text List10000 listing) ++ with_feed (figure_text LoadClaimFresh claim)))))
Prints commands.Check old new = Appends old new
    (with_feed (passed_text Update) ++ (with_feed (passed_text ReadWarm) ++ (with_feed (passed_text LoadCold100) ++ (with_feed (passed_text List10000) ++ with_feed (passed_text LoadClaimFresh)))))
