-- Five lines that are printed one after another.
use Rattle.std.proofs.Common.{ℕ, List, Option, Result, Ok, Err, OnOk}
use Rattle.std.proofs.KnownBytes.{Appends-trans}
use Rattle.slatedb_txn_obj_uses.specs.declared.command.Command.{Command}
use Rattle.slatedb_txn_obj_uses.specs.declared.command.Command.TheVariants as commands
use Rattle.slatedb_txn_obj_uses.specs.declared.workload.Workload.TheVariants.{Update, ReadWarm, LoadCold100, List10000, LoadClaimFresh}
use Rattle.slatedb_txn_obj_uses.specs.Printed.{PrintsLine, Prints}

module _ (a b c d e f : Option (List ℕ)) where
  lines : (command : Command) → PrintsLine command Update a b → PrintsLine command ReadWarm b c → PrintsLine command LoadCold100 c d → PrintsLine command List10000 d e → PrintsLine command LoadClaimFresh e f → Prints command a f
  lines commands.Run update read load listing claim =
      (update.0, read.0, load.0, listing.0, claim.0, Appends-trans a b f _ _ update.1 (Appends-trans b c f _ _ read.1 (Appends-trans c d f _ _ load.1 (Appends-trans d e f _ _ listing.1 claim.1))))
  lines commands.Check update read load listing claim = Appends-trans a b f _ _ update (Appends-trans b c f _ _ read (Appends-trans c d f _ _ load (Appends-trans d e f _ _ listing claim)))

  pub prints : {E : Type 0} (command : Command) (last : Result (Unit {0}) E) → PrintsLine command Update a b → PrintsLine command ReadWarm b c → PrintsLine command LoadCold100 c d → PrintsLine command List10000 d e
      → OnOk last (PrintsLine command LoadClaimFresh e f) → OnOk last (Prints command a f)
  prints command (Ok done) update read load listing claim = lines command update read load listing claim
  prints command (Err halt) update read load listing claim = tt
