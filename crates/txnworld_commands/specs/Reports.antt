-- What the printed lines of a run say of both passes, and what halts it.
use Rattle.std.specs.Prelude.{◌≡◌, ◌⊎◌, ℕ, List, Bool, Option}
use Rattle.std.specs.Io.KnownBytes.{Appends}
use Rattle.txn_script_lines.specs.declared.stop.Stop.TheVariants as stops
use Rattle.txn_script.specs.Printed.{with_feed}
use Rattle.txnworld_commands.specs.declared.halt.Halt.{Halt}
use Rattle.txnworld_commands.specs.declared.halt.Halt.TheVariants as halts
use Rattle.txnworld_commands.specs.declared.threads.Report.{Report}
use Rattle.txnworld_commands.specs.Threads.{halt_text, passes, report_text}
use Rattle.txnworld_commands.specs.Tallies.{IsTally, IsHaltOf}
use Rattle.txnworld_commands.specs.Audits.{IsAudited}

-- what so many workers left round one world, and what an audit finds of so many clients that share only a store
pub record IsReport (workers : ℕ) (report : Report) : Type 0 where
  pub tally : IsTally workers report.tally
  pub audit : IsAudited workers report.audit

-- the lines of such a run are printed, and nothing else
abbrev pub PrintsReport : ℕ → Bool → Option (List ℕ) → Option (List ℕ) → Type 0
PrintsReport workers passed old new = (report : Report) × IsReport workers report × (passes report ≡ passed) × Appends old new (with_feed (report_text report))

-- a run halts before it prints, and leaves its writer as it was; or its writer failed
abbrev pub Halts : {W : Type 0} → ℕ → Halt → W → W → Type 0
Halts workers halt old new = (IsHaltOf workers halt × (new ≡ old)) ⊎ (halt ≡ halts.Stop stops.WriteFailed)

-- a run halts, and the line of what halted it is written, and nothing else
abbrev pub NamesHalt : {W : Type 0} → ℕ → W → W → Option (List ℕ) → Option (List ℕ) → Type 0
NamesHalt workers old new old_named new_named = (halt : Halt) × Halts workers halt old new × Appends old_named new_named (with_feed (halt_text halt))
