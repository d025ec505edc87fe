-- What the printed lines of a run of workers say of the world that they leave.
use Rattle.std.specs.Prelude.{◌≡◌, ◌≤◌, ◌↔◌, ℕ, List, Bool, IsTrue, length}
use Rattle.txn_script_lines.specs.declared.record.Record.{Record}
use Rattle.txn_script_lines.specs.declared.record.RecordCodec.{RecordCodec}
use Rattle.txn_script_lines.specs.declared.record.RecordEpoch.{RecordEpoch}
use Rattle.txn_world_threads.specs.declared.kept.Share.{Share}
use Rattle.txn_script_lines.specs.Record.{record_text, record_read}
use Rattle.txn_script.specs.Records.{record_epoch, record_with}
use Rattle.txn_history.specs.History.{history}
use Rattle.txn_world_threads.specs.Kept.{KeptState, Replays, CameOnce, Agree}
use Rattle.txn_script_lines.specs.declared.stop.Stop.TheVariants as stops
use Rattle.txnworld_commands.specs.declared.threads.Tally.{Tally}
use Rattle.txnworld_commands.specs.declared.halt.Halt.{Halt}
use Rattle.txnworld_commands.specs.declared.halt.Halt.TheVariants as halts
use Rattle.txnworld_commands.specs.Threads.{begun_count, answered_count}

-- the counts agree exactly where each worker's share came once, with the count of its rows in the journal
abbrev pub AgreeAs : KeptState Record RecordCodec RecordEpoch → List Share → Bool → Type 0
AgreeAs kept shares agree = IsTrue agree ↔ (CameOnce kept.workers shares × Agree kept.journal shares)

-- the tally agrees exactly where the world has as many clients as there are workers, and the counts agree
abbrev pub AgreesAs : ℕ → KeptState Record RecordCodec RecordEpoch → List Share → Bool → Type 0
AgreesAs workers kept shares agree = IsTrue agree ↔ ((kept.world.state.clients ≡ workers) × CameOnce kept.workers shares × Agree kept.journal shares)

-- what is counted is the calls, the answers and the entries of this world, and the shares are held against its journal
pub record Tallies (workers : ℕ) (kept : KeptState Record RecordCodec RecordEpoch) (shares : List Share) (tally : Tally) : Type 0 where
  pub workers_are : tally.workers ≡ workers
  pub calls : tally.calls ≡ begun_count kept.world.state.trace
  pub answers : tally.answers ≡ answered_count kept.world.state.trace
  pub entries : tally.history ≡ length (history record_read kept.world.state.trace)
  pub agree : AgreesAs workers kept shares tally.agree
  -- taking the journal's events one after another leads to this world
  pub replays : Replays record_text record_read record_epoch record_with kept.journal kept.world.state

abbrev pub IsTally : ℕ → Tally → Type 0
IsTally workers tally = (kept : KeptState Record RecordCodec RecordEpoch) × (shares : List Share) × Tallies workers kept shares tally

-- what halts a run of so many workers before it prints: one of them left a job undone, or memory was wanting
abbrev pub IsHaltOf : ℕ → Halt → Type 0
IsHaltOf workers (halts.Worker number) = (1 ≤ number) × (number ≤ workers)
IsHaltOf workers (halts.Stop stop) = stop ≡ stops.NoMemory
