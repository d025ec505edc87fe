-- What finishing a kept world says of its shares.
use Rattle.std.proofs.Common.{◌≡◌, ◌≢◌, ℕ, ◌==◌, Bool, true, false, List, Result, Ok, Err, IfOk, IfErr, is_ok, refl, sym, ◌∙◌}
use Rattle.std.proofs.lemmas.Bool.{both_ways, eqb-true, eq-eqb}
use Rattle.txn_script_lines.specs.declared.record.Record.{Record}
use Rattle.txn_script_lines.specs.declared.record.RecordCodec.{RecordCodec}
use Rattle.txn_script_lines.specs.declared.record.RecordEpoch.{RecordEpoch}
use Rattle.txn_world_threads.specs.declared.finish.FinishFault.{FinishFault}
use Rattle.txn_world_threads.specs.declared.finish.FinishFault.TheVariants as faults
use Rattle.txn_world_threads.specs.declared.kept.Share.{Share}
use Rattle.txn_world_threads.specs.Finish.{Finished, IsDue}
use Rattle.txn_world_threads.specs.Kept.{KeptState}
use Rattle.txnworld_commands.specs.Tallies.{AgreeAs, AgreesAs}

-- where no fault is want of memory, the shares agree exactly where they are finished
pub finished_as : {V : Type 0} (items : V → List ℕ) (kept : KeptState Record RecordCodec RecordEpoch) (shares : List Share) (r : Result V FinishFault) → IfOk r (λ counts. Finished kept shares (items counts)) → IfErr r (IsDue kept shares) → IfErr r (λ fault. fault ≢ faults.NoMemory) → AgreeAs kept shares (is_ok r)
finished_as items kept shares (Ok counts) finished due memory = (λ _. (finished.once, finished.agree), λ _. refl)
finished_as items kept shares (Err faults.ShareMissing) finished due memory = (λ e. cc, λ both. absurd (due both.0))
finished_as items kept shares (Err faults.CountsDiffer) finished due memory = (λ e. cc, λ both. absurd (due.1 both.1))
finished_as items kept shares (Err faults.NoMemory) finished due memory = absurd (memory refl)

-- the shares finish the kept world, and the tally agrees where that has so many clients
pub agrees_then : (workers : ℕ) (kept : KeptState Record RecordCodec RecordEpoch) (shares : List Share) (counts agree : Bool) (clients : ℕ) → AgreeAs kept shares counts → counts ≡ true → agree ≡ (clients == workers) → clients ≡ kept.world.state.clients → AgreesAs workers kept shares agree
agrees_then workers kept shares counts agree clients finished is tells same = (
  λ t. (sym same ∙ eqb-true clients workers (sym tells ∙ t), (finished.0 is).0, (finished.0 is).1),
  λ all. tells ∙ eq-eqb clients workers (same ∙ all.0),
)

-- they do not finish it, and the tally does not agree
pub agrees_else : (workers : ℕ) (kept : KeptState Record RecordCodec RecordEpoch) (shares : List Share) (counts agree : Bool) → AgreeAs kept shares counts → counts ≡ false → agree ≡ false → AgreesAs workers kept shares agree
agrees_else workers kept shares counts agree finished is tells = (
  λ t. absurd (both_ways agree tells t),
  λ all. absurd (both_ways counts is (finished.1 (all.1, all.2))),
)
