-- How a run of workers is finished.
use Rattle.std.specs.Prelude.{ℕ, List}
use Rattle.txn_world_threads.specs.declared.kept.Share.{Share}
use Rattle.txn_world_threads.specs.declared.finish.FinishFault.{FinishFault}
use Rattle.txn_world_threads.specs.declared.finish.FinishFault.TheVariants as faults
use Rattle.txn_world_threads.specs.Kept.{KeptState, CameOnce, Agree, AreCounts}

module _ {T C E : Type 0} where
  -- each worker's share came once, with the count of its worker's rows; and these are the counts
  pub record Finished (kept : KeptState T C E) (shares : List Share) (counts : List ℕ) : Type 0 where
    pub once : CameOnce kept.workers shares
    pub agree : Agree kept.journal shares
    pub are_counts : AreCounts kept.workers kept.journal counts

  -- The faults are tested in this order: where one is answered, those before it are not due.
  abbrev pub IsDue : KeptState T C E → List Share → FinishFault → Type 0
  IsDue kept shares faults.ShareMissing = CameOnce kept.workers shares → ⊥
  IsDue kept shares faults.CountsDiffer = CameOnce kept.workers shares × (Agree kept.journal shares → ⊥)
  IsDue kept shares faults.NoMemory = CameOnce kept.workers shares × Agree kept.journal shares

-- the number that names a fault
abbrev pub fault_number : FinishFault → ℕ
fault_number faults.ShareMissing = 1
fault_number faults.CountsDiffer = 2
fault_number faults.NoMemory = 3
