-- One verdict is due.
use Rattle.std.proofs.Common.{◌≡◌, List, Result, Ok, Err, refl}
use Rattle.txn_client_journals.specs.declared.rows.LogRow.{LogRow}
use Rattle.txn_client_journals.specs.declared.fault.AuditFault.{AuditFault}
use Rattle.txn_client_journals.specs.declared.fault.AuditFault.TheVariants as faults
use Rattle.txn_client_journals.specs.Verdict.{AuditedDiary, IsDue}

module _ {T : Type 0} where
  pub one_due : (log : List LogRow) (ds : List (AuditedDiary T)) (v w : Result (Unit {0}) AuditFault) → IsDue log ds v → IsDue log ds w → v ≡ w
  one_due log ds (Ok a) (Ok b) p q = refl
  one_due log ds (Err faults.ClientTwice) (Err faults.ClientTwice) p q = refl
  one_due log ds (Err faults.ClientMissing) (Err faults.ClientMissing) p q = refl
  one_due log ds (Err faults.RowsDiffer) (Err faults.RowsDiffer) p q = refl
  one_due log ds (Ok a) (Err faults.ClientTwice) p q = absurd (q p.0)
  one_due log ds (Ok a) (Err faults.ClientMissing) p q = absurd (q.1 p.1)
  one_due log ds (Ok a) (Err faults.RowsDiffer) p q = absurd (q.2 p.2)
  one_due log ds (Err faults.ClientTwice) (Ok b) p q = absurd (p q.0)
  one_due log ds (Err faults.ClientTwice) (Err faults.ClientMissing) p q = absurd (p q.0)
  one_due log ds (Err faults.ClientTwice) (Err faults.RowsDiffer) p q = absurd (p q.0)
  one_due log ds (Err faults.ClientMissing) (Ok b) p q = absurd (p.1 q.1)
  one_due log ds (Err faults.ClientMissing) (Err faults.ClientTwice) p q = absurd (q p.0)
  one_due log ds (Err faults.ClientMissing) (Err faults.RowsDiffer) p q = absurd (p.1 q.1)
  one_due log ds (Err faults.RowsDiffer) (Ok b) p q = absurd (p.2 q.2)
  one_due log ds (Err faults.RowsDiffer) (Err faults.ClientTwice) p q = absurd (q p.0)
  one_due log ds (Err faults.RowsDiffer) (Err faults.ClientMissing) p q = absurd (q.1 p.1)
  one_due log ds (Err faults.LandingUnknown) (Err faults.LandingUnknown) p q = refl
  one_due log ds (Ok a) (Err faults.LandingUnknown) p q = absurd (q.3 p.3)
  one_due log ds (Err faults.LandingUnknown) (Ok b) p q = absurd (p.3 q.3)
  one_due log ds (Err faults.ClientTwice) (Err faults.LandingUnknown) p q = absurd (p q.0)
  one_due log ds (Err faults.LandingUnknown) (Err faults.ClientTwice) p q = absurd (q p.0)
  one_due log ds (Err faults.ClientMissing) (Err faults.LandingUnknown) p q = absurd (p.1 q.1)
  one_due log ds (Err faults.LandingUnknown) (Err faults.ClientMissing) p q = absurd (q.1 p.1)
  one_due log ds (Err faults.RowsDiffer) (Err faults.LandingUnknown) p q = absurd (p.2 q.2)
  one_due log ds (Err faults.LandingUnknown) (Err faults.RowsDiffer) p q = absurd (q.2 p.2)
