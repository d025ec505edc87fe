-- Why an update of a view is refused: it asks no more of the value than its epoch.
use Rattle.std.proofs.Common.{◌≡◌, ℕ, List, Bool, true, false, Option, ap}
use Rattle.std.specs.Prelude.{is_some}
use Rattle.txn_history.specs.declared.event.EventOf.TheVariants as events
use Rattle.txn_history.specs.Allowed.{fault_of}
use Rattle.txn_history.specs.Seen.{AllSeen}
use Rattle.txn_history.specs.Trace.{Row}
use Rattle.txn_history.specs.Views.{View}
use Rattle.txn_manifest.specs.declared.manifest.Manifest.{Manifest}
use Rattle.txn_manifest.specs.Manifest.{epoch_of}
use Rattle.txn_manifest.specs.Events.{update_as, update_call}

module _ (decode : List ℕ → Option Manifest) (seen : AllSeen Manifest) (rows : List (Row Manifest)) where
  by_kind : (holder : Bool) (client number : ℕ) (value other : Manifest) → value.epoch ≡ other.epoch → fault_of decode epoch_of seen rows (events.Begin client (update_as holder number value)) ≡ fault_of decode epoch_of seen rows (events.Begin client (update_as holder number other))
  by_kind true client number value other same = ap (λ n. fault_of decode epoch_of seen rows (events.Begin client (update_as true number (record { epoch = n; payload = value.payload; pins = value.pins })))) same
  by_kind false client number value other same = ap (λ n. fault_of decode epoch_of seen rows (events.Begin client (update_as false number (record { epoch = n; payload = value.payload; pins = value.pins })))) same

  pub same_refusal : (view : View Manifest) (client number : ℕ) (value other : Manifest) → value.epoch ≡ other.epoch → fault_of decode epoch_of seen rows (events.Begin client (update_call view number value)) ≡ fault_of decode epoch_of seen rows (events.Begin client (update_call view number other))
  same_refusal view client number value other same = by_kind (is_some view.epoch) client number value other same
