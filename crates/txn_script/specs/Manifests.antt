-- Scripts of manifests: a world of manifests, with what the newest pins.
use Rattle.std.specs.Prelude.{◌≡◌, ℕ, List, [], Some, codes}
use Rattle.std.specs.Option.{option_map}
use Rattle.txn_history.specs.History.{newest, IsEntry}
use Rattle.txn_history.specs.Trace.{Row}
use Rattle.txn_machine.specs.Machine.{seen_of, next_event}
use Rattle.txn_script_lines.specs.Printed.{fault_name, named_fault_text}
use Rattle.txn_script.specs.Rules.{WorldRules, Rules}
use Rattle.txn_manifest.specs.declared.manifest.Manifest.{Manifest}
use Rattle.txn_manifest.specs.declared.event.ManifestFault.{ManifestFault}
use Rattle.txn_manifest.specs.declared.event.ManifestFault.TheVariants as refused
use Rattle.txn_manifest.specs.Text.{manifest_text, manifest_read}
use Rattle.txn_manifest.specs.Events.{manifest_fault, fault_number}
use Rattle.txn_manifest.specs.Runs.{ManifestTakes}
use Rattle.txn_script.specs.declared.manifest_call.ManifestCall.{ManifestCall}
use Rattle.txn_script.specs.ManifestCalls.{manifest_call_text, ManifestCallFits, event_of, as_manifests}

-- the name of a fault
abbrev pub manifest_fault_name : ManifestFault → List ℕ
manifest_fault_name (refused.World fault) = fault_name fault
manifest_fault_name refused.NotOfManifest = codes "NotOfManifest"
manifest_fault_name refused.NotPinned = codes "NotPinned"
manifest_fault_name refused.Needed = codes "Needed"

-- the line of a refused event
abbrev pub manifest_fault_text : ManifestFault → List ℕ
manifest_fault_text fault = named_fault_text (fault_number fault) (manifest_fault_name fault)

-- These ids are pinned in the newest entry; none are where there is no entry.
pub record AreNewestPins (rows : List (Row Manifest)) (pins : List ℕ) : Type 0 where
  pub none : newest rows ≡ 0 → pins ≡ []
  pub newest : (entry : Manifest) → IsEntry manifest_read rows (newest rows) entry → pins ≡ entry.pins

-- an event is taken as a world of manifests takes it, or refused with the fault that it is due
abbrev pub manifest_world : WorldRules Manifest ManifestCall
manifest_world = record {
  takes = λ old event said new. ManifestTakes manifest_text manifest_read old (event_of event) said new;
  due = λ s event. option_map manifest_fault_text (manifest_fault manifest_read (seen_of s) s.trace (event_of event));
  next = λ s op. as_manifests (next_event s op);
  decode = manifest_read;
  pins = λ s pins. (ids : List ℕ) × (pins ≡ Some ids) × AreNewestPins s.trace ids;
}

abbrev pub manifest_rules : Rules Manifest ManifestCall
manifest_rules = record {
  call_text = manifest_call_text;
  call_fits = ManifestCallFits;
  value_text = manifest_text;
  world = manifest_world;
}
