use Rattle.std.proofs.Common.{◌∙◌, ap, sym}
use Rattle.txn_history.specs.declared.event.Call.{Call}
use Rattle.txn_history.specs.declared.event.EventOf.TheVariants as events
use Rattle.txn_history.specs.Allowed.{fault_of}
use Rattle.txn_machine.specs.Machine.{seen_of}
use Rattle.txn_manifest.specs.declared.manifest.Manifest.{Manifest}
use Rattle.txn_manifest.specs.Text.{manifest_read}
use Rattle.txn_manifest.specs.Manifest.{epoch_of, with_pins}
use Rattle.txn_manifest.specs.Events.{update_call}
use Rattle.txn_manifest.proofs.Refusing.{same_refusal}
use Rattle.txn_manifest.proofs.world.update_refusal.Goals as goal

pub returns : goal.returns
returns c value same =
    let s = c.args.world.now.state in
    c.refusal-fault.ensures
    ∙ (ap (λ (call : Call Manifest). fault_of manifest_read epoch_of (seen_of s) s.trace (events.Begin c.args.client call)) (c.update.ensures ∙ ap (update_call c.args.view.now c.args.number) c.with_pins.ensures)
    ∙ same_refusal manifest_read (seen_of s) s.trace c.args.view.now c.args.client c.args.number (with_pins c.args.view.now.object c.none.result) value (sym same))
