-- What says a call of a script of manifests is text.
use Rattle.std.proofs.Common.{refl}
use Rattle.std.specs.Prelude.{codes}
use Rattle.std.specs.Str.{IsUtf8}
use Rattle.txn_script_lines.specs.Numerals.{pair_text}
use Rattle.txn_script_lines.specs.TextLaws.{numbered_utf8, after_word, pair_utf8, call_utf8}
use Rattle.txn_manifest.specs.Text.{manifest_text, IsManifest}
use Rattle.txn_manifest.specs.TextLaws.{manifest_utf8}
use Rattle.txn_script.specs.declared.manifest_call.OwnCall.{OwnCall}
use Rattle.txn_script.specs.declared.manifest_call.OwnCall.TheVariants.{Checkpoint, Release, SetPayload, Fence, Sweep}
use Rattle.txn_script.specs.declared.manifest_call.ManifestCall.{ManifestCall}
use Rattle.txn_script.specs.declared.manifest_call.ManifestCall.TheVariants.{Any, Own}
use Rattle.txn_script.specs.ManifestCalls.{own_text, OwnFits, manifest_call_text, ManifestCallFits}

own_utf8 : (call : OwnCall) → OwnFits call → IsUtf8 (own_text call)
own_utf8 (Checkpoint view) ok = numbered_utf8 (codes "checkpoint") view refl ok
own_utf8 (Release view id) ok = after_word (codes "release") (pair_text view id) refl (pair_utf8 view id ok)
own_utf8 (SetPayload view payload) ok = after_word (codes "payload") (pair_text view payload) refl (pair_utf8 view payload ok)
own_utf8 (Fence view) ok = numbered_utf8 (codes "fence") view refl ok
own_utf8 (Sweep view id) ok = after_word (codes "sweep") (pair_text view id) refl (pair_utf8 view id ok)

pub manifest_call_utf8 : (call : ManifestCall) → ManifestCallFits call → IsUtf8 (manifest_call_text call)
manifest_call_utf8 (Any call) ok = call_utf8 manifest_text IsManifest manifest_utf8 call ok
manifest_call_utf8 (Own call) ok = own_utf8 call ok
