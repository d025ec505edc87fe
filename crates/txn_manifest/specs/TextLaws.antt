-- What says a manifest is text.
use Rattle.std.proofs.Common.{◌<◌, ◌^◌, ℕ, List, [], ◌∷◌, ◌++◌, refl}
use Rattle.std.specs.List.{All}
use Rattle.std.specs.Fmt.{decimal}
use Rattle.std.specs.Str.{IsUtf8}
use Rattle.std.proofs.lemmas.List.Elements.{All-head, All-tail}
use Rattle.txn_script_lines.specs.TextLaws.{between_utf8, number_utf8, word_utf8}
use Rattle.txn_manifest.specs.declared.manifest.Manifest.{Manifest}
use Rattle.txn_manifest.specs.Text.{pins_text, manifest_text, IsManifest}

pins_utf8 : (pins : List ℕ) → All (λ pin. pin < 2 ^ 64) pins → IsUtf8 (pins_text pins)
pins_utf8 [] small = word_utf8 [] refl
pins_utf8 (pin ∷ []) small = number_utf8 pin (All-head (λ pin. pin < 2 ^ 64) pin [] small)
pins_utf8 (pin ∷ next ∷ pins) small = between_utf8 (decimal pin) (pins_text (next ∷ pins)) 44 refl (number_utf8 pin (All-head (λ pin. pin < 2 ^ 64) pin (next ∷ pins) small)) (pins_utf8 (next ∷ pins) (All-tail (λ pin. pin < 2 ^ 64) pin (next ∷ pins) small))

pub manifest_utf8 : (v : Manifest) → IsManifest v → IsUtf8 (manifest_text v)
manifest_utf8 v fits = between_utf8 (decimal v.epoch) (decimal v.payload ++ 58 ∷ pins_text v.pins) 58 refl (number_utf8 v.epoch fits.epoch) (between_utf8 (decimal v.payload) (pins_text v.pins) 58 refl (number_utf8 v.payload fits.payload) (pins_utf8 v.pins fits.pins.small))
