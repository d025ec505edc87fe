use Rattle.std.proofs.Common.{◌+◌, ◌∷◌, ◌++◌, drop, get_or, decimal, sym, ◌∙◌, ap, refl}
use Rattle.std.proofs.lemmas.List.{append_assoc}
use Rattle.std.proofs.Output.{has_written_append}
use Rattle.txn_manifest.specs.Text.{pins_text}
use Rattle.txn_manifest.proofs.Parts.{after_text, after_step, first_text}
use Rattle.txn_manifest.proofs.pins.CommasDisplay.fmt.Goals as goal

pub loop-pin-init : goal.loop-pin-init
loop-pin-init g c =
    let first = c.in-Some.first.now in
    let rest = c.in-Some.rest.now in (
      decimal first,
      λ plain. c.in_ok-write.ensures.writes plain refl,
      sym (first_text first rest) ∙ ap pins_text (sym c.in-Some.ensures.cases.0),
    )

pub loop-pin-preserved : goal.loop-pin-preserved
loop-pin-preserved g c =
    let before = c.loop-pin.invariant in
    let rest = c.in-Some.rest.now in
    let word = 44 ∷ decimal (get_or rest c.loop-pin.pin-index 0) in (
      before.0 ++ word,
      λ plain. has_written_append _ _ _ _ _ _ (before.1 plain) (c.in_ok-write-2.ensures.writes (before.1 plain).plain refl),
      append_assoc before.0 word (after_text (drop (c.loop-pin.pin-index + 1) rest)) ∙ ap (λ more. before.0 ++ more) (sym (after_step c.loop-pin.pin-index rest c.loop-pin-test.true)) ∙ before.2,
    )
