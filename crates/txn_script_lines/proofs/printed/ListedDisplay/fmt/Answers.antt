use Rattle.std.proofs.Common.{◌≡◌, ℕ, ◌+◌, ◌<◌, List, ◌∷◌, ◌++◌, length, drop, get_or, decimal, add-one, sym, ◌∙◌, ap, refl}
use Rattle.std.proofs.lemmas.List.{append_assoc}
use Rattle.std.proofs.Math.Seq.{drop-cons}
use Rattle.std.proofs.Output.{has_written_append}
use Rattle.txn_script_lines.specs.Printed.{ids_text}
use Rattle.txn_script_lines.proofs.printed.ListedDisplay.fmt.Goals as goal

ids_step : (i : ℕ) (ids : List ℕ) → i < length ids → ids_text (drop i ids) ≡ (32 ∷ decimal (get_or ids i 0)) ++ ids_text (drop (i + 1) ids)
ids_step i ids lt = ap ids_text (drop-cons ids i 0 lt) ∙ rw add-one refl

pub loop-id-preserved : goal.loop-id-preserved
loop-id-preserved g c =
    let before = c.loop-id.invariant in
    let ids = c.args.self.now.0.now in
    let word = 32 ∷ decimal (get_or ids c.loop-id.id-index 0) in (
      before.0 ++ word,
      λ plain. has_written_append _ _ _ _ _ _ (before.1 plain) (c.in_ok-write.ensures.writes (before.1 plain).plain refl),
      append_assoc before.0 word (ids_text (drop (c.loop-id.id-index + 1) ids)) ∙ ap (λ more. before.0 ++ more) (sym (ids_step c.loop-id.id-index ids c.loop-id-test.true)) ∙ before.2,
    )
