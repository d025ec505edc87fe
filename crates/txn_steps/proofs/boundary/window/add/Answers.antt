use Rattle.std.proofs.Common.{rules, ◌-◌, ap, sym, insert, remove, ◌∙◌}
use Rattle.txn_steps.proofs.boundary.WindowLemmas.{placed_at, replaced_at, added_few, added_many}
use Rattle.txn_steps.proofs.boundary.window.add.Goals as goal

pub returns-then-not-is_full : goal.returns-then-not-is_full
returns-then-not-is_full c =
    let v = c.args.version in
    let xs = c.args.versions.now.items in
    c.insert.ensures.items ∙ ap (λ n. insert xs n v) c.requires.place ∙ sym (placed_at v xs) ∙ sym (added_few v xs (search rules))

pub returns-then-place-gt0 : goal.returns-then-place-gt0
returns-then-place-gt0 c =
    let v = c.args.version in
    let xs = c.args.versions.now.items in
    c.insert-then-place-gt0.ensures.items ∙ ap (λ ys. insert ys (c.args.place - 1) v) c.remove-smallest.ensures.items ∙ ap (λ n. insert (remove xs 0) (n - 1) v) c.requires.place
    ∙ sym (replaced_at v xs (search rules)) ∙ sym (added_many v xs (search rules))
