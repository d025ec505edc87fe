use Rattle.std.proofs.Common.{arith, ◌≡◌, ℕ, suc, ◌+◌, ◌-◌, ◌<◌, ◌≤◌, length, List, ◌∷◌, ◌++◌, take, drop, get_or, sym, ap, refl, ◌∙◌}
use Rattle.std.proofs.lemmas.List.{take-append-drop}
use Rattle.std.proofs.Math.Seq.{drop-cons}
use Rattle.txn_folder.proofs.tear.tear_in.Goals as goal

-- the element before what was dropped parts a list
parted : (xs rest : List ℕ) (p k x : ℕ) → k + 1 ≡ p → p ≤ length xs → drop p xs ≡ rest → get_or xs k 0 ≡ x → (before : List ℕ) × (xs ≡ before ++ x ∷ rest)
parted xs rest p k x next within dropped at =
    let after : suc k ≡ p = omega (arith, next) in
    let inside : k < length xs = omega (arith, next, within) in
    let last : drop k xs ≡ x ∷ rest = drop-cons xs k 0 inside ∙ rw (after, dropped, at) refl in
    (take k xs, sym (take-append-drop k xs) ∙ ap (λ ys. take k xs ++ ys) last)

-- the first value that is met is above all that were not read
pub returns-in-Whole : goal.returns-in-Whole
returns-in-Whole g c =
    let read = rw c.in-Whole.is at c.in_ok-whole.ensures in
    parted c.args.ids.now _ c.loop-place.place (c.loop-place.place - 1) _ (omega (arith, c.loop-place-test.true)) c.loop-place.auto.place c.loop-place.invariant (sym read)
