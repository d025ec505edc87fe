-- Bytes that are escaped one after another.
use Rattle.std.proofs.Common.{◌≡◌, ℕ, ◌+◌, ◌<◌, List, ◌++◌, length, drop, get_or, add-one, refl, sym, ◌∙◌, ap, append_assoc}
use Rattle.std.proofs.Math.Seq.{drop-cons}
use Rattle.txn_drawing_svg.specs.Escaped.{each}

-- one more byte is added
pub one_more : (stands_for : ℕ → List ℕ) (bytes : List ℕ) (i d : ℕ) (now new all : List ℕ) → i < length bytes → now ++ each stands_for (drop i bytes) ≡ all → new ≡ now ++ stands_for (get_or bytes i d) → new ++ each stands_for (drop (i + 1) bytes) ≡ all
one_more stands_for bytes i d now new all lt so_far is =
    let this = stands_for (get_or bytes i d) in
    let rest = each stands_for (drop (i + 1) bytes) in
    ap (λ it. it ++ rest) is ∙ append_assoc now this rest ∙ ap (λ more. now ++ more) (sym (ap (each stands_for) (drop-cons bytes i d lt) ∙ rw add-one refl)) ∙ so_far
