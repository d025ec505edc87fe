-- Clients that are shut out, one after another.
use Rattle.std.proofs.Common.{◌≡◌, ℕ, ◌+◌, ◌<◌, List, ◌∷◌, ◌++◌, [], length, take, drop, set, map, get_or, sym, ◌∙◌, ap, arith, append_assoc}
use Rattle.std.proofs.lemmas.List.{drop_more, take_more_set, map_more, drop-set-lt, drop-drop}
use Rattle.txn_drawing_moments.specs.declared.holds.Hold.{Hold}
use Rattle.txn_drawing_moments.specs.declared.holds.ShutOut.{ShutOut}
use Rattle.txn_drawing_moments.specs.Epochs.{shut_by, out_by, all_out_by}

-- what stands next is the same, where what is left is
pub same_next : (now old : List Hold) (i : ℕ) (d : Hold) → i < length old → length now ≡ length old → drop i now ≡ drop i old → get_or now i d ≡ get_or old i d
same_next now old i d lt many left =
    let lt-now : i < length now = omega (arith, lt, many) in
    let both : get_or now i d ∷ drop (i + 1) now ≡ get_or old i d ∷ drop (i + 1) old = sym (drop_more now i d lt-now) ∙ left ∙ drop_more old i d lt in
    ap (λ it. get_or it 0 d) both

-- what is left after it is the same
pub same_left : (now old : List Hold) (i : ℕ) (new : Hold) → drop i now ≡ drop i old → drop (i + 1) (set now i new) ≡ drop (i + 1) old
same_left now old i new left =
    drop-set-lt (i + 1) now i new (omega arith) ∙ sym (drop-drop 1 i now) ∙ ap (drop 1) left ∙ drop-drop 1 i old

-- one more is shut out, if it holds less
pub one_shut : (epoch i : ℕ) (now old : List Hold) (new d : Hold) → i < length old → length now ≡ length old → drop i now ≡ drop i old → new ≡ shut_by epoch (get_or now i d) → take i now ≡ map (shut_by epoch) (take i old) → take (i + 1) (set now i new) ≡ map (shut_by epoch) (take (i + 1) old)
one_shut epoch i now old new d lt many left is so_far =
    let lt-now : i < length now = omega (arith, lt, many) in
    let same = is ∙ ap (shut_by epoch) (same_next now old i d lt many left) in
    take_more_set now i new lt-now ∙ ap (λ it. it ++ new ∷ []) so_far ∙ ap (λ it. map (shut_by epoch) (take i old) ++ it ∷ []) same ∙ sym (map_more (shut_by epoch) old i d lt)

-- one more is told, if it is shut out
pub one_told : (epoch i : ℕ) (old : List Hold) (d : Hold) (out new all : List ShutOut) → i < length old → out ++ all_out_by epoch (i + 1) (drop i old) ≡ all → new ≡ out ++ out_by epoch (i + 1) (get_or old i d) → new ++ all_out_by epoch (i + 1 + 1) (drop (i + 1) old) ≡ all
one_told epoch i old d out new all lt so_far is =
    let one = out_by epoch (i + 1) (get_or old i d) in
    let rest = all_out_by epoch (i + 1 + 1) (drop (i + 1) old) in
    ap (λ it. it ++ rest) is ∙ append_assoc out one rest ∙ ap (λ it. out ++ it) (sym (ap (all_out_by epoch (i + 1)) (drop_more old i d lt))) ∙ so_far
