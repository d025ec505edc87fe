-- What was written into a short text is what it has.
use Rattle.std.proofs.Common.{◌≡◌, ◌∙◌, ap, sym, ℕ, List, [], ◌∷◌, ◌++◌, append_assoc, append-nil}
use Rattle.std.specs.List.{concat, FoldsTo}
use Rattle.std.specs.Fmt.{WritesInCalls}
use Rattle.arrayvec.specs.ArrayString.{ArrayString}

abbrev pub Appends : ArrayString → List ℕ → ArrayString → Type 0
Appends text bytes more = more.bytes ≡ text.bytes ++ bytes

appended : (parts : List (List ℕ)) (text more : ArrayString) → FoldsTo Appends text parts more → more.bytes ≡ text.bytes ++ concat parts
appended [] text more same = ap (λ (t : ArrayString). t.bytes) (sym same) ∙ sym (append-nil text.bytes)
appended (part ∷ parts) text more (next, first, rest) =
    appended parts next more rest ∙ ap (λ (r : List ℕ). r ++ concat parts) first ∙ append_assoc text.bytes part (concat parts)

pub written : (text more : ArrayString) (bytes : List ℕ) → WritesInCalls Appends text bytes more → more.bytes ≡ text.bytes ++ bytes
written text more bytes w = appended w.parts text more w.calls ∙ ap (λ (r : List ℕ). text.bytes ++ r) w.whole
