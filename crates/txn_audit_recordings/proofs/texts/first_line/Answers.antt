use Rattle.std.proofs.Common.{◌≡◌, ℕ, List, Option, Some, None, MatchOption, length, Bor, ◌∙◌, ap, sym, subst}
use Rattle.std.specs.Str.{IsUtf8}
use Rattle.std.specs.Str.Iter.{lines_rest, lines_steps}
use Rattle.std.specs.Str.Lines.{IsFirstLine}
use Rattle.txn_audit_recordings.proofs.texts.first_line.Goals as goal

-- the first step over the lines of a text
first_of : (s t : _) (r : Option (Bor (List ℕ))) (bytes : List ℕ) → lines_rest s ≡ bytes → IsUtf8 bytes → lines_steps s r t → MatchOption r (IsUtf8 bytes → length bytes ≡ 0) (λ line. (rest : List ℕ) × IsUtf8 bytes × IsFirstLine bytes line.now rest)
first_of s t None bytes same text steps = λ _. ap length (sym same) ∙ steps.0.0
first_of s t (Some line) bytes same text steps = (lines_rest t, text, subst (λ (whole : List ℕ). IsFirstLine whole line.now (lines_rest t)) same steps.0.2)

pub returns-in-Ok : goal.returns-in-Ok
returns-in-Ok c = first_of _ _ _ c.args.bytes.now (c.lines.ensures.rest ∙ c.in-Ok.ensures.cases.0) c.in-Ok.ensures.cases.1 c.next.ensures.steps
