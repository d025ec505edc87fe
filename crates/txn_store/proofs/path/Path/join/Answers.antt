-- The text gains a line.
use Rattle.std.proofs.Common.{◌≡◌, ◌∙◌, ap, true, ◌++◌, ◌∷◌, [], rules, string_bytes, List, ℕ}
use Rattle.txn_store.specs.Paths.{is_plain}
use Rattle.txn_store.specs.PathText.{segments_in}
use Rattle.txn_store.proofs.TextLemmas.{pushed_kept, pushed_shows}
use Rattle.txn_store.proofs.path.Path.join.Goals as goal
use Rattle.txn_store.proofs.path.Path.join.Goals.{In_ok-push_line}

text_is : (c : In_ok-push_line) → string_bytes c.push_line.new.text ≡ c.self.inside.text ++ c.args.segment.now ++ 10 ∷ []
text_is c = c.in_ok-push_line.ensures ∙ ap (λ (r : List ℕ). r ++ c.args.segment.now ++ 10 ∷ []) (c.in_ok-text.ensures ∙ c.as_str.ensures.value)

plain : (c : In_ok-push_line) → is_plain c.args.segment.now ≡ true
plain c = search rules

pub from_lines-requires : goal.from_lines-requires
from_lines-requires c = rw (text_is c) (pushed_kept _ _ _ c.self.invariant c.self.view_is (plain c))

pub returns-clause-ok : goal.returns-clause-ok
returns-clause-ok c =
    let made = (goal.at.returns-clause-ok c).In_ok-push_line in
    c.from_lines.ensures ∙ ap segments_in (text_is made) ∙ pushed_shows _ _ _ c.self.invariant c.self.view_is (plain made)
