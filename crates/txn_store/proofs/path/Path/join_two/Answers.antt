-- The text gains a line, and one more.
use Rattle.std.proofs.Common.{◌≡◌, ◌∙◌, ap, true, ◌++◌, ◌∷◌, [], rules, string_bytes, List, ℕ, append_assoc}
use Rattle.txn_store.specs.Paths.{is_plain}
use Rattle.txn_store.specs.PathText.{segments_in, IsKept}
use Rattle.txn_store.proofs.TextLemmas.{pushed_kept, pushed_shows}
use Rattle.txn_store.proofs.path.Path.join_two.Goals as goal
use Rattle.txn_store.proofs.path.Path.join_two.Goals.{In_ok-push_line-2}

module _ (c : In_ok-push_line-2) where
  text_is : string_bytes c.push_line.new.text ≡ c.self.inside.text ++ c.args.first.now ++ 10 ∷ []
  text_is = c.in_ok-push_line.ensures ∙ ap (λ (r : List ℕ). r ++ c.args.first.now ++ 10 ∷ []) (c.in_ok-text.ensures ∙ c.as_str.ensures.value)

  first : is_plain c.args.first.now ≡ true
  first = search rules

  second : is_plain c.args.second.now ≡ true
  second = search rules

  line_kept : IsKept (string_bytes c.push_line.new.text)
  line_kept = rw text_is (pushed_kept _ _ _ c.self.invariant c.self.view_is first)

  line_shows : segments_in (string_bytes c.push_line.new.text) ≡ c.args.self.now ++ c.args.first.now ∷ []
  line_shows = ap segments_in text_is ∙ pushed_shows _ _ _ c.self.invariant c.self.view_is first

pub from_lines-requires : goal.from_lines-requires
from_lines-requires c = rw c.in_ok-push_line-2.ensures (pushed_kept _ _ _ (line_kept c) (line_shows c) (second c))

pub returns-clause-ok : goal.returns-clause-ok
returns-clause-ok c =
    let made = (goal.at.returns-clause-ok c).In_ok-push_line-2 in
    c.from_lines.ensures ∙ ap segments_in c.in_ok-push_line-2.ensures ∙ pushed_shows _ _ _ (line_kept made) (line_shows made) (second made) ∙ append_assoc c.args.self.now (c.args.first.now ∷ []) (c.args.second.now ∷ [])
