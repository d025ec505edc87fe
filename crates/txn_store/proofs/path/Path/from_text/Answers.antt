-- The loop goes over the parts in order.
use Rattle.std.proofs.Common.{◌≡◌, ◌∙◌, ◌==◌, ◌++◌, ◌∷◌, [], true, ap, lit<, length, string_bytes, rules, false, map, List, ℕ, sym, append_assoc}
use Rattle.std.specs.Str.Iter.{split_text, split_has_more, split_pattern}
use Rattle.std.proofs.lemmas.Iterator.Splits.{YieldsList-from_str_split}
use Rattle.std.proofs.lemmas.Iterator.Consumers.{YieldsList-end}
use Rattle.txn_store.specs.Paths.{named, parts, all_plain}
use Rattle.txn_store.specs.PathText.{lines_of}
use Rattle.txn_store.proofs.TextLemmas.{kept, shows, lines_of-push}
use Rattle.txn_store.proofs.PathLemmas.{named-push}
use Rattle.std.proofs.lemmas.List.{map-append}
use denote.Ref.{Bor}
use Rattle.txn_store.proofs.path.Path.from_text.Goals as goal
use Rattle.txn_store.proofs.path.Path.from_text.Goals.{In-None}

text_is : (c : In-None) → string_bytes c.loop-part.kept ≡ lines_of (parts c.args.text.now)
text_is c =
    let same = c.into_iter-part-iterator.ensures.into_iter_gives in
    let split = c.split-part-items.ensures in
    let cuts = YieldsList-from_str_split {s = c.into_iter-part-iterator.result} 47 c.args.text.now (lit< tt) (ap split_text same ∙ split.text) (ap split_has_more same ∙ split.has_more) (ap split_pattern same ∙ split.pattern) in
    c.loop-part.invariant.so_far ∙ ap (λ ps. lines_of (named ps)) (YieldsList-end cuts c.loop-part.yielded _ c.loop-part.yielded_by _ _ c.in-None.is c.next.ensures.steps).0

plain : (c : In-None) → all_plain (parts c.args.text.now) ≡ true
plain c = search rules

pub from_lines-requires : goal.from_lines-requires
from_lines-requires c = kept _ _ (plain c) (text_is c)

pub returns-clause-ok : goal.returns-clause-ok
returns-clause-ok c =
    let made = (goal.at.returns-clause-ok c).In-None in
    c.from_lines.ensures ∙ shows _ _ (plain made) (text_is made)

pub loop-part-preserved-in-Continue-branch-2 : goal.loop-part-preserved-in-Continue-branch-2
loop-part-preserved-in-Continue-branch-2 c =
    let ps = map (λ (x : Bor (List ℕ)). x.now) c.loop-part.yielded in
    let full : (length c.in-Some.part.now == 0) ≡ false = search rules in
    let more = lines_of-push (named ps) c.in-Some.part.now in
    record {
      can_next = tt;
      is_finite = tt;
      so_far =
          c.in_ok-push_line.ensures ∙ ap (λ (r : List ℕ). r ++ c.in-Some.part.now ++ 10 ∷ []) c.loop-part.invariant.so_far
          ∙ append_assoc (lines_of (named ps)) c.in-Some.part.now (10 ∷ []) ∙ sym more
          ∙ ap lines_of (sym (named-push ps c.in-Some.part.now full) ∙ ap named (sym (map-append (λ (x : Bor (List ℕ)). x.now) c.loop-part.yielded (c.in-Some.part ∷ []))));
    }
