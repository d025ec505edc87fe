-- The segments, each but the first after a slash.
use Rattle.std.proofs.Common.{◌∙◌, refl, ap, sym, lit<, Some, None, map, List, ℕ, ◌++◌, ◌∷◌, [], rules}
use Rattle.std.specs.Str.Iter.{split_text, split_has_more, split_pattern}
use Rattle.std.proofs.lemmas.Iterator.Splits.{YieldsList-from_str_split}
use Rattle.std.proofs.lemmas.Iterator.Consumers.{YieldsList-end}
use Rattle.std.proofs.lemmas.Str.Pattern.{strip_suffix_char}
use Rattle.std.proofs.lemmas.List.{map-append}
use Rattle.std.proofs.Output.{has_written_append, has_written_of_eq}
use Rattle.txn_store.specs.Paths.{shown}
use Rattle.txn_store.specs.PathText.{lines_of}
use Rattle.txn_store.proofs.Shown.{no_segment, split_kept, shown-push, separator_after, separator_after-push}
use Rattle.txn_store.proofs.path.PathDisplay.fmt.Goals as goal
use denote.Ref.{Bor}

pub returns-in_default-clause-writes : goal.returns-in_default-clause-writes
returns-in_default-clause-writes g c = λ plain ok.
    let none = strip_suffix_char 10 c.as_str.result.now None c.in_default.ensures.cases (lit< tt) in
    has_written_of_eq _ _ _ _ _ (no_segment c.as_str.result.now c.args.self.now (c.as_str.ensures.value ∙ c.self.invariant.whole ∙ ap lines_of c.self.view_is) none) (search rules)

pub loop-segment-preserved : goal.loop-segment-preserved
loop-segment-preserved g c =
    let seen = map (λ (x : Bor (List ℕ)). x.now) c.loop-segment.yielded in
    let more = map-append (λ (x : Bor (List ℕ)). x.now) c.loop-segment.yielded (c.in-Some-segment.segment ∷ []) in
    record {
      can_next = tt;
      is_finite = tt;
      separator = sym (ap separator_after more ∙ separator_after-push seen c.in-Some-segment.segment.now);
      so_far = λ plain.
          has_written_of_eq _ _ _ _ _ (
          ap (λ r. shown seen ++ (r ++ c.in-Some-segment.segment.now)) c.loop-segment.invariant.separator
          ∙ sym (ap shown more ∙ shown-push seen c.in-Some-segment.segment.now))
          (has_written_append _ _ _ _ _ _ (c.loop-segment.invariant.so_far plain) (c.in_ok-write.ensures.writes (c.loop-segment.invariant.so_far plain).plain refl));
    }

pub returns-clause-writes : goal.returns-clause-writes
returns-clause-writes g c = λ plain ok.
    let same = c.into_iter-segment-iterator.ensures.into_iter_gives in
    let split = c.split-segment-items.ensures in
    let cuts = YieldsList-from_str_split {s = c.into_iter-segment-iterator.result} 10 c.in-Some.lines.now (lit< tt) (ap split_text same ∙ split.text) (ap split_has_more same ∙ split.has_more) (ap split_pattern same ∙ split.pattern) in
    let all = (YieldsList-end cuts c.loop-segment.yielded _ c.loop-segment.yielded_by _ _ c.in-None.is c.next.ensures.steps).0 in
    let lines = strip_suffix_char 10 c.as_str.result.now (Some c.in-Some.lines) c.in-Some.ensures.cases (lit< tt) in
    let path = split_kept _ c.in-Some.lines.now c.args.self.now c.self.invariant c.self.view_is (sym c.as_str.ensures.value ∙ lines) in
    has_written_of_eq _ _ _ _ _ (ap shown (all ∙ path)) (c.loop-segment.invariant.so_far plain)
