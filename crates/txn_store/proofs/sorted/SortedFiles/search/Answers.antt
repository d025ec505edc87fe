-- Each comparison leaves at most half of what a search may still have to look at.
use Rattle.std.proofs.Common.{◌∙◌, sym, subst, arith}
use Rattle.txn_store.specs.Sorted.{StandsAt, StandsBetween}
use Rattle.txn_store.proofs.EntryLemmas.{Entries}
use Rattle.txn_store.proofs.SortedLemmas.{entries_are, narrows_all, narrows_up, narrows_down, stands_at, stands_between, few_at_first, few_more, few_at_last}
use Rattle.txn_store.proofs.sorted.SortedFiles.search.Goals as goal

pub loop-low-init : goal.loop-low-init
loop-low-init c = record {
  narrows = narrows_all c.args.mark c.args.asked.now c.self.inside.entries.items c.len-high.result (c.len-high.ensures ∙ c.self.inside.entries.ok.0);
  few = few_at_first c.self.inside.entries.items c.args.compared.now c.len-high.result c.most_on_a_side-most.result (c.len-high.ensures ∙ c.self.inside.entries.ok.0) c.most_on_a_side-most.ensures.covers c.most_on_a_side-most.ensures.few;
}

pub index-requires : goal.index-requires
index-requires c = let n = c.loop-low.invariant.narrows in let most = n.within in let long = c.self.inside.entries.ok.0 in let some = c.compared_next-middle.ensures.within in omega (arith, most, long, some)

pub loop-low-preserved-in-Less : goal.loop-low-preserved-in-Less
loop-low-preserved-in-Less c =
    let i = c.loop-low.invariant in
    let counted = c.compare-last.ensures.counted in
    record {
      narrows = narrows_up c.args.mark c.args.asked.now c.self.inside.entries.items c.loop-low.low c.loop-low.high c.compared_next-middle.result c.index.result.now c.self.invariant i.narrows c.compared_next-middle.ensures.rising c.compared_next-middle.ensures.within c.index.ensures (sym c.compare-last.ensures.side ∙ c.in-Less.is);
      few = few_more c.self.inside.entries.items c.args.compared.now c.loop-low.compared c.compare-last.new.compared c.loop-low.low c.loop-low.high c.loop-low.most _ c.loop-low.high i.few c.loop-low-test.true (omega (arith, counted)) (c.compared_next-middle.ensures.behind (i.few.covers c.loop-low-test.true));
    }

pub loop-low-preserved : goal.loop-low-preserved
loop-low-preserved c =
    let i = c.loop-low.invariant in
    let counted = c.compare-last.ensures.counted in
    record {
      narrows = narrows_down c.args.mark c.args.asked.now c.self.inside.entries.items c.loop-low.low c.loop-low.high c.compared_next-middle.result c.index.result.now c.self.invariant i.narrows c.compared_next-middle.ensures.rising c.compared_next-middle.ensures.within c.index.ensures (sym c.compare-last.ensures.side ∙ c.in-Greater.is);
      few = few_more c.self.inside.entries.items c.args.compared.now c.loop-low.compared c.compare-last.new.compared c.loop-low.low c.loop-low.high c.loop-low.most c.loop-low.low _ i.few c.loop-low-test.true (omega (arith, counted)) (c.compared_next-middle.ensures.before (i.few.covers c.loop-low-test.true));
    }

pub returns-in-Equal-clause-place : goal.returns-in-Equal-clause-place
returns-in-Equal-clause-place c =
    subst (λ (es : Entries). StandsAt c.args.mark c.args.asked.now es c.compared_next-middle.result) (sym (entries_are c.self.inside.entries.items c.args.self.now c.self.invariant c.self.view_is))
    (stands_at c.args.mark c.args.asked.now c.self.inside.entries.items c.loop-low.low c.loop-low.high c.compared_next-middle.result c.index.result.now c.self.invariant c.loop-low.invariant.narrows c.compared_next-middle.ensures.rising c.compared_next-middle.ensures.within c.index.ensures (sym c.compare-last.ensures.side ∙ c.in-Equal.is))

pub returns-in-Equal-clause-few : goal.returns-in-Equal-clause-few
returns-in-Equal-clause-few c =
    let counted = c.compare-last.ensures.counted in
    rw (entries_are c.self.inside.entries.items c.args.self.now c.self.invariant c.self.view_is)
    (few_at_last c.self.inside.entries.items c.args.compared.now c.loop-low.compared c.compare-last.new.compared c.loop-low.low c.loop-low.high c.loop-low.most c.loop-low.invariant.few c.loop-low-test.true (omega (arith, counted)))

pub returns-clause-place : goal.returns-clause-place
returns-clause-place c =
    subst (λ (es : Entries). StandsBetween c.args.mark c.args.asked.now es c.loop-low.low) (sym (entries_are c.self.inside.entries.items c.args.self.now c.self.invariant c.self.view_is))
    (stands_between c.args.mark c.args.asked.now c.self.inside.entries.items c.loop-low.low c.loop-low.high c.loop-low.invariant.narrows c.loop-low-test.false)

pub returns-clause-few : goal.returns-clause-few
returns-clause-few c =
    let few = c.loop-low.invariant.few.now in
    rw (entries_are c.self.inside.entries.items c.args.self.now c.self.invariant c.self.view_is) (omega (arith, few))

pub returns-in-Equal-clause-small : goal.returns-in-Equal-clause-small
returns-in-Equal-clause-small c =
    let most = c.loop-low.invariant.narrows.within in
    let long = c.self.inside.entries.ok.0 in
    let small = c.self.inside.entries.small in
    let some = c.compared_next-middle.ensures.within in
    omega (arith, most, long, small.0, small.1, some)
