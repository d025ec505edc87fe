-- Each file is told once, in order.
use Rattle.std.proofs.Common.{◌∙◌, ◌-◌, ◌++◌, List, map, take, drop, length, sym, ap, refl, arith}
use Rattle.std.specs.FinMap.{entries}
use Rattle.std.specs.VecDeque.Iter.{deque_iter_rest}
use Rattle.txn_store.specs.Store.{meta_of}
use Rattle.txn_store.specs.declared.store.ObjectMeta.{ObjectMeta}
use Rattle.txn_store.proofs.EntryLemmas.{Entries}
use Rattle.txn_store.proofs.SortedLemmas.{entries_are}
use Rattle.txn_store.proofs.PlaceLemmas.{one_told, all_told}
use Rattle.txn_store.proofs.sorted.SortedFiles.metas.Goals as goal

pub range-path-items-requires-clause-in_bounds : goal.range-path-items-requires-clause-in_bounds
range-path-items-requires-clause-in_bounds c =
    let most = c.requires.within in
    let long = c.self.inside.entries.ok.0 in
    let same = ap (λ (es : Entries). length es) (entries_are c.self.inside.entries.items c.args.self.now c.self.invariant c.self.view_is) in
    omega (arith, most, long, same)

pub loop-path-init : goal.loop-path-init
loop-path-init c =
    let es = entries_are c.self.inside.entries.items c.args.self.now c.self.invariant c.self.view_is in
    ap (λ (r : List ObjectMeta). r ++ map meta_of (deque_iter_rest c.into_iter-path-iterator.result)) c.in_ok-metas.ensures.items
    ∙ (ap (λ r. map meta_of (deque_iter_rest r)) c.into_iter-path-iterator.ensures.into_iter_gives
    ∙ (ap (map meta_of) c.range-path-items.ensures.rest
    ∙ ap (λ (xs : Entries). map meta_of (take (c.args.end - c.args.start) (drop c.args.start xs))) (sym es)))

pub loop-path-preserved : goal.loop-path-preserved
loop-path-preserved c =
    ap (λ (r : List ObjectMeta). r ++ map meta_of (deque_iter_rest c.next.new.self)) c.in_ok-push.ensures.items
    ∙ one_told c.loop-path.metas.items (deque_iter_rest c.loop-path.path-iterator) (deque_iter_rest c.next.new.self) (take (c.args.end - c.args.start) (drop c.args.start (entries c.args.self.now))) c.in-Some.field-0.now _ c.in-Some.ensures.steps (rw (c.in_ok-try_clone.ensures, c.len.ensures.value) refl) c.loop-path.invariant

pub returns : goal.returns
returns c = all_told c.loop-path.metas.items (deque_iter_rest c.loop-path.path-iterator) (take (c.args.end - c.args.start) (drop c.args.start (entries c.args.self.now))) c.in-None.ensures.steps.0 c.loop-path.invariant
