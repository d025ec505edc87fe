-- the segments so far, joined by slashes
use Rattle.std.proofs.Common.{◌≡◌, map}
use Rattle.std.specs.Fmt.{HasWritten, IsPlainFormatter}
use Rattle.txn_store.specs.Paths.{shown}
use Rattle.txn_store.proofs.Shown.{separator_after}
use Rattle.txn_store.proofs.path.PathDisplay.fmt.Given as goal

abbrev pub invariant-loop-segment : goal.invariant-loop-segment
invariant-loop-segment g l = record {
  can_next : (goal.iterator-loop-segment g).can_next l.segment-iterator;
  is_finite : (goal.iterator-loop-segment g).is_finite l.segment-iterator;
  separator : l.separator ≡ separator_after (map (λ x. x.now) l.yielded);
  so_far : IsPlainFormatter l.initial.f → HasWritten g.W.Write.write_str_gives l.initial.f (shown (map (λ x. x.now) l.yielded)) l.f;
}
