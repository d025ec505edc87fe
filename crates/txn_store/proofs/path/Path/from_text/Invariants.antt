-- the lines so far are the parts so far that are not empty
use Rattle.std.proofs.Common.{◌≡◌, map, string_bytes}
use Rattle.txn_store.specs.Paths.{named}
use Rattle.txn_store.specs.PathText.{lines_of}
use Rattle.txn_store.proofs.path.Path.from_text.Given as goal

abbrev pub invariant-loop-part : goal.invariant-loop-part
invariant-loop-part l = record {
  can_next : (goal.iterator-loop-part).can_next l.part-iterator;
  is_finite : (goal.iterator-loop-part).is_finite l.part-iterator;
  so_far : string_bytes l.kept ≡ lines_of (named (map (λ x. x.now) l.yielded));
}
