use Rattle.std.proofs.Common.{rules, refl}
use Rattle.txn_world_threads.proofs.Counting.{zeros}
use Rattle.txn_world_threads.proofs.kept.Kept.new.Goals as goal

pub invariant_of-kept : goal.invariant_of-kept
invariant_of-kept g c = (search rules, zeros c.args.workers 0 c.in_ok-vec.field-0.items refl (c.in_ok-vec.ensures.items_if_clones_equal (λ y e. e)))
