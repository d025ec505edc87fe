use Rattle.std.proofs.Common.{ap, ◌+◌, ◌∙◌}
use Rattle.txn_world.proofs.Running.{more_empty}
use Rattle.txn_world.proofs.numbers.new_sets.Goals as goal

pub loop-preserved : goal.loop-preserved
loop-preserved c = record {
  len = c.in_ok-push.ensures.len ∙ ap (λ n. n + 1) c.loop.invariant.len;
  empty = rw c.in_ok-push.ensures.items (more_empty c.loop.sets.items c.new.result c.loop.invariant.empty c.new.ensures.empty);
}
