use Rattle.std.proofs.Common.{◌≡◌}
use Rattle.txnworld_commands.specs.Workers.{caller_list}
use Rattle.txnworld_commands.proofs.workers.callers_of.Given as goal

-- the callers so far
abbrev pub invariant-loop-one : goal.invariant-loop-one
invariant-loop-one g l = l.callers.items ≡ caller_list l.yielded
