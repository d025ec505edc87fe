use Rattle.txnworld_commands.specs.Workers.{IsCrew}
use Rattle.txnworld_commands.proofs.workers.crew.Given as goal

-- the workers so far
abbrev pub invariant-loop-caller : goal.invariant-loop-caller
invariant-loop-caller g l = IsCrew g.X.Numbered.numbered l.yielded l.crew.items
