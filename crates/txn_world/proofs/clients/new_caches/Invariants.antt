use Rattle.std.proofs.Common.{◌≡◌, replicate}
use Rattle.txn_machine.specs.plain.Machine.{no_caches}
use Rattle.txn_world.proofs.clients.new_caches.Given as goal

-- so many so far
abbrev pub invariant-loop : goal.invariant-loop
invariant-loop l = l.caches.items ≡ replicate l.counter no_caches
