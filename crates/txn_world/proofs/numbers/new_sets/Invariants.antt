use Rattle.std.proofs.Common.{◌≡◌, ℕ, false, vec_len}
use Rattle.txn_world.specs.Owning.{owns}
use Rattle.txn_world.proofs.numbers.new_sets.Given as goal

-- so many so far, all empty
abbrev pub invariant-loop : goal.invariant-loop
invariant-loop l = record {
  len : vec_len l.sets ≡ l.counter;
  empty : (client n : ℕ) → owns l.sets.items client n ≡ false;
}
