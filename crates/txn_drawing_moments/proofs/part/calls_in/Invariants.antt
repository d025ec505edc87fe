use Rattle.std.proofs.Common.{◌≡◌, ◌≤◌, take}
use Rattle.txn_drawing_moments.specs.Parts.{calls_in}
use Rattle.txn_drawing_moments.proofs.part.calls_in.Given as goal

-- the calls so far, no more than the moments
abbrev pub invariant-loop-moment : goal.invariant-loop-moment
invariant-loop-moment l = record {
  so_far : l.count ≡ calls_in (take l.moment-index l.moments);
  most : l.count ≤ l.moment-index;
}
