use Rattle.std.proofs.Common.{◌≡◌, ◌<◌, ◌≤◌, take}
use Rattle.txn_drawing_moments.specs.Parts.{calls_in}
use Rattle.txn_drawing_moments.proofs.part.behind.Given as goal

-- the calls so far, which are too few, and no more than the moments
abbrev pub invariant-loop-place : goal.invariant-loop-place
invariant-loop-place l = record {
  so_far : l.count ≡ calls_in (take l.place l.moments);
  few : l.count < l.calls;
  most : l.count ≤ l.place;
}
