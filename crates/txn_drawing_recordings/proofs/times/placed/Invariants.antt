use Rattle.std.proofs.Common.{◌≡◌, map, take}
use Rattle.txn_drawing_recordings.specs.ByTime.{placed_of}
use Rattle.txn_drawing_recordings.proofs.times.placed.Given as goal

-- the places so far
abbrev pub invariant-loop-it : goal.invariant-loop-it
invariant-loop-it l = l.order.items ≡ map placed_of (take l.it-index l.calls)
