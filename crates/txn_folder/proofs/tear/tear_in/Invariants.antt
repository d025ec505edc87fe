use Rattle.std.proofs.Common.{◌≡◌, drop, map, reverse}
use Rattle.txn_folder.specs.Repairs.{torn_id}
use Rattle.txn_folder.proofs.tear.tear_in.Given as goal

-- what was read so far is torn
abbrev pub invariant-loop-place : goal.invariant-loop-place
invariant-loop-place g l = drop l.place l.ids ≡ reverse (map torn_id l.torn.items)
