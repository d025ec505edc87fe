use Rattle.std.proofs.Common.{◌≡◌, ◌+◌, ◌≤◌, ◌++◌, length, vec_len, vec_capacity, drop}
use Rattle.txn_machine.specs.plain.Doing.{ids_of}
use Rattle.txn_machine.proofs.plain.doing.ids_found.Given as goal

-- with the ids of the versions that are left, and room for them
abbrev pub invariant-loop-version : goal.invariant-loop-version
invariant-loop-version l =
    (l.ids.items ++ ids_of (drop l.version-index l.listed) ≡ ids_of l.found)
    × (vec_len l.ids + length l.listed ≤ vec_capacity l.ids + l.version-index)
