use Rattle.std.proofs.Common.{◌≡◌, ◌+◌, ◌≤◌, ◌++◌, vec_len, vec_capacity}
use Rattle.std.specs.Vec.Iter.{into_iter_items, into_iter_len}
use Rattle.txn_steps.specs.Picked.{picked}
use Rattle.txn_steps.proofs.versions.pick.Given as goal

-- with what the files that are left give, and room for them
abbrev pub invariant-loop-meta : goal.invariant-loop-meta
invariant-loop-meta l =
    (goal.iterator-loop-meta).can_next l.meta-iterator ×
    (goal.iterator-loop-meta).is_finite l.meta-iterator
    × (l.versions.items ++ picked l.names l.from l.to (into_iter_items l.meta-iterator) ≡ l.fn.versions.items ++ picked l.names l.from l.to l.fn.metas.items)
    × (vec_len l.versions + into_iter_len l.meta-iterator ≤ vec_capacity l.versions)
