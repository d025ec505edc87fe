use Rattle.std.proofs.Common.{◌≡◌, ◌++◌, map, take, drop}
use Rattle.txn_machine.specs.views.Steps.{view_without}
use Rattle.txn_diary.specs.Shown.{views_of}
use Rattle.txn_diary.proofs.kills.end_views_of.Given as goal

-- those before this place have ended, where they are the client's
abbrev pub invariant-loop-before : goal.invariant-loop-before
invariant-loop-before g l = views_of l.views ≡ map (view_without l.fn.client) (take l.before (views_of l.fn.views)) ++ drop l.before (views_of l.fn.views)
