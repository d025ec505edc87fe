use Rattle.std.proofs.Common.{ℕ, ◌≤◌}
use Rattle.txn_script.specs.Printed.{with_feed}
use Rattle.txn_script_orders.specs.Figures.{figures_text}
use Rattle.txn_script_orders.specs.Exploring.{ListsAll}
use Rattle.txn_script_orders.proofs.explore.explored.Given as goal

-- the figures were printed, and behind them so many outcomes were listed
abbrev pub invariant-loop-way : goal.invariant-loop-way
invariant-loop-way l = (states : ℕ) × (orders : ℕ) × (images : ℕ) × ListsAll l.outcomes l.number (with_feed (figures_text states orders l.outcomes images)) l.text.items × (l.number ≤ 20)
