use Rattle.std.proofs.Common.{◌≡◌, ◌≤◌, ◌++◌, map, drop}
use Rattle.txn_diary.specs.Reading.{answers_from}
use Rattle.txn_diary.proofs.reading.answers_of.Given as goal

-- with the answers of the rest they are all answers
abbrev pub invariant-loop-row : goal.invariant-loop-row
invariant-loop-row g l = (map (λ pair. (pair.0, pair.1.now)) l.answers.items ++ answers_from l.begun (drop l.row-index l.rows) ≡ answers_from 0 l.rows) × (l.begun ≤ l.row-index)
