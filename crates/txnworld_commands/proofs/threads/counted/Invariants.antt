-- the rows so far are counted
use Rattle.std.proofs.Common.{◌≡◌, ◌≤◌, take}
use Rattle.std.specs.List.{count_by}
use Rattle.txnworld_commands.specs.Threads.{says_begun, says_answered}
use Rattle.txnworld_commands.proofs.threads.counted.Given as goal

abbrev pub invariant-loop-row : goal.invariant-loop-row
invariant-loop-row l = record {
  begun : l.calls ≡ count_by says_begun (take l.row-index l.rows);
  answered : l.answers ≡ count_by says_answered (take l.row-index l.rows);
  few_begun : l.calls ≤ l.row-index;
  few_answered : l.answers ≤ l.row-index;
}
