-- the calls so far ran, and there is room for the other replies
use Rattle.std.proofs.Common.{◌≡◌, ℕ, List, length, take, ◌≤◌}
use Rattle.slatedb_txn_obj_uses.specs.OneClient.{Runs}
use Rattle.slatedb_txn_obj_uses.proofs.one_client.perform_all.Given as goal

abbrev pub invariant-loop-call : goal.invariant-loop-call
invariant-loop-call g l = record {
  runs : (h : List g.row.T.Denot) (b : ℕ) → g.P.SequencedStorageProtocol.stands l.fn.protocol l.fn.store h b → Runs (g.P.SequencedStorageProtocol.stands l.protocol l.store) h b (take l.call-index l.calls) l.replies.items;
  each : length l.replies.items ≡ l.call-index;
  room : length l.calls ≤ l.replies.cap;
}
