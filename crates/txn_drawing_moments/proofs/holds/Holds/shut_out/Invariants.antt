use Rattle.std.proofs.Common.{◌≡◌, ◌+◌, ◌++◌, length, take, drop, map}
use Rattle.txn_drawing_moments.specs.Epochs.{shut_by, all_out_by}
use Rattle.txn_drawing_moments.proofs.holds.Holds.shut_out.Given as goal

-- the clients so far are shut out where they hold less, and those that are left still hold what they held
abbrev pub invariant-loop-index : goal.invariant-loop-index
invariant-loop-index l = record {
  epoch : l.self.epoch ≡ l.fn.self.epoch;
  claims : l.self.claims ≡ l.fn.self.claims;
  many : length l.self.holds.items ≡ length l.fn.self.holds.items;
  shut : take l.index l.self.holds.items ≡ map (shut_by l.epoch) (take l.index l.fn.self.holds.items);
  left : drop l.index l.self.holds.items ≡ drop l.index l.fn.self.holds.items;
  told : l.out.items ++ all_out_by l.epoch (l.index + 1) (drop l.index l.fn.self.holds.items) ≡ all_out_by l.epoch 1 l.fn.self.holds.items;
}
