-- what stood stands
use Rattle.slatedb_txn_obj.specs.Protocol.{Stays}
use Rattle.slatedb_txn_obj_uses.specs.Objects.{Stands}
use Rattle.slatedb_txn_obj_uses.proofs.setting.Setting.perform.Given as goal

abbrev pub invariant-loop : goal.invariant-loop
invariant-loop l = Stays (Stands l.fn.self.protocol l.fn.self.store) (Stands l.self.protocol l.self.store)

abbrev pub invariant-loop-3 : goal.invariant-loop-3
invariant-loop-3 l = Stays (Stands l.fn.self.protocol l.fn.self.store) (Stands l.self.protocol l.self.store)
