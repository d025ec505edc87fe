-- A read and a listing leave what stands.
use Rattle.slatedb_txn_obj_uses.proofs.setting.Setting.perform.Goals as goal

pub loop-preserved : goal.loop-preserved
loop-preserved c = λ h b stands. c.in_ok-read_newest-in-ReadWarm.ensures.kept h b (c.loop.invariant h b stands)

pub loop-3-preserved : goal.loop-3-preserved
loop-3-preserved c = λ h b stands. c.in_ok-list_all-in-List10000.ensures.kept h b (c.loop-3.invariant h b stands)
