-- Versions are written to an empty object.
use Rattle.slatedb_txn_obj_uses.proofs.setting.Setting.new.Goals as goal

pub returns : goal.returns
returns c = c.in_ok-write_versions.ensures.written 0 c.in_ok-setting.ensures
