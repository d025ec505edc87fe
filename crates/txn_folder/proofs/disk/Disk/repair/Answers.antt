use Rattle.std.proofs.Common.{rules, [], None, refl}
use Rattle.txn_folder.proofs.disk.Disk.repair.Goals as goal

-- no folder, no version
pub returns-then-not-branch : goal.returns-then-not-branch
returns-then-not-branch g c = record { stood = []; ascend = search rules; torn = []; newest = None; above = refl; boundary = None; done = refl }
