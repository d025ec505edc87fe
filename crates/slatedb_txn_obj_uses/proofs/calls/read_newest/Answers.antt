-- Where the newest version is the number, it is what is read.
use Rattle.std.proofs.Common.{rules}
use Rattle.slatedb_txn_obj_uses.proofs.Numbers.{newest_is}
use Rattle.slatedb_txn_obj_uses.specs.Workloads.{numbers_to}
use Rattle.slatedb_txn_obj_uses.proofs.calls.read_newest.Goals as goal

pub returns-then-not-is_version-clause-right : goal.returns-then-not-is_version-clause-right
returns-then-not-is_version-clause-right g c =
    λ wrong some b stands. let is = newest_is c.args.newest c.in_ok-read.read some (c.in_ok-read.ensures.latest (numbers_to c.args.newest) b stands) in (let no = c.is_version.ensures in let ne = c.if-not-is_version in search rules)
