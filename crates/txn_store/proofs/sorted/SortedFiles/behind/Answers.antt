-- Behind a place, or at the place where nothing stands.
use Rattle.std.proofs.Common.{arith}
use Rattle.std.specs.FinMap.{entries}
use Rattle.txn_store.proofs.PlaceLemmas.{behind_at, behind_between}
use Rattle.txn_store.proofs.sorted.SortedFiles.behind.Goals as goal

pub overflow_add-result : goal.overflow_add-result
overflow_add-result c = let small = c.in-Ok.ensures.small in omega (arith, small)

pub returns-in-Ok-clause-behind : goal.returns-in-Ok-clause-behind
returns-in-Ok-clause-behind c = behind_at c.args.mark c.args.asked.now (entries c.args.self.now) c.in-Ok.index c.in-Ok.ensures.place

pub returns-in-Err-clause-behind : goal.returns-in-Err-clause-behind
returns-in-Err-clause-behind c = behind_between c.args.mark c.args.asked.now (entries c.args.self.now) c.in-Err.index c.in-Err.ensures.place
