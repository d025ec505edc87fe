use Rattle.std.proofs.Common.{sym, ◌∙◌}
use Rattle.txn_world_threads.proofs.Due.{lack_some, lack_none}
use Rattle.txn_world_threads.proofs.kept.Kept.lack.Goals as goal

pub returns-in-Some : goal.returns-in-Some
returns-in-Some g c = rw (← c.self.view_is) (lack_some _ _ (sym c.refusal-fault.ensures ∙ c.in-Some.is))

pub returns-in-None : goal.returns-in-None
returns-in-None g c = rw (← c.self.view_is) (lack_none _ (sym c.refusal-fault.ensures ∙ c.in-None.is))
