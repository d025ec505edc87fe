use Rattle.std.proofs.Common.{◌∙◌, ◌++◌, ap, sym, replicate}
use Rattle.txn_diary.specs.Forgetting.{forgotten}
use Rattle.txn_diary.proofs.Places.{ended_behind}
use Rattle.txn_diary.proofs.calls.Calls.end_all.Goals as goal

pub returns-clause-operations : goal.returns-clause-operations
returns-clause-operations g c = let t = c.args.self.now in ap (λ os. replicate t.forgotten forgotten ++ os) c.end_all.ensures ∙ sym (ended_behind c.args.client t.forgotten t.operations.items)
