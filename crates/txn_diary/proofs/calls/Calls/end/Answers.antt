use Rattle.txn_diary.proofs.Places.{ends_behind}
use Rattle.txn_diary.proofs.calls.Calls.end.Goals as goal

pub returns-clause-ends : goal.returns-clause-ends
returns-clause-ends g c = let t = c.args.self.now in ends_behind t.forgotten c.args.op t.operations.items c.end.new.operations.items c.requires c.end.ensures
