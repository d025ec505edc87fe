use Rattle.txn_diary.specs.Shown.{operations_of}
use Rattle.txn_diary.proofs.Acting.{used_from_one}
use Rattle.txn_diary.proofs.tables.Tables.refuse.Goals as goal

pub settle-requires-clause-view : goal.settle-requires-clause-view
settle-requires-clause-view g c = used_from_one (operations_of c.args.self.now.calls) c.args.op c.usage_at-of.result c.requires.sound c.usage_at-of.ensures
