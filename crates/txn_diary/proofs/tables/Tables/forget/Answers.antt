use Rattle.std.proofs.Common.{reverse}
use Rattle.txn_diary.specs.Forgetting.{BaseStays}
use Rattle.txn_diary.proofs.Places.{of_each_used}
use Rattle.txn_diary.proofs.tables.Tables.forget.Goals as goal

pub returns-clause-bases : goal.returns-clause-bases
returns-clause-bases g c =
    let t = c.args.self.now in
    λ number. of_each_used (BaseStays (reverse t.notes.noted.items) (reverse c.forget-2.new.self.noted.items)) t.views.used t.views.count number tt c.forget-2.ensures.bases
