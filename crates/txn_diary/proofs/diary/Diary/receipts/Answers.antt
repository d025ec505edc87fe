use Rattle.std.proofs.Common.{◌∙◌, ap}
use Rattle.txn_diary.proofs.diary.Diary.receipts.Goals as goal

pub returns : goal.returns
returns g c = let is = c.as_slice.ensures.value ∙ ap (λ d. d.rows) c.self.view_is in rw (← is) c.receipts_of.ensures
