use Rattle.std.proofs.Common.{◌∙◌, ap, reverse}
use Rattle.txn_diary.proofs.Noting.{epoch_in, epoch_by}
use Rattle.txn_diary.proofs.notes.Notes.epoch_of.Goals as goal

pub returns-in-Some : goal.returns-in-Some
returns-in-Some c = ap epoch_in (c.in-Some.ensures.value ∙ c.args.self.now.all_epochs c.args.id) ∙ epoch_by (reverse c.args.self.now.noted.items) c.args.id

pub returns-in-None : goal.returns-in-None
returns-in-None c = ap epoch_in (c.in-None.ensures.value ∙ c.args.self.now.all_epochs c.args.id) ∙ epoch_by (reverse c.args.self.now.noted.items) c.args.id
