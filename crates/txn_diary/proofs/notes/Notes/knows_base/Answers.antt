use Rattle.std.proofs.Common.{◌∙◌, ap, reverse, is_some}
use Rattle.txn_diary.proofs.Noting.{known_by}
use Rattle.txn_diary.proofs.notes.Notes.knows_base.Goals as goal

pub returns-in-Some : goal.returns-in-Some
returns-in-Some c =
    rw c.in-Some.is
    (c.contains_key.ensures ∙ (ap is_some (c.args.self.now.all_epochs c.in-Some.id) ∙ known_by (reverse c.args.self.now.noted.items) c.in-Some.id))
