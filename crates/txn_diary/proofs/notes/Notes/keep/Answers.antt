use Rattle.std.proofs.Common.{reverse}
use Rattle.txn_diary.proofs.Noting.{kept_so}
use Rattle.txn_diary.proofs.notes.Notes.keep.Goals as goal

pub returns-clause-notes : goal.returns-clause-notes
returns-clause-notes g c =
    let all = c.args.all.now in
    kept_so (reverse all.noted.items) (reverse c.note_bases.new.self.noted.items) all.greatest c.note_bases.ensures.known
    (λ h. c.note_bases.ensures.more 0 (c.note_last.ensures.more 0 (c.note-2.ensures.more 0 (c.in_ok-note.ensures.noted h))))
    (λ h. c.note_bases.ensures.more all.greatest (c.note_last.ensures.more all.greatest (c.in_ok-note-2.ensures.noted h))) all.all_below
