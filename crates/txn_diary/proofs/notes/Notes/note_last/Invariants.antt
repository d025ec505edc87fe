use Rattle.std.proofs.Common.{reverse}
use Rattle.txn_diary.specs.Forgetting.{WereKnown, StillKnown}
use Rattle.txn_diary.proofs.notes.Notes.note_last.Given as goal

-- each was known, and what was noted before still is
abbrev pub invariant-loop-note : goal.invariant-loop-note
invariant-loop-note l = WereKnown (reverse l.fn.all.noted.items) (reverse l.self.noted.items) × StillKnown (reverse l.fn.self.noted.items) (reverse l.self.noted.items)
