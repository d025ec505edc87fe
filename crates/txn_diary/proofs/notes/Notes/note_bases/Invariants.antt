use Rattle.std.proofs.Common.{reverse, All, ℕ, List}
use Rattle.std.specs.HashMap.{values}
use Rattle.txn_diary.specs.Forgetting.{WereKnown, StillKnown, BaseStays}
use Rattle.txn_diary.proofs.notes.Notes.note_bases.Given as goal

-- each was known, and what was noted before still is; and once the bases of those that are left stay, all do
abbrev pub invariant-loop-used : goal.invariant-loop-used
invariant-loop-used g l =
    (goal.iterator-loop-used g).can_next l.used-iterator ×
    (goal.iterator-loop-used g).is_finite l.used-iterator ×
    WereKnown (reverse l.fn.all.noted.items) (reverse l.self.noted.items) ×
    StillKnown (reverse l.fn.self.noted.items) (reverse l.self.noted.items) ×
    ((told : List (ℕ × ℕ)) → StillKnown (reverse l.self.noted.items) told → All (BaseStays (reverse l.fn.all.noted.items) told) l.used-iterator → All (BaseStays (reverse l.fn.all.noted.items) told) (values l.fn.views.used))
