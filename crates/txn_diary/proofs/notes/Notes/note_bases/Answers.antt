use Rattle.std.proofs.Common.{reverse, All, sym, subst}
use Rattle.std.proofs.lemmas.List.Elements.{All-nil, All-cons}
use Rattle.txn_diary.specs.Forgetting.{BaseStays}
use Rattle.txn_diary.proofs.Noting.{base_more}
use Rattle.txn_diary.proofs.notes.Notes.note_bases.Goals as goal

pub loop-used-preserved : goal.loop-used-preserved
loop-used-preserved g c =
    let all = reverse c.args.all.now.noted.items in (
      tt,
      tt,
      c.note_base.ensures.known,
      λ id h. c.note_base.ensures.more id (c.loop-used.invariant.3 id h),
      λ told more bases.
          c.loop-used.invariant.4 told (λ id h. more id (c.note_base.ensures.more id h))
          (subst (All (BaseStays all told)) (sym c.in-Some.ensures.steps) (All-cons (BaseStays all told) c.in-Some.used.now c.next.new.self (base_more all (reverse c.note_base.new.self.noted.items) told c.in-Some.used.now more c.in_ok-note_base.ensures.base) bases)),
    )

pub returns-clause-bases : goal.returns-clause-bases
returns-clause-bases g c =
    let all = reverse c.args.all.now.noted.items in
    let now = reverse c.loop-used.self.noted.items in
    c.loop-used.invariant.4 now (λ id h. h) (subst (All (BaseStays all now)) (sym c.in-None.ensures.steps.0) (All-nil (BaseStays all now)))
