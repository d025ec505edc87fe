use Rattle.std.proofs.Common.{◌∙◌, ◌∷◌, List, ℕ, ap, sym, subst, reverse}
use Rattle.txn_diary.specs.Forgetting.{WereKnown}
use Rattle.txn_diary.proofs.Noting.{unknown_by, were_known_more}
use Rattle.txn_diary.proofs.notes.Notes.note.Goals as goal

pub returns-in_default-clause-noted : goal.returns-in_default-clause-noted
returns-in_default-clause-noted c = λ h. absurd (unknown_by (reverse c.args.all.now.noted.items) c.args.id (sym (c.args.all.now.all_epochs c.args.id) ∙ sym c.in_default.ensures.value) h)

pub returns-clause-known : goal.returns-clause-known
returns-clause-known c =
    let all = reverse c.args.all.now.noted.items in
    let more = were_known_more all (reverse c.args.self.now.noted.items) c.args.id c.in-Some.epoch.now c.requires (sym (c.args.all.now.all_epochs c.args.id) ∙ sym c.in-Some.ensures.value) in
    subst (WereKnown all) (sym (c.add.ensures ∙ ap (λ (ns : List (ℕ × ℕ)). (c.args.id, c.in-Some.epoch.now) ∷ reverse ns) c.in_ok-reserve.ensures.same)) more
