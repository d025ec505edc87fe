-- What is left without the first file under the path, or with no file there.
use Rattle.std.proofs.Common.{◌≡◌, ◌∙◌, None, sym, ap, subst}
use Rattle.std.specs.FinMap as finmap
use Rattle.txn_store.specs.Paths.{path_cmp}
use Rattle.txn_store.specs.Store.{Files}
use Rattle.slatedb_txn_obj_uses.specs.Listed.{IsFirst}
use Rattle.slatedb_txn_obj_uses.proofs.ListLemmas.{Entries, removed_first, removed_none}
use Rattle.slatedb_txn_obj_uses.proofs.listed.Listed.remove.Goals as goal
use Rattle.slatedb_txn_obj_uses.proofs.listed.Listed.remove.Goals.{in-Some-1, in-None-1}

pub invariant_of-self : goal.invariant_of-self
invariant_of-self c = (removed_first c.args.path.now c.self.inside.files.items c.in-Some.index c.self.invariant (subst (λ (es : Entries). IsFirst c.args.path.now es c.in-Some.index) c.deref.ensures.value c.in-Some.ensures) c.remove.new.self.items c.remove.ensures.items).once

pub invariant_of-self-in-Some-2 : goal.invariant_of-self-in-Some-2
invariant_of-self-in-Some-2 c = (removed_first c.args.path.now c.self.inside.files.items c.in-Some.index c.self.invariant (subst (λ (es : Entries). IsFirst c.args.path.now es c.in-Some.index) c.deref.ensures.value c.in-Some.ensures) c.remove.new.self.items c.remove.ensures.items).once

pub returns-in-Some : goal.returns-in-Some
returns-in-Some c =
    let left = removed_first c.args.path.now c.self.inside.files.items c.in-Some.index c.self.invariant (subst (λ (es : Entries). IsFirst c.args.path.now es c.in-Some.index) c.deref.ensures.value c.in-Some.ensures) c.remove.new.self.items c.remove.ensures.items in
    let seen = left.seen ∙ ap (λ (m : Files). finmap.remove m c.args.path.now) c.self.view_is in
    elim c.match-remove.branch [ in-Some-1 w ↦ w.self-is ∙ seen | in-None-1 w ↦ w.self-is ∙ seen ]

pub returns-in_default : goal.returns-in_default
returns-in_default c =
    sym c.self.view_is ∙ (removed_none c.args.path.now c.self.inside.files.items (subst (λ (es : Entries). finmap.find path_cmp c.args.path.now es ≡ None) c.deref.ensures.value c.in_default.ensures) ∙ ap (λ (m : Files). finmap.remove m c.args.path.now) c.self.view_is)
