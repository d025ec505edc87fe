-- What a put makes of the list: another file in the place of the first under the path, or one more behind all others.
use Rattle.std.proofs.Common.{◌≡◌, ◌∙◌, ◌∷◌, ◌++◌, [], None, ap, subst}
use Rattle.std.specs.FinMap as finmap
use Rattle.txn_store.specs.Paths.{Segments, path_cmp}
use Rattle.txn_store.specs.Store.{Files}
use Rattle.slatedb_txn_obj_uses.specs.Listed.{IsFirst}
use Rattle.slatedb_txn_obj_uses.proofs.ListLemmas.{Entries, put_first, put_last}
use Rattle.slatedb_txn_obj_uses.proofs.listed.Listed.set.Goals as goal
use Rattle.slatedb_txn_obj_uses.proofs.listed.Listed.set.Goals.{in-Some-2, in-None-2}

pub invariant_of-self : goal.invariant_of-self
invariant_of-self c = (put_first c.args.path.now c.self.inside.files.items c.in-Some.index c.self.invariant (subst (λ (es : Entries). IsFirst c.args.path.now es c.in-Some.index) c.deref.ensures.value c.in-Some.ensures) c.index_mut.result.now c.index_mut.ensures.value c.args.got).once

pub invariant_of-self-in-Some-2 : goal.invariant_of-self-in-Some-2
invariant_of-self-in-Some-2 c = (put_first c.args.path.now c.self.inside.files.items c.in-Some.index c.self.invariant (subst (λ (es : Entries). IsFirst c.args.path.now es c.in-Some.index) c.deref.ensures.value c.in-Some.ensures) c.index_mut.result.now c.index_mut.ensures.value c.args.got).once

pub returns-in-Some-clause-ok : goal.returns-in-Some-clause-ok
returns-in-Some-clause-ok c =
    let put = put_first c.args.path.now c.self.inside.files.items c.in-Some.index c.self.invariant (subst (λ (es : Entries). IsFirst c.args.path.now es c.in-Some.index) c.deref.ensures.value c.in-Some.ensures) c.index_mut.result.now c.index_mut.ensures.value c.args.got in
    let seen = put.seen ∙ ap (λ (m : Files). finmap.insert m c.args.path.now c.args.got) c.self.view_is in
    elim c.match-index_mut-got.branch [ in-Some-2 w ↦ w.self-is ∙ seen | in-None-2 w ↦ w.self-is ∙ seen ]

pub invariant_of-self-in_ok-push-in-None : goal.invariant_of-self-in_ok-push-in-None
invariant_of-self-in_ok-push-in-None c =
    (put_last c.args.path.now c.self.inside.files.items c.self.invariant (subst (λ (es : Entries). finmap.find path_cmp c.args.path.now es ≡ None) c.deref.ensures.value c.in-None.ensures) c.args.got c.push.new.self.items
    (c.in_ok-push-in-None.ensures.items ∙ ap (λ (p : Segments). c.self.inside.files.items ++ (p, c.args.got) ∷ []) c.in_ok-try_clone-in-None.ensures)).once

pub returns-in_ok-push-in-None-clause-ok : goal.returns-in_ok-push-in-None-clause-ok
returns-in_ok-push-in-None-clause-ok c =
    (put_last c.args.path.now c.self.inside.files.items c.self.invariant (subst (λ (es : Entries). finmap.find path_cmp c.args.path.now es ≡ None) c.deref.ensures.value c.in-None.ensures) c.args.got c.push.new.self.items
    (c.in_ok-push-in-None.ensures.items ∙ ap (λ (p : Segments). c.self.inside.files.items ++ (p, c.args.got) ∷ []) c.in_ok-try_clone-in-None.ensures)).seen
    ∙ ap (λ (m : Files). finmap.insert m c.args.path.now c.args.got) c.self.view_is
