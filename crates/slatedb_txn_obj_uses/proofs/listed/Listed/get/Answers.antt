-- What the first file under the path holds.
use Rattle.std.proofs.Common.{◌≡◌, ◌∙◌, None, ap, subst}
use Rattle.std.specs.FinMap as finmap
use Rattle.txn_store.specs.Store.{Files}
use Rattle.txn_store.specs.Paths.{path_cmp}
use Rattle.slatedb_txn_obj_uses.specs.Listed.{IsFirst}
use Rattle.slatedb_txn_obj_uses.proofs.ListLemmas.{Entries, got_first, got_none}
use Rattle.slatedb_txn_obj_uses.proofs.listed.Listed.get.Goals as goal

pub returns-in-Some : goal.returns-in-Some
returns-in-Some c =
    got_first c.args.path.now c.self.inside.files.items c.in-Some.index (subst (λ (es : Entries). IsFirst c.args.path.now es c.in-Some.index) c.deref.ensures.value c.in-Some.ensures) c.index.result.now c.index.ensures
    ∙ ap (λ (m : Files). finmap.get m c.args.path.now) c.self.view_is

pub returns-in-None : goal.returns-in-None
returns-in-None c = got_none c.args.path.now c.self.inside.files.items (subst (λ (es : Entries). finmap.find path_cmp c.args.path.now es ≡ None) c.deref.ensures.value c.in-None.ensures) ∙ ap (λ (m : Files). finmap.get m c.args.path.now) c.self.view_is
