-- The file lies under its path, with the next token.
use Rattle.std.proofs.Common.{◌≡◌, ◌∙◌, ◌<◌, ◌≤◌, ◌^◌, sym, ap, subst, refl, None, rules}
use Rattle.std.specs.FinMap as finmap
use Rattle.txn_store.specs.Store.{put_fault}
use Rattle.txn_store.specs.Memory.{Memory, called}
use Rattle.txn_store.specs.MemoryFields.{end_of}
use Rattle.txn_store.proofs.MemoryLemmas.{end_of-after, put_placed, file_put}
use Rattle.slatedb_txn_obj_uses.specs.ListFields.{list_view}
use Rattle.slatedb_txn_obj_uses.proofs.list_store.ListStoreObjectStore.put.Goals as goal

pub returns-clause-ok : goal.returns-clause-ok
returns-clause-ok c =
    let fits : c.in-Some-next.next < 2 ^ 64 = search rules in
    let after = end_of-after c.in-Some-next.next _ fits c.checked_add-self-inside.ensures in
    let next : end_of c.self.inside.next ≡ c.in-Some-next.next = ap end_of c.in-Some-next.is in
    let begun : list_view c.self.inside ≡ called c.args.self.now = c.self.view_is ∙ c.begin.ensures in
    file_put c.args.self.now (list_view c.self.inside) _ c.args.path.now c.args.bytes.now begun
    (rw (c.in_ok-set.ensures.ok, after, next, c.in_ok-bytes.ensures.cases, c.new-token.ensures) refl)

pub returns-clause-meaning : goal.returns-clause-meaning
returns-clause-meaning c =
    let fits : c.in-Some-next.next < 2 ^ 64 = search rules in
    let begun : list_view c.self.inside ≡ called c.args.self.now = c.self.view_is ∙ c.begin.ensures in
    let next : c.in-Some-next.next ≡ c.args.self.now.next = sym (ap end_of c.in-Some-next.is) ∙ ap (λ (m : Memory). m.next) begun in
    let rising : c.args.self.now.first ≤ c.args.self.now.next = let P : Memory → Type 0 = λ m. m.first ≤ m.next in subst P begun c.self.invariant in
    let allowed : put_fault c.args.mode.now (finmap.get c.args.self.now.files c.args.path.now) ≡ None = ap (λ (m : Memory). put_fault c.args.mode.now (finmap.get m.files c.args.path.now)) (sym begun) ∙ ap (put_fault c.args.mode.now) (sym c.get.ensures) ∙ sym c.fault_of_put.ensures ∙ c.in_default.is in
    put_placed c.args.self.now _ c.args.path.now c.args.bytes.now c.args.mode.now _ (returns-clause-ok c) (c.new-token.ensures ∙ next) rising (rw next at fits) allowed
