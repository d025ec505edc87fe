-- The file is gone.
use Rattle.std.proofs.Common.{◌≡◌, ◌∙◌, ap, refl}
use Rattle.txn_store.specs.Memory.{Searched, called}
use Rattle.txn_store.specs.MemoryFields.{memory_view}
use Rattle.txn_store.proofs.MemoryLemmas.{delete_removed, file_removed}
use Rattle.txn_store.proofs.in_memory.InMemoryObjectStore.delete.Goals as goal

pub returns-clause-removed : goal.returns-clause-removed
returns-clause-removed c =
    let begun : memory_view c.self.inside ≡ called c.args.self.now.memory = ap (λ (s : Searched). s.memory) (c.self.view_is ∙ c.begin.ensures) in
    file_removed c.args.self.now.memory (memory_view c.self.inside) _ c.args.path.now begun (rw c.remove.ensures refl)

pub returns-clause-meaning : goal.returns-clause-meaning
returns-clause-meaning c = delete_removed c.args.self.now.memory _ c.args.path.now (returns-clause-removed c)
