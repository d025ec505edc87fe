use Rattle.std.proofs.Common.{List, [], refl, subst, sym}
use Rattle.txn_store.specs.Memory.{Searched, fresh_memory, searched_state}
use Rattle.txn_client_journals.specs.declared.rows.LogRow.{LogRow}
use Rattle.txn_client_journals.specs.Logged.{IsLogged}
use Rattle.txn_client_journals.proofs.Leads.{empty_logged}
use Rattle.txn_client_journals.proofs.logged.LoggedStore.new.Goals as goal

pub invariant_of-result : goal.invariant_of-result
invariant_of-result c =
    let fresh : Searched = record { memory = fresh_memory 1; compared = 0 } in
    subst (λ (rows : List LogRow). IsLogged rows (searched_state c.new.result)) (sym c.new-2.ensures.items)
    (subst (λ (s : Searched). IsLogged [] (searched_state s)) (sym c.new.ensures) (empty_logged (searched_state fresh) (record { files = refl; given = refl; left = refl })))
