use Rattle.std.proofs.Common.{List, reverse, subst, sym}
use Rattle.txn_client_journals.specs.declared.rows.LogRow.{LogRow}
use Rattle.txn_client_journals.specs.Logs.{IsLog}
use Rattle.txn_client_journals.proofs.logged.LoggedStoreLogged.log.Goals as goal

pub returns-clause-leads : goal.returns-clause-leads
returns-clause-leads c = (c.self.invariant.store, subst (λ (rows : List LogRow). IsLog (reverse rows) c.self.invariant.store) (sym c.as_slice.ensures.value) c.self.invariant.leads)
