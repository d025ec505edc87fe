use Rattle.std.proofs.Common.{List, reverse, refl, sym, subst}
use Rattle.txn_machine.specs.plain.Machine.{empty_store}
use Rattle.txn_client_journals.specs.declared.rows.LogRow.{LogRow}
use Rattle.txn_client_journals.specs.Logs.{IsLog}
use Rattle.txn_client_journals.proofs.honest.HonestLog.new.Goals as goal

pub invariant_of-result : goal.invariant_of-result
invariant_of-result c = record {
  store = empty_store;
  leads = subst (λ (rows : List LogRow). IsLog (reverse rows) empty_store) (sym c.new-2.ensures.items) refl;
  stands = c.new.ensures;
}
