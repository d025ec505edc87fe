use Rattle.txn_store.proofs.types.BoundaryLemmas.{read_decimal_text}
use Rattle.txn_steps_laws.proofs.DrivenAdvance.{advance_driven}
use Rattle.txn_steps_laws.proofs.driven_checks.advance_driven.Goals as goal

pub returns : goal.returns
returns c path target steps a b answer small starts on = advance_driven path target (read_decimal_text target small) a starts steps answer b on
