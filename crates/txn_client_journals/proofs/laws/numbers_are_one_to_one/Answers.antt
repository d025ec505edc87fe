use Rattle.txn_client_journals.proofs.Numbers.{number_within, number_apart}
use Rattle.txn_client_journals.proofs.laws.numbers_are_one_to_one.Goals as goal

pub returns-clause-within : goal.returns-clause-within
returns-clause-within c owners client k some le = (let w = number_within client k owners some le in (w.above, w.below))

pub returns-clause-apart : goal.returns-clause-apart
returns-clause-apart c owners client k other j some le one less same = number_apart client k other j owners some le one less same
