use Rattle.txn_client_journals.proofs.tables.changes.comes_to.Goals as goal

pub returns-in-Comes-clause-used : goal.returns-in-Comes-clause-used
returns-in-Comes-clause-used g c = rw c.in-Comes.is (c.comes_of.ensures.used c.args.claims)
