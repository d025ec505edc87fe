use Rattle.txn_store.proofs.NameLemmas.{suffix_parts}
use Rattle.txn_folder.proofs.NameLemmas.{boundary_named}
use Rattle.txn_folder.proofs.folder.Folder.is_boundary.Goals as goal

pub returns-in-Some : goal.returns-in-Some
returns-in-Some c = rw (← c.self.view_is) (boundary_named _ _ _ _ _ (suffix_parts _ _ _ c.in-Some.ensures.cases) c.eq.ensures c.as_str.ensures.value)
