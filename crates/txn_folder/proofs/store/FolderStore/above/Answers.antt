use Rattle.std.proofs.Common.{◌≡◌, Bool, true, false, not, sym, ◌∙◌, refl}
use Rattle.txn_store.proofs.PathLemmas.{same_segments}
use Rattle.txn_folder.proofs.store.FolderStore.above.Goals as goal

same_if : (b : Bool) → not b ≡ false → b ≡ true
same_if true h = refl
same_if false h = cc

pub returns-in_default-clause-prefix : goal.returns-in_default-clause-prefix
returns-in_default-clause-prefix g c = same_segments _ _ (same_if _ (sym c.ne.ensures ∙ c.if-ne.false)) ∙ c.dir.ensures

pub returns-in-Some-parse_id-clause-prefix : goal.returns-in-Some-parse_id-clause-prefix
returns-in-Some-parse_id-clause-prefix g c = same_segments _ _ (same_if _ (sym c.ne.ensures ∙ c.if-ne.false)) ∙ c.dir.ensures
