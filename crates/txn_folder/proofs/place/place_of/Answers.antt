use Rattle.std.proofs.Common.{sym, ◌∙◌}
use Rattle.txn_store.proofs.PathLemmas.{same_segments}
use Rattle.txn_folder.proofs.NameLemmas.{other_path}
use Rattle.txn_folder.proofs.place.place_of.Goals as goal

pub returns-then-eq-clause-boundary : goal.returns-then-eq-clause-boundary
returns-then-eq-clause-boundary c = λ _. same_segments _ _ (sym c.eq.ensures ∙ c.if-eq.true)

pub returns-clause-elsewhere : goal.returns-clause-elsewhere
returns-clause-elsewhere c = λ _ e. other_path _ _ (sym c.eq.ensures ∙ c.if-eq.false) e

pub returns-then-eq-clause-at : goal.returns-then-eq-clause-at
returns-then-eq-clause-at c = record {
  same = same_segments _ _ (sym c.eq.ensures ∙ c.if-eq.true);
  other = λ v. let read = (c.parse_id.ensures v.0 v.1).1 v.2 in c.in_default.not-Some v.0 read;
}
