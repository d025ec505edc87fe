use Rattle.std.proofs.Common.{◌∙◌}
use Rattle.txn_folder.proofs.NameLemmas.{version_written}
use Rattle.txn_folder.proofs.folder.Folder.version.Goals as goal

pub returns : goal.returns
returns c = rw (← c.self.view_is) (c.in_ok-file.ensures.ok ∙ version_written _ c.args.id _ _ _ _ (c.as_str-versions.ensures.value ∙ c.self.invariant.versions_is) c.as_str-suffix.ensures.value c.laid_out.ensures)
