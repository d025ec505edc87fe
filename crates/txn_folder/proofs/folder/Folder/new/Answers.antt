use Rattle.std.proofs.Common.{rules}
use Rattle.txn_folder.proofs.NameLemmas.{kept_of}
use Rattle.txn_folder.proofs.folder.Folder.new.Goals as goal

pub invariant_of-result : goal.invariant_of-result
invariant_of-result c = kept_of c.args.root.now c.args.name.now c.args.suffix.now _ _ _ _ _ _ (search rules) (search rules) c.in_ok-from_str.ensures.ok c.in_ok-from_str-2.ensures.ok c.in_ok-from_str-3.ensures.ok c.in_ok-format.ensures.ok c.in_ok-format-2.ensures.ok c.in_ok-format-3.ensures.ok
