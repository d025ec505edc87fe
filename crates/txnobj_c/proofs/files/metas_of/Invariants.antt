use Rattle.std.proofs.Common.{◌≡◌, map, take}
use Rattle.txnobj_c.specs.Listings.{told_file}
use Rattle.txnobj_c.proofs.files.metas_of.Given as goal

-- the files so far are told
abbrev pub invariant-loop-file : goal.invariant-loop-file
invariant-loop-file l = l.metas.items ≡ map told_file (take l.file-index l.files)
