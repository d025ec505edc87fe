use Rattle.std.proofs.Common.{◌≡◌, map, take}
use Rattle.txnobj_c.specs.Listings.{bare_file}
use Rattle.txnobj_c.proofs.files.bare.Given as goal

-- the versions so far are told
abbrev pub invariant-loop-version : goal.invariant-loop-version
invariant-loop-version l = l.files.items ≡ map bare_file (take l.version-index l.versions)
