use Rattle.std.proofs.Common.{◌≡◌, string_bytes}
use Rattle.txn_folder.proofs.found.read_file.Given as goal

-- the same name is looked up again
abbrev pub invariant-loop : goal.invariant-loop
invariant-loop g l = string_bytes l.file ≡ string_bytes l.fn.file
