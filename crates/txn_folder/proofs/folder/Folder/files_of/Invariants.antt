use Rattle.std.proofs.Common.{◌≡◌, map, take}
use Rattle.std.specs.Prelude.{string_bytes}
use Rattle.txn_folder.specs.Files.{version_file}
use Rattle.txn_folder.proofs.folder.Folder.files_of.Given as goal

-- the files so far are told
abbrev pub invariant-loop-id : goal.invariant-loop-id
invariant-loop-id l = map string_bytes l.files.items ≡ map (version_file l.self) (take l.id-index l.ids)
