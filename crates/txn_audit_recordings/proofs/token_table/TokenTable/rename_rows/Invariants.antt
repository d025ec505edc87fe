-- the rows so far are renamed, by what tokens have become, and the others are as they were
use Rattle.std.proofs.Common.{◌≡◌, None, take, drop}
use Rattle.txn_audit_recordings.specs.Tokens.{Renaming, RenamesRows}
use Rattle.txn_audit_recordings.specs.TokenTables.{renaming_in, Extends}
use Rattle.txn_audit_recordings.proofs.Renamings.{path_behind}
use Rattle.txn_audit_recordings.proofs.token_table.TokenTable.rename_rows.Given as goal

abbrev pub invariant-loop-row : goal.invariant-loop-row
invariant-loop-row g l =
    Extends (renaming_in l.fn.self.becomes) (renaming_in l.self.becomes)
    × (l.path ≡ path_behind None (take l.row-index l.initial.row-items))
    × (drop l.row-index l.row-items ≡ drop l.row-index l.initial.row-items)
    × ((becomes : Renaming) → Extends (renaming_in l.self.becomes) becomes → RenamesRows becomes None (take l.row-index l.initial.row-items) (take l.row-index l.row-items))
