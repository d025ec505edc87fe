-- the recordings so far are renamed, by what tokens have become, and the others are as they were
use Rattle.std.proofs.Common.{◌≡◌, None, map, take, drop}
use Rattle.std.specs.List.{AllZip}
use Rattle.txn_audit_recordings.specs.Tokens.{Renaming, RenamesRows}
use Rattle.txn_audit_recordings.specs.TokenTables.{renaming_in, Extends}
use Rattle.txn_audit_recordings.proofs.tokens.rename_tokens.Given as goal

abbrev pub invariant-loop-rows : goal.invariant-loop-rows
invariant-loop-rows g l =
    (drop l.rows-index l.rows-items ≡ drop l.rows-index l.initial.rows-items)
    × ((becomes : Renaming) → Extends (renaming_in l.table.becomes) becomes → AllZip (RenamesRows becomes None) (map (λ rows. rows.items) (take l.rows-index l.initial.rows-items)) (map (λ rows. rows.items) (take l.rows-index l.rows-items)))
