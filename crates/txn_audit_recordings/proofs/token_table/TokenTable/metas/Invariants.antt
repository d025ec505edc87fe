-- the files so far are renamed, by what tokens have become
use Rattle.std.proofs.Common.{take}
use Rattle.std.specs.List.{AllZip}
use Rattle.txn_audit_recordings.specs.Tokens.{Renaming, RenamesMeta}
use Rattle.txn_audit_recordings.specs.TokenTables.{renaming_in, Extends}
use Rattle.txn_audit_recordings.proofs.token_table.TokenTable.metas.Given as goal

abbrev pub invariant-loop-meta : goal.invariant-loop-meta
invariant-loop-meta l = Extends (renaming_in l.fn.self.becomes) (renaming_in l.self.becomes) × ((becomes : Renaming) → Extends (renaming_in l.self.becomes) becomes → AllZip (RenamesMeta becomes) (take l.meta-index l.metas) l.renamed.items)
