-- The token stands in the table under the path's copy.
use Rattle.std.proofs.Common.{◌≡◌, ◌∙◌, sym, ap, Some, ℕ}
use Rattle.txn_store.specs.Paths.{Segments}
use Rattle.txn_audit_recordings.specs.TokenTables.{renaming_in}
use Rattle.txn_audit_recordings.proofs.token_table.TokenTable.rename.Goals as goal

pub returns-in-Some-clause-becomes : goal.returns-in-Some-clause-becomes
returns-in-Some-clause-becomes c =
    let found : renaming_in c.args.self.now.becomes c.in_ok-try_clone.field-0 c.number.result ≡ Some c.new.result = sym c.get.ensures.value ∙ sym c.copied.ensures ∙ c.in-Some.is ∙ ap Some (sym c.new.ensures) in
    ap (λ (path : Segments). renaming_in c.args.self.now.becomes path c.args.token) (sym c.in_ok-try_clone.ensures)
    ∙ ap (λ (token : ℕ). renaming_in c.args.self.now.becomes c.in_ok-try_clone.field-0 token) (sym c.number.ensures)
    ∙ found
