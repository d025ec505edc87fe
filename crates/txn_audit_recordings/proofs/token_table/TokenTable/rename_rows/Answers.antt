use Rattle.std.proofs.Common.{◌≡◌, ◌<◌, length, Option, None, take, get_or, subst, ◌∙◌, arith}
use Rattle.std.specs.Option.{option_copied}
use Rattle.txn_store.specs.Paths.{Segments}
use Rattle.txn_audit_recordings.specs.Tokens.{RenamesRow}
use Rattle.txn_audit_recordings.proofs.Renamings.{path_behind, path_more, rest_stays, row_more}
use Rattle.txn_audit_recordings.proofs.token_table.TokenTable.rename_rows.Goals as goal

pub loop-row-preserved : goal.loop-row-preserved
loop-row-preserved g c =
    let was = c.deref_mut-row-items.result.now in
    let same = c.loop-row.invariant.2 in
    let kept = c.in_ok-rename_row.ensures.kept in
    let lt : c.loop-row.row-index < length was = omega (arith, c.loop-row-test.true, c.loop-row.auto.row-items) in
    let path : option_copied c.as_ref.result ≡ path_behind None (take c.loop-row.row-index was) = c.as_ref.ensures.value ∙ c.loop-row.invariant.1 in (
      λ path token new is. kept path token new (c.loop-row.invariant.0 path token new is),
      c.in_ok-asked.ensures ∙ path_more was c.loop-row.row-items c.loop-row.row-index c.row-item.result same lt c.row-item.is,
      rest_stays was c.loop-row.row-items c.loop-row.row-index same c.rename_row.new.row,
      λ becomes after.
          let before = c.loop-row.invariant.3 becomes (λ path token new is. after path token new (kept path token new is)) in
          let this = subst (λ (asked : Option Segments). RenamesRow becomes asked (get_or c.loop-row.row-items c.loop-row.row-index c.row-item.result) c.rename_row.new.row) path (c.in_ok-rename_row.ensures.renamed becomes after) in
          row_more becomes was c.loop-row.row-items c.loop-row.row-index c.row-item.result c.rename_row.new.row same lt c.row-item.is before this,
    )
