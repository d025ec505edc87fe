use Rattle.std.proofs.Common.{◌<◌, length, None, arith}
use Rattle.txn_audit_recordings.specs.Tokens.{RenamesRows}
use Rattle.txn_audit_recordings.specs.TokenTables.{renaming_in}
use Rattle.txn_audit_recordings.proofs.Renamings.{rest_stays, zip_more, zip_end}
use Rattle.txn_audit_recordings.proofs.tokens.rename_tokens.Goals as goal

pub loop-rows-preserved : goal.loop-rows-preserved
loop-rows-preserved g c =
    let was = c.deref_mut-rows-items.result.now in
    let same = c.loop-rows.invariant.0 in
    let lt : c.loop-rows.rows-index < length was = omega (arith, c.loop-rows-test.true, c.loop-rows.auto.rows-items) in (
      rest_stays was c.loop-rows.rows-items c.loop-rows.rows-index same c.rename_rows.new.rows,
      λ becomes after.
          let before = c.loop-rows.invariant.1 becomes (λ path token new is. after path token new (c.in_ok-rename_rows.ensures.kept path token new is)) in
          zip_more was c.loop-rows.rows-items c.loop-rows.rows-index same (λ rows. rows.items) (RenamesRows becomes None) c.rows-item.result c.rename_rows.new.rows lt c.rows-item.is before (c.in_ok-rename_rows.ensures.renamed becomes after),
    )

pub returns : goal.returns
returns g c =
    let becomes = renaming_in c.loop-rows.table.becomes in
    record {
      becomes = becomes;
      one_to_one = c.loop-rows.table.one_to_one;
      renamed = zip_end (λ rows. rows.items) (RenamesRows becomes None) c.args.recordings.now.items c.deref_mut-rows-items.result.now c.loop-rows.rows-items c.loop-rows.rows-index c.args.recordings.now.len c.deref_mut-rows-items.ensures.value c.loop-rows-test.false c.loop-rows.auto.rows-items c.deref_mut-rows-items.ensures.len (c.loop-rows.invariant.1 becomes (λ path token new is. is));
    }
