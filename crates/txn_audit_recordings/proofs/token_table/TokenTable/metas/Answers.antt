use Rattle.std.proofs.lemmas.List.Elements.{all_zip_more}
use Rattle.txn_audit_recordings.specs.Tokens.{RenamesMeta}
use Rattle.txn_audit_recordings.proofs.token_table.TokenTable.metas.Goals as goal

pub loop-meta-preserved : goal.loop-meta-preserved
loop-meta-preserved c = (
  λ path token new is. c.in_ok-meta.ensures.kept path token new (c.loop-meta.invariant.0 path token new is),
  λ becomes after.
      let before = c.loop-meta.invariant.1 becomes (λ path token new is. after path token new (c.in_ok-meta.ensures.kept path token new is)) in
      rw c.in_ok-push.ensures.items (all_zip_more (RenamesMeta becomes) c.args.metas.now c.loop-meta.renamed.items c.loop-meta.meta-index c.meta-item.result c.in_ok-meta.field-0 c.loop-meta-test.true c.meta-item.is before (c.in_ok-meta.ensures.renamed becomes after)),
)
