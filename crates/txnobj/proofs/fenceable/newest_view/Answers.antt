use Rattle.txnobj.proofs.fenceable.newest_view.Goals as goal

pub returns : goal.returns
returns g c = (c.in_ok-viewed.field-0.id, c.in_ok-viewed.field-0.value, c.in_ok-viewed.ensures)
