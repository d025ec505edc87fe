use Rattle.txnobj.proofs.simple.SimpleTransactionalObject.refresh_as.Goals as goal

pub returns : goal.returns
returns g c = (c.in_ok-viewed.viewed, rw c.refresh_call.ensures at c.in_ok-viewed.ensures, c.move_to.ensures)
