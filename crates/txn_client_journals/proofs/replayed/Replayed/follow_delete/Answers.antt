use Rattle.txn_client_journals.proofs.Following.{delete_error_follows, removed_follows}
use Rattle.txn_client_journals.proofs.replayed.Replayed.follow_delete.Goals as goal

pub returns-in-Ok : goal.returns-in-Ok
returns-in-Ok c = rw c.in-Ok.is (λ store s. removed_follows c.args.path.now c.args.self.now store s c.in-Ok.field-0 c.remove.new.self c.remove.ensures)

pub returns-in-Err : goal.returns-in-Err
returns-in-Err c = rw c.in-Err.is (λ store s. delete_error_follows c.args.path.now c.args.self.now store s c.in-Err.error c.take_error.result c.take_error.ensures.ok c.take_error.ensures.err)
