use Rattle.std.proofs.Common.{ap, ◌∙◌}
use Rattle.std.specs.Option.{option_copied}
use Rattle.txn_store.specs.Store.{get_fault}
use Rattle.txn_client_journals.proofs.Following.{get_error_follows, got_follows}
use Rattle.txn_client_journals.proofs.replayed.Replayed.follow_get.Goals as goal

pub returns-else-not-has_file : goal.returns-else-not-has_file
returns-else-not-has_file c = rw c.in-Ok.is (λ store s. got_follows c.args.path.now c.args.known c.args.self.now store s (option_copied c.get-found.result) c.in-Ok.got c.get-found.ensures.got (c.has_file.ensures.0 c.if-not-has_file.false))

pub returns-in-Err : goal.returns-in-Err
returns-in-Err c = rw c.in-Err.is (λ store s. get_error_follows c.args.path.now c.args.known c.args.self.now store s c.fault_of_found.result c.in-Err.error c.take_error.result (c.fault_of_found.ensures ∙ ap (get_fault c.args.known) c.get-found.ensures.got) c.take_error.ensures.ok c.take_error.ensures.err)
