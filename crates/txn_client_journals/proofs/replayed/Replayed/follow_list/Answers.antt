use Rattle.std.specs.Option.{option_copied}
use Rattle.txn_client_journals.proofs.Following.{list_error_follows, listed_follows}
use Rattle.txn_client_journals.proofs.replayed.Replayed.follow_list.Goals as goal

pub returns-else-not-same_page : goal.returns-else-not-same_page
returns-else-not-same_page c = rw c.in-Ok.is (λ store s. listed_follows c.args.prefix.now (option_copied c.args.after) c.args.limit c.args.self.now store s c.in-Ok.told c.in_ok-page-in-Ok.page c.in_ok-page-in-Ok.ensures.told (c.same_page.ensures.0 c.if-not-same_page.false))

pub returns-in-Err : goal.returns-in-Err
returns-in-Err c = rw c.in-Err.is (λ store s. list_error_follows c.args.prefix.now (option_copied c.args.after) c.args.limit c.args.self.now store s c.in-Err.error c.take_error.result c.take_error.ensures.ok c.take_error.ensures.err)
