use Rattle.std.specs.Option.{option_copied}
use Rattle.txn_audit_recordings.proofs.Renamings.{page_renamed}
use Rattle.txn_audit_recordings.proofs.token_table.TokenTable.rename_reply.Goals as goal

pub returns-in_ok-rename_page-in-List-Ok-clause-renamed :
    goal.returns-in_ok-rename_page-in-List-Ok-clause-renamed
returns-in_ok-rename_page-in-List-Ok-clause-renamed c = λ becomes after. page_renamed becomes (option_copied c.args.path) c.args.reply.now c.in-List-Ok.field-0 c.in-List-Ok.page c.rename_page.new.page c.in-List-Ok.is c.in-List-Ok.field-0-is (c.in_ok-rename_page-in-List-Ok.ensures.renamed becomes after) c.in_ok-rename_page-in-List-Ok.ensures.more
