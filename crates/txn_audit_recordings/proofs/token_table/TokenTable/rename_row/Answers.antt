use Rattle.std.specs.Option.{option_copied}
use Rattle.txn_audit_recordings.proofs.Renamings.{on_ok, ask_renamed, reply_renamed}
use Rattle.txn_audit_recordings.proofs.token_table.TokenTable.rename_row.Goals as goal

pub returns-in-Ask-clause-renamed : goal.returns-in-Ask-clause-renamed
returns-in-Ask-clause-renamed g c = on_ok c.rename_request.result _ _ (λ renamed becomes after. ask_renamed becomes (option_copied c.args.path) c.args.row.now c.in-Ask.field-0 c.in-Ask.field-1 c.in-Ask.request c.rename_request.new.request c.in-Ask.is (renamed becomes after)) c.rename_request.ensures.renamed

pub returns-in-Reply-clause-renamed : goal.returns-in-Reply-clause-renamed
returns-in-Reply-clause-renamed g c = on_ok c.rename_reply.result _ _ (λ renamed becomes after. reply_renamed becomes (option_copied c.args.path) c.args.row.now c.in-Reply.field-0 c.in-Reply.field-1 c.in-Reply.reply c.rename_reply.new.reply c.in-Reply.is (renamed becomes after)) c.rename_reply.ensures.renamed
