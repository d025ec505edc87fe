use Rattle.txnworld_commands.proofs.Auditing.{made_with}
use Rattle.txnworld_commands.proofs.diaries.audited.Goals as goal

pub audit_diaries-requires-clause-made : goal.audit_diaries-requires-clause-made
audit_diaries-requires-clause-made c = made_with c.args.workers c.args.diaries.now _ _ c.requires
