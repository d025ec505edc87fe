use Rattle.std.proofs.Common.{◌∙◌, Some, ap, sym}
use Rattle.txnobj_c.specs.Clients.{opened}
use Rattle.txnobj_c.proofs.Opening.{opens, opens_not, opens_lacking}
use Rattle.txnobj_c.proofs.opens.open_as.Goals as goal

pub returns-then-is_refused : goal.returns-then-is_refused
returns-then-is_refused c = opens_not (opened c.args.recorded) c.args.number c.args.page c.args.client.now.value (sym c.is_refused.ensures ∙ c.if-is_refused.true)

pub returns-in_default : goal.returns-in_default
returns-in_default c = opens_lacking (opened c.args.recorded) c.args.number c.args.page c.args.client.now.value

pub returns-in-Ok-new : goal.returns-in-Ok-new
returns-in-Ok-new c = opens (opened c.args.recorded) c.args.number c.args.page c.args.client.now.value c.put.new.self.value (sym c.is_refused.ensures ∙ c.if-is_refused.false) (c.put.ensures ∙ ap Some (c.in-Ok-new.ensures.ok ∙ c.in-Ok.ensures))

pub returns-in-Err : goal.returns-in-Err
returns-in-Err c = opens_lacking (opened c.args.recorded) c.args.number c.args.page c.args.client.now.value
