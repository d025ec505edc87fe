use Rattle.std.proofs.Common.{rules, ap, sym, ◌∙◌, ◌≡◌, Err}
use Rattle.txn_store.specs.types.Errors.{error_number}
use Rattle.txn_steps.specs.declared.boundary.turned.Turned.TheVariants.{Done}
use Rattle.txn_steps.specs.declared.boundary.check.CheckOp.TheVariants.{Checks}
use Rattle.txn_steps.specs.boundary.Checks.{check_turned, checks_turned}
use Rattle.txn_steps.specs.boundary.Steps.{turned_by_number}
use Rattle.txn_steps.proofs.boundary.check.CheckOp.take.Goals as goal

-- src/check.rt:178:5
pub returns-in-Done-Err-clause-turned : goal.returns-in-Done-Err-clause-turned
returns-in-Done-Err-clause-turned c =
    let five : error_number c.in-Done-Err.error ≡ 5 = c.is_sequenced_write_conflict.ensures.number.0 c.if-is_sequenced_write_conflict.true in
    let told : Done (Err c.in-Done-Err.error) ≡ c.take.result = search rules in
    let is : Checks c.in-Checks.check ≡ c.args.self.now = search rules in
    let id = c.in-Checks.check.id in
    ap (λ n. checks_turned id (c.take.new.self, Done (Err n))) (sym five) ∙ ap (λ told. checks_turned id (c.take.new.self, turned_by_number told)) told ∙ ap (checks_turned id) c.take.ensures.turned ∙ ap (λ op. check_turned op c.args.caches.now c.args.reply) is
