use Rattle.std.proofs.Common.{◌∙◌, sym, ap, arith}
use Rattle.txn_client_journals.specs.tables.Operations.{asked_of}
use Rattle.txn_client_journals.proofs.tables.Acting.{held_at, numbered_past}
use Rattle.txn_client_journals.proofs.tables.operations.asked.Goals as goal

pub returns-in-Some : goal.returns-in-Some
returns-in-Some g c =
    let within = c.in-Some.ensures.lookup.3.0 in
    c.ask.ensures ∙ sym (ap asked_of (held_at c.args.operations.now c.args.op c.in-Some.operation.now (omega (arith, c.if-op-eq0.false)) (omega (arith, c.if-op-eq0.false, within)) c.in-Some.ensures.lookup.1))

pub returns-in-None : goal.returns-in-None
returns-in-None g c =
    let past = c.in-None.ensures.lookup.3 in
    sym (ap asked_of (numbered_past c.args.operations.now c.args.op (omega (arith, c.if-op-eq0.false, past))))
