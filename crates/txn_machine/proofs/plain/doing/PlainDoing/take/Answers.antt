use Rattle.txn_steps.specs.Reads.{read_turned}
use Rattle.txn_steps.specs.boundary.Advances.{advance_turned}
use Rattle.txn_machine.proofs.plain.Turning.{read_turns, advance_turns}
use Rattle.txn_machine.proofs.plain.doing.PlainDoing.take.Goals as goal

pub returns-in-Read-clause-turned : goal.returns-in-Read-clause-turned
returns-in-Read-clause-turned g c =
    rw (c.in-Read.is, ← c.requires.names, ← c.requires.boundary)
    (read_turns c.in-Read.op c.take-in-Read.new.self _ (read_turned c.args.layout.now.names c.args.layout.now.boundary c.args.layout.now.page (g.C.ObjectCodec.decoded c.args.layout.now.codec) c.in-Read.op c.args.caches.now c.args.reply) _ _ c.take-in-Read.ensures.turned c.read-answers.ensures.first c.end_where-in-Read.ensures.next)

pub returns-in-Advance-clause-turned : goal.returns-in-Advance-clause-turned
returns-in-Advance-clause-turned g c =
    rw (c.in-Advance.is, ← c.requires.boundary)
    (advance_turns c.in-Advance.op c.take-in-Advance.new.self _ (advance_turned c.args.layout.now.boundary c.in-Advance.op c.args.caches.now c.args.reply) _ _ c.take-in-Advance.ensures.turned c.done-answers-in-Advance.ensures.first c.end_where-in-Advance.ensures.next)
