use Rattle.std.proofs.Common.{◌∙◌, ◌++◌, length, ap}
use Rattle.txn_history.specs.Lists.{numbered}
use Rattle.txn_machine.specs.plain.Doing.{first_of}
use Rattle.txn_machine.specs.Machine.{answered}
use Rattle.txn_client_journals.specs.Parts.{note_of, written_in}
use Rattle.txn_diary.specs.Shown.{operations_of, writes_of, views_of, shown}
use Rattle.txn_diary.proofs.Acting.{used_from_one, takes_turn_so}
use Rattle.txn_diary.proofs.tables.Tables.turn.Goals as goal

pub settle-requires-clause-view : goal.settle-requires-clause-view
settle-requires-clause-view g c = used_from_one (operations_of c.args.self.now.calls) c.args.op c.usage_at-of.result c.requires.sound c.usage_at-of.ensures

pub returns-clause-turned : goal.returns-clause-turned
returns-clause-turned g c = λ ask asks.
    let t = c.args.self.now in
    takes_turn_so t.layout.page (g.C.ObjectCodec.encoded t.layout.codec) (g.C.ObjectCodec.decoded t.layout.codec) (g.E.EpochField.epoch_of t.epochs) (g.E.EpochField.with_epoch t.epochs) (shown t) (shown c.settle.new.self) c.args.op ask c.args.reply c.usage_at-of.result c.turn-ending.result c.turn-ending.new.caches (operations_of c.turn-ending.new.self) (first_of c.settle.result)
    c.usage_at-of.ensures asks c.turn-ending.ensures.turn c.settle.ensures.caches (ap operations_of c.settle.ensures.calls) c.settle.ensures.views (ap writes_of c.settle.ensures.calls ∙ c.turn-ending.ensures.writes) c.settle.ensures.answer
    (c.settle.ensures.told ∙ ap (λ ws. note_of (g.E.EpochField.epoch_of t.epochs) (written_in (numbered ws c.args.op)) (answered (length (views_of t.views)) c.usage_at-of.result.view c.turn-ending.result) ++ (shown t).told) c.turn-ending.ensures.writes)
