use Rattle.std.proofs.Common.{rules, refl}
use Rattle.txn_machine.specs.Machine.{seen_of}
use Rattle.txn_world_threads.proofs.Due.{lacks}
use Rattle.txn_world_threads.proofs.Journal.{replays_push}
use Rattle.txn_world_threads.proofs.kept.Kept.add.Goals as goal

pub invariant_of-self-2 : goal.invariant_of-self-2
invariant_of-self-2 g c = (
  rw (c.in_ok-told.ensures.codec, c.in_ok-told.ensures.epochs)
      (replays_push (g.C.ObjectCodec.encoded c.self.inside.world.codec) (g.C.ObjectCodec.decoded c.self.inside.world.codec) (g.E.EpochField.epoch_of c.self.inside.world.epochs) (g.E.EpochField.with_epoch c.self.inside.world.epochs) c.self.inside.journal.items c.push_within.new.items.items c.self.inside.world.state c.take.new.self.state c.args.worker c.args.event c.in-Ok-try_clone.copy c.in_ok-told.told
      c.self.invariant.0 c.in_ok-told.ensures.ok c.in-Ok-try_clone.ensures (search rules)),
  c.self.invariant.1,
)

pub returns-clause-ok : goal.returns-clause-ok
returns-clause-ok g c = (c.in_ok-told.told, rw (← c.self.view_is) (record { row = search rules; step = c.in_ok-told.ensures.ok; codec = c.in_ok-told.ensures.codec; epochs = c.in_ok-told.ensures.epochs; workers = refl }))

pub returns-in_err-told-clause-refused : goal.returns-in_err-told-clause-refused
returns-in_err-told-clause-refused g c = rw (← c.self.view_is) (search rules)

pub returns-clause-refused : goal.returns-clause-refused
returns-clause-refused g c = rw (← c.self.view_is) (search rules)

pub returns-in_default-clause-refused : goal.returns-in_default-clause-refused
returns-in_default-clause-refused g c =
    let s = c.self.inside.world.state in
    rw (← c.self.view_is) (lacks (Unit {0}) (g.C.ObjectCodec.decoded c.self.inside.world.codec) (g.E.EpochField.epoch_of c.self.inside.world.epochs) (seen_of s) s.trace c.args.event c.lack.result c.lack.ensures)

pub returns-in_default-try_clone-clause-refused : goal.returns-in_default-try_clone-clause-refused
returns-in_default-try_clone-clause-refused g c =
    let s = c.self.inside.world.state in
    rw (← c.self.view_is) (lacks (Unit {0}) (g.C.ObjectCodec.decoded c.self.inside.world.codec) (g.E.EpochField.epoch_of c.self.inside.world.epochs) (seen_of s) s.trace c.args.event c.lack-in_default-try_clone.result c.lack-in_default-try_clone.ensures)
