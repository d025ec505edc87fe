use Rattle.std.proofs.Common.{rules, ◌≡◌}
use Rattle.txn_machine.specs.plain.Doing.{first_of}
use Rattle.txn_steps.specs.boundary.Steps.{turned_by_number}
use Rattle.txn_machine.specs.declared.doing.Doing.TheVariants as does
use Rattle.txn_machine.proofs.Taken.{plain_takes, plain_after, plain_leaves, view_takes, view_after, view_leaves}
use Rattle.txn_machine.proofs.work.Work.take.Goals as goal
use Rattle.txn_machine.proofs.work.Work.take.Goals.{in-Plain, in-View}

pub returns-clause-turned : goal.returns-clause-turned
returns-clause-turned g c =
    elim c.match-deref_mut.branch [
      | in-Plain w ↦
          let was : c.args.self.now ≡ does.Plain w.in-Plain.doing = search rules in
          let after = plain_after c.args.layout.now.page (g.C.ObjectCodec.decoded c.args.layout.now.codec) c.args.caches.now c.args.reply w.in-Plain.doing w.take.new.self (first_of w.take.result) c.end_where.new.self w.plain_ending.result w.take.ensures.turned w.plain_ending.ensures (search rules) in
          rw (after, w.ending-is) (plain_takes _ _ _ _ _ _ _ c.args.self.now w.in-Plain.doing w.take.new.self (first_of w.take.result) w.plain_ending.result was w.take.ensures.turned w.plain_ending.ensures)
      | in-View w ↦
          let was : c.args.self.now ≡ does.View w.in-View.op = search rules in
          let after = view_after (does.View w.take-in-View.new.self) c.end_where.new.self (turned_by_number w.take-in-View.result) w.view_ending.result (w.view_ending.ensures (does.View w.take-in-View.new.self)) (search rules) in
          rw w.ending-is (view_takes _ _ _ _ _ _ _ _ _ c.requires.names c.requires.boundary c.args.self.now w.in-View.op w.take-in-View.new.self (turned_by_number w.take-in-View.result) (c.end_where.new.self, w.view_ending.result) was w.take-in-View.ensures.turned w.take-in-View.ensures.made w.take-in-View.ensures.short after)
    ]

pub returns-clause-caches : goal.returns-clause-caches
returns-clause-caches g c =
    elim c.match-deref_mut.branch [
      | in-Plain w ↦
          let was : c.args.self.now ≡ does.Plain w.in-Plain.doing = search rules in
          rw (w.caches-is, w.ending-is) (plain_leaves c.args.self.now w.in-Plain.doing c.args.caches.now w.take.new.caches (first_of w.take.result) w.plain_ending.result was w.take.ensures.caches w.plain_ending.ensures)
      | in-View w ↦
          let was : c.args.self.now ≡ does.View w.in-View.op = search rules in
          let after = view_after (does.View w.take-in-View.new.self) c.end_where.new.self (turned_by_number w.take-in-View.result) w.view_ending.result (w.view_ending.ensures (does.View w.take-in-View.new.self)) (search rules) in
          rw (w.caches-is, w.ending-is) (view_leaves c.args.self.now w.in-View.op w.take-in-View.new.self c.args.caches.now w.take-in-View.new.caches (turned_by_number w.take-in-View.result) (c.end_where.new.self, w.view_ending.result) was w.take-in-View.ensures.caches after)
    ]
