use Rattle.std.proofs.Common.{◌≡◌, ◌∙◌, ◌+◌, vec_len, is_ok, is_some, sym, subst, arith}
use Rattle.txn_machine.specs.declared.doing.Doing.{Doing}
use Rattle.txn_machine.specs.Doing.{asked}
use Rattle.txn_world.proofs.Running.{running_entered}
use Rattle.txn_world.proofs.Acting.{from_more}
use Rattle.txn_world.proofs.clients.Clients.add.Goals as goal

pub invariant_of-self : goal.invariant_of-self
invariant_of-self g c =
    let t = c.args.self.now in
    record {
      wide = t.wide;
      each = c.enter-made.ensures.len ∙ t.each;
      all_running = running_entered t.running.items c.enter-made.new.running.items t.operations.items c.enter-made.new.operations.items c.push_where.new.items.items (record { client = c.args.of.client; view = c.args.of.view; claims = c.args.of.claims; doing = c.in_ok-work.work }) c.runs-running.result (is_ok c.enter-made.result) (vec_len t.operations + 1) t.all_running (omega (arith, t.operations.ok.0)) (subst (λ (d : Doing g.row.T.Denot). c.runs-running.result ≡ is_some (asked d)) (sym c.in_ok-work.ensures) c.runs-running.ensures) c.enter-made.ensures.operations c.push_where.ensures.items c.enter-made.ensures.entered;
      from_one = from_more t.operations.items c.enter-made.new.operations.items c.push_where.new.items.items (record { client = c.args.of.client; view = c.args.of.view; claims = c.args.of.claims; doing = c.in_ok-work.work }) (is_ok c.enter-made.result) t.from_one c.requires.view c.enter-made.ensures.operations c.push_where.ensures.items;
    }
