use Rattle.txnworld_commands.proofs.drawings.Footing.{foot_behind}
use Rattle.txnworld_commands.proofs.drawings.trace.print_trace.Goals as goal

pub returns-in-Ok-flush : goal.returns-in-Ok-flush
returns-in-Ok-flush g c =
    let ended = c.in_ok-print_end.ensures.ok in
    let before = g.W.Write.contents c.args.out.now in
    let after = g.W.Write.contents c.print_end.new.out in
    let written = g.W.Write.contents c.write_out.new.out in
    let flushed = g.W.Write.contents c.flush.new.self in
    record {
      foot = (
        g.K.ScriptWorld.state c.in_ok-traced.traced.world,
        c.print_line.new.self.text.items,
        ended.0,
        c.in_ok-traced.ensures.leads,
        ended.1,
        foot_behind before after written flushed c.print_line.new.self.text.items c.print_end.new.printer.text.items ended.0 ended.2 c.in_ok-write_out.ensures.ok c.flush.ensures.bytes,
      );
    }
