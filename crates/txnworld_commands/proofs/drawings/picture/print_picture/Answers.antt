use Rattle.std.proofs.Common.{◌++◌, ap, ◌∙◌}
use Rattle.txn_drawing_svg.specs.Escaped.{escaped_lines}
use Rattle.txnworld_commands.proofs.drawings.Footing.{written_is}
use Rattle.txnworld_commands.proofs.drawings.picture.print_picture.Goals as goal

pub returns : goal.returns
returns g c =
    let drawn = c.in_ok-picture.ensures in
    let is = c.as_slice-2.ensures.value ∙ drawn.2 ∙ ap (λ it. drawn.0 ++ (escaped_lines it ++ drawn.1)) c.as_slice.ensures.value in
    record {
      foot = λ done. (
        g.K.ScriptWorld.state c.in_ok-traced.traced.world,
        drawn.0,
        c.in_ok-foot.foot.items,
        drawn.1,
        c.in_ok-traced.ensures.leads,
        c.in_ok-foot.ensures,
        written_is _ _ _ _ c.in_ok-write_picture.ensures is,
      );
    }
