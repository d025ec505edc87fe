use Rattle.txnworld_commands.proofs.drawings.Footing.{drawn_well}
use Rattle.txnworld_commands.proofs.drawings.picture.run_manifest_picture.Goals as goal

pub returns : goal.returns
returns g c = λ zero. drawn_well c.print_picture-ended.result (c.picture_status.ensures zero) c.print_picture-ended.ensures.foot
