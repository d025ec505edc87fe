use Rattle.std.proofs.Common.{sym}
use Rattle.std.proofs.lemmas.Bool.{ne_eqb}
use Rattle.txn_diary.specs.Shown.{views_of}
use Rattle.txn_diary.proofs.Places.{without_none, without_other}
use Rattle.txn_diary.proofs.kills.end_view_of.Goals as goal

pub returns-in_default : goal.returns-in_default
returns-in_default g c = without_none c.args.client (views_of c.args.views.now) c.args.number c.requires (sym c.in_default.ensures)

pub returns-else-used-client : goal.returns-else-used-client
returns-else-used-client g c = without_other c.args.client (views_of c.args.views.now) c.args.number c.in-Some.used.now c.requires (sym c.in-Some.ensures) (ne_eqb c.in-Some.used.now.view.client c.args.client c.if-used-client.false)
