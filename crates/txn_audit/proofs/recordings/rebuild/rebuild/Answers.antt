use Rattle.std.proofs.Common.{[], drop, subst}
use Rattle.txn_script_lines.specs.Printed.{answered_text}
use Rattle.txn_audit.specs.recordings.Told.{recording_tells, journal_tells, TellsSame}
use Rattle.txn_audit.proofs.recordings.Following.{opened_stands, tells_all}
use Rattle.txn_audit.proofs.recordings.rebuild.rebuild.Goals as goal

pub returns-in-Ok-finish-clause-tells : goal.returns-in-Ok-finish-clause-tells
returns-in-Ok-finish-clause-tells g c =
    let text = g.T.TextForm.text in
    let new = c.in-Ok-opened.rebuilding in
    let opened = c.in-Ok-opened.ensures.opened in
    let start = opened_stands text new.diary.rows new.begun new.stage opened.rows opened.begun_is opened.idle in
    let there = c.in_default.ensures.told [] start in
    subst (λ told. TellsSame told (journal_tells (answered_text text) 0 c.finish.new.self.diary.rows)) (tells_all c.args.rows.now c.in-Ok.client c.args.page c.in-Ok.ensures.client)
    (c.in-Ok-finish.ensures.told (recording_tells (drop 1 c.args.rows.now)) there)
