use Rattle.std.proofs.Common.{[], sym, ap}
use Rattle.std.proofs.lemmas.List.{append-nil}
use Rattle.txn_script.specs.Rules.{rules_of}
use Rattle.txn_script.specs.Script.{goes_on}
use Rattle.txn_script.proofs.Steps.{quiet_came}
use Rattle.txn_script.proofs.script.take_event.Goals as goal

pub returns-in-Told-Began-clause-ok : goal.returns-in-Told-Began-clause-ok
returns-in-Told-Began-clause-ok g c = ([], quiet_came (rules_of g.C.TextForm.text g.C.TextForm.fits g.T.TextForm.text g.K.ScriptWorld.rules) (g.K.ScriptWorld.state c.args.world.now) (g.K.ScriptWorld.state c.take.new.self) c.args.event c.in-Ok.came c.in-Told-Began.field-0 c.in-Ok.ensures c.in-Told-Began.is (ap goes_on c.in-Told-Began.field-0-is), sym (append-nil c.args.printer.now.text.items))

pub returns-in-Told-Went-clause-ok : goal.returns-in-Told-Went-clause-ok
returns-in-Told-Went-clause-ok g c = ([], quiet_came (rules_of g.C.TextForm.text g.C.TextForm.fits g.T.TextForm.text g.K.ScriptWorld.rules) (g.K.ScriptWorld.state c.args.world.now) (g.K.ScriptWorld.state c.take.new.self) c.args.event c.in-Ok.came c.in-Told-Went.field-0 c.in-Ok.ensures c.in-Told-Went.is (ap goes_on c.in-Told-Went.field-0-is), sym (append-nil c.args.printer.now.text.items))

pub returns-in-Told-GaveUp-clause-ok : goal.returns-in-Told-GaveUp-clause-ok
returns-in-Told-GaveUp-clause-ok g c = ([], quiet_came (rules_of g.C.TextForm.text g.C.TextForm.fits g.T.TextForm.text g.K.ScriptWorld.rules) (g.K.ScriptWorld.state c.args.world.now) (g.K.ScriptWorld.state c.take.new.self) c.args.event c.in-Ok.came c.in-Told-GaveUp.field-0 c.in-Ok.ensures c.in-Told-GaveUp.is (ap goes_on c.in-Told-GaveUp.field-0-is), sym (append-nil c.args.printer.now.text.items))

pub returns-in-Told-Landed-clause-ok : goal.returns-in-Told-Landed-clause-ok
returns-in-Told-Landed-clause-ok g c = ([], quiet_came (rules_of g.C.TextForm.text g.C.TextForm.fits g.T.TextForm.text g.K.ScriptWorld.rules) (g.K.ScriptWorld.state c.args.world.now) (g.K.ScriptWorld.state c.take.new.self) c.args.event c.in-Ok.came c.in-Told-Landed.field-0 c.in-Ok.ensures c.in-Told-Landed.is (ap goes_on c.in-Told-Landed.field-0-is), sym (append-nil c.args.printer.now.text.items))

pub returns-in-Told-Crashed-clause-ok : goal.returns-in-Told-Crashed-clause-ok
returns-in-Told-Crashed-clause-ok g c = ([], quiet_came (rules_of g.C.TextForm.text g.C.TextForm.fits g.T.TextForm.text g.K.ScriptWorld.rules) (g.K.ScriptWorld.state c.args.world.now) (g.K.ScriptWorld.state c.take.new.self) c.args.event c.in-Ok.came c.in-Told-Crashed.field-0 c.in-Ok.ensures c.in-Told-Crashed.is (ap goes_on c.in-Told-Crashed.field-0-is), sym (append-nil c.args.printer.now.text.items))
