use Rattle.txn_audit_effects.specs.Clocks.{clock_of}
use Rattle.txn_audit.specs.recordings.Places.{as_call}
use Rattle.txn_audit.proofs.recordings.Placed.{in_time_by}
use Rattle.txn_audit.proofs.recordings.placing.is_in_time.Goals as goal

pub returns-in-Some : goal.returns-in-Some
returns-in-Some c ok first asked = in_time_by c.args.clocks.now first (as_call c.args.call) c.clock_of.result c.in-Some.at c.in-Some.field-0-1 c.args.call.reply c.in-Some.is c.clock_of.ensures (c.permits.ensures ok (clock_of c.args.clocks.now first.recording) first.asked asked)
