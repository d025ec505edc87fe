use Rattle.txn_machine.specs.Machine.{ended_by}
use Rattle.txn_diary.proofs.Killing.{changed_next}
use Rattle.txn_diary.proofs.kills.end_all.Goals as goal

pub loop-place-preserved : goal.loop-place-preserved
loop-place-preserved g c = changed_next (ended_by c.args.client) c.args.operations.now.items c.loop-place.operations.items c.end_at.new.operations.items c.loop-place.place c.end_at.ensures.operation c.loop-place.invariant c.end_at.ensures.found c.end_at.ensures.ended
