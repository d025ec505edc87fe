use Rattle.std.proofs.Common.{map, subst, sym}
use Rattle.std.proofs.lemmas.List.{length-map}
use Rattle.txn_audit.specs.recordings.Places.{AllArePlaced, IsSoFar}
use Rattle.txn_audit.proofs.recordings.Placed.{none_so_far, so_far_more, all_replayed}
use Rattle.txn_audit.proofs.recordings.replay.replay.Goals as goal

pub loop-placed-init : goal.loop-placed-init
loop-placed-init g c =
    let recordings = map (λ rows. rows.items) c.args.recordings.now in
    subst (λ log. IsSoFar recordings c.args.clocks.now log c.new-placing.result) (sym c.new-log.ensures) (none_so_far recordings c.args.clocks.now c.new-placing.result c.new-placing.ensures.placed)

pub loop-placed-preserved : goal.loop-placed-preserved
loop-placed-preserved g c =
    so_far_more (map (λ rows. rows.items) c.args.recordings.now) c.args.clocks.now c.loop-placed.log c.push.new.self c.in_ok-row.row c.loop-placed.placing c.take.new.self c.in-Ok.ensures.ok c.loop-placed.invariant c.in_ok-row.ensures

pub returns-in-None-missing : goal.returns-in-None-missing
returns-in-None-missing g c =
    let recordings = map (λ rows. rows.items) c.args.recordings.now in
    all_replayed recordings c.args.clocks.now c.loop-placed.log c.loop-placed.placing c.loop-placed.invariant (subst (AllArePlaced c.loop-placed.placing recordings) (sym (length-map c.args.recordings.now (λ rows. rows.items))) c.in-None-missing.ensures)
