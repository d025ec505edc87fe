use Rattle.std.proofs.Common.{nat_eq, arith, ap, sym}
use Rattle.std.specs.HashMap.{get}
use Rattle.std.proofs.lemmas.List.FromFn.{length-map-range_with_len}
use Rattle.txn_machine.specs.Machine.{used_in}
use Rattle.txn_diary.specs.Shown.{views_of}
use Rattle.txn_diary.proofs.Places.{emptied_next, emptied_all}
use Rattle.txn_diary.proofs.kills.end_views_of.Goals as goal

pub loop-before-preserved : goal.loop-before-preserved
loop-before-preserved g c =
    let old = c.args.views.now in
    let long = length-map-range_with_len (λ number. used_in (get nat_eq old.used number)) 1 old.count in
    emptied_next c.args.client c.loop-before.before (views_of old) (views_of c.loop-before.views) (views_of c.end_view_of.new.views) (omega (arith, long, c.loop-before-test.true)) c.loop-before.invariant c.end_view_of.ensures

pub returns : goal.returns
returns g c =
    let old = c.args.views.now in
    let long = length-map-range_with_len (λ number. used_in (get nat_eq old.used number)) 1 old.count in
    emptied_all c.args.client c.loop-before.before (views_of old) (views_of c.loop-before.views) (omega (arith, long, c.loop-before-test.false)) c.loop-before.invariant
