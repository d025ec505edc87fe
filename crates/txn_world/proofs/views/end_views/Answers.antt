use Rattle.std.proofs.Common.{◌∙◌}
use Rattle.txn_world.proofs.Owning.{from_one, first_left, rest_left, emptied_more}
use Rattle.txn_world.proofs.views.end_views.Goals as goal

pub put-requires-clause-some : goal.put-requires-clause-some
put-requires-clause-some g c = from_one c.args.used.now.items c.in-Some.number.now (c.loop-number.invariant.there c.in-Some.number.now (first_left c.in-Some.number.now c.loop-number.number-iterator c.next.new.self c.in-Some.ensures.steps))

pub loop-number-preserved : goal.loop-number-preserved
loop-number-preserved g c =
    let number = c.in-Some.number.now in
    let some = from_one c.args.used.now.items number (c.loop-number.invariant.there number (first_left number c.loop-number.number-iterator c.next.new.self c.in-Some.ensures.steps)) in
    record {
      left = λ n. emptied_more c.loop-number.used.items c.put.new.self.items number n c.loop-number.number-iterator c.next.new.self some c.in-Some.ensures.steps c.put.ensures ∙ c.loop-number.invariant.left n;
      there = λ n h. c.loop-number.invariant.there n (rest_left n number c.loop-number.number-iterator c.next.new.self c.in-Some.ensures.steps h);
    }
