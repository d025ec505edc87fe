use Rattle.std.proofs.Common.{◌∙◌, ap, arith, length, map, sym, ◌++◌, ◌≤◌, subst, append-nil}
use Rattle.std.proofs.lemmas.List.{drop_all}
use Rattle.txn_drawing_recordings.specs.ByTime.{placed_of, timed_calls, IsInOrder}
use Rattle.txn_drawing_recordings.proofs.times.by_time.Goals as goal

pub returns : goal.returns
returns g c =
    let calls = c.loop-recording.calls.items in
    let recordings = c.args.recordings.now in
    let all : length recordings ≤ c.loop-recording.recording = omega (arith, c.loop-recording-test.false) in
    let is = sym (append-nil calls) ∙ ap (λ it. calls ++ timed_calls c.args.clocks.now c.loop-recording.recording it) (sym (drop_all c.loop-recording.recording recordings all)) ∙ c.loop-recording.invariant in
    let sorted = c.sort.new.calls.items in
    let order : IsInOrder calls sorted = (c.sort.ensures.same, c.in_ok-sort.ensures.sorted, c.in_ok-sort.ensures.stable) in
    (sorted, subst (λ it. IsInOrder it sorted) is order, c.in_ok-order.ensures ∙ ap (map placed_of) c.as_slice-2.ensures.value)
