use Rattle.std.proofs.Common.{◌≡◌, ◌+◌, ◌++◌, ◌∙◌, ap, ◌<◌, length, arith, get_or}
use Rattle.std.proofs.lemmas.List.{length-set}
use Rattle.txn_drawing_moments.specs.Epochs.{shut_by, out_by}
use Rattle.txn_drawing_moments.proofs.Shutting.{same_next, same_left, one_shut, one_told}
use Rattle.txn_drawing_moments.proofs.holds.Holds.shut_out.Goals as goal

pub loop-index-preserved : goal.loop-index-preserved
loop-index-preserved c =
    let old = c.args.self.now.holds.items in
    let now = c.loop-index.self.holds.items in
    let i = c.loop-index.index in
    let hold = c.index-hold.result.now in
    let so_far = c.loop-index.invariant in
    let lt : i < length old = omega (arith, c.loop-index-test.true, so_far.many) in
    let same : hold ≡ get_or old i hold = c.index-hold.ensures ∙ same_next now old i hold lt so_far.many so_far.left in
    record {
      epoch = so_far.epoch;
      claims = so_far.claims;
      many = length-set now i c.shut.result ∙ so_far.many;
      shut = one_shut c.args.epoch i now old c.shut.result hold lt so_far.many so_far.left (c.shut.ensures ∙ ap (shut_by c.args.epoch) c.index-hold.ensures) so_far.shut;
      left = same_left now old i c.shut.result so_far.left;
      told = one_told c.args.epoch i old hold c.loop-index.out.items _ _ lt so_far.told (c.in_ok-add_out.ensures ∙ ap (λ it. c.loop-index.out.items ++ out_by c.args.epoch (i + 1) it) same);
    }
