use Rattle.std.proofs.Common.{◌≤◌, ◌<◌, ◌+◌, ◌-◌, ◌^◌, arith}
use Rattle.std.proofs.lemmas.Int.Digits.{length-digits_of-le}
use Rattle.txn_store.specs.Memory.{binary_digits}
use Rattle.txn_store.proofs.SortedLemmas.{digits_of_power}
use Rattle.txn_store.proofs.sorted.most_on_a_side.Goals as goal

pub returns-clause-few : goal.returns-clause-few
returns-clause-few c =
    let next = c.ilog2.ensures.next_power_gt in
    let power = c.pow.ensures in
    let less : c.pow.result - 1 < 2 ^ c.ilog2.result = omega (arith, next, power) in
    let few : binary_digits (c.pow.result - 1) ≤ c.ilog2.result = length-digits_of-le 2 c.ilog2.result (c.pow.result - 1) (omega arith) less in
    let many : c.ilog2.result + 1 ≤ binary_digits c.args.count = digits_of_power c.ilog2.result c.args.count c.ilog2.ensures.power_le in
    λ some. omega (arith, few, many)
