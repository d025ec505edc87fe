use Rattle.std.proofs.Common.{◌∙◌, ◌≡◌, length, ap, arith}
use Rattle.std.proofs.lemmas.List.{length-replicate}
use Rattle.txn_machine.specs.plain.Machine.{no_caches}
use Rattle.txn_world.proofs.Acting.{none_from_one, none_running}
use Rattle.txn_world.proofs.clients.Clients.new.Goals as goal

pub invariant_of-result-clause-wide : goal.invariant_of-result-clause-wide
invariant_of-result-clause-wide g c =
    let items : length c.in_ok-new_caches.field-0.items ≡ c.args.count = ap length c.in_ok-new_caches.ensures ∙ length-replicate c.args.count no_caches in
    omega (arith, items, c.in_ok-new_caches.field-0.ok.0)

pub invariant_of-result-clause-all_running : goal.invariant_of-result-clause-all_running
invariant_of-result-clause-all_running g c = λ client op. c.in_ok-new_sets.ensures.empty client op ∙ none_running c.new.result.items c.new.ensures.items client op

pub invariant_of-result-clause-from_one : goal.invariant_of-result-clause-from_one
invariant_of-result-clause-from_one g c = none_from_one c.new.result.items c.new.ensures.items
