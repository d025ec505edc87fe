use Rattle.std.proofs.Common.{◌∙◌, ap, sym, subst, ℕ, List, ◌++◌, arith}
use Rattle.std.specs.List.Sorted.{IsStrictlySortedBy}
use Rattle.std.specs.Ordering.{nat_cmp}
use Rattle.txn_world.specs.Running.{requests_left}
use Rattle.txn_world.proofs.Running.{running_found, crash_running, crash_operations, crash_leaves, has_all}
use Rattle.txn_world.proofs.Acting.{from_ended}
use Rattle.txn_world.proofs.clients.Clients.crash.Goals as goal

pub end_all-requires : goal.end_all-requires
end_all-requires g c = λ n there.
    let t = c.args.self.now in
    let has = has_all t.running.items c.args.client c.index.result.now c.in_ok-ops.ops.items c.deref-3.result.now c.requires.some (omega (arith, c.requires.within, t.each, t.running.ok.0)) c.index.ensures c.in_ok-ops.ensures c.deref-3.ensures.value in
    running_found t.running.items t.operations.items c.args.client n t.all_running (sym (has n) ∙ there)

pub invariant_of-self : goal.invariant_of-self
invariant_of-self g c =
    let t = c.args.self.now in
    let has = has_all t.running.items c.args.client c.index.result.now c.in_ok-ops.ops.items c.deref-3.result.now c.requires.some (omega (arith, c.requires.within, t.each, t.running.ok.0)) c.index.ensures c.in_ok-ops.ensures c.deref-3.ensures.value in
    record {
      wide = t.wide;
      each = c.clear.ensures.len ∙ t.each;
      all_running = crash_running t.running.items c.clear.new.sets.items t.operations.items c.end_all.new.operations.items c.args.client c.deref-3.result.now t.all_running has c.end_all.ensures c.clear.ensures.left;
      from_one = from_ended t.operations.items c.end_all.new.operations.items c.args.client t.from_one (crash_operations t.running.items t.operations.items c.end_all.new.operations.items c.args.client c.deref-3.result.now t.all_running has c.end_all.ensures);
    }

pub returns-clause-operations : goal.returns-clause-operations
returns-clause-operations g c =
    let t = c.args.self.now in
    let has = has_all t.running.items c.args.client c.index.result.now c.in_ok-ops.ops.items c.deref-3.result.now c.requires.some (omega (arith, c.requires.within, t.each, t.running.ok.0)) c.index.ensures c.in_ok-ops.ensures c.deref-3.ensures.value in
    crash_operations t.running.items t.operations.items c.end_all.new.operations.items c.args.client c.deref-3.result.now t.all_running has c.end_all.ensures

pub returns-clause-loose : goal.returns-clause-loose
returns-clause-loose g c =
    let t = c.args.self.now in
    let keys = c.deref-2.result.now in
    let has = has_all t.running.items c.args.client c.index.result.now c.in_ok-ops.ops.items keys c.requires.some (omega (arith, c.requires.within, t.each, t.running.ok.0)) c.index.ensures c.in_ok-ops.ensures c.deref-2.ensures.value in
    let sorted = subst (λ (ks : List ℕ). IsStrictlySortedBy nat_cmp ks) (sym c.deref-2.ensures.value) c.in_ok-ops.ensures.ascending in
    c.in_ok-append.ensures.items ∙ ap (λ ls. c.args.loose.now.items ++ ls) (c.in_ok-left.ensures ∙ (ap (λ os. requests_left os keys) c.deref.ensures.value ∙ crash_leaves t.running.items t.operations.items c.args.client keys t.all_running sorted has))
