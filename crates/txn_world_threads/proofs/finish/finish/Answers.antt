use Rattle.std.proofs.Common.{rules, refl, ◌∙◌, ap, length}
use Rattle.txn_world_threads.specs.Kept.{CameOnce}
use Rattle.txn_world_threads.proofs.Agreeing.{exactly}
use Rattle.txn_world_threads.proofs.Once.{all_among}
use Rattle.txn_world_threads.proofs.Shares.{held, not_held}
use Rattle.txn_world_threads.proofs.finish.finish.Goals as goal

pub agree-requires : goal.agree-requires
agree-requires g c =
    let once : CameOnce c.args.kept.workers c.args.shares.items = held c.came_once.result _ _ c.came_once.ensures (search rules) (λ once. search rules) in
    all_among c.args.kept.workers (length c.deref-3.result.now) c.args.shares.items c.deref-2.result.now once (ap length c.deref-3.ensures.value ∙ c.into_counts-counts.ensures.all) c.deref-2.ensures.value

pub returns-then-not-came_once-clause-err : goal.returns-then-not-came_once-clause-err
returns-then-not-came_once-clause-err g c = not_held c.came_once.result _ _ c.came_once.ensures (search rules) (λ once. search rules)

pub returns-then-not-agree-clause-err : goal.returns-then-not-agree-clause-err
returns-then-not-agree-clause-err g c =
    let once : CameOnce c.args.kept.workers c.args.shares.items = held c.came_once.result _ _ c.came_once.ensures (search rules) (λ once. search rules) in
    let exact = exactly c.args.kept.workers c.args.kept.journal c.args.shares.items c.deref-2.result.now c.into_counts-counts.result.items c.deref-3.result.now (all_among c.args.kept.workers c.args.kept.workers c.args.shares.items c.args.shares.items once refl refl) c.into_counts-counts.ensures c.deref-2.ensures.value c.deref-3.ensures.value in
    (once, not_held c.agree.result _ _ c.agree.ensures (search rules) exact.1)

pub returns-clause-ok : goal.returns-clause-ok
returns-clause-ok g c =
    let once : CameOnce c.args.kept.workers c.args.shares.items = held c.came_once.result _ _ c.came_once.ensures (search rules) (λ once. search rules) in
    let exact = exactly c.args.kept.workers c.args.kept.journal c.args.shares.items c.deref-2.result.now c.into_counts-counts.result.items c.deref-3.result.now (all_among c.args.kept.workers c.args.kept.workers c.args.shares.items c.args.shares.items once refl refl) c.into_counts-counts.ensures c.deref-2.ensures.value c.deref-3.ensures.value in
    record { once = once; agree = held c.agree.result _ _ c.agree.ensures (search rules) exact.0; are_counts = c.into_counts-counts.ensures }
