use Rattle.std.proofs.Common.{rules, ◌≡◌, ◌*◌, ◌∙◌, sym, subst, vec_len, slice_index_or}
use Rattle.std.proofs.lemmas.Option.{get_or_from_slice_get, slice_get_within}
use Rattle.std.proofs.lemmas.Result.{IfOk-weaker}
use Rattle.txn_world_threads.specs.declared.jobs.End.TheVariants as ends
use Rattle.txn_world_threads.specs.Done.{DoesJobs}
use Rattle.txn_world_threads.proofs.work.work_all.Goals as goal

pub returns-clause-each : goal.returns-clause-each
returns-clause-each g c =
    IfOk-weaker c.map_vec.result _ _ (λ v gives k worker left at was.
    let job = (gives k left (slice_get_within c.args.workers.items k worker at)).1 in
    let worker_is : job.job ≡ worker = sym (job.job_is worker) ∙ get_or_from_slice_get c.args.workers.items k worker worker at in
    let left_is : slice_index_or v.items k left ≡ left = get_or_from_slice_get v.items k left left was in
    subst (λ w. g.X.Caller.goes w.caller (400 * vec_len w.jobs) left.caller) worker_is
    (subst (λ l. g.X.Caller.goes job.job.caller (400 * vec_len job.job.jobs) l.caller) left_is (search rules))) c.map_vec.ensures.each

pub returns-clause-done : goal.returns-clause-done
returns-clause-done g c =
    IfOk-weaker c.map_vec.result _ _ (λ v gives k worker left at was.
    let job = (gives k left (slice_get_within c.args.workers.items k worker at)).1 in
    let worker_is : job.job ≡ worker = sym (job.job_is worker) ∙ get_or_from_slice_get c.args.workers.items k worker worker at in
    let left_is : slice_index_or v.items k left ≡ left = get_or_from_slice_get v.items k left left was in
    subst (λ w. left.end ≡ ends.Done → DoesJobs g.X.Caller.took w.caller w.jobs.items left.caller) worker_is
    (subst (λ l. l.end ≡ ends.Done → DoesJobs g.X.Caller.took job.job.caller job.job.jobs.items l.caller) left_is (search rules))) c.map_vec.ensures.each
