use Rattle.std.proofs.Common.{sym, subst}
use Rattle.txnworld_commands.specs.Tallies.{AgreeAs}
use Rattle.txnworld_commands.proofs.Finishing.{finished_as}
use Rattle.txnworld_commands.proofs.threads.counts_agree.Goals as goal

pub returns : goal.returns
returns c =
    subst (λ b. AgreeAs c.args.kept c.args.shares.items b) (sym c.is_ok.ensures.value)
    (finished_as (λ counts. counts.items) c.args.kept c.args.shares.items c.finish.result c.finish.ensures.ok c.finish.ensures.err c.finish.ensures.memory)
