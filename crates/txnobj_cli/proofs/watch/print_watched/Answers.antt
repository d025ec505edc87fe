use Rattle.std.proofs.Common.{◌+◌, ◌∙◌, refl}
use Rattle.txnobj.proofs.Rounds.{rounds_more}
use Rattle.txnobj_cli.specs.Answers.{IsNotAbove}
use Rattle.txnobj_cli.proofs.watch.print_watched.Goals as goal

pub loop-look-init : goal.loop-look-init
loop-look-init g c = (refl, refl)

pub returns-then-branch : goal.returns-then-branch
returns-then-branch g c =
    (c.loop-look._look, c.loop-look.protocol, c.loop-look.invariant.0, rw (c.if-branch.true, c.loop-look.invariant.1) at c.in_ok-print_seen.ensures)

pub returns-then-branch-2 : goal.returns-then-branch-2
returns-then-branch-2 g c =
    let seen = rw c.if-branch.false at c.in_ok-print_seen.ensures in
    (c.loop-look._look + 1, rounds_more (IsNotAbove g.P.TransactionalStorageProtocol.made g.P.TransactionalStorageProtocol.stopped g.P.TransactionalStorageProtocol.tells c.args.after) c.loop-look._look c.args.protocol.now c.loop-look.protocol c.print_seen.new.protocol c.loop-look.invariant.0 seen.0, seen.1 ∙ c.loop-look.invariant.1)

pub loop-look-preserved : goal.loop-look-preserved
loop-look-preserved g c =
    let seen = rw c.if-branch.false at c.in_ok-print_seen.ensures in
    (rounds_more (IsNotAbove g.P.TransactionalStorageProtocol.made g.P.TransactionalStorageProtocol.stopped g.P.TransactionalStorageProtocol.tells c.args.after) c.loop-look._look c.args.protocol.now c.loop-look.protocol c.print_seen.new.protocol c.loop-look.invariant.0 seen.0, seen.1 ∙ c.loop-look.invariant.1)

pub returns : goal.returns
returns g c = (c.loop-look._look, c.loop-look.invariant.0, c.loop-look.invariant.1)
