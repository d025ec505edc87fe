use Rattle.std.proofs.Common.{◌∙◌, sym, ap}
use Rattle.txn_client_journals.specs.Parts.{client_begin_fault}
use Rattle.txn_diary.specs.Keepers.{KeeperState, fault_if, keeper_refusal}
use Rattle.txn_diary.specs.Shown.{shown}
use Rattle.txn_diary.proofs.keeper.Keeper.begin_refusal.Goals as goal

pub returns : goal.returns
returns g c =
    let t = c.self.inside.tables in
    c.begin_refusal.ensures ∙ (sym (ap (λ b. fault_if b (client_begin_fault (g.E.EpochField.epoch_of t.epochs) t.client (shown t) c.args.call.now)) c.if-not-self.false)
    ∙ ap (λ (keeper : KeeperState _ _ _). keeper_refusal (g.E.EpochField.epoch_of keeper.epochs) keeper c.args.call.now) c.self.view_is)
