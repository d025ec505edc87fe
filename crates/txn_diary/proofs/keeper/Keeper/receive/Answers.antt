use Rattle.std.proofs.Common.{subst, Some, None}
use Rattle.txn_diary.specs.Keepers.{keeper_asked, IsReceiptFault}
use Rattle.txn_diary.proofs.Stepping.{met_receipt, receives_so}
use Rattle.txn_diary.proofs.keeper.Keeper.receive.Goals as goal

pub returns-in-Some-clause-refused : goal.returns-in-Some-clause-refused
returns-in-Some-clause-refused g c = met_receipt (Unit {0}) (keeper_asked c.args.self.now c.args.op) c.args.receipt.now c.in-Some.fault (subst (λ a. IsReceiptFault a c.args.receipt.now (Some c.in-Some.fault)) c.asks.ensures c.in-Some.ensures)

pub returns-clause-ok : goal.returns-clause-ok
returns-clause-ok g c =
    let r = c.args.receipt.now in
    let fits = receives_so (keeper_asked c.args.self.now c.args.op) r (subst (λ a. IsReceiptFault a r None) c.asks.ensures c.in_default.ensures) in
    rw c.in-Ok.ensures at (c.reply.ensures.ok r.request r.place fits.0)
