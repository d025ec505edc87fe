use Rattle.std.proofs.Common.{sym, subst}
use Rattle.txn_store.specs.declared.request.Request.{Request}
use Rattle.txn_store.specs.declared.request.Reply.TheVariants as replies
use Rattle.txn_folder.specs.Machines.{IsOfMachine}
use Rattle.txn_folder.proofs.store.FolderStore.serve.Goals as goal

pub returns-in-Get-clause-machine : goal.returns-in-Get-clause-machine
returns-in-Get-clause-machine g c = subst (λ (r : Request). IsOfMachine c.args.self.now.names c.args.self.now.boundary c.args.self.now.disk.syncs r (replies.Get c.get.result)) (sym c.in-Get.is) c.get.ensures.machine
