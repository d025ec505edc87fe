use Rattle.std.proofs.Common.{Ok, Err, ap}
use Rattle.txn_store.specs.declared.store.StoreError.TheVariants as errors
use Rattle.txn_folder.specs.Calls.{created, updated}
use Rattle.txn_folder.proofs.Machines.{create_of, update_of}
use Rattle.txn_folder.proofs.store.FolderStore.put.Goals as goal

pub returns-in-Ok-None-clause-machine : goal.returns-in-Ok-None-clause-machine
returns-in-Ok-None-clause-machine g c =
    create_of c.args.self.now.names c.args.self.now.boundary c.args.self.now.disk.syncs c.args.path.now c.args.bytes.now c.as_slice.result.now c.in-Ok.place c.args.mode.now (created c.in-Ok-None.field-0) (Err errors.AlreadyExists) c.as_slice.ensures c.in-Ok.ensures (ap created c.in-Ok-None.field-0-is) c.in-Create.is c.in-Ok-None.ensures.run

pub returns-in-Ok-Some-update-clause-machine : goal.returns-in-Ok-Some-update-clause-machine
returns-in-Ok-Some-update-clause-machine g c =
    update_of c.args.self.now.names c.args.self.now.boundary c.args.self.now.disk.syncs c.args.path.now c.args.bytes.now c.as_slice-in-Update.result.now c.in-Ok.place c.args.mode.now (updated c.in-Ok-Some-update.field-0) (Ok c.in-Ok-Some-update.token) c.as_slice-in-Update.ensures c.in-Ok.ensures (ap updated c.in-Ok-Some-update.field-0-is) c.in-Update.token c.in-Update.is c.in-Ok-Some-update.ensures.run

pub returns-in-Ok-None-update-clause-machine : goal.returns-in-Ok-None-update-clause-machine
returns-in-Ok-None-update-clause-machine g c =
    update_of c.args.self.now.names c.args.self.now.boundary c.args.self.now.disk.syncs c.args.path.now c.args.bytes.now c.as_slice-in-Update.result.now c.in-Ok.place c.args.mode.now (updated c.in-Ok-None-update.field-0) (Err errors.Precondition) c.as_slice-in-Update.ensures c.in-Ok.ensures (ap updated c.in-Ok-None-update.field-0-is) c.in-Update.token c.in-Update.is c.in-Ok-None-update.ensures.run
