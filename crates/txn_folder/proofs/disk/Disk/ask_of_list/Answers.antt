use Rattle.txn_folder.proofs.disk.Disk.ask_of_list.Goals as goal

pub returns-in-Look-clause-shown : goal.returns-in-Look-clause-shown
returns-in-Look-clause-shown g c = c.look_up.ensures.shown c.args.after

pub returns-in-Sync-clause-shown : goal.returns-in-Sync-clause-shown
returns-in-Sync-clause-shown g c = c.sync_told.ensures.shown c.args.after
