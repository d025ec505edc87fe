use Rattle.std.proofs.Common.{◌≡◌, IfSome, string_bytes}
use Rattle.txn_folder_files.specs.Names.{IsHeld}
use Rattle.txn_folder_files.specs.declared.lock.Sharing.TheVariants.{Alone}
use Rattle.txn_folder.specs.steps.Running.{deleting_as}
use Rattle.txn_folder.specs.steps.Runs.{ComesTo}
use Rattle.txn_folder.specs.steps.Steps.{delete_turned, Is}
use Rattle.txn_folder.specs.steps.Steps as steps
use Rattle.txn_folder.specs.Places.{place_file, removal_lock}
use Rattle.txn_folder.proofs.disk.Disk.delete.Given as goal

-- the machine is in this state, under the lock of removals where it has one
abbrev pub invariant-loop : goal.invariant-loop
invariant-loop g l = record {
  run : ComesTo delete_turned steps.Peeks (Is (deleting_as l.step));
  file : string_bytes l.hands.file ≡ place_file l.self.folder l.place;
  lock : IfSome l.hands.lock (IsHeld (removal_lock l.self.folder l.place) Alone);
}
