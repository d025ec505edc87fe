use Rattle.std.proofs.Common.{◌≡◌, ◌≤◌, IfSome, string_bytes}
use Rattle.txn_folder_files.specs.Names.{IsHeld}
use Rattle.txn_folder_files.specs.declared.lock.Sharing.TheVariants.{Alone}
use Rattle.txn_folder.specs.declared.steps.place.Place.TheVariants as places
use Rattle.txn_folder.specs.steps.Running.{updating_as, update_number}
use Rattle.txn_folder.specs.steps.Runs.{ComesTo}
use Rattle.txn_folder.specs.steps.Steps.{update_turned, Is}
use Rattle.txn_folder.specs.Places.{place_file, update_lock}
use Rattle.txn_folder.proofs.Machines.{IsLatest}
use Rattle.txn_folder.proofs.disk.Disk.replace.Given as goal

-- the machine is in this state, with the latest number, under the lock of updates where it has one
abbrev pub invariant-loop : goal.invariant-loop
invariant-loop g l = record {
  run : l.place ≡ places.Boundary → ComesTo (update_turned l.bytes l.token) (updating_as 0 l.bytes l.fn.start) (Is (updating_as 0 l.bytes l.step));
  number : IsLatest l.fn.self.numbers.last l.self.numbers.last (update_number l.step);
  rises : l.fn.self.numbers.last ≤ l.self.numbers.last;
  file : string_bytes l.hands.file ≡ place_file l.self.folder l.place;
  lock : IfSome l.hands.lock (IsHeld (update_lock l.self.folder l.place) Alone);
  hands : l.hands.syncs ≡ l.self.syncs;
  syncs : l.self.syncs ≡ l.fn.self.syncs;
  folder : l.self.folder ≡ l.fn.self.folder;
}
