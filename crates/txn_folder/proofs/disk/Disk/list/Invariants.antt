use Rattle.std.proofs.Common.{◌≡◌, IfSome}
use Rattle.txn_folder_files.specs.Names.{IsHeld}
use Rattle.txn_folder_files.specs.declared.lock.Sharing.TheVariants.{WithOthers}
use Rattle.txn_folder.specs.steps.Listing.{ListSees, list_turned}
use Rattle.txn_folder.specs.steps.Paging.{paging_as}
use Rattle.txn_folder.specs.steps.Runs.{ComesTo}
use Rattle.txn_folder.specs.steps.Steps.{Is}
use Rattle.txn_folder.specs.Places.{versions_lock}
use Rattle.txn_folder.specs.Listings.{WasSeen, newest_id}
use Rattle.txn_folder.proofs.ListLemmas.{IsPart}
use Rattle.txn_folder.proofs.disk.Disk.list.Given as goal

-- the machine is in this state, with what it has told so far
abbrev pub invariant-loop : goal.invariant-loop
invariant-loop g l = record {
  run : ComesTo (list_turned l.names l.after l.limit) ListSees (Is (paging_as l.step));
  part : IsPart l.names l.after l.limit (paging_as l.step) (newest_id l.hands.newest);
  lock : IfSome l.hands.lock (IsHeld (versions_lock l.self.folder) WithOthers);
  seen : WasSeen l.self.folder l.hands.newest;
  lasting : l.self.lasting ≡ l.fn.self.lasting;
  numbers : l.self.numbers.last ≡ l.fn.self.numbers.last;
  syncs : l.self.syncs ≡ l.fn.self.syncs;
  folder : l.self.folder ≡ l.fn.self.folder;
}
