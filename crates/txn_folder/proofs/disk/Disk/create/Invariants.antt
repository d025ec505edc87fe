use Rattle.std.proofs.Common.{◌≡◌, ◌≤◌, string_bytes}
use Rattle.txn_folder.specs.steps.Running.{place_as, creating_as, create_number}
use Rattle.txn_folder.specs.steps.Runs.{ComesTo}
use Rattle.txn_folder.specs.steps.Steps.{create_turned, Is}
use Rattle.txn_folder.specs.Calls.{create_start}
use Rattle.txn_folder.specs.Places.{place_file}
use Rattle.txn_folder.proofs.Machines.{IsLatest}
use Rattle.txn_folder.proofs.disk.Disk.create.Given as goal

-- the machine is in this state, with the latest number
abbrev pub invariant-loop : goal.invariant-loop
invariant-loop g l = record {
  run : ComesTo (create_turned (place_as l.place) l.bytes) (create_start l.fn.self.syncs) (Is (creating_as (place_as l.place) l.bytes l.step));
  number : IsLatest l.fn.self.numbers.last l.self.numbers.last (create_number l.step);
  rises : l.fn.self.numbers.last ≤ l.self.numbers.last;
  file : string_bytes l.hands.file ≡ place_file l.self.folder l.place;
  hands : l.hands.syncs ≡ l.self.syncs;
  syncs : l.self.syncs ≡ l.fn.self.syncs;
  folder : l.self.folder ≡ l.fn.self.folder;
}
