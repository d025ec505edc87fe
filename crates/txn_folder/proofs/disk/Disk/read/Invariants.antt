use Rattle.std.proofs.Common.{◌≡◌, string_bytes}
use Rattle.txn_folder.specs.steps.Running.{place_as, getting_as, GotIn}
use Rattle.txn_folder.specs.steps.Runs.{ComesTo}
use Rattle.txn_folder.specs.steps.Steps.{get_turned, Is}
use Rattle.txn_folder.specs.steps.Steps as steps
use Rattle.txn_folder.specs.Places.{place_file}
use Rattle.txn_folder.proofs.disk.Disk.read.Given as goal

-- the machine is in this state, with these bytes
abbrev pub invariant-loop : goal.invariant-loop
invariant-loop g l = record {
  run : ComesTo (get_turned (place_as l.place) l.matching) steps.Looks (Is (getting_as 0 l.bytes.items l.step));
  got : GotIn l.place l.matching l.bytes.items l.step;
  file : string_bytes l.hands.file ≡ place_file l.self.folder l.place;
  hands : l.hands.syncs ≡ l.self.syncs;
  numbers : l.self.numbers.last ≡ l.fn.self.numbers.last;
  syncs : l.self.syncs ≡ l.fn.self.syncs;
  folder : l.self.folder ≡ l.fn.self.folder;
}
