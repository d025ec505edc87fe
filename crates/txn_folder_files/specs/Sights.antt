-- What two mounts of one folder showed of each other's changes.
use Rattle.std.specs.Prelude.{Bool, true, false, ◌&&◌}
use Rattle.txn_folder_files.specs.declared.sights.Change.{Change}
use Rattle.txn_folder_files.specs.declared.sights.Change.TheVariants as changes
use Rattle.txn_folder_files.specs.declared.sights.Finding.{Finding}
use Rattle.txn_folder_files.specs.declared.sights.Finding.TheVariants as findings
use Rattle.txn_folder_files.specs.declared.sights.Sights.{Sights}
use Rattle.txn_folder_files.specs.declared.sights.Beside.{Beside}

-- a change showed at once, each time
abbrev pub is_seen : Finding → Bool
is_seen findings.AtOnce = true
is_seen _ = false

-- how a change showed
abbrev pub finding_in : Change → Sights → Finding
finding_in changes.Links s = s.links
finding_in changes.Replaces s = s.replaces
finding_in changes.ReplacesOpen s = s.replaces_open
finding_in changes.Lists s = s.lists
finding_in changes.Unlists s = s.unlists
finding_in changes.RemovesOpen s = s.removes_open
finding_in changes.Locks s = s.locks

-- each change showed at once
abbrev pub are_seen : Sights → Bool
are_seen s = is_seen s.links && (is_seen s.replaces && (is_seen s.replaces_open && (is_seen s.lists && (is_seen s.unlists && (is_seen s.removes_open && is_seen s.locks)))))

-- the two are mounts of one folder, each change showed at once, both ways, and nothing was left
abbrev pub serves : Beside → Bool
serves b = is_seen b.one_folder && (are_seen b.other && (are_seen b.first && is_seen b.removes))
