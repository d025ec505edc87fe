-- What an examination of a folder found.
use Rattle.std.specs.Prelude.{Option, Some, None, is_some, if◌then◌else◌}
use Rattle.txn_folder_files.specs.declared.fault.Fault.{Fault}
use Rattle.txn_folder_files.specs.declared.doctor.Check.{Check}
use Rattle.txn_folder_files.specs.declared.doctor.Check.TheVariants.{Keeps, Links, RefusesTakenNames, Replaces, Locks, Syncs, Removes}
use Rattle.txn_folder_files.specs.declared.doctor.Report.{Report}

-- the fault of a check
abbrev pub fault_in : Check → Report → Option Fault
fault_in Keeps r = r.keeps
fault_in Links r = r.links
fault_in RefusesTakenNames r = r.refuses_taken_names
fault_in Replaces r = r.replaces
fault_in Locks r = r.locks
fault_in Syncs r = r.syncs
fault_in Removes r = r.removes

-- the check, where it failed, else the next that did
abbrev pub first_of : Check → Report → Option Check → Option Check
first_of check r next = if is_some (fault_in check r) then Some check else next

-- the first check that failed
abbrev pub first_failed : Report → Option Check
first_failed r = first_of Keeps r (first_of Links r (first_of RefusesTakenNames r (first_of Replaces r (first_of Locks r (first_of Syncs r (first_of Removes r None))))))
