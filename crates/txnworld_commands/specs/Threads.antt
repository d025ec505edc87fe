-- What a run of workers does and prints.
use Rattle.std.specs.Prelude.{ℕ, ◌+◌, ◌*◌, List, [], ◌∷◌, ◌++◌, Bool, true, false, ◌&&◌, None, Result, Ok, Err, is_ok, codes, count_by, decimal}
use Rattle.txn_script_lines.specs.declared.record.Record.{Record}
use Rattle.txn_history.specs.declared.event.PlainCall.TheVariants as calls
use Rattle.txn_history.specs.declared.event.Call.TheVariants as any
use Rattle.txn_world_threads.specs.declared.jobs.Job.{Job}
use Rattle.txn_world_threads.specs.declared.jobs.Job.TheVariants as jobs
use Rattle.txn_world_threads.specs.declared.jobs.End.{End}
use Rattle.txn_world_threads.specs.declared.jobs.End.TheVariants as ends
use Rattle.txn_history.specs.Trace.{Row}
use Rattle.txn_history.specs.declared.trace.RowOf.TheVariants.{Effect, Begun, Answered}
use Rattle.txn_client_journals.specs.declared.fault.AuditFault.{AuditFault}
use Rattle.txn_client_journals.specs.Verdict.{fault_number}
use Rattle.txnworld_commands.specs.declared.threads.Tally.{Tally}
use Rattle.txnworld_commands.specs.declared.threads.Report.{Report}
use Rattle.txnworld_commands.specs.declared.halt.Halt.{Halt}
use Rattle.txnworld_commands.specs.declared.halt.Halt.TheVariants as halts
use Rattle.txn_script_lines.specs.Printed.{stop_text}

-- the k-th value of a worker, counted from 1
abbrev pub value_of : ℕ → ℕ → Record
value_of worker k = record { epoch = 0; payload = worker * 100 + k }

-- a worker's jobs: the first version, and then four writes on what it reads
abbrev pub job_list : ℕ → List (Job Record)
job_list worker =
    jobs.Call (any.Plain (calls.Write None (value_of worker 1))) ∷ jobs.WriteOnRead (value_of worker 2) ∷ jobs.WriteOnRead (value_of worker 3)
    ∷ jobs.WriteOnRead (value_of worker 4) ∷ jobs.WriteOnRead (value_of worker 5) ∷ []

abbrev pub verdict : Bool → List ℕ
verdict true = codes "agree"
verdict false = codes "differ"

-- a name and its number on a line of their own, and what follows
abbrev pub number_line : List ℕ → ℕ → List ℕ → List ℕ
number_line name number rest = name ++ (decimal number ++ 10 ∷ rest)

-- the lines of a run, the last without its line feed
abbrev pub tally_text : Tally → List ℕ
tally_text tally =
    number_line (codes "workers ") tally.workers (number_line (codes "calls ") tally.calls (number_line (codes "answers ") tally.answers
    (number_line (codes "history ") tally.history (codes "counts " ++ verdict tally.agree))))

-- what a line says of an audit
abbrev pub audit_text : Result (Unit {0}) AuditFault → List ℕ
audit_text (Ok agrees) = codes "ok"
audit_text (Err fault) = codes "fault " ++ decimal (fault_number fault)

-- the lines of both passes, the last without its line feed
abbrev pub report_text : Report → List ℕ
report_text report = tally_text report.tally ++ (10 ∷ (codes "audit " ++ audit_text report.audit))

-- the counts and the audit agree
abbrev pub passes : Report → Bool
passes report = report.tally.agree && is_ok report.audit

-- the line of a run that prints nothing else
abbrev pub halt_text : Halt → List ℕ
halt_text (halts.Worker number) = codes "worker " ++ (decimal number ++ codes " stopped")
halt_text (halts.Stop stop) = stop_text stop

-- a worker that left a job undone
abbrev pub is_stopped : End → Bool
is_stopped ends.Done = false
is_stopped ends.GateSpent = true
is_stopped ends.LimitSpent = true
is_stopped (ends.Refused fault) = true

abbrev pub says_begun : Row Record → Bool
says_begun (Begun op call) = true
says_begun (Answered op answer) = false
says_begun (Effect op request) = false

abbrev pub says_answered : Row Record → Bool
says_answered (Begun op call) = false
says_answered (Answered op answer) = true
says_answered (Effect op request) = false

-- how many rows say that a call began, and how many that it was answered
abbrev pub begun_count : List (Row Record) → ℕ
begun_count rows = count_by says_begun rows

abbrev pub answered_count : List (Row Record) → ℕ
answered_count rows = count_by says_answered rows
