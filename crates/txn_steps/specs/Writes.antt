-- The steps of writes: a create, a look that caches what was created, and for a checked write the check of its id.
use Rattle.std.specs.Prelude.{ℕ, ◌+◌, List, Option, Some, None, Result, Ok, Err}
use Rattle.txn_store.specs.Paths.{Segments}
use Rattle.txn_store.specs.VersionName.{Names, version_path}
use Rattle.txn_store.specs.declared.store.PutMode.TheVariants.{Create}
use Rattle.txn_store.specs.declared.store.StoreError.{StoreError}
use Rattle.txn_store.specs.declared.store.StoreError.TheVariants as errors
use Rattle.txn_store.specs.declared.request.Request.{Request}
use Rattle.txn_store.specs.declared.request.Request.TheVariants as requests
use Rattle.txn_store.specs.declared.request.Reply.{Reply}
use Rattle.txn_store.specs.declared.request.Reply.TheVariants as replies
use Rattle.txn_store.specs.types.Errors.{store_error_number}
use Rattle.txn_steps.specs.declared.boundary.caches.Cached.{Cached}
use Rattle.txn_steps.specs.declared.boundary.caches.Caches.{Caches}
use Rattle.txn_steps.specs.declared.boundary.check.CheckOp.{CheckOp}
use Rattle.txn_steps.specs.declared.boundary.turned.Turned.{Turned}
use Rattle.txn_steps.specs.declared.boundary.turned.Turned.TheVariants.{Goes, Done}
use Rattle.txn_store.specs.types.Numbers.{number_of}
use Rattle.txn_steps.specs.boundary.Asking.{IsLook, IsPut}
use Rattle.txn_steps.specs.boundary.Windows.{kept}
use Rattle.txn_steps.specs.boundary.Checks.{check_started, check_asked, check_turned, check_caches, IsCheckReply}
use Rattle.txn_steps.specs.declared.write.WriteUncheckedOp.{WriteUncheckedOp}
use Rattle.txn_steps.specs.declared.write.WriteUncheckedOp.TheVariants.{Puts, Keeps, Ended}
use Rattle.txn_steps.specs.declared.write.WriteStep.{WriteStep}
use Rattle.txn_steps.specs.declared.write.WriteStep.TheVariants.{Writes, Checks}
use Rattle.txn_steps.specs.declared.write.WriteOp.{WriteOp}

-- it asks for the create of the version after its base
abbrev pub unchecked_started : Names → Option ℕ → List ℕ → WriteUncheckedOp
unchecked_started names base bytes = Puts (record { id = number_of base + 1; bytes = bytes }) (requests.Put (version_path names (number_of base + 1)) bytes Create)

-- what it asks
abbrev pub unchecked_asked : WriteUncheckedOp → Option Request
unchecked_asked (Puts version request) = Some request
unchecked_asked (Keeps version) = None
unchecked_asked Ended = None

-- a reply of the kind that it asks for, where it has not ended
abbrev pub IsUncheckedReply : WriteUncheckedOp → Option Reply → Type 0
IsUncheckedReply (Puts version request) reply = IsPut reply
IsUncheckedReply (Keeps version) reply = IsLook reply
IsUncheckedReply Ended reply = ⊥

abbrev pub IsPutting : WriteUncheckedOp → Type 0
IsPutting (Puts version request) = Unit {0}
IsPutting (Keeps version) = ⊥
IsPutting Ended = ⊥

abbrev pub IsKeeping : WriteUncheckedOp → Type 0
IsKeeping (Puts version request) = ⊥
IsKeeping (Keeps version) = Unit {0}
IsKeeping Ended = ⊥

-- its version is created, and is to be cached
abbrev pub created : WriteUncheckedOp → WriteUncheckedOp
created (Puts version request) = Keeps version
created (Keeps version) = Keeps version
created Ended = Ended

-- after its put: a version that stands already is a conflict
abbrev pub put_answered : WriteUncheckedOp → Result ℕ StoreError → WriteUncheckedOp × Turned (Result ℕ ℕ)
put_answered op (Ok token) = (created op, Goes)
put_answered op (Err errors.AlreadyExists) = (op, Done (Err 5))
put_answered op (Err error) = (op, Done (Err (store_error_number error)))

-- after its look
abbrev pub unchecked_kept : WriteUncheckedOp → WriteUncheckedOp × Turned (Result ℕ ℕ)
unchecked_kept (Keeps version) = (Ended, Done (Ok version.id))
unchecked_kept (Puts version request) = (Puts version request, Goes)
unchecked_kept Ended = (Ended, Goes)

-- what it makes of a look or a reply
abbrev pub unchecked_turned : WriteUncheckedOp → Option Reply → WriteUncheckedOp × Turned (Result ℕ ℕ)
unchecked_turned op (Some (replies.Put answer)) = put_answered op answer
unchecked_turned op (Some reply) = (op, Goes)
unchecked_turned op None = unchecked_kept op

-- what it leaves of the cached versions
abbrev pub unchecked_latest : WriteUncheckedOp → List Cached → List Cached
unchecked_latest (Puts version request) latest = latest
unchecked_latest (Keeps version) latest = kept version latest
unchecked_latest Ended latest = latest

-- the check of its id is made beside the create
abbrev pub write_started : Names → Segments → Option ℕ → List ℕ → WriteOp
write_started names boundary base bytes = record {
  id = number_of base + 1;
  step = Writes;
  write = unchecked_started names base bytes;
  check = check_started boundary (number_of base + 1);
}

abbrev pub write_asked_at : WriteStep → WriteOp → Option Request
write_asked_at Writes op = unchecked_asked op.write
write_asked_at Checks op = check_asked op.check

-- what it asks
abbrev pub write_asked : WriteOp → Option Request
write_asked op = write_asked_at op.step op

abbrev pub IsWriteReplyAt : WriteStep → WriteOp → Option Reply → Type 0
IsWriteReplyAt Writes op reply = IsUncheckedReply op.write reply
IsWriteReplyAt Checks op reply = IsCheckReply op.check reply

-- a reply of the kind that it asks for, where it has not ended
abbrev pub IsWriteReply : WriteOp → Option Reply → Type 0
IsWriteReply op reply = IsWriteReplyAt op.step op reply

abbrev pub at_write : WriteOp → WriteStep → WriteUncheckedOp → WriteOp
at_write op step write = record { id = op.id; step = step; write = write; check = op.check }

abbrev pub at_check : WriteOp → CheckOp → WriteOp
at_check op check = record { id = op.id; step = op.step; write = op.write; check = check }

-- what is created and cached is checked
abbrev pub written_turned : WriteOp → WriteUncheckedOp × Turned (Result ℕ ℕ) → WriteOp × Turned (Result ℕ ℕ)
written_turned op (write, Goes) = (at_write op op.step write, Goes)
written_turned op (write, Done (Ok id)) = (at_write op Checks write, Goes)
written_turned op (write, Done (Err number)) = (at_write op op.step write, Done (Err number))

-- the id is answered where the check accepts it
abbrev pub checked_turned : WriteOp → CheckOp × Turned (Result (Unit {0}) ℕ) → WriteOp × Turned (Result ℕ ℕ)
checked_turned op (check, Goes) = (at_check op check, Goes)
checked_turned op (check, Done (Ok accepted)) = (at_check op check, Done (Ok op.id))
checked_turned op (check, Done (Err number)) = (at_check op check, Done (Err number))

abbrev pub write_turned_at : WriteStep → WriteOp → Caches → Option Reply → WriteOp × Turned (Result ℕ ℕ)
write_turned_at Writes op caches reply = written_turned op (unchecked_turned op.write reply)
write_turned_at Checks op caches reply = checked_turned op (check_turned op.check caches reply)

-- what it makes of a look or a reply
abbrev pub write_turned : WriteOp → Caches → Option Reply → WriteOp × Turned (Result ℕ ℕ)
write_turned op caches reply = write_turned_at op.step op caches reply

abbrev pub write_caches_at : WriteStep → WriteOp → Caches → Caches
write_caches_at Writes op caches = record { latest = unchecked_latest op.write caches.latest; boundary = caches.boundary }
write_caches_at Checks op caches = check_caches op.check caches

-- what it leaves of the caches
abbrev pub write_caches : WriteOp → Caches → Caches
write_caches op caches = write_caches_at op.step op caches
