-- The steps of deletes: a removal and a look that drops the cached version, and for a checked delete the check before it.
use Rattle.std.specs.Prelude.{ℕ, ◌==◌, List, if◌then◌else◌, Option, Some, None, Result, Ok, Err}
use Rattle.txn_store.specs.Paths.{Segments}
use Rattle.txn_store.specs.VersionName.{Names, version_path}
use Rattle.txn_store.specs.declared.store.StoreError.{StoreError}
use Rattle.txn_store.specs.declared.request.Request.{Request}
use Rattle.txn_store.specs.declared.request.Request.TheVariants as requests
use Rattle.txn_store.specs.declared.request.Reply.{Reply}
use Rattle.txn_store.specs.declared.request.Reply.TheVariants as replies
use Rattle.txn_store.specs.types.Errors.{store_error_number}
use Rattle.txn_steps.specs.declared.boundary.caches.Cached.{Cached}
use Rattle.txn_steps.specs.declared.boundary.caches.Caches.{Caches}
use Rattle.txn_steps.specs.declared.boundary.check.CheckOp.{CheckOp}
use Rattle.txn_steps.specs.declared.boundary.turned.Turned.{Turned}
use Rattle.txn_steps.specs.declared.boundary.turned.Turned.TheVariants.{Goes, Done}
use Rattle.txn_steps.specs.boundary.Asking.{IsLook, IsDeleted}
use Rattle.txn_steps.specs.boundary.Windows.{without}
use Rattle.txn_steps.specs.boundary.Checks.{check_started, check_asked, check_turned, check_caches, IsCheckReply}
use Rattle.txn_steps.specs.declared.delete.RemovalStep.{RemovalStep}
use Rattle.txn_steps.specs.declared.delete.RemovalStep.TheVariants as removal
use Rattle.txn_steps.specs.declared.delete.DeleteUncheckedOp.{DeleteUncheckedOp}
use Rattle.txn_steps.specs.declared.delete.DeleteStep.{DeleteStep}
use Rattle.txn_steps.specs.declared.delete.DeleteStep.TheVariants.{Checks, Removes}
use Rattle.txn_steps.specs.declared.delete.DeleteOp.{DeleteOp}

-- it asks for the removal of the version
abbrev pub removal_started : Names → ℕ → DeleteUncheckedOp
removal_started names id = record { id = id; step = removal.Removes; request = requests.Delete (version_path names id) }

abbrev pub removal_at : DeleteUncheckedOp → RemovalStep → DeleteUncheckedOp
removal_at op step = record { id = op.id; step = step; request = op.request }

abbrev pub removal_asked_at : RemovalStep → DeleteUncheckedOp → Option Request
removal_asked_at removal.Removes op = Some op.request
removal_asked_at removal.Drops op = None

-- what it asks
abbrev pub removal_asked : DeleteUncheckedOp → Option Request
removal_asked op = removal_asked_at op.step op

abbrev pub IsRemovalReplyAt : RemovalStep → Option Reply → Type 0
IsRemovalReplyAt removal.Removes reply = IsDeleted reply
IsRemovalReplyAt removal.Drops reply = IsLook reply

-- a reply of the kind that it asks for
abbrev pub IsRemovalReply : DeleteUncheckedOp → Option Reply → Type 0
IsRemovalReply op reply = IsRemovalReplyAt op.step reply

abbrev pub removed : DeleteUncheckedOp → Result (Unit {0}) StoreError → DeleteUncheckedOp × Turned (Result (Unit {0}) ℕ)
removed op (Ok done) = (removal_at op removal.Drops, Goes)
removed op (Err error) = (op, Done (Err (store_error_number error)))

abbrev pub removal_replied : DeleteUncheckedOp → Option Reply → DeleteUncheckedOp × Turned (Result (Unit {0}) ℕ)
removal_replied op (Some (replies.Delete answer)) = removed op answer
removal_replied op (Some reply) = (op, Goes)
removal_replied op None = (op, Goes)

abbrev pub removal_turned_at : RemovalStep → DeleteUncheckedOp → Option Reply → DeleteUncheckedOp × Turned (Result (Unit {0}) ℕ)
removal_turned_at removal.Removes op reply = removal_replied op reply
removal_turned_at removal.Drops op reply = (op, Done (Ok tt))

-- what it makes of a look or a reply
abbrev pub removal_turned : DeleteUncheckedOp → Option Reply → DeleteUncheckedOp × Turned (Result (Unit {0}) ℕ)
removal_turned op reply = removal_turned_at op.step op reply

abbrev pub removal_latest_at : RemovalStep → ℕ → List Cached → List Cached
removal_latest_at removal.Removes id latest = latest
removal_latest_at removal.Drops id latest = without id latest

-- what it leaves of the cached versions: that of its id alone is dropped
abbrev pub removal_latest : DeleteUncheckedOp → List Cached → List Cached
removal_latest op latest = removal_latest_at op.step op.id latest

abbrev pub delete_started : Names → Segments → ℕ → DeleteOp
delete_started names boundary id = record { step = Checks; check = check_started boundary id; removal = removal_started names id }

-- what is so at its step: where it checks its id, and where it removes the version
abbrev pub by_step : {A : Type 0} → DeleteStep → A → A → A
by_step Checks checks removes = checks
by_step Removes checks removes = removes

abbrev pub delete_asked_at : DeleteStep → DeleteOp → Option Request
delete_asked_at step op = by_step step (check_asked op.check) (removal_asked op.removal)

-- what it asks
abbrev pub delete_asked : DeleteOp → Option Request
delete_asked op = delete_asked_at op.step op

abbrev pub IsDeleteReplyAt : DeleteStep → DeleteOp → Option Reply → Type 0
IsDeleteReplyAt Checks op reply = IsCheckReply op.check reply
IsDeleteReplyAt Removes op reply = IsRemovalReply op.removal reply

-- a reply of the kind that it asks for
abbrev pub IsDeleteReply : DeleteOp → Option Reply → Type 0
IsDeleteReply op reply = IsDeleteReplyAt op.step op reply

abbrev pub at_check : DeleteOp → DeleteStep → CheckOp → DeleteOp
at_check op step check = record { step = step; check = check; removal = op.removal }

abbrev pub at_removal : DeleteOp → DeleteUncheckedOp → DeleteOp
at_removal op removal = record { step = op.step; check = op.check; removal = removal }

-- only an id that the check refuses is removed
abbrev pub checks_turned : DeleteOp → CheckOp × Turned (Result (Unit {0}) ℕ) → DeleteOp × Turned (Result (Unit {0}) ℕ)
checks_turned op (check, Goes) = (at_check op op.step check, Goes)
checks_turned op (check, Done (Ok accepted)) = (at_check op op.step check, Done (Err 7))
checks_turned op (check, Done (Err number)) = if number == 5 then (at_check op Removes check, Goes) else (at_check op op.step check, Done (Err number))

abbrev pub removes_turned : DeleteOp → DeleteUncheckedOp × Turned (Result (Unit {0}) ℕ) → DeleteOp × Turned (Result (Unit {0}) ℕ)
removes_turned op (removal, told) = (at_removal op removal, told)

abbrev pub delete_turned_at : DeleteStep → DeleteOp → Caches → Option Reply → DeleteOp × Turned (Result (Unit {0}) ℕ)
delete_turned_at step op caches reply = by_step step (checks_turned op (check_turned op.check caches reply)) (removes_turned op (removal_turned op.removal reply))

-- what it makes of a look or a reply
abbrev pub delete_turned : DeleteOp → Caches → Option Reply → DeleteOp × Turned (Result (Unit {0}) ℕ)
delete_turned op caches reply = delete_turned_at op.step op caches reply

abbrev pub delete_caches_at : DeleteStep → DeleteOp → Caches → Caches
delete_caches_at step op caches = by_step step (check_caches op.check caches) (record { latest = removal_latest op.removal caches.latest; boundary = caches.boundary })

-- what it leaves of the caches
abbrev pub delete_caches : DeleteOp → Caches → Caches
delete_caches op caches = delete_caches_at op.step op caches
