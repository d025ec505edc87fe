-- A store that others share, and why its last call failed.
use Rattle.std.specs.Prelude.{◌≡◌, Option, Some, None, Result, Ok, Err}
use Rattle.txn_store.specs.declared.store.StoreError.TheVariants as errors
use Rattle.txn_store.specs.declared.request.Request.{Request}
use Rattle.txn_store.specs.declared.request.Request.TheVariants as requests
use Rattle.txn_store.specs.declared.request.Reply.{Reply}
use Rattle.txn_store.specs.declared.request.Reply.TheVariants as replies
use Rattle.txnobj.specs.declared.store.Kept.{Kept}

-- the reply to a request whose call failed
abbrev pub failed_reply : Request → Reply
failed_reply (requests.Put path bytes mode) = replies.Put (Err errors.Failed)
failed_reply (requests.Get path known) = replies.Get (Err errors.Failed)
failed_reply (requests.List prefix after limit) = replies.List (Err errors.Failed)
failed_reply (requests.Delete path) = replies.Delete (Err errors.Failed)

module _ {S F : Type 0} (serves : S → Request → Result Reply F → S → Type 0) where
  -- a store was called once, and failed for this reason, which the reply says, or did not, and replied so
  abbrev pub IsServed : S → Request → Reply → Option F → S → Type 0
  IsServed old request reply None new = serves old request (Ok reply) new
  IsServed old request reply (Some fault) new = serves old request (Err fault) new × (reply ≡ failed_reply request)

  -- the same, and the reason is kept
  abbrev pub KeepsServed : Kept S F → Request → Reply → Kept S F → Type 0
  KeepsServed old request reply new = IsServed old.store request reply new.fault new.store

-- What an error tells of the fault that is kept: a copy of it, or nothing, where none is kept, or the copy may fail for want of memory.
abbrev pub IsToldOf : {F : Type 0} → (F → F → Type 0) → (F → Type 0) → Option F → Option F → Type 0
IsToldOf is_clone is_infallible None told = told ≡ None
IsToldOf is_clone is_infallible (Some fault) None = is_infallible fault → ⊥
IsToldOf is_clone is_infallible (Some fault) (Some copy) = is_clone fault copy
