-- The steps of any call on a view.
use Rattle.std.specs.Prelude.{◌≡◌, ℕ, List, Bool, Option, Some, Result}
use Rattle.txn_store.specs.Paths.{Segments}
use Rattle.txn_store.specs.VersionName.{Names}
use Rattle.txn_store.specs.declared.request.Request.{Request}
use Rattle.txn_store.specs.declared.request.Reply.{Reply}
use Rattle.txn_steps.specs.declared.boundary.caches.Caches.{Caches}
use Rattle.txn_steps.specs.declared.boundary.turned.Turned.{Turned}
use Rattle.txn_steps.specs.boundary.Asking.{unless_lacking}
use Rattle.txn_steps.specs.Reads.{read_caches_after}
use Rattle.txn_steps_views.specs.declared.outcome.Outcome.{Outcome}
use Rattle.txn_steps_views.specs.declared.entry.EntryOp.{EntryOp}
use Rattle.txn_steps_views.specs.declared.entry.EntryOp.TheVariants.{Writes, Ended}
use Rattle.txn_steps_views.specs.declared.op.ViewOp.{ViewOp}
use Rattle.txn_steps_views.specs.declared.op.ViewOp.TheVariants.{Enters, Reads, Claims}
use Rattle.txn_steps_views.specs.Readings.{said}
use Rattle.txn_steps_views.specs.Attempts.{claiming_asked, claiming_caches_after, IsClaimingReply, IsClaimingInRange, IsRefreshing, IsMade}
use Rattle.txn_steps_views.specs.Shortages.{LacksAsWrite}
use Rattle.txn_steps_views.specs.Claims.{claim_ended, claim_turned}
use Rattle.txn_steps_views.specs.Entries.{entry_asked, entry_turned, entry_caches, IsEntryReply}
use Rattle.txn_steps_views.specs.ViewReads.{view_read_asked, view_read_ended, view_read_turned, IsViewReadReply, IsViewReadInRange}

-- what a call does next and says, as that of any call
abbrev pub held : {A B S : Type 0} → (A → B) → A × S → B × S
held whole next = (whole next.0, next.1)

module _ {T : Type 0} where
  -- what it asks
  abbrev pub view_asked : ViewOp T → Option Request
  view_asked (Enters op) = entry_asked op
  view_asked (Reads op) = view_read_asked op
  view_asked (Claims op) = claiming_asked op.claiming

  -- a reply of the kind that it asks for, where it has not ended
  abbrev pub IsViewReply : ViewOp T → Option Reply → Type 0
  IsViewReply (Enters op) reply = IsEntryReply op reply
  IsViewReply (Reads op) reply = IsViewReadReply op reply
  IsViewReply (Claims op) reply = IsClaimingReply op.claiming reply

  -- the read inside, where it has one, has found at most four successors
  abbrev pub IsViewInRange : ViewOp T → Type 0
  IsViewInRange (Enters op) = Unit {0}
  IsViewInRange (Reads op) = IsViewReadInRange op
  IsViewInRange (Claims op) = IsClaimingInRange op.claiming

  -- what it leaves of the caches, by what it says
  abbrev pub view_caches_after : ViewOp T → Caches → Turned (Result (Outcome T) ℕ) → Caches
  view_caches_after (Enters op) caches told = entry_caches op caches
  view_caches_after (Reads op) caches told = read_caches_after op.read caches (said told)
  view_caches_after (Claims op) caches told = claiming_caches_after op.claiming caches told

  -- memory lacks in a claim's attempt only where its write was overtaken, or lacked it
  abbrev pub MayLack : ViewOp T → Caches → Option Reply → Bool → Type 0
  MayLack (Enters op) caches reply lacks = Unit {0}
  MayLack (Reads op) caches reply lacks = Unit {0}
  MayLack (Claims op) caches reply lacks = LacksAsWrite op.claiming caches reply lacks

  -- a claim that reads
  abbrev pub IsClaimReading : ViewOp T → Type 0
  IsClaimReading (Enters op) = ⊥
  IsClaimReading (Reads op) = ⊥
  IsClaimReading (Claims op) = IsRefreshing op.claiming

module _ {T : Type 0} (encode : T → List ℕ) (decode : List ℕ → Option T) where
  -- the codec reads back what is to be written
  abbrev pub EntryReads : EntryOp T → Type 0
  EntryReads (Writes write value) = decode (encode value) ≡ Some value
  EntryReads Ended = Unit {0}

module _ {T : Type 0} (encode : T → List ℕ) (decode : List ℕ → Option T) (epoch_of : T → ℕ) where
  -- what is to be written is read back, and that of a claim has the epoch that was set
  abbrev pub IsViewMade : ViewOp T → Type 0
  IsViewMade (Enters op) = EntryReads encode decode op
  IsViewMade (Reads op) = Unit {0}
  IsViewMade (Claims op) = IsMade encode decode epoch_of op.claiming

module _ {T : Type 0} (names : Names) (path : Segments) (page : ℕ) (encode : T → List ℕ) (decode : List ℕ → Option T) (epoch_of : T → ℕ) (with_epoch : T → ℕ → T) where
  -- What it makes of a look or a reply, where a growth may have been refused. One that only writes asks for none here.
  abbrev pub view_turned : Bool → ViewOp T → Caches → Option Reply → ViewOp T × Turned (Result (Outcome T) ℕ)
  view_turned lacking (Enters op) caches reply = held Enters (entry_turned op caches reply)
  view_turned lacking (Reads op) caches reply = held Reads (unless_lacking lacking (view_read_ended op) (view_read_turned names path page decode epoch_of op caches reply))
  view_turned lacking (Claims op) caches reply = held Claims (unless_lacking lacking (claim_ended op) (claim_turned names path page encode decode epoch_of with_epoch op caches reply))
