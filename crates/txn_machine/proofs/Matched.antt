-- What an operation of the world does, held against what the layer says that it does (a write or a read, or the act of a call
-- without a view) and against the operation of the machine of plain calls that stands for it.
use Rattle.std.proofs.Common.{◌≡◌, ℕ, List, [], Bool, true, false, Option, Some, None, is_some}
use Rattle.txn_store.specs.declared.request.Reply.{Reply}
use Rattle.txn_steps.specs.declared.boundary.caches.Caches.{Caches}
use Rattle.txn_steps.specs.declared.write.WriteOp.{WriteOp}
use Rattle.txn_steps.specs.declared.read.ReadOp.{ReadOp}
use Rattle.txn_history.specs.declared.event.PlainCall.{PlainCall}
use Rattle.txn_history.specs.declared.event.PlainCall.TheVariants as calls
use Rattle.txn_history.specs.declared.event.PlainAnswer.{PlainAnswer}
use Rattle.txn_history.specs.Facts.{base_on}
use Rattle.txn_machine.specs.declared.plain.doing.PlainDoing.{PlainDoing}
use Rattle.txn_machine.specs.declared.plain.doing.PlainDoing.TheVariants as doings
use Rattle.txn_machine.specs.plain.Doing as plain
use Rattle.txn_steps_views.specs.declared.entry.EntryOp.{EntryOp}
use Rattle.txn_steps_views.specs.declared.entry.EntryOp.TheVariants as entries
use Rattle.txn_steps_views.specs.declared.claiming.Claiming.{Claiming}
use Rattle.txn_steps_views.specs.declared.claiming.Claiming.TheVariants as claiming
use Rattle.txn_steps_views.specs.declared.outcome.Outcome.TheVariants as outcomes
use Rattle.txn_steps_views.specs.declared.op.ViewOp.{ViewOp}
use Rattle.txn_steps_views.specs.declared.op.ViewOp.TheVariants as ops
use Rattle.txn_steps_views.specs.declared.view_read.Purpose.{Purpose}
use Rattle.txn_steps_views.specs.declared.view_read.Purpose.TheVariants as purposes
use Rattle.txn_history.specs.declared.event.ViewCall.TheVariants as view_calls
use Rattle.txn_history.specs.declared.event.ViewCall.{ViewCall}
use Rattle.txn_history.specs.declared.event.Call.{Call}
use Rattle.txn_history.specs.declared.event.Answer.{Answer}
use Rattle.txn_history.specs.declared.event.Call.TheVariants as any
use Rattle.txn_history.specs.Calls.{view_used, is_holders}
use Rattle.txn_machine.specs.views.Layer as layer
use Rattle.txn_machine.specs.views.Layer.{Used, Inner, Starts, Writes, Reads, Acts, Goes, Ends, Opens}
use Rattle.txn_machine.specs.views.Parts.{plain_inner, HasEpoch, OrLacking, is_claim_call}
use Rattle.txn_machine.specs.views.Parts as parts
use Rattle.txn_machine.proofs.views.Inside.{inside}
use Rattle.txn_machine.specs.declared.doing.Doing.{Doing}
use Rattle.txn_machine.specs.declared.doing.Doing.TheVariants as does
use Rattle.txn_machine.specs.declared.doing.Ending.{Ending}
use Rattle.txn_machine.specs.declared.doing.Ending.TheVariants as endings
use Rattle.txn_machine.specs.Doing.{Next, ended, caches_after, ReadsBack, FitsWord, IsMadeSo, Turns}
use Rattle.txn_machine.specs.Doing as whole
use Rattle.txn_machine.specs.Machine.{answer_of, change_of, made_by, seen_view}

module _ {T : Type 0} where
  -- the call of the machine of plain calls that a write or a read of a call on a view is
  abbrev pub inner_call : Inner T → PlainCall T
  inner_call (Writes base value epoch) = calls.Write (base_on base) value
  inner_call Reads = calls.Read
  inner_call Starts = calls.Read
  inner_call Acts = calls.Read

  abbrev pub fine_call : Call T → Inner T → PlainCall T
  fine_call (any.Plain call) inner = call
  fine_call (any.View call) inner = inner_call inner

  -- The write of an entry, of this value.
  pub record IsEntryWrite (entry : EntryOp T) (value : T) (fine : PlainDoing T) : Type 0 where
    pub write : WriteOp
    pub entry_is : entry ≡ entries.Writes write value
    pub fine_is : fine ≡ doings.Write write

  -- The write of a claim's attempt, of this value and epoch.
  pub record IsAttempt (attempt : Claiming T) (value : T) (epoch : ℕ) (fine : PlainDoing T) : Type 0 where
    pub write : WriteOp
    pub attempt_is : attempt ≡ claiming.Writes write value epoch
    pub fine_is : fine ≡ doings.Write write

  -- The read of a claim.
  pub record IsClaimRead (attempt : Claiming T) (fine : PlainDoing T) : Type 0 where
    pub read : ReadOp T
    pub attempt_is : attempt ≡ claiming.Reads read
    pub fine_is : fine ≡ doings.Read read

  -- the call writes a value that a view then shows
  abbrev pub enters : Call T → Bool
  enters (any.View (view_calls.Init v)) = true
  enters (any.View (view_calls.Update number v)) = true
  enters (any.View (view_calls.HolderUpdate number v)) = true
  enters call = false

  -- what the call reads the newest version for, where it does no more than that, by the epoch of its holder
  abbrev pub purpose_of : Call T → Option ℕ → Option Purpose
  purpose_of (any.View view_calls.Load) local = Some purposes.Load
  purpose_of (any.View (view_calls.Refresh number)) local = Some purposes.Refresh
  purpose_of (any.View (view_calls.HolderRefresh number)) (Some own) = Some (purposes.HolderRefresh own)
  purpose_of call local = None

  -- the epoch that the call asks for, where it is a claim
  abbrev pub asked_of : Call T → Option (Option ℕ)
  asked_of (any.View (view_calls.Claim number)) = Some None
  asked_of (any.View (view_calls.ClaimAt number at)) = Some (Some at)
  asked_of call = None

  -- a call on a view, by what the layer says that it does now, and by the epoch of its holder
  abbrev pub ViewMatched : Call T → Option ℕ → Inner T → ViewOp T → PlainDoing T → Type 0
  ViewMatched call local (Writes base value epoch) (ops.Enters op) fine = (enters call ≡ true) × IsEntryWrite op value fine
  ViewMatched call local Reads (ops.Reads op) fine = (purpose_of call local ≡ Some op.purpose) × (fine ≡ doings.Read op.read)
  ViewMatched call local (Writes base value epoch) (ops.Claims op) fine = (asked_of call ≡ Some op.asked) × IsAttempt op.claiming value epoch fine
  ViewMatched call local Reads (ops.Claims op) fine = (asked_of call ≡ Some op.asked) × IsClaimRead op.claiming fine
  ViewMatched call local inner op fine = ⊥

module _ {T : Type 0} (get_epoch : T → ℕ) where
  -- what it does, and the operation of plain calls that stands for it
  abbrev pub Matched : Call T → Option ℕ → Inner T → Doing T → PlainDoing T → Type 0
  Matched (any.Plain call) local inner (does.Plain doing) fine = (inner ≡ plain_inner get_epoch call) × (fine ≡ doing)
  Matched (any.Plain call) local inner (does.View op) fine = ⊥
  Matched (any.View call) local inner (does.Plain doing) fine = ⊥
  Matched (any.View call) local inner (does.View op) fine = ViewMatched (any.View call) local inner op fine

module _ {T : Type 0} where
  -- It ends, with the answer and the change of its view that the layer says.
  pub record EndsAs (call : Call T) (answer : Answer T) (change : layer.Change T) (next : Next T) : Type 0 where
    pub ending : Ending T
    pub ends : next ≡ (ended, Some ending)
    pub answers : (count : ℕ) → answer_of count (view_used call) ending ≡ answer
    pub changes : change_of (is_claim_call call) ending ≡ change
    -- a call without a view makes none
    pub quiet : view_used call ≡ None → (client : ℕ) → made_by client ending ≡ []

module _ {T : Type 0} (page : ℕ) (encode : T → List ℕ) (decode : List ℕ → Option T) (get_epoch : T → ℕ) where
  -- The next write or read begins as an operation of plain calls does, which is not refused at once and may begin.
  pub record GoesAs (call : Call T) (local : Option ℕ) (inner : Inner T) (next : Next T) : Type 0 where
    pub doing : Doing T
    pub goes : next ≡ (doing, None)
    pub fine : PlainDoing T
    pub begins : plain.started page encode (fine_call call inner) ≡ (fine, None)
    pub matched : Matched get_epoch call local inner doing fine
    pub reads_back : plain.ReadsBack encode decode (fine_call call inner)
    pub word : plain.FitsWord (fine_call call inner)

  -- what an operation does next is what the layer says
  abbrev pub NextAs : Call T → Option ℕ → layer.Next T → Next T → Type 0
  NextAs call local (Goes inner) next = GoesAs call local inner next
  NextAs call local (Ends answer change) next = EndsAs call answer change next
  NextAs call local (Opens id value) next = (next ≡ (ended, Some (endings.Comes (outcomes.Viewed id value)))) × (view_used call ≡ None)

-- What is to be proved of turns: the operation of plain calls that stands for it takes the same look or reply, and where
-- that is answered the layer takes the answer.
module _ {T : Type 0} (page : ℕ) (encode : T → List ℕ) (decode : List ℕ → Option T) (get_epoch : T → ℕ) (set_epoch : T → ℕ → T) where
  abbrev pub Answered : Call T → Option ℕ → Inner T → PlainDoing T → Option (PlainAnswer T) → Next T → Type 0
  -- it goes on within its write or its read
  Answered call local inner fine None next = (doing : Doing T) × (next ≡ (doing, None)) × Matched get_epoch call local inner doing fine
  -- a call without a view is answered
  Answered (any.Plain call) local inner fine (Some answer) next = (fine ≡ doings.Ended) × (next ≡ (ended, Some (endings.Answers answer)))
  -- its write or its read is answered
  Answered (any.View call) local inner fine (Some answer) next =
      (due : layer.Next T)
      × (fine ≡ doings.Ended)
      × OrLacking (any.View call) (parts.taken get_epoch set_epoch (any.View call) local inner (inside answer)) due
      × HasEpoch get_epoch due
      × NextAs page encode decode get_epoch (any.View call) local due next

  pub record TurnsAs (call : Call T) (local : Option ℕ) (inner : Inner T) (old : Doing T) (fine : PlainDoing T) (caches : Caches) (reply : Option Reply) (next : Next T) : Type 0 where
    pub refused : Bool
    pub after : plain.Next T
    pub turns : after ≡ plain.turned page decode refused fine caches reply
    pub answered : Answered call local inner after.0 after.1 next
    pub leaves : caches_after old caches next.1 ≡ plain.plain_caches_after fine caches after.1

  -- the lemma: every turn is such a one
  abbrev pub EveryTurn : Type 0
  EveryTurn =
      (call : Call T) (local : Option ℕ) (inner : Inner T) (old : Doing T) (fine : PlainDoing T) (caches : Caches) (reply : Option Reply) (next : Next T) →
      Matched get_epoch call local inner old fine → plain.IsReply fine reply → Turns page encode decode get_epoch set_epoch old caches reply next → TurnsAs call local inner old fine caches reply next

  -- what is to be proved of begins, of a call on a view that has an id above 0: the layer says what it does first
  pub record StartsAs (call : Call T) (used : Option (Used T)) (next : Next T) : Type 0 where
    pub due : layer.Next T
    pub first : due ≡ parts.started get_epoch set_epoch call used
    pub has : HasEpoch get_epoch due
    pub starts : NextAs page encode decode get_epoch call (layer.local_of used) due next

-- a call on a view: its view is there, and is a holder exactly where the call is a holder's
abbrev pub HasView : {T : Type 0} → Call T → Option (Used T) → Type 0
HasView call None = view_used call ≡ None
HasView call (Some used) = (number : ℕ) × (view_used call ≡ Some number) × (is_some used.view.epoch ≡ is_holders call)

module _ {T : Type 0} (page : ℕ) (encode : T → List ℕ) (decode : List ℕ → Option T) (get_epoch : T → ℕ) (set_epoch : T → ℕ → T) where
  -- the lemma: every begin of a call on a view is such a one
  abbrev pub EveryStart : Type 0
  EveryStart =
      (call : ViewCall T) (used : Option (Used T)) (next : Next T) →
      HasView (any.View call) used → next ≡ whole.started page encode get_epoch set_epoch (any.View call) (seen_view used) → IsMadeSo encode decode get_epoch next.0 → StartsAs page encode decode get_epoch set_epoch (any.View call) used next
