-- What an operation of any call does: how the call starts, what it asks for, what it makes of a look or a reply, what it
-- leaves of its client's caches, and how it ends.
use Rattle.std.specs.Prelude.{◌≡◌, ℕ, List, Bool, Option, Some, None, Result, Ok, Err}
use Rattle.txn_store.specs.declared.request.Reply.{Reply}
use Rattle.txn_steps.specs.declared.boundary.caches.Caches.{Caches}
use Rattle.txn_steps.specs.declared.boundary.turned.Turned.{Turned}
use Rattle.txn_steps.specs.declared.boundary.turned.Turned.TheVariants as turns
use Rattle.txn_history.specs.declared.event.PlainAnswer.{PlainAnswer}
use Rattle.txn_history.specs.declared.event.PlainAnswer.TheVariants as plain_answers
use Rattle.txn_history.specs.Names.{world_names, world_boundary}
use Rattle.txn_history.specs.Seen.{Ask}
use Rattle.txn_machine.specs.declared.plain.doing.PlainDoing.TheVariants as doings
use Rattle.txn_machine.specs.plain.Doing as plain
use Rattle.txn_machine.specs.plain.Doing.{ask_of}
use Rattle.txn_steps_views.specs.declared.outcome.Outcome.{Outcome}
use Rattle.txn_steps_views.specs.declared.op.ViewOp.{ViewOp}
use Rattle.txn_steps_views.specs.declared.op.ViewOp.TheVariants as ops
use Rattle.txn_steps_views.specs.declared.view_read.Purpose.{Purpose}
use Rattle.txn_steps_views.specs.declared.view_read.Purpose.TheVariants as purposes
use Rattle.txn_steps_views.specs.ViewOps as views
use Rattle.txn_steps_views.specs.ViewOps.{view_asked, view_turned, view_caches_after, IsViewReply, IsViewInRange, IsViewMade}
use Rattle.txn_steps_views.specs.Entries.{entry_started, holder_entry_started}
use Rattle.txn_steps_views.specs.ViewReads.{view_read_started}
use Rattle.txn_steps_views.specs.Claims.{claim_started}
use Rattle.txn_history.specs.declared.event.ViewCall.TheVariants as view_calls
use Rattle.txn_history.specs.declared.event.Call.{Call}
use Rattle.txn_history.specs.declared.event.Call.TheVariants as any
use Rattle.txn_history.specs.Views.{View}
use Rattle.txn_machine.specs.declared.doing.Doing.{Doing}
use Rattle.txn_machine.specs.declared.doing.Doing.TheVariants as does
use Rattle.txn_machine.specs.declared.doing.Ending.{Ending}
use Rattle.txn_machine.specs.declared.doing.Ending.TheVariants as endings

-- what an operation does next, and how it ends where it does
abbrev pub Next : Type 0 → Type 0
Next T = Doing T × Option (Ending T)

module _ {T : Type 0} where
  -- an operation that was answered, or given up
  abbrev pub ended : Doing T
  ended = does.Plain doings.Ended

  -- it ends with the refusal of this number
  abbrev pub refused : ℕ → Next T
  refused number = (ended, Some (endings.Answers (plain_answers.Refused number)))

  -- what it asks for: nothing where it has ended
  abbrev pub asked : Doing T → Option Ask
  asked (does.Plain doing) = plain.asked doing
  asked (does.View op) = Some (ask_of (view_asked op))

  -- the reply is of the kind that it asks for, none for a look
  abbrev pub IsReply : Doing T → Option Reply → Type 0
  IsReply (does.Plain doing) reply = plain.IsReply doing reply
  IsReply (does.View op) reply = IsViewReply op reply

  -- a read has found at most four successors
  abbrev pub InRange : Doing T → Type 0
  InRange (does.Plain doing) = plain.InRange doing
  InRange (does.View op) = IsViewInRange op

  -- a call without a view ends with its answer
  abbrev pub plain_next : plain.Next T → Next T
  plain_next (doing, None) = (does.Plain doing, None)
  plain_next (doing, Some answer) = (does.Plain doing, Some (endings.Answers answer))

  -- a call on a view ends with what becomes of the view, or with a refusal
  abbrev pub next_of : Doing T → Turned (Result (Outcome T) ℕ) → Next T
  next_of doing turns.Goes = (doing, None)
  next_of doing (turns.Done (Ok outcome)) = (ended, Some (endings.Comes outcome))
  next_of doing (turns.Done (Err number)) = refused number

  abbrev pub view_next : ViewOp T × Turned (Result (Outcome T) ℕ) → Next T
  view_next next = next_of (does.View next.0) next.1

  -- a call on a view goes on, or is refused at once
  abbrev pub first_next : {O : Type 0} → (O → ViewOp T) → Result O ℕ → Next T
  first_next whole (Ok op) = (does.View (whole op), None)
  first_next whole (Err number) = refused number

  -- the answer of a call without a view
  abbrev pub answer_in : Option (Ending T) → Option (PlainAnswer T)
  answer_in None = None
  answer_in (Some (endings.Answers answer)) = Some answer
  answer_in (Some (endings.Comes outcome)) = None

  -- whether a call on a view goes on: what it leaves of the caches depends on nothing else
  abbrev pub goes_by : Option (Ending T) → Turned (Result (Outcome T) ℕ)
  goes_by None = turns.Goes
  goes_by (Some ending) = turns.Done (Err 9)

  -- what it leaves of its client's caches, by how it ends
  abbrev pub caches_after : Doing T → Caches → Option (Ending T) → Caches
  caches_after (does.Plain doing) caches ending = plain.plain_caches_after doing caches (answer_in ending)
  caches_after (does.View op) caches ending = view_caches_after op caches (goes_by ending)

  -- memory lacks in a claim's attempt only where its write was overtaken, or lacked it
  abbrev pub MayLack : Doing T → Caches → Option Reply → Bool → Type 0
  MayLack (does.Plain doing) caches reply lacks = Unit {0}
  MayLack (does.View op) caches reply lacks = views.MayLack op caches reply lacks

  -- a claim that reads
  abbrev pub IsClaimReading : Doing T → Type 0
  IsClaimReading (does.Plain doing) = ⊥
  IsClaimReading (does.View op) = views.IsClaimReading op

  -- the refusal of this number, where there is one
  abbrev pub refusal_in : Option ℕ → Option (Ending T)
  refusal_in None = None
  refusal_in (Some number) = Some (endings.Answers (plain_answers.Refused number))

module _ {T : Type 0} (encode : T → List ℕ) (decode : List ℕ → Option T) where
  -- the codec reads back what the call writes
  abbrev pub ReadsBack : Call T → Type 0
  ReadsBack (any.Plain call) = plain.ReadsBack encode decode call
  ReadsBack (any.View call) = Unit {0}

module _ {T : Type 0} where
  -- an id that the call reads is a number of 64 bits, as its type says
  abbrev pub FitsWord : Call T → Type 0
  FitsWord (any.Plain call) = plain.FitsWord call
  FitsWord (any.View call) = Unit {0}

module _ {T : Type 0} (encode : T → List ℕ) (decode : List ℕ → Option T) (get_epoch : T → ℕ) where
  -- what is to be written is read back, and that of a claim has the epoch that was set
  abbrev pub IsMadeSo : Doing T → Type 0
  IsMadeSo (does.Plain doing) = Unit {0}
  IsMadeSo (does.View op) = IsViewMade encode decode get_epoch op

module _ {T : Type 0} where
  -- with the epoch of a holder
  abbrev pub with_local : Option ℕ → (ℕ → Next T) → Next T
  with_local None next = refused 7
  with_local (Some local) next = next local

  -- it reads the newest version, for this purpose
  abbrev pub reads_for : Purpose → Next T
  reads_for purpose = (does.View (ops.Reads (view_read_started world_boundary purpose)), None)

module _ {T : Type 0} (page : ℕ) (encode : T → List ℕ) (get_epoch : T → ℕ) (set_epoch : T → ℕ → T) where
  -- how a call starts, by the view that it uses as it stands then
  abbrev pub started : Call T → Option (View T) → Next T
  started (any.Plain call) view = plain_next (plain.started page encode call)
  started (any.View (view_calls.Init value)) view = first_next ops.Enters (entry_started world_names world_boundary encode None value)
  started (any.View view_calls.Load) view = reads_for purposes.Load
  started (any.View (view_calls.Refresh number)) view = reads_for purposes.Refresh
  started (any.View (view_calls.Update number value)) (Some view) = first_next ops.Enters (entry_started world_names world_boundary encode (Some view.id) value)
  started (any.View (view_calls.Claim number)) (Some view) = first_next ops.Claims (claim_started world_names world_boundary encode get_epoch set_epoch None view.id view.object)
  started (any.View (view_calls.ClaimAt number epoch)) (Some view) = first_next ops.Claims (claim_started world_names world_boundary encode get_epoch set_epoch (Some epoch) view.id view.object)
  started (any.View (view_calls.HolderRefresh number)) (Some view) = with_local view.epoch (λ local. reads_for (purposes.HolderRefresh local))
  started (any.View (view_calls.HolderUpdate number value)) (Some view) = with_local view.epoch (λ local. first_next ops.Enters (holder_entry_started world_names world_boundary encode get_epoch local view.id view.object value))
  started (any.View call) None = refused 7

module _ {T : Type 0} (page : ℕ) (encode : T → List ℕ) (decode : List ℕ → Option T) (get_epoch : T → ℕ) (set_epoch : T → ℕ → T) where
  -- what it makes of a look or a reply, where a growth may have been refused
  abbrev pub turned : Bool → Doing T → Caches → Option Reply → Next T
  turned refused (does.Plain doing) caches reply = plain_next (plain.turned page decode refused doing caches reply)
  turned refused (does.View op) caches reply = view_next (view_turned world_names world_boundary page encode decode get_epoch set_epoch refused op caches reply)

  -- It takes a look or a reply so, perhaps with a growth refused.
  pub record Turns (old : Doing T) (caches : Caches) (reply : Option Reply) (next : Next T) : Type 0 where
    pub refused : Bool
    pub turns : next ≡ turned refused old caches reply
    pub may : MayLack old caches reply refused
    -- what a claim writes after a read
    pub made : IsClaimReading old → IsMadeSo encode decode get_epoch next.0
