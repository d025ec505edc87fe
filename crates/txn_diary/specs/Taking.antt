-- Operations as they are made: each asks for what its state wants, so that it can take a reply of the kind that it asks for.
use Rattle.std.specs.Prelude.{Option, Some, None}
use Rattle.txn_store.specs.declared.request.Request.{Request}
use Rattle.txn_store.specs.Requests.{HasLimit}
use Rattle.txn_store.specs.declared.request.Reply.{Reply}
use Rattle.txn_client_journals.specs.Logged.{IsOfKind}
use Rattle.txn_steps_driven.specs.DriveSteps.{CanGet, CanCheck, CanAdvance, CanWriteChecked, CanDelete, CanReadSeen, CanRead}
use Rattle.txn_steps_driven.specs.ListRuns.{CanList}
use Rattle.txn_steps_driven.specs.WriteRuns.{CanWrite}
use Rattle.txn_machine.specs.declared.plain.doing.PlainDoing.{PlainDoing}
use Rattle.txn_machine.specs.declared.plain.doing.PlainDoing.TheVariants.{Write, WriteUnchecked, Read, ReadUnchecked, ReadSeen, ListIds, Delete, Check, Advance, Ended}
use Rattle.txn_steps_views.specs.declared.entry.EntryOp.{EntryOp}
use Rattle.txn_steps_views.specs.declared.entry.EntryOp.TheVariants as entries
use Rattle.txn_steps_views.specs.declared.claiming.Claiming.{Claiming}
use Rattle.txn_steps_views.specs.declared.claiming.Claiming.TheVariants as claimings
use Rattle.txn_steps_views.specs.declared.op.ViewOp.{ViewOp}
use Rattle.txn_steps_views.specs.declared.op.ViewOp.TheVariants as views
use Rattle.txn_machine.specs.declared.doing.Doing.{Doing}
use Rattle.txn_machine.specs.declared.doing.Doing.TheVariants as does

module _ {T : Type 0} where
  abbrev pub CanDo : PlainDoing T → Type 0
  CanDo (Write op) = CanWriteChecked op
  CanDo (WriteUnchecked op) = CanWrite op
  CanDo (Read op) = CanRead op
  CanDo (ReadUnchecked op) = CanGet op.request
  CanDo (ReadSeen op) = CanReadSeen op
  CanDo (ListIds op) = CanList op.request
  CanDo (Delete op) = CanDelete op
  CanDo (Check op) = CanCheck op
  CanDo (Advance op) = CanAdvance op
  CanDo Ended = Unit {0}

  abbrev pub CanEnter : EntryOp T → Type 0
  CanEnter (entries.Writes write value) = CanWriteChecked write
  CanEnter entries.Ended = ⊥

  abbrev pub CanClaim : Claiming T → Type 0
  CanClaim (claimings.Writes write value epoch) = CanWriteChecked write
  CanClaim (claimings.Reads read) = CanRead read
  CanClaim claimings.Ended = ⊥

  abbrev pub CanView : ViewOp T → Type 0
  CanView (views.Enters op) = CanEnter op
  CanView (views.Reads op) = CanRead op.read
  CanView (views.Claims op) = CanClaim op.claiming

  abbrev pub CanTake : Doing T → Type 0
  CanTake (does.Plain doing) = CanDo doing
  CanTake (does.View op) = CanView op

-- What is given fits what is asked for: a reply of its kind, and none for a look.
abbrev pub FitsAsk : Option Request → Option Reply → Type 0
FitsAsk None None = Unit {0}
FitsAsk (Some request) (Some reply) = IsOfKind request reply
FitsAsk None (Some reply) = ⊥
FitsAsk (Some request) None = ⊥

-- what is asked for, where it is, can be served
abbrev pub CanServe : Option Request → Type 0
CanServe None = Unit {0}
CanServe (Some request) = HasLimit request
