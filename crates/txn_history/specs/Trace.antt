-- The rows, events and tellings of all calls, and those of the plain ones alone.
use Rattle.txn_history.specs.declared.event.Answer.{Answer}
use Rattle.txn_history.specs.declared.event.Call.{Call}
use Rattle.txn_history.specs.declared.event.EventOf.{EventOf}
use Rattle.txn_history.specs.declared.event.PlainAnswer.{PlainAnswer}
use Rattle.txn_history.specs.declared.event.PlainCall.{PlainCall}
use Rattle.txn_history.specs.declared.event.ToldOf.{ToldOf}
use Rattle.txn_history.specs.declared.trace.RowOf.{RowOf}

abbrev pub Row : Type 0 → Type 0
Row T = RowOf (Call T) (Answer T)

abbrev pub Event : Type 0 → Type 0
Event T = EventOf (Call T)

abbrev pub Told : Type 0 → Type 0
Told T = ToldOf (Answer T)

abbrev pub PlainRow : Type 0 → Type 0
PlainRow T = RowOf (PlainCall T) (PlainAnswer T)

abbrev pub PlainEvent : Type 0 → Type 0
PlainEvent T = EventOf (PlainCall T)

abbrev pub PlainTold : Type 0 → Type 0
PlainTold T = ToldOf (PlainAnswer T)
