-- Calls, and what they gave: `made` says that a client made a call, which was answered so, `stopped` why a call has no answer, and `tells` which fault of its store an error tells.
use Rattle.std.specs.Prelude.{◌≡◌, ◌⊎◌, Option, Some, None, Result, Ok, Err}
use Rattle.txn_history.specs.declared.event.Call.{Call}
use Rattle.txn_history.specs.declared.event.Call.TheVariants as calls
use Rattle.txn_history.specs.declared.event.ViewCall.{ViewCall}
use Rattle.txn_history.specs.declared.event.Answer.{Answer}
use Rattle.txn_history.specs.declared.event.Answer.TheVariants as answers
use Rattle.txn_history.specs.declared.event.PlainAnswer.TheVariants as plain
use Rattle.txnobj.specs.declared.clients.stop.Stop.{Stop}
use Rattle.txnobj.specs.declared.answers.Viewed.{Viewed}
use Rattle.txnobj.specs.declared.error.Error.{Error}
use Rattle.txnobj.specs.declared.error.Error.TheVariants as error
use Rattle.txnobj.specs.Answers.{view_in}
use Rattle.txnobj.specs.Errors.{IsRefusal, error_of_stop}

module _ {T F : Type 0} where
  -- the error of an answer that does not give what its call is for
  abbrev pub IsErrorOf : (Option F → Type 0) → Answer T → Error F → Type 0
  IsErrorOf tells (answers.Plain (plain.Refused number)) e = IsRefusal tells number e
  IsErrorOf tells _ e = e ≡ error.InvalidObjectState

module _ {T F P : Type 0} (made : P → Call T → Answer T → P → Type 0) (stopped : P → Call T → Stop → P → Type 0) (tells : P → Option F → Type 0) where
  -- A call was made, and its answer, which gives nothing of what it is for, is told by this error.
  pub record IsRefused {X : Type 0} (gives : Answer T → Option X) (call : Call T) (e : Error F) (old new : P) : Type 0 where
    pub answer : Answer T
    pub answered : made old call answer new
    pub nothing : gives answer ≡ None
    pub error_is : IsErrorOf (tells new) answer e

  -- A call stopped, as this error tells.
  pub record IsStopped (call : Call T) (e : Error F) (old new : P) : Type 0 where
    pub stop : Stop
    pub stops : stopped old call stop new
    pub error_is : e ≡ error_of_stop stop

  -- A call was made, and its answer gives this.
  pub record IsGiven {X : Type 0} (gives : Answer T → Option X) (call : Call T) (given : X) (old new : P) : Type 0 where
    pub answer : Answer T
    pub answered : made old call answer new
    pub gives_it : gives answer ≡ Some given

  -- What came of a call: its answer gives this, or it was refused or stopped, as this error tells.
  abbrev pub Ends : {X : Type 0} → (Answer T → Option X) → Call T → P → Result X (Error F) → P → Type 0
  Ends gives call old (Ok given) new = IsGiven gives call given old new
  Ends gives call old (Err e) new = IsRefused gives call e old new ⊎ IsStopped call e old new

  -- what came of a call that gives a view
  abbrev pub ViewEnds : ViewCall T → P → Result (Viewed T) (Error F) → P → Type 0
  ViewEnds call old result new = Ends view_in (calls.View call) old result new
