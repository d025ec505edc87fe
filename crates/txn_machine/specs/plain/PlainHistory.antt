-- One history of plain calls: when a row fits the rows before it. What an auditor reads is `OneHistory` of `txn_history`, of all calls; this is what the machine of plain calls keeps, of which that follows.
use Rattle.std.specs.Prelude.{◌≡◌, ℕ, List, ◌+◌, ◌⊎◌, nat_eq, nat_lt, Bool, true, false, Option, Some, None, take, slice_get}
use Rattle.std.specs.List.{list_any}
use Rattle.txn_store.specs.declared.request.Request.{Request}
use Rattle.txn_store.specs.types.Numbers.{number_of}
use Rattle.txn_history.specs.declared.event.PlainCall.{PlainCall}
use Rattle.txn_history.specs.declared.event.PlainCall.TheVariants as calls
use Rattle.txn_history.specs.declared.event.PlainAnswer.{PlainAnswer}
use Rattle.txn_history.specs.declared.event.PlainAnswer.TheVariants as answers
use Rattle.txn_history.specs.declared.trace.RowOf.{RowOf}
use Rattle.txn_history.specs.declared.trace.RowOf.TheVariants.{Effect, Begun, Answered}
use Rattle.txn_history.specs.History.{epoch_at}
use Rattle.txn_history.specs.Calls.{was_answered, IsCall, begun_count, answers_so, plain_base_of, plain_value_written, plain_has_low_boundary, plain_tells_id}
use Rattle.txn_history.specs.Facts.{base_on, is_high, PlainSucceeds, PlainRefuses, FailureFits}
use Rattle.txn_history.specs.Trace.{PlainRow}
use Rattle.txn_history.specs.Effects as effects

module _ {T : Type 0} where
  -- a row is an answer that tells an id that passes the test
  abbrev pub tells : (ℕ → Bool) → PlainRow T → Bool
  tells test = answers_so (plain_tells_id test)

  -- a base is none, or an id that some call answered
  abbrev pub is_known_base : List (PlainRow T) → Option ℕ → Bool
  is_known_base rows None = true
  is_known_base rows (Some n) = list_any (tells (nat_eq n)) rows

  -- a plain call, as one of the calls, which here are the plain ones alone
  abbrev pub alone : PlainCall T → PlainCall T
  alone call = call

  -- a boundary to advance to is 0, or below an id that some call answered
  abbrev pub has_low_boundary : List (PlainRow T) → PlainCall T → Bool
  has_low_boundary rows = plain_has_low_boundary (λ to. list_any (tells (nat_lt to)) rows)

module _ {T : Type 0} (decode : List ℕ → Option T) (get_epoch : T → ℕ) where
  -- the value that a call writes has an epoch of at least that of its base's entry
  abbrev pub keeps_epoch : List (PlainRow T) → PlainCall T → Bool
  keeps_epoch rows call = is_high get_epoch (epoch_at decode get_epoch rows (number_of (plain_base_of call))) (plain_value_written call)

  -- An operation has the next number, a base that is known, a boundary that is low enough, and a value that keeps the epoch.
  pub record PlainOpens (before : List (PlainRow T)) (op : ℕ) (call : PlainCall T) : Type 0 where
    pub next : op ≡ begun_count before + 1
    pub known : is_known_base before (plain_base_of call) ≡ true
    pub low : has_low_boundary before call ≡ true
    pub keeps : keeps_epoch before call ≡ true

  -- the call writes this entry directly on entry n
  abbrev pub WritesOn : List (PlainRow T) → ℕ → PlainCall T → ℕ → T → Type 0
  WritesOn before op (calls.Write base value) n entry = (base ≡ base_on n) × (entry ≡ value)
  WritesOn before op (calls.WriteUnchecked base value) n entry = (base ≡ base_on n) × (entry ≡ value)
  WritesOn before op _ n entry = ⊥

  -- a plain call may append whatever it writes
  abbrev pub MayAppend : List (PlainRow T) → PlainCall T → Type 0
  MayAppend before call = Unit {0}

  abbrev pub Appends : List (PlainRow T) → ℕ → ℕ → List ℕ → Type 0
  Appends = effects.Appends decode get_epoch WritesOn MayAppend

  abbrev pub Recreates : List (PlainRow T) → ℕ → ℕ → List ℕ → Type 0
  Recreates = effects.Recreates decode get_epoch WritesOn MayAppend

  -- an effect is a legal move of its call, or a re-creation
  abbrev pub IsLegal : List (PlainRow T) → ℕ → Request → Type 0
  IsLegal = effects.IsLegal alone decode get_epoch WritesOn MayAppend

module _ {C A T : Type 0} (decode : List ℕ → Option T) (get_epoch : T → ℕ) (failed : List ℕ) where
  -- the answer fits the call
  abbrev pub AnswerFits : List (RowOf C A) → ℕ → PlainCall T → PlainAnswer T → Type 0
  AnswerFits before op call (answers.Refused number) = PlainRefuses decode before op call number ⊎ FailureFits failed op number
  AnswerFits before op call answer = PlainSucceeds decode before op call answer

module _ {T : Type 0} (decode : List ℕ → Option T) (get_epoch : T → ℕ) (failed : List ℕ) where
  -- The one answer of a call that began, and it fits.
  pub record Answers (before : List (PlainRow T)) (op : ℕ) (answer : PlainAnswer T) : Type 0 where
    pub call : PlainCall T
    pub called : IsCall before op call
    pub once : was_answered before op ≡ false
    pub fits : AnswerFits decode get_epoch failed before op call answer

  -- a row fits the rows before it
  abbrev pub Fits : List (PlainRow T) → PlainRow T → Type 0
  Fits before (Effect op request) = IsLegal decode get_epoch before op request
  Fits before (Begun op call) = PlainOpens decode get_epoch before op call
  Fits before (Answered op answer) = Answers before op answer

  -- each row fits the rows before it
  abbrev pub IsOneHistory : List (PlainRow T) → Type 0
  IsOneHistory rows = (k : ℕ) (row : PlainRow T) → slice_get rows k ≡ Some row → Fits (take k rows) row
