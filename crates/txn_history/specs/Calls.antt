-- The calls of a trace: when each began and ended, which views it uses, what it writes, and which ids were answered.
use Rattle.std.specs.Prelude.{◌≡◌, ℕ, List, [], ◌∷◌, ◌+◌, ◌≤◌, ◌==◌, ◌||◌, nat_eq, nat_lt, Bool, true, false, Option, Some, None, length, take, slice_get, if◌then◌else◌}
use Rattle.std.specs.List.{list_any}
use Rattle.txn_history.specs.declared.event.PlainCall.{PlainCall}
use Rattle.txn_history.specs.declared.event.PlainCall.TheVariants as plain_calls
use Rattle.txn_history.specs.declared.event.PlainAnswer.{PlainAnswer}
use Rattle.txn_history.specs.declared.event.PlainAnswer.TheVariants as plain_answers
use Rattle.txn_history.specs.declared.trace.RowOf.{RowOf}
use Rattle.txn_history.specs.declared.trace.RowOf.TheVariants.{Effect, Begun, Answered}
use Rattle.txn_history.specs.declared.event.ViewCall.TheVariants as view_calls
use Rattle.txn_history.specs.declared.event.Call.{Call}
use Rattle.txn_history.specs.declared.event.Call.TheVariants as calls
use Rattle.txn_history.specs.declared.event.Answer.{Answer}
use Rattle.txn_history.specs.declared.event.Answer.TheVariants as answers
use Rattle.txn_history.specs.Trace.{Row}

module _ {C A : Type 0} where
  -- a row is the begin of the operation
  abbrev pub begins : ℕ → RowOf C A → Bool
  begins op (Begun o call) = o == op
  begins op (Effect o request) = false
  begins op (Answered o answer) = false

  -- the operation began
  abbrev pub was_begun : List (RowOf C A) → ℕ → Bool
  was_begun rows op = list_any (begins op) rows

  -- a row is the answer of the operation
  abbrev pub ends : ℕ → RowOf C A → Bool
  ends op (Answered o answer) = o == op
  ends op (Effect o request) = false
  ends op (Begun o call) = false

  -- the operation was answered
  abbrev pub was_answered : List (RowOf C A) → ℕ → Bool
  was_answered rows op = list_any (ends op) rows

  -- the operation began as this call
  abbrev pub IsCall : List (RowOf C A) → ℕ → C → Type 0
  IsCall rows op call = (k : ℕ) × (slice_get rows k ≡ Some (Begun op call))

  -- how many operations began
  abbrev pub begun_count : List (RowOf C A) → ℕ
  begun_count [] = 0
  begun_count (Begun op call ∷ rows) = 1 + begun_count rows
  begun_count (Effect op request ∷ rows) = begun_count rows
  begun_count (Answered op answer ∷ rows) = begun_count rows

  -- At a row of the operation's call: from its begin to the end of these rows.
  pub record AtRow (rows : List (RowOf C A)) (op : ℕ) (holds : List (RowOf C A) → Type 0) : Type 0 where
    pub place : ℕ
    pub within : place ≤ length rows
    pub begun : was_begun (take place rows) op ≡ true
    pub there : holds (take place rows)

  -- a row is an answer that passes the test
  abbrev pub answers_so : (A → Bool) → RowOf C A → Bool
  answers_so test (Answered op answer) = test answer
  answers_so test (Effect op request) = false
  answers_so test (Begun op call) = false

module _ {T : Type 0} where
  -- the base that a plain call writes on
  abbrev pub plain_base_of : PlainCall T → Option ℕ
  plain_base_of (plain_calls.Write base value) = base
  plain_base_of (plain_calls.WriteUnchecked base value) = base
  plain_base_of plain_calls.Read = None
  plain_base_of (plain_calls.ReadUnchecked id) = None
  plain_base_of (plain_calls.ReadSeen id) = None
  plain_base_of (plain_calls.ListIds from to) = None
  plain_base_of (plain_calls.Delete id) = None
  plain_base_of (plain_calls.Check id) = None
  plain_base_of (plain_calls.Advance to) = None

  -- the value that a plain call asks to write on its base
  abbrev pub plain_value_written : PlainCall T → Option T
  plain_value_written (plain_calls.Write base value) = Some value
  plain_value_written (plain_calls.WriteUnchecked base value) = Some value
  plain_value_written plain_calls.Read = None
  plain_value_written (plain_calls.ReadUnchecked id) = None
  plain_value_written (plain_calls.ReadSeen id) = None
  plain_value_written (plain_calls.ListIds from to) = None
  plain_value_written (plain_calls.Delete id) = None
  plain_value_written (plain_calls.Check id) = None
  plain_value_written (plain_calls.Advance to) = None

  -- a boundary that a plain call advances to is 0, or passes the test
  abbrev pub plain_has_low_boundary : (ℕ → Bool) → PlainCall T → Bool
  plain_has_low_boundary low (plain_calls.Advance to) = to == 0 || low to
  plain_has_low_boundary low (plain_calls.Write base value) = true
  plain_has_low_boundary low (plain_calls.WriteUnchecked base value) = true
  plain_has_low_boundary low plain_calls.Read = true
  plain_has_low_boundary low (plain_calls.ReadUnchecked id) = true
  plain_has_low_boundary low (plain_calls.ReadSeen id) = true
  plain_has_low_boundary low (plain_calls.ListIds from to) = true
  plain_has_low_boundary low (plain_calls.Delete id) = true
  plain_has_low_boundary low (plain_calls.Check id) = true

  -- an answer of a plain call tells an id that passes the test
  abbrev pub plain_tells_id : (ℕ → Bool) → PlainAnswer T → Bool
  plain_tells_id test (plain_answers.Wrote id) = test id
  plain_tells_id test (plain_answers.Read None) = false
  plain_tells_id test (plain_answers.Read (Some found)) = test found.0
  plain_tells_id test (plain_answers.Ids ids) = list_any test ids
  plain_tells_id test (plain_answers.Value value) = false
  plain_tells_id test plain_answers.Done = false
  plain_tells_id test (plain_answers.Refused number) = false

module _ {C A : Type 0} where
  -- the rows before the begin of the operation
  abbrev pub before_begin : ℕ → List (RowOf C A) → List (RowOf C A)
  before_begin op [] = []
  before_begin op (row ∷ rows) = if begins op row then [] else row ∷ before_begin op rows

module _ {T : Type 0} where
  -- the view that a call uses
  abbrev pub view_used : Call T → Option ℕ
  view_used (calls.View (view_calls.Refresh view)) = Some view
  view_used (calls.View (view_calls.Update view value)) = Some view
  view_used (calls.View (view_calls.Claim view)) = Some view
  view_used (calls.View (view_calls.ClaimAt view epoch)) = Some view
  view_used (calls.View (view_calls.HolderRefresh view)) = Some view
  view_used (calls.View (view_calls.HolderUpdate view value)) = Some view
  view_used (calls.View (view_calls.Init value)) = None
  view_used (calls.View view_calls.Load) = None
  view_used (calls.Plain call) = None

  -- the call is one of a holder
  abbrev pub is_holders : Call T → Bool
  is_holders (calls.View (view_calls.HolderRefresh view)) = true
  is_holders (calls.View (view_calls.HolderUpdate view value)) = true
  is_holders (calls.View (view_calls.Init value)) = false
  is_holders (calls.View view_calls.Load) = false
  is_holders (calls.View (view_calls.Refresh view)) = false
  is_holders (calls.View (view_calls.Update view value)) = false
  is_holders (calls.View (view_calls.Claim view)) = false
  is_holders (calls.View (view_calls.ClaimAt view epoch)) = false
  is_holders (calls.Plain call) = false

  -- the value that a call asks to write on its base, but for a holder, whose value has to have its epoch
  abbrev pub value_written : Call T → Option T
  value_written (calls.Plain call) = plain_value_written call
  value_written (calls.View (view_calls.Update view value)) = Some value
  value_written (calls.View (view_calls.Init value)) = None
  value_written (calls.View view_calls.Load) = None
  value_written (calls.View (view_calls.Refresh view)) = None
  value_written (calls.View (view_calls.Claim view)) = None
  value_written (calls.View (view_calls.ClaimAt view epoch)) = None
  value_written (calls.View (view_calls.HolderRefresh view)) = None
  value_written (calls.View (view_calls.HolderUpdate view value)) = None

  -- an answer tells an id that passes the test: the version of a view, and of a call without a view what `plain_tells_id` of it says
  abbrev pub tells_id : (ℕ → Bool) → Answer T → Bool
  tells_id test (answers.Plain answer) = plain_tells_id test answer
  tells_id test (answers.View view id value) = test id
  tells_id test (answers.Held view id value epoch) = test id

  -- a row is an answer that tells such an id
  abbrev pub tells : (ℕ → Bool) → Row T → Bool
  tells test = answers_so (tells_id test)

  -- some call answered this id
  abbrev pub was_told : List (Row T) → ℕ → Bool
  was_told rows n = list_any (tells (nat_eq n)) rows

  -- some call answered an id above this
  abbrev pub is_below_told : List (Row T) → ℕ → Bool
  is_below_told rows n = list_any (tells (nat_lt n)) rows
