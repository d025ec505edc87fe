-- One history: when a row fits the rows before it.
use Rattle.std.specs.Prelude.{◌≡◌, ◌≢◌, ℕ, List, ◌+◌, ◌<◌, ◌≤◌, ◌⊎◌, ◌&&◌, not, Bool, true, false, if◌then◌else◌, Option, Some, None, is_some, take, slice_get}
use Rattle.txn_store.specs.declared.request.Request.{Request}
use Rattle.txn_store.specs.types.Numbers.{number_of}
use Rattle.txn_history.specs.declared.event.PlainCall.TheVariants as plain_calls
use Rattle.txn_history.specs.declared.event.PlainAnswer.TheVariants as plain_answers
use Rattle.txn_history.specs.declared.trace.RowOf.TheVariants.{Effect, Begun, Answered}
use Rattle.txn_history.specs.History.{newest, IsEntry, epoch_at}
use Rattle.txn_history.specs.Calls.{was_answered, IsCall, begun_count, before_begin, plain_base_of, plain_has_low_boundary, view_used, is_holders, value_written, was_told, is_below_told}
use Rattle.txn_history.specs.Facts.{base_on, is_high, greatest, Entered, WasNewest, WasEmpty, NoTokens, WriteRefused, FailureFits, PlainSucceeds, PlainRefuses}
use Rattle.txn_history.specs.declared.event.ViewCall.TheVariants as view_calls
use Rattle.txn_history.specs.declared.event.Call.{Call}
use Rattle.txn_history.specs.declared.event.Call.TheVariants as calls
use Rattle.txn_history.specs.declared.event.Answer.{Answer}
use Rattle.txn_history.specs.declared.event.Answer.TheVariants as answers
use Rattle.txn_history.specs.Trace.{Row}
use Rattle.txn_history.specs.Effects as effects
use Rattle.txn_history.specs.Views.{view_at, epoch_held, view_count}

-- both or neither
abbrev pub agree : Bool → Bool → Bool
agree one other = if one then other else not other

-- a base is none, or an id that some call answered
abbrev pub is_known_base : {T : Type 0} → List (Row T) → Option ℕ → Bool
is_known_base rows None = true
is_known_base rows (Some n) = was_told rows n

module _ {T : Type 0} where
  -- the base that a call writes on, by where its view stands: the view's id for an update
  abbrev pub base_of : Option ℕ → Call T → Option ℕ
  base_of at (calls.Plain call) = plain_base_of call
  base_of at (calls.View (view_calls.Update view value)) = at
  base_of at (calls.View (view_calls.HolderUpdate view value)) = at
  base_of at (calls.View (view_calls.Init value)) = None
  base_of at (calls.View view_calls.Load) = None
  base_of at (calls.View (view_calls.Refresh view)) = None
  base_of at (calls.View (view_calls.Claim view)) = None
  base_of at (calls.View (view_calls.ClaimAt view epoch)) = None
  base_of at (calls.View (view_calls.HolderRefresh view)) = None

  -- where the view of a call stands, none of a call without a view
  abbrev pub stands_at : List (Row T) → Option ℕ → Option ℕ
  stands_at rows None = None
  stands_at rows (Some view) = view_at rows view

  -- the base of a call after these rows: an update's is where its view stands
  abbrev pub base_now : List (Row T) → Call T → Option ℕ
  base_now rows call = base_of (stands_at rows (view_used call)) call

  -- the base of an operation: an update's is where its view stood when the call began
  abbrev pub base_by : List (Row T) → ℕ → Call T → Option ℕ
  base_by before op call = base_now (before_begin op before) call

  -- a boundary to advance to is 0, or below an id that some call answered
  abbrev pub has_low_boundary : List (Row T) → Call T → Bool
  has_low_boundary rows (calls.Plain call) = plain_has_low_boundary (is_below_told rows) call
  has_low_boundary rows (calls.View call) = true

  -- the view that a call uses was shown, and is a holder exactly where the call is a holder's
  abbrev pub has_shown_view : List (Row T) → Option ℕ → Bool → Bool
  has_shown_view rows None holders = true
  has_shown_view rows (Some view) holders = is_some (view_at rows view) && agree holders (is_some (epoch_held rows view))

module _ {T : Type 0} (decode : List ℕ → Option T) (get_epoch : T → ℕ) where
  -- the value that a call writes has an epoch of at least that of its base's entry
  abbrev pub keeps_epoch : List (Row T) → Option ℕ → Call T → Bool
  keeps_epoch rows base call = is_high get_epoch (epoch_at decode get_epoch rows (number_of base)) (value_written call)

  -- An operation has the next number, a view that was shown, a base that is known, a boundary that is low enough, and a value that keeps the epoch.
  pub record Opens (before : List (Row T)) (op : ℕ) (call : Call T) : Type 0 where
    pub next : op ≡ begun_count before + 1
    pub shown : has_shown_view before (view_used call) (is_holders call) ≡ true
    pub known : is_known_base before (base_now before call) ≡ true
    pub low : has_low_boundary before call ≡ true
    pub keeps : keeps_epoch before (base_now before call) call ≡ true

module _ {T : Type 0} (decode : List ℕ → Option T) (get_epoch : T → ℕ) (set_epoch : T → ℕ → T) where
  -- a claim enters entry n again with its epoch one higher
  pub record ClaimsOn (before : List (Row T)) (n : ℕ) (entry : T) : Type 0 where
    pub old : T
    pub found : IsEntry decode before n old
    pub raised : entry ≡ set_epoch old (get_epoch old + 1)

  -- a claim at an epoch enters entry n again with this epoch, which is higher
  pub record ClaimsAtOn (before : List (Row T)) (n epoch : ℕ) (entry : T) : Type 0 where
    pub old : T
    pub found : IsEntry decode before n old
    pub higher : get_epoch old < epoch
    pub raised : entry ≡ set_epoch old epoch

  -- the call writes this entry directly on entry n
  abbrev pub WritesOn : List (Row T) → ℕ → Call T → ℕ → T → Type 0
  WritesOn before op (calls.Plain (plain_calls.Write base value)) n entry = (base ≡ base_on n) × (entry ≡ value)
  WritesOn before op (calls.Plain (plain_calls.WriteUnchecked base value)) n entry = (base ≡ base_on n) × (entry ≡ value)
  WritesOn before op (calls.View (view_calls.Init value)) n entry = (n ≡ 0) × (entry ≡ value)
  WritesOn before op (calls.View (view_calls.Update view value)) n entry = (base_by before op (calls.View (view_calls.Update view value)) ≡ base_on n) × (entry ≡ value)
  WritesOn before op (calls.View (view_calls.HolderUpdate view value)) n entry = (base_by before op (calls.View (view_calls.HolderUpdate view value)) ≡ base_on n) × (entry ≡ value)
  WritesOn before op (calls.View (view_calls.Claim view)) n entry = ClaimsOn before n entry
  WritesOn before op (calls.View (view_calls.ClaimAt view epoch)) n entry = ClaimsAtOn before n epoch entry
  WritesOn before op _ n entry = ⊥

  -- the value has the epoch of a holder, and no entry has an epoch above it
  pub record IsUnfenced (before : List (Row T)) (view : ℕ) (value : T) : Type 0 where
    pub epoch : ℕ
    pub holder : epoch_held before view ≡ Some epoch
    pub keeps : get_epoch value ≡ epoch
    pub none_above : (id : ℕ) → epoch_at decode get_epoch before id ≤ epoch

  -- a holder's update appends a value of its own epoch, and nothing once an entry has an epoch above it
  abbrev pub MayAppend : List (Row T) → Call T → Type 0
  MayAppend before (calls.View (view_calls.HolderUpdate view value)) = IsUnfenced before view value
  MayAppend before (calls.Plain call) = Unit {0}
  MayAppend before (calls.View (view_calls.Init value)) = Unit {0}
  MayAppend before (calls.View view_calls.Load) = Unit {0}
  MayAppend before (calls.View (view_calls.Refresh view)) = Unit {0}
  MayAppend before (calls.View (view_calls.Update view value)) = Unit {0}
  MayAppend before (calls.View (view_calls.Claim view)) = Unit {0}
  MayAppend before (calls.View (view_calls.ClaimAt view epoch)) = Unit {0}
  MayAppend before (calls.View (view_calls.HolderRefresh view)) = Unit {0}

  -- An effect is a legal move of its call, or a re-creation.
  abbrev pub IsLegal : List (Row T) → ℕ → Request → Type 0
  IsLegal = effects.IsLegal calls.Plain decode get_epoch WritesOn MayAppend

-- The answers. Each refusal has its number: 2, a failed store call, or no token left; 4, no version; 5, a conflict;
-- 6, fenced by a greater epoch; 7, not to be deleted, or a value of another epoch than its holder's; 9, want of memory; 10, no id or no epoch left.

module _ {T : Type 0} where
  -- An answer shows this view, at an id no lower than where it stood.
  pub record Shows (before : List (Row T)) (view shown id : ℕ) : Type 0 where
    pub same : shown ≡ view
    pub rises : number_of (view_at before view) ≤ id

  -- a claim is refused because the store has no token left, or because no id is left
  abbrev pub ClaimRefused : List (Row T) → ℕ → Type 0
  ClaimRefused before number = ((number ≡ 2) × NoTokens before) ⊎ ((number ≡ 10) × (greatest ≤ newest before))

module _ {T : Type 0} (decode : List ℕ → Option T) (get_epoch : T → ℕ) where
  -- some entry has an epoch of at least this
  pub record HasReached (rows : List (Row T)) (epoch : ℕ) : Type 0 where
    pub id : ℕ
    pub value : T
    pub entry : IsEntry decode rows id value
    pub high : epoch ≤ get_epoch value

  -- An entry has an epoch above that of the holder.
  pub record HolderFenced (before : List (Row T)) (view : ℕ) : Type 0 where
    pub epoch : ℕ
    pub holder : epoch_held before view ≡ Some epoch
    pub above : HasReached before (epoch + 1)

  -- A claim is held: its entry is its own and has the holder's epoch, and the entry before has a smaller one.
  pub record Holds (before : List (Row T)) (op n : ℕ) (value : T) (epoch : ℕ) : Type 0 where
    pub entered : Entered decode before op n value
    pub has : get_epoch value ≡ epoch
    pub base : ℕ
    pub next : n ≡ base + 1
    pub old : T
    pub entry : IsEntry decode before base old
    pub smaller : get_epoch old < epoch

  -- An answer that is no refusal fits the call. A write on a view answers its own version, with its value; a load or a refresh what was newest.
  abbrev pub Succeeds : List (Row T) → ℕ → Call T → Answer T → Type 0
  Succeeds before op (calls.Plain call) (answers.Plain answer) = PlainSucceeds decode before op call answer
  Succeeds before op (calls.View (view_calls.Init value)) (answers.View shown n entry) = Shows before (view_count before + 1) shown n × Entered decode before op n entry
  Succeeds before op (calls.View view_calls.Load) (answers.View shown n entry) = Shows before (view_count before + 1) shown n × WasNewest decode before op n entry
  Succeeds before op (calls.View (view_calls.Refresh view)) (answers.View shown n entry) = Shows before view shown n × WasNewest decode before op n entry
  Succeeds before op (calls.View (view_calls.Update view value)) (answers.View shown n entry) = Shows before view shown n × Entered decode before op n entry
  Succeeds before op (calls.View (view_calls.Claim view)) (answers.Held shown n entry epoch) = Shows before view shown n × Holds before op n entry epoch
  Succeeds before op (calls.View (view_calls.ClaimAt view at)) (answers.Held shown n entry epoch) = Shows before view shown n × Holds before op n entry epoch × (epoch ≡ at)
  Succeeds before op (calls.View (view_calls.HolderRefresh view)) (answers.View shown n entry) = Shows before view shown n × WasNewest decode before op n entry × (epoch_held before view ≡ Some (get_epoch entry))
  Succeeds before op (calls.View (view_calls.HolderUpdate view value)) (answers.View shown n entry) = Shows before view shown n × Entered decode before op n entry
  Succeeds before op call answer = ⊥

  -- a refusal fits the call, by its number
  abbrev pub Refuses : List (Row T) → ℕ → Call T → ℕ → Type 0
  Refuses before op (calls.Plain call) number = PlainRefuses decode before op call number
  Refuses before op (calls.View (view_calls.Init value)) number = WriteRefused decode before op None number
  Refuses before op (calls.View view_calls.Load) number = (number ≡ 4) × WasEmpty before op
  Refuses before op (calls.View (view_calls.Update view value)) number = WriteRefused decode before op (base_by before op (calls.View (view_calls.Update view value))) number
  Refuses before op (calls.View (view_calls.Claim view)) number = ((number ≡ 10) × HasReached before greatest) ⊎ ClaimRefused before number
  Refuses before op (calls.View (view_calls.ClaimAt view at)) number = ((number ≡ 6) × HasReached before at) ⊎ ClaimRefused before number
  Refuses before op (calls.View (view_calls.HolderRefresh view)) number = (number ≡ 6) × HolderFenced before view
  Refuses before op (calls.View (view_calls.HolderUpdate view value)) number =
      ((number ≡ 6) × HolderFenced before view)
      ⊎ ((number ≡ 7) × (epoch_held before view ≢ Some (get_epoch value)))
      ⊎ WriteRefused decode before op (base_by before op (calls.View (view_calls.HolderUpdate view value))) number
  Refuses before op call number = ⊥

-- `failed` are the operations whose store call failed
module _ {T : Type 0} (decode : List ℕ → Option T) (get_epoch : T → ℕ) (failed : List ℕ) where
  -- the answer fits the call: every call is also refused where its store call failed, or for want of memory
  abbrev pub AnswerFits : List (Row T) → ℕ → Call T → Answer T → Type 0
  AnswerFits before op call (answers.Plain (plain_answers.Refused number)) = Refuses decode get_epoch before op call number ⊎ FailureFits failed op number
  AnswerFits before op call answer = Succeeds decode get_epoch before op call answer

  -- The one answer of a call that began, and it fits.
  pub record Answers (before : List (Row T)) (op : ℕ) (answer : Answer T) : Type 0 where
    pub call : Call T
    pub called : IsCall before op call
    pub once : was_answered before op ≡ false
    pub fits : AnswerFits before op call answer

module _ {T : Type 0} (decode : List ℕ → Option T) (get_epoch : T → ℕ) (set_epoch : T → ℕ → T) (failed : List ℕ) where
  -- a row fits the rows before it
  abbrev pub Fits : List (Row T) → Row T → Type 0
  Fits before (Effect op request) = IsLegal decode get_epoch set_epoch before op request
  Fits before (Begun op call) = Opens decode get_epoch before op call
  Fits before (Answered op answer) = Answers decode get_epoch failed before op answer

  -- each row fits the rows before it
  abbrev pub IsOneHistory : List (Row T) → Type 0
  IsOneHistory rows = (k : ℕ) (row : Row T) → slice_get rows k ≡ Some row → Fits (take k rows) row
