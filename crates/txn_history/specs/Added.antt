-- What an event adds: its rows, and which requests it makes loose.
use Rattle.std.specs.Prelude.{◌≡◌, ◌≢◌, ℕ, List, [], ◌∷◌, ◌++◌, ◌⊎◌, ◌+◌, not, Bool, true, false, Option, Some, None, is_some}
use Rattle.std.specs.FinMap.{get, insert, remove}
use Rattle.txn_store.specs.Store.{Files}
use Rattle.txn_store.specs.declared.request.Request.{Request}
use Rattle.txn_store.specs.declared.request.Request.TheVariants as requests
use Rattle.txn_history.specs.declared.event.EventOf.{EventOf}
use Rattle.txn_history.specs.declared.event.EventOf.TheVariants as events
use Rattle.txn_history.specs.declared.event.Failure.TheVariants as failures
use Rattle.txn_history.specs.declared.event.ToldOf.{ToldOf}
use Rattle.txn_history.specs.declared.event.ToldOf.TheVariants as told
use Rattle.txn_history.specs.declared.trace.RowOf.{RowOf}
use Rattle.txn_history.specs.declared.trace.RowOf.TheVariants.{Effect, Begun, Answered}
use Rattle.txn_history.specs.Lists.{numbered}
use Rattle.txn_history.specs.Calls.{begun_count}
use Rattle.txn_history.specs.Seen.{Store, Seen, asks_of}

-- The request changed the files: a put stored its bytes with a token that the path did not have, or a delete removed a file.
abbrev pub Changes : Files → Request → Files → Type 0
Changes before (requests.Put path bytes mode) after =
    (token : ℕ) × (after ≡ insert before path (record { bytes = bytes; token = token })) × (get before path ≢ Some (record { bytes = bytes; token = token }))
Changes before (requests.Get path known) after = ⊥
Changes before (requests.List prefix from limit) after = ⊥
Changes before (requests.Delete path) after = (after ≡ remove before path) × (is_some (get before path) ≡ true)

-- a list with no element
abbrev pub is_empty : {A : Type 0} → List A → Bool
is_empty [] = true
is_empty (x ∷ xs) = false

module _ {A : Type 0} where
  -- what is told of an operation: this, or its answer
  abbrev pub Tells : ToldOf A → ℕ → ToldOf A → Type 0
  Tells otherwise op t = (t ≡ otherwise) ⊎ ((answer : A) × (t ≡ told.Answered op answer))

  -- what is told of an operation: its answer
  abbrev pub TellsAnswer : ℕ → ToldOf A → Type 0
  TellsAnswer op t = (answer : A) × (t ≡ told.Answered op answer)

  -- what is told: the answer where there is one
  abbrev pub told_of : ToldOf A → ℕ → Option A → ToldOf A
  told_of otherwise op None = otherwise
  told_of otherwise op (Some answer) = told.Answered op answer

module _ {C A : Type 0} where
  -- the row of an answer that was told
  abbrev pub answer_row : ToldOf A → List (RowOf C A)
  answer_row (told.Answered op answer) = Answered op answer ∷ []
  answer_row _ = []

  -- the row of an operation's answer, where it has one
  abbrev pub answer_rows : ℕ → Option A → List (RowOf C A)
  answer_rows op None = []
  answer_rows op (Some answer) = Answered op answer ∷ []

  -- the row of a request's effect, where it had one
  abbrev pub effect_rows : ℕ → Option Request → List (RowOf C A)
  effect_rows op None = []
  effect_rows op (Some request) = Effect op request ∷ []

  -- the row of a request, exactly where it changed the files of the store
  abbrev pub IsEffectRow : ℕ → Request → Files → Files → List (RowOf C A) → Type 0
  IsEffectRow op request before after rows =
      ((rows ≡ []) × (after ≡ before))
      ⊎ ((rows ≡ Effect op request ∷ []) × Changes before request after)

  -- An operation's request reaches the store: its row, where it changed the files, and then that of the answer, where one is told.
  pub record AddsEffect (seen : Seen) (op : ℕ) (old : List (RowOf C A)) (before : Files) (t : ToldOf A) (new : List (RowOf C A)) (after : Files) : Type 0 where
    pub request : Request
    pub asked : asks_of seen op ≡ Some (Store request)
    pub rows : List (RowOf C A)
    pub effect : IsEffectRow op request before after rows
    pub told : Tells (told.Went op) op t
    pub added : new ≡ (old ++ rows) ++ answer_row t

  -- A loose request reaches the store: its row, where it changed the files.
  pub record AddsLanding (seen : Seen) (k : ℕ) (old : List (RowOf C A)) (before : Files) (t : ToldOf A) (new : List (RowOf C A)) (after : Files) : Type 0 where
    pub op : ℕ
    pub request : Request
    pub loose : numbered seen.loose k ≡ Some (op, request)
    pub rows : List (RowOf C A)
    pub effect : IsEffectRow op request before after rows
    pub told : t ≡ told.Landed k (not (is_empty rows))
    pub added : new ≡ old ++ rows

  -- nothing reaches the store, and the row is that of the answer, where one is told
  abbrev pub AddsAnswer : ℕ → List (RowOf C A) → Files → ToldOf A → List (RowOf C A) → Files → Type 0
  AddsAnswer op old before t new after = Tells (told.Went op) op t × (new ≡ old ++ answer_row t) × (after ≡ before)

  -- no row
  abbrev pub AddsNone : ToldOf A → List (RowOf C A) → Files → ToldOf A → List (RowOf C A) → Files → Type 0
  AddsNone only old before t new after = (t ≡ only) × (new ≡ old) × (after ≡ before)

  -- The rows that an event adds, and what it tells. A begin adds that of its call, and of its answer, where one is told. A failure tells an answer.
  abbrev pub AddsRows : Seen → List (RowOf C A) → Files → EventOf C → ToldOf A → List (RowOf C A) → Files → Type 0
  AddsRows seen old before (events.Begin client call) t new after =
      Tells (told.Began (begun_count old + 1)) (begun_count old + 1) t × (new ≡ (old ++ Begun (begun_count old + 1) call ∷ []) ++ answer_row t) × (after ≡ before)
  AddsRows seen old before (events.Look op) t new after = AddsAnswer op old before t new after
  AddsRows seen old before (events.Serve op) t new after = AddsEffect seen op old before t new after
  AddsRows seen old before (events.Fail op failures.Before) t new after = TellsAnswer op t × AddsAnswer op old before t new after
  AddsRows seen old before (events.Fail op failures.After) t new after = TellsAnswer op t × AddsEffect seen op old before t new after
  AddsRows seen old before (events.Fail op failures.Loose) t new after = TellsAnswer op t × AddsAnswer op old before t new after
  AddsRows seen old before (events.GiveUp op) t new after = AddsNone (told.GaveUp op) old before t new after
  AddsRows seen old before (events.Land k) t new after = AddsLanding seen k old before t new after
  AddsRows seen old before (events.Crash client) t new after = AddsNone (told.Crashed client) old before t new after
