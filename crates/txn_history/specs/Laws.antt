-- What follows of one history.
use Rattle.std.specs.Prelude.{◌≡◌, ◌≤◌, ℕ, List, Option, true, take, slice_get, Some, None}
use Rattle.txn_history.specs.declared.trace.RowOf.{RowOf}
use Rattle.txn_history.specs.History.{boundary, erases}
use Rattle.txn_history.specs.declared.event.PlainCall.TheVariants as plain_calls
use Rattle.txn_history.specs.declared.event.PlainAnswer.TheVariants as plain_answers
use Rattle.txn_history.specs.declared.trace.RowOf.TheVariants.{Answered}
use Rattle.txn_history.specs.Lists.{numbered}
use Rattle.txn_history.specs.Calls.{IsCall}
use Rattle.txn_history.specs.declared.event.ViewCall.TheVariants as view_calls
use Rattle.txn_history.specs.declared.event.Call.{Call}
use Rattle.txn_history.specs.declared.event.Call.TheVariants as calls
use Rattle.txn_history.specs.declared.event.Answer.{Answer}
use Rattle.txn_history.specs.declared.event.Answer.TheVariants as answers
use Rattle.txn_history.specs.Trace.{Row}
use Rattle.txn_history.specs.Views.{View, epoch_held}

module _ {C A : Type 0} where
  -- the boundary never falls: it is no lower after more rows
  abbrev pub NeverFalls : List (RowOf C A) → Type 0
  NeverFalls rows = (early late : ℕ) → early ≤ late → boundary (take early rows) ≤ boundary (take late rows)

  -- what is above the boundary is not removed: a row that removes the name of an id comes after the boundary has reached it
  abbrev pub KeepsAbove : List (RowOf C A) → Type 0
  KeepsAbove rows = (k id : ℕ) (row : RowOf C A) → slice_get rows k ≡ Some row → erases id row ≡ true → id ≤ boundary (take k rows)

-- `id_entered` is the id that a checked write answers as its own
module _ {C A : Type 0} (id_entered : C → A → Option ℕ) where
  -- row k is an answer of the operation, which is its own version of this id
  pub record AnswersOwn (rows : List (RowOf C A)) (k op id : ℕ) : Type 0 where
    pub call : C
    pub called : IsCall rows op call
    pub answer : A
    pub there : slice_get rows k ≡ Some (Answered op answer)
    pub own : id_entered call answer ≡ Some id

  -- two successful checked writes never have the same id: rows that answer it are one row
  abbrev pub HasOneWriter : List (RowOf C A) → Type 0
  HasOneWriter rows = (j k op other id : ℕ) → AnswersOwn rows j op id → AnswersOwn rows k other id → j ≡ k

module _ {T : Type 0} where
  -- the id that a checked write answers as its own
  abbrev pub id_entered : Call T → Answer T → Option ℕ
  id_entered (calls.Plain (plain_calls.Write base value)) (answers.Plain (plain_answers.Wrote id)) = Some id
  id_entered (calls.View (view_calls.Init value)) (answers.View view id found) = Some id
  id_entered (calls.View (view_calls.Update view value)) (answers.View shown id found) = Some id
  id_entered (calls.View (view_calls.HolderUpdate view value)) (answers.View shown id found) = Some id
  id_entered (calls.View (view_calls.Claim view)) (answers.Held shown id found held) = Some id
  id_entered (calls.View (view_calls.ClaimAt view epoch)) (answers.Held shown id found held) = Some id
  id_entered call answer = None

  -- two successful claims never have the same epoch: rows that answer it are one row
  abbrev pub HasOneClaimer : List (Row T) → Type 0
  HasOneClaimer rows =
      (j k op other view another n m epoch : ℕ) (value found : T) →
      slice_get rows j ≡ Some (Answered op (answers.Held view n value epoch)) → slice_get rows k ≡ Some (Answered other (answers.Held another m found epoch)) → j ≡ k

module _ {T : Type 0} (get_epoch : T → ℕ) where
  -- a holder's view never has an epoch below its own: not in an answer that shows it
  abbrev pub HoldersRise : List (Row T) → Type 0
  HoldersRise rows =
      (k op view n epoch : ℕ) (value : T) →
      slice_get rows k ≡ Some (Answered op (answers.View view n value)) → epoch_held (take k rows) view ≡ Some epoch → epoch ≤ get_epoch value

  -- and not as it stands
  abbrev pub HoldersStand : List (Option (View T)) → Type 0
  HoldersStand views = (number epoch : ℕ) (view : View T) → numbered views number ≡ Some (Some view) → view.epoch ≡ Some epoch → epoch ≤ get_epoch view.object
