-- Views and holders. A view is a client's copy of an entry; a claim makes it a holder, which has an epoch of its own.
-- Rows show a view where an answer does. They do not show its client, its end in a crash, or the later entry that a
-- fenced holder has seen: so the views as they stand are a table beside the rows, and here is what fits them.
use Rattle.std.specs.Prelude.{◌≡◌, ℕ, List, [], ◌∷◌, ◌<◌, ◌≤◌, ◌⊎◌, ◌==◌, max, if◌then◌else◌, Option, Some, None, length}
use Rattle.txn_history.specs.declared.trace.RowOf.TheVariants.{Effect, Begun, Answered}
use Rattle.txn_history.specs.Lists.{numbered}
use Rattle.txn_history.specs.History.{IsEntry}
use Rattle.txn_history.specs.declared.view.View as declared
use Rattle.txn_history.specs.declared.event.Answer.{Answer}
use Rattle.txn_history.specs.declared.event.Answer.TheVariants as answers
use Rattle.txn_history.specs.Trace.{Row}

-- the first of two, if it is there, else the other
abbrev pub or_else : Option ℕ → Option ℕ → Option ℕ
or_else None other = other
or_else (Some n) other = Some n

module _ {T : Type 0} where
  -- the last thing that answers tell, by a reading of one answer
  abbrev pub last_told : (Answer T → Option ℕ) → Option ℕ → List (Row T) → Option ℕ
  last_told reading last [] = last
  last_told reading last (Answered op answer ∷ rows) = last_told reading (or_else (reading answer) last) rows
  last_told reading last (Effect op request ∷ rows) = last_told reading last rows
  last_told reading last (Begun op call ∷ rows) = last_told reading last rows

  -- the first thing that they tell
  abbrev pub first_told : (Answer T → Option ℕ) → List (Row T) → Option ℕ
  first_told reading [] = None
  first_told reading (Answered op answer ∷ rows) = or_else (reading answer) (first_told reading rows)
  first_told reading (Effect op request ∷ rows) = first_told reading rows
  first_told reading (Begun op call ∷ rows) = first_told reading rows

  -- the id at which an answer shows the view
  abbrev pub id_shown : ℕ → Answer T → Option ℕ
  id_shown view (answers.View shown id value) = if shown == view then Some id else None
  id_shown view (answers.Held shown id value epoch) = if shown == view then Some id else None
  id_shown view (answers.Plain answer) = None

  -- where a view stands: the id in the last answer that shows it, none where none does
  abbrev pub view_at : List (Row T) → ℕ → Option ℕ
  view_at rows view = last_told (id_shown view) None rows

  -- the epoch that an answer makes the view a holder of
  abbrev pub epoch_shown : ℕ → Answer T → Option ℕ
  epoch_shown view (answers.Held shown id value epoch) = if shown == view then Some epoch else None
  epoch_shown view (answers.View shown id value) = None
  epoch_shown view (answers.Plain answer) = None

  -- a holder's own epoch: that of the claim that made it, which is the first to be held; none where the view is no holder
  abbrev pub epoch_held : List (Row T) → ℕ → Option ℕ
  epoch_held rows view = first_told (epoch_shown view) rows

  -- how many views there are, which is the greatest number of a view that an answer shows
  abbrev pub view_count : List (Row T) → ℕ
  view_count [] = 0
  view_count (Answered op (answers.View shown id value) ∷ rows) = max shown (view_count rows)
  view_count (Answered op _ ∷ rows) = view_count rows
  view_count (Effect op request ∷ rows) = view_count rows
  view_count (Begun op call ∷ rows) = view_count rows

-- a view as it stands: its client, its id, its object, and the epoch of a holder
abbrev pub View : Type 0 → Type 0
View T = declared.View T

module _ {T : Type 0} (get_epoch : T → ℕ) where
  -- a holder has seen an entry with a greater epoch than its own
  pub record IsFenced (view : View T) : Type 0 where
    pub epoch : ℕ
    pub holder : view.epoch ≡ Some epoch
    pub greater : epoch < get_epoch view.object

module _ {T : Type 0} (decode : List ℕ → Option T) (get_epoch : T → ℕ) where
  -- A view fits: its object is the entry at its id; it stands where it was last shown, or above, as a fenced holder; and a holder's epoch is that of its claim.
  pub record ViewFits (rows : List (Row T)) (number : ℕ) (view : View T) : Type 0 where
    pub object : IsEntry decode rows view.id view.object
    pub shown : ℕ
    pub last : view_at rows number ≡ Some shown
    pub stands : (view.id ≡ shown) ⊎ ((shown ≤ view.id) × IsFenced get_epoch view)
    pub epoch : view.epoch ≡ epoch_held rows number

  -- The views fit, each by its number. An ended view is none.
  pub record ViewsFit (rows : List (Row T)) (views : List (Option (View T))) : Type 0 where
    pub all : length views ≡ view_count rows
    pub each : (number : ℕ) (view : View T) → numbered views number ≡ Some (Some view) → ViewFits rows number view

-- From event to event a view keeps its client, its id never falls, and a holder stays one of the same epoch.
pub record ViewGoesOn {T : Type 0} (old new : View T) : Type 0 where
  pub client : new.client ≡ old.client
  pub rises : old.id ≤ new.id
  pub holder : (epoch : ℕ) → old.epoch ≡ Some epoch → new.epoch ≡ Some epoch

-- From event to event each view goes on so, and an ended view stays ended.
pub record ViewsGoOn {T : Type 0} (old new : List (Option (View T))) : Type 0 where
  pub each : (number : ℕ) (was is : View T) → numbered old number ≡ Some (Some was) → numbered new number ≡ Some (Some is) → ViewGoesOn was is
  pub ended : (number : ℕ) → numbered old number ≡ Some None → numbered new number ≡ Some None
