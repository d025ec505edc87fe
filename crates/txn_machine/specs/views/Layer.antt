-- Views and holders as a layer over writes and reads: its state, and what an operation does next.
-- Of the write or the read inside a call the layer knows what its answer owes, and when its create is due.
use Rattle.std.specs.Prelude.{ℕ, ◌+◌, ◌==◌, if◌then◌else◌, List, [], ◌∷◌, ◌++◌, Option, Some, None}
use Rattle.std.specs.Option.{option_map}
use Rattle.txn_history.specs.declared.event.PlainAnswer.TheVariants as plain_answers
use Rattle.txn_history.specs.declared.trace.RowOf.TheVariants.{Begun, Answered}
use Rattle.txn_history.specs.declared.event.Call.{Call}
use Rattle.txn_history.specs.declared.event.Answer.{Answer}
use Rattle.txn_history.specs.declared.event.Answer.TheVariants as answers
use Rattle.txn_history.specs.Trace.{Row}
use Rattle.txn_history.specs.Calls.{view_used}
use Rattle.txn_history.specs.Views.{View}
use Rattle.txn_machine.specs.declared.views.used.Used as declared

-- a view, and the operation that uses it
abbrev pub Used : Type 0 → Type 0
Used T = declared.Used T

-- What an operation does now: nothing yet, a write of a value of this epoch on a base, a read of the newest version, or
-- what a call without a view does.
pub data Inner (T : Type 0) : Type 0 where
  Starts : Inner T
  Writes : (base : ℕ) (value : T) (epoch : ℕ) → Inner T
  Reads : Inner T
  Acts : Inner T

pub record Operation (T : Type 0) : Type 0 where
  pub client : ℕ
  pub call : Call T
  pub inner : Inner T

-- a write that was begun: its operation, its base and its value
pub record Asked (T : Type 0) : Type 0 where
  pub op : ℕ
  pub base : ℕ
  pub value : T

-- Views and operations by their numbers. An ended one is none. Asked are all writes that were ever begun, failed the
-- operations whose store call failed.
pub record Layer (T : Type 0) : Type 0 where
  pub rows : List (Row T)
  pub views : ℕ → Option (Used T)
  pub count : ℕ
  pub ops : ℕ → Option (Operation T)
  pub next : ℕ
  pub asked : List (Asked T)
  pub failed : List ℕ

-- what an answer does to the view that its call uses: it is freed, or is at another version, or becomes a holder there, or ends
pub data Change (T : Type 0) : Type 0 where
  Keeps : Change T
  Puts : (id : ℕ) (value : T) → Change T
  Makes : (id : ℕ) (value : T) (epoch : ℕ) → Change T
  Closes : Change T

-- what an operation does next: a write or a read, an answer, or the answer of a new view
pub data Next (T : Type 0) : Type 0 where
  Goes : (inner : Inner T) → Next T
  Ends : (answer : Answer T) (change : Change T) → Next T
  Opens : (id : ℕ) (value : T) → Next T

module _ {T : Type 0} where
  abbrev pub opening : Layer T
  opening = record { rows = []; views = λ view. None; count = 0; ops = λ op. None; next = 1; asked = []; failed = [] }

  -- a refusal, by its number
  abbrev pub refused : ℕ → Answer T
  refused number = answers.Plain (plain_answers.Refused number)

  -- the view that a call uses
  abbrev pub look_up : (ℕ → Option (Used T)) → Option ℕ → Option (Used T)
  look_up views None = None
  look_up views (Some number) = views number

  -- the epoch of a holder
  abbrev pub local_of : Option (Used T) → Option ℕ
  local_of None = None
  local_of (Some used) = used.view.epoch

  abbrev pub with_busy : Option ℕ → Used T → Used T
  with_busy busy used = record { view = used.view; busy = busy }

  -- the view at another version
  abbrev pub view_put : View T → ℕ → T → Option ℕ → Used T
  view_put view id value epoch = record { view = record { client = view.client; id = id; object = value; epoch = epoch }; busy = None }

  abbrev pub changed : Option (Used T) → Change T → Option (Used T)
  changed None change = None
  changed (Some used) Keeps = Some (with_busy None used)
  changed (Some used) (Puts id value) = Some (view_put used.view id value used.view.epoch)
  changed (Some used) (Makes id value epoch) = Some (view_put used.view id value (Some epoch))
  changed (Some used) Closes = None

  -- a new view
  abbrev pub new_view : ℕ → ℕ → T → Used T
  new_view client id value = record { view = record { client = client; id = id; object = value; epoch = None }; busy = None }

abbrev pub set_at : {A : Type 0} → (ℕ → Option A) → ℕ → Option A → ℕ → Option A
set_at table place new n = if n == place then new else table n

module _ {T : Type 0} where
  abbrev pub set_used : (ℕ → Option (Used T)) → Option ℕ → Option (Used T) → ℕ → Option (Used T)
  set_used views None new n = views n
  set_used views (Some number) new n = set_at views number new n

  -- a write that begins is noted
  abbrev pub noted : ℕ → Inner T → List (Asked T) → List (Asked T)
  noted op (Writes base value epoch) asked = record { op = op; base = base; value = value } ∷ asked
  noted op Reads asked = asked
  noted op Starts asked = asked
  noted op Acts asked = asked

  -- a row more
  abbrev pub with_row : Layer T → Row T → Layer T
  with_row s row = record s { rows = s.rows ++ row ∷ [] }

  -- the views after a change of the one that a call uses
  abbrev pub views_changed : Layer T → Call T → Change T → ℕ → Option (Used T)
  views_changed s call change = set_used s.views (view_used call) (changed (look_up s.views (view_used call)) change)

  -- an operation goes on
  abbrev pub turned : Layer T → ℕ → Operation T → Next T → Layer T
  turned s op o (Goes inner) = record s { ops = set_at s.ops op (Some (record { client = o.client; call = o.call; inner = inner })); asked = noted op inner s.asked }
  turned s op o (Ends answer change) = record s { rows = s.rows ++ Answered op answer ∷ []; views = views_changed s o.call change; ops = set_at s.ops op None }
  turned s op o (Opens id value) = record s {
    rows = s.rows ++ Answered op (answers.View (s.count + 1) id value) ∷ [];
    views = set_at s.views (s.count + 1) (Some (new_view o.client id value));
    count = s.count + 1;
    ops = set_at s.ops op None;
  }

  -- an operation before it does anything
  abbrev pub starting : ℕ → Call T → Operation T
  starting client call = record { client = client; call = call; inner = Starts }

  -- an operation begins, and its view is busy; what it does first follows
  abbrev pub opened : Layer T → ℕ → Call T → Layer T
  opened s client call = record s {
    rows = s.rows ++ Begun s.next call ∷ [];
    views = set_used s.views (view_used call) (option_map (with_busy (Some s.next)) (look_up s.views (view_used call)));
    ops = set_at s.ops s.next (Some (starting client call));
    next = s.next + 1;
  }
