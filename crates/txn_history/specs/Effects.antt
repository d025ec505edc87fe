-- When an effect is legal, whatever the calls are, of which the plain ones are some: it is an append, a raise or an erasure, or it is a re-creation.
use Rattle.std.specs.Prelude.{◌≡◌, ℕ, List, ◌+◌, ◌<◌, ◌≤◌, true, false, Option, Some}
use Rattle.txn_store.specs.declared.request.Request.{Request}
use Rattle.txn_history.specs.declared.event.PlainCall.{PlainCall}
use Rattle.txn_history.specs.declared.event.PlainCall.TheVariants as plain_calls
use Rattle.txn_history.specs.declared.trace.RowOf.{RowOf}
use Rattle.txn_history.specs.History.{created, raised, removed, has_id, versions_of, newest, boundary, was_erased, is_stored, epoch_at}
use Rattle.txn_history.specs.Calls.{IsCall}

-- `plain` is the plain call, as one of the calls
module _ {C A T : Type 0} (plain : PlainCall T → C) where
  -- A raise: the boundary goes up to what its operation advances to, and stays below the newest entry.
  pub record Raises (before : List (RowOf C A)) (op to : ℕ) : Type 0 where
    pub called : IsCall before op (plain (plain_calls.Advance to))
    pub up : boundary before < to
    pub under : to < newest before

  -- An erasure: the name that its operation deletes goes, and the boundary has reached its id.
  pub record Erases (before : List (RowOf C A)) (op id : ℕ) : Type 0 where
    pub called : IsCall before op (plain (plain_calls.Delete id))
    pub below : id ≤ boundary before

-- `WritesOn` says what a call writes directly on which entry, and `MayAppend` whether what it writes may be the next entry
module _ {C A T : Type 0} (decode : List ℕ → Option T) (get_epoch : T → ℕ) (WritesOn : List (RowOf C A) → ℕ → C → ℕ → T → Type 0) (MayAppend : List (RowOf C A) → C → Type 0) where
  -- An append: the name is the next, the value is its operation's, written directly on the newest entry, whose epoch is no greater.
  pub record Appends (before : List (RowOf C A)) (op id : ℕ) (bytes : List ℕ) : Type 0 where
    pub call : C
    pub called : IsCall before op call
    pub value : T
    pub reads : decode bytes ≡ Some value
    pub next : id ≡ newest before + 1
    pub written : WritesOn before op call (newest before) value
    pub rises : epoch_at decode get_epoch before (newest before) ≤ get_epoch value
    pub unfenced : MayAppend before call

  -- A re-creation: the name was created before, was erased and is free, and the boundary has reached its id. It is no move, since the history keeps the first create.
  pub record Recreates (before : List (RowOf C A)) (op id : ℕ) (bytes : List ℕ) : Type 0 where
    pub call : C
    pub called : IsCall before op call
    pub value : T
    pub reads : decode bytes ≡ Some value
    pub base : ℕ
    pub next : id ≡ base + 1
    pub written : WritesOn before op call base value
    pub again : has_id (versions_of before) id ≡ true
    pub erased : was_erased before id ≡ true
    pub free : is_stored before id ≡ false
    pub below : id ≤ boundary before

module _ {C A T : Type 0} (plain : PlainCall T → C) (decode : List ℕ → Option T) (get_epoch : T → ℕ) (WritesOn : List (RowOf C A) → ℕ → C → ℕ → T → Type 0) (MayAppend : List (RowOf C A) → C → Type 0) where
  -- An effect is a legal move, which is an append, a raise or an erasure, or it is a re-creation.
  pub data IsLegal (before : List (RowOf C A)) (op : ℕ) (request : Request) : Type 0 where
    Append : (id : ℕ) (bytes : List ℕ) → created request ≡ Some (id, bytes) → Appends decode get_epoch WritesOn MayAppend before op id bytes → IsLegal before op request
    Recreate : (id : ℕ) (bytes : List ℕ) → created request ≡ Some (id, bytes) → Recreates decode get_epoch WritesOn MayAppend before op id bytes → IsLegal before op request
    Raise : (to : ℕ) → raised request ≡ Some to → Raises plain before op to → IsLegal before op request
    Erase : (id : ℕ) → removed request ≡ Some id → Erases plain before op id → IsLegal before op request
