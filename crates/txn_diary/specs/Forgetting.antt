-- What a client may forget of what it keeps. It then permits itself less, and whatever it does, one that forgot nothing could do.
use Rattle.std.specs.Prelude.{◌≡◌, ◌⊎◌, ℕ, All, List, true, false, Option, Some, None, length}
use Rattle.txn_history.specs.Lists.{numbered}
use Rattle.txn_machine.specs.views.Layer.{Used}
use Rattle.txn_machine.specs.declared.doing.Operation.{Operation}
use Rattle.txn_machine.specs.Doing.{asked, ended}
use Rattle.txn_machine.specs.Machine.{used_by}
use Rattle.txn_client_journals.specs.Parts.{Part, knows_base, is_below_known, epoch_told, written_in}

module _ {T : Type 0} where
  -- what stands in the place of an operation that was forgotten
  abbrev pub forgotten : Operation T
  forgotten = record { client = 0; view = None; claims = false; doing = ended }

  -- an operation is there, and has ended
  abbrev pub HasEnded : List (Operation T) → ℕ → Type 0
  HasEnded operations op = (o : Operation T) × (numbered operations op ≡ Some o) × (asked o.doing ≡ None)

  -- each of these operations has ended
  abbrev pub HaveEnded : List (Operation T) → Type 0
  HaveEnded operations = All (λ (o : Operation T). asked o.doing ≡ None) operations

  -- each of these operations was forgotten
  abbrev pub AreForgotten : List (Operation T) → Type 0
  AreForgotten operations = All (λ (o : Operation T). o ≡ forgotten) operations

  -- Of these operations some that have ended were forgotten. Their numbers stay.
  pub record AreKeptOperations (old new : List (Operation T)) : Type 0 where
    pub count : length new ≡ length old
    pub each : (op : ℕ) → (numbered new op ≡ numbered old op) ⊎ (HasEnded old op × (numbered new op ≡ Some forgotten))

  -- Of what these operations write the epochs of some that have ended were forgotten.
  pub record AreKeptWrites (operations : List (Operation T)) (old new : List (Option ℕ)) : Type 0 where
    pub count : length new ≡ length old
    pub each : (op : ℕ) → (written_in (numbered new op) ≡ written_in (numbered old op)) ⊎ HasEnded operations op

  -- Some of these views were let go. Their numbers stay.
  pub record AreKeptViews (old new : List (Option (Used T))) : Type 0 where
    pub count : length new ≡ length old
    pub each : (number : ℕ) → (used_by new (Some number) ≡ used_by old (Some number)) ⊎ (used_by new (Some number) ≡ None)

-- each id that is known was known, and has its epoch
abbrev pub WereKnown : List (ℕ × ℕ) → List (ℕ × ℕ) → Type 0
WereKnown old new = (id : ℕ) → knows_base new (Some id) ≡ true → (knows_base old (Some id) ≡ true) × (epoch_told new id ≡ epoch_told old id)

-- each id that was known still is
abbrev pub StillKnown : List (ℕ × ℕ) → List (ℕ × ℕ) → Type 0
StillKnown old new = (id : ℕ) → knows_base old (Some id) ≡ true → knows_base new (Some id) ≡ true

module _ {T : Type 0} where
  -- the id at which this view stands, if it is there, is known still, where it was known
  abbrev pub BaseStays : List (ℕ × ℕ) → List (ℕ × ℕ) → Option (Used T) → Type 0
  BaseStays old new None = Unit {0}
  BaseStays old new (Some used) = knows_base old (Some used.view.id) ≡ true → knows_base new (Some used.view.id) ≡ true

-- Of the ids that a client was told some were forgotten, but not the greatest. Each that was not has its epoch.
pub record AreKeptNotes (old new : List (ℕ × ℕ)) : Type 0 where
  pub known : WereKnown old new
  -- a write with no base is held to what was told of id 0, which is no version's
  pub none : epoch_told new 0 ≡ epoch_told old 0
  pub greatest : (to : ℕ) → is_below_known new to ≡ is_below_known old to

module _ {T : Type 0} where
  -- This is what is left of what a client kept, once some of it was forgotten, or nothing.
  pub record Remembers (old new : Part T) : Type 0 where
    pub caches : new.caches ≡ old.caches
    pub operations : AreKeptOperations old.operations new.operations
    pub writes : AreKeptWrites old.operations old.writes new.writes
    pub views : AreKeptViews old.views new.views
    pub told : AreKeptNotes old.told new.told

  -- The id at which each view stands that is there is known still, where it was known.
  abbrev pub KeepsBases : Part T → Part T → Type 0
  KeepsBases old new = (number : ℕ) → BaseStays old.told new.told (used_by old.views (Some number))
