-- Which replies are those of the machines of the calls.
use Rattle.std.specs.Prelude.{◌≡◌, ◌⊎◌, ℕ, Bool, Option, Result, Ok, Err, option_map}
use Rattle.txn_store.specs.Paths.{Segments}
use Rattle.txn_store.specs.VersionName.{Names, version_path}
use Rattle.txn_store.specs.declared.store.StoreError.{StoreError}
use Rattle.txn_store.specs.declared.store.PutMode.TheVariants as modes
use Rattle.txn_store.specs.declared.request.Request.{Request}
use Rattle.txn_store.specs.declared.request.Request.TheVariants as requests
use Rattle.txn_store.specs.declared.request.Reply.{Reply}
use Rattle.txn_store.specs.declared.request.Reply.TheVariants as replies
use Rattle.txn_folder.specs.steps.Running.{place_as}
use Rattle.txn_folder.specs.steps.Runs.{ComesTo}
use Rattle.txn_folder.specs.steps.Steps.{Phase, Ends, Tells, create_turned, get_turned, update_turned, delete_turned}
use Rattle.txn_folder.specs.steps.Steps as steps
use Rattle.txn_folder.specs.steps.Listing.{ListSees, list_turned}
use Rattle.txn_folder.specs.declared.steps.place.Place.{Place}
use Rattle.txn_folder.specs.declared.steps.place.Place.TheVariants as places
use Rattle.txn_folder.specs.Replies.{IsHalt}
use Rattle.txn_folder.specs.Tokens.{IsAt}
use Rattle.txn_folder.specs.Calls.{create_start, matched}

-- the system failed, or a growth was refused: a call may end so wherever its machine is
abbrev pub Halted : {T : Type 0} → Result T StoreError → Type 0
Halted (Ok value) = ⊥
Halted (Err error) = IsHalt error

-- a machine that begins here comes to this reply, for some answers of the system
abbrev pub Replies : {S A : Type 0} → (S → A → Phase S) → S → Reply → Type 0
Replies turned start reply = ComesTo turned start (Ends (Tells reply))

module _ (names : Names) (boundary : Segments) (syncs : Bool) where
  -- A reply that is no failure is that of the call's machine: of the create of a place, of the get of one, of the update of the boundary, of the delete of a version, and of the listing of the versions after one, where that is given.
  abbrev pub IsOfMachine : Request → Reply → Type 0
  IsOfMachine (requests.Put path bytes modes.Create) (replies.Put answer) = Halted answer ⊎ ((place : Place) × IsAt names boundary path place × Replies (create_turned (place_as place) bytes) (create_start syncs) (replies.Put answer))
  IsOfMachine (requests.Put path bytes (modes.Update token)) (replies.Put answer) = Halted answer ⊎ ((place : Place) × IsAt names boundary path place × (place ≡ places.Boundary → Replies (update_turned bytes token) steps.Locks (replies.Put answer)))
  IsOfMachine (requests.Get path known) (replies.Get answer) = Halted answer ⊎ ((place : Place) × IsAt names boundary path place × Replies (get_turned (place_as place) (matched known)) steps.Looks (replies.Get answer))
  IsOfMachine (requests.Delete path) (replies.Delete answer) = Halted answer ⊎ ((place : Place) × IsAt names boundary path place × ((id : ℕ) → place ≡ places.Version id → Replies delete_turned steps.Peeks (replies.Delete answer)))
  IsOfMachine (requests.List prefix after limit) (replies.List answer) = Halted answer ⊎ ((from : Option ℕ) × (after ≡ option_map (version_path names) from) × Replies (list_turned names from limit) ListSees (replies.List answer))
  IsOfMachine request reply = Unit {0}
