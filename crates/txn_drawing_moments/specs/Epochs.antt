-- Which client holds which epoch. Clients are numbered from 1, and stand in that order.
use Rattle.std.specs.Prelude.{◌≡◌, ℕ, ◌+◌, ◌-◌, Bool, ◌==◌, if◌then◌else◌, nat_lt, List, [], ◌∷◌, ◌++◌, slice_set, Option, Some, None}
use Rattle.txn_drawing_moments.specs.declared.holds.Hold.{Hold}
use Rattle.txn_drawing_moments.specs.declared.holds.Hold.TheVariants as held
use Rattle.txn_drawing_moments.specs.declared.holds.ShutOut.{ShutOut}
use Rattle.txn_drawing_moments.specs.declared.moment.Kind.{Kind}
use Rattle.txn_drawing_moments.specs.declared.moment.Kind.TheVariants as kinds
use Rattle.txn_drawing_moments.specs.declared.moment.Moment.{Moment}
use Rattle.txn_drawing_moments.specs.declared.moment.Said.{Said}
use Rattle.txn_drawing_moments.specs.declared.moment.Touch.{Touch}
use Rattle.txn_drawing_moments.specs.declared.moment.Touch.TheVariants as touches

-- A client holds this from here on, where there is a client of that number.
abbrev pub with_hold : List Hold → ℕ → Hold → List Hold
with_hold all client hold = if client == 0 then all else slice_set all (client - 1) hold

-- what a client holds that was made the holder of an epoch, where this one is the greatest that has come in
abbrev pub hold_of : ℕ → ℕ → Hold
hold_of greatest epoch = if nat_lt epoch greatest then held.ShutOut epoch else held.Epoch epoch

-- A client that crashes holds nothing.
abbrev pub after_kind : Kind → ℕ → List Hold → List Hold
after_kind kinds.Crashes client all = with_hold all client held.None
after_kind kinds.Killed client all = with_hold all client held.None
after_kind _ client all = all

abbrev pub after_made : ℕ → Option ℕ → ℕ → List Hold → List Hold
after_made greatest None client all = all
after_made greatest (Some epoch) client all = with_hold all client (hold_of greatest epoch)

-- An answer may make its client a holder.
abbrev pub after_answer : ℕ → Option Said → ℕ → List Hold → List Hold
after_answer greatest None client all = all
after_answer greatest (Some said) client all = after_made greatest said.held client all

-- what clients hold after a moment, before a greater epoch comes in by it
abbrev pub holds_after : ℕ → Moment → List Hold → List Hold
holds_after greatest moment all = after_answer greatest moment.answer moment.client (after_kind moment.kind moment.client all)

-- One more operation is known after a begin: whether it is a claim.
abbrev pub IsNotedClaim : Kind → List Bool → List Bool → Type 0
IsNotedClaim kinds.Begins old new = (is_claim : Bool) × (new ≡ old ++ is_claim ∷ [])
IsNotedClaim _ old new = new ≡ old

-- the greater epoch that comes in where a version is created
abbrev pub epoch_in : ℕ → Touch → Option ℕ
epoch_in greatest (touches.Creates _ _ epoch is_made _) = if is_made then (if nat_lt greatest epoch then Some epoch else None) else None
epoch_in greatest _ = None

-- what is held once an epoch has come in
abbrev pub shut_by : ℕ → Hold → Hold
shut_by epoch held.None = held.None
shut_by epoch (held.Epoch mine) = if nat_lt mine epoch then held.ShutOut mine else held.Epoch mine
shut_by epoch (held.ShutOut mine) = held.ShutOut mine

-- a client that is shut out by an epoch, if it is
abbrev pub out_by : ℕ → ℕ → Hold → List ShutOut
out_by epoch client held.None = []
out_by epoch client (held.Epoch mine) = if nat_lt mine epoch then record { client = client; epoch = mine } ∷ [] else []
out_by epoch client (held.ShutOut mine) = []

-- the clients that are shut out by an epoch, in their order, where the first has this number
abbrev pub all_out_by : ℕ → ℕ → List Hold → List ShutOut
all_out_by epoch client [] = []
all_out_by epoch client (hold ∷ rest) = out_by epoch client hold ++ all_out_by epoch (client + 1) rest
