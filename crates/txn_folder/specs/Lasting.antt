-- What a process knows to last when the power fails.
use Rattle.std.specs.Prelude.{ℕ, Bool, false, Option, Some, None, nat_le, ◌==◌, if◌then◌else◌}
use Rattle.txn_folder.specs.declared.lasting.Lasting.{Lasting}
use Rattle.txn_folder.specs.declared.steps.place.Place.{Place}
use Rattle.txn_folder.specs.declared.steps.place.Place.TheVariants as places

-- the greatest id is at least this one
abbrev pub reaches : Option ℕ → ℕ → Bool
reaches None id = false
reaches (Some last) id = nat_le id last

-- the two are one number
abbrev pub is_same_number : Option ℕ → Option ℕ → Bool
is_same_number (Some known) (Some number) = number == known
is_same_number known number = false

-- the file of this number at a place is known to last
abbrev pub is_known : Lasting → Place → Option ℕ → Bool
is_known l (places.Version id) number = reaches l.versions id
is_known l places.Boundary number = is_same_number l.boundary number

-- what is known once the file of this number at a place lasts as well
abbrev pub known_with : Place → Option ℕ → Lasting → Lasting
known_with (places.Version id) number l = if reaches l.versions id then l else record { versions = Some id; boundary = l.boundary }
known_with places.Boundary number l = record { versions = l.versions; boundary = number }
