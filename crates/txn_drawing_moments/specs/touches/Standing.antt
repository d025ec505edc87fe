-- What a store call does to the versions that stand, or sees of them.
use Rattle.std.specs.Prelude.{◌≡◌, ℕ, Bool, true, false, List, take, filter, nat_lt}
use Rattle.std.specs.Ordering.{nat_cmp}
use Rattle.std.specs.BTreeSet.{BTreeSet, contains, Updates}
use Rattle.txn_drawing_moments.specs.declared.moment.Touch.{Touch}
use Rattle.txn_drawing_moments.specs.declared.moment.Touch.TheVariants as touches
use Rattle.txn_drawing_moments.specs.declared.touches.asked.Asked.{Asked}
use Rattle.txn_drawing_moments.specs.declared.touches.asked.Asked.TheVariants as asked

-- the versions that a listing tells of those that stand: the first so many above one
abbrev pub told_of : ℕ → ℕ → BTreeSet ℕ → List ℕ
told_of above most standing = take most (filter (nat_lt above) standing.keys)

-- What a call did to the object, or saw of it, where these versions stand and these were ever created. No word of what a created version says.
abbrev pub IsTouched : BTreeSet ℕ → BTreeSet ℕ → Asked → Bool → Touch → Type 0
IsTouched standing created asked.Nothing is_changed touches.None = Unit {0}
IsTouched standing created (asked.Create id value) is_changed (touches.Creates it says epoch is_made is_again) = (it ≡ id) × (is_made ≡ is_changed) × (is_again ≡ contains nat_cmp created id)
IsTouched standing created (asked.Get id) is_changed (touches.Gets it is_there) = (it ≡ id) × (is_there ≡ contains nat_cmp standing id)
IsTouched standing created asked.ReadBoundary is_changed touches.ReadsBoundary = Unit {0}
IsTouched standing created (asked.Raise boundary) is_changed (touches.Raises to is_raised) = (to ≡ boundary) × (is_raised ≡ is_changed)
IsTouched standing created (asked.List above most) is_changed (touches.Lists ids) = ids.items ≡ told_of above most standing
IsTouched standing created (asked.Remove id) is_changed (touches.Removes it is_removed) = (it ≡ id) × (is_removed ≡ is_changed)
IsTouched _ _ _ _ _ = ⊥

-- which versions stand after it
abbrev pub Settles : Touch → BTreeSet ℕ → BTreeSet ℕ → Type 0
Settles (touches.Creates id value epoch true is_again) old new = Updates nat_cmp old new id true
Settles (touches.Removes id true) old new = Updates nat_cmp old new id false
Settles _ old new = new ≡ old

-- which versions were ever created after it
abbrev pub Creates : Touch → BTreeSet ℕ → BTreeSet ℕ → Type 0
Creates (touches.Creates id value epoch true is_again) old new = Updates nat_cmp old new id true
Creates _ old new = new ≡ old
