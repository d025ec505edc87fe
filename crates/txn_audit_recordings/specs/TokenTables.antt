-- Words of private contracts: the tokens that were renamed so far.
use Rattle.std.specs.Prelude.{◌≡◌, ◌≤◌, ℕ, Some}
use Rattle.std.specs.declared.cmp.Ordering.{Ordering}
use Rattle.std.specs.Ordering.{nat_cmp, ordering_then}
use Rattle.std.specs.BTreeMap.{BTreeMap, get}
use Rattle.txn_store.specs.Paths.{Segments, path_cmp}
use Rattle.txn_audit_recordings.specs.Tokens.{Renaming}

-- by tokens, and then by paths
abbrev pub key_cmp : ℕ × Segments → ℕ × Segments → Ordering
key_cmp key other = ordering_then (nat_cmp key.0 other.0) (path_cmp key.1 other.1)

-- what tokens become by a map
abbrev pub renaming_in : BTreeMap (ℕ × Segments) ℕ → Renaming
renaming_in map path token = get key_cmp map (token, path)

-- no token becomes one above this
abbrev pub IsUpTo : ℕ → Renaming → Type 0
IsUpTo last becomes = (path : Segments) (token new : ℕ) → becomes path token ≡ Some new → new ≤ last

-- what became of a token stays so
abbrev pub Extends : Renaming → Renaming → Type 0
Extends before after = (path : Segments) (token new : ℕ) → before path token ≡ Some new → after path token ≡ Some new
