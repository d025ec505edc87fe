-- The names of versions.
use Rattle.std.specs.Prelude.{◌≡◌, ℕ, Bool, ◌&&◌, not, ◌==◌, List, [], ◌∷◌, ◌++◌, length, true}
use Rattle.std.specs.List.{list_all}
use Rattle.std.specs.Char.{is_ascii_digit}
use Rattle.std.specs.Str.Parse.{digits_value}
use Rattle.txn_store.specs.Paths.{Segments, is_plain}
use Rattle.txn_store.specs.Digits.{padded}

-- a directory and a suffix
pub record Names : Type 0 where
  pub dir : Segments
  pub suffix : List ℕ

-- a plain segment without a dot
abbrev pub is_suffix : List ℕ → Bool
is_suffix s = is_plain s && list_all (λ b. not (b == 46)) s

-- twenty decimal digits, whose number is n
pub record AreDigitsOf (n : ℕ) (ds : List ℕ) : Type 0 where
  pub twenty : length ds ≡ 20
  pub digits : list_all is_ascii_digit ds ≡ true
  pub number : digits_value 10 ds ≡ n

-- the digits, a dot and the suffix
abbrev pub version_name : List ℕ → ℕ → List ℕ
version_name suffix n = padded n ++ 46 ∷ suffix

-- the directory and this one segment
abbrev pub version_path : Names → ℕ → Segments
version_path names n = names.dir ++ version_name names.suffix n ∷ []
