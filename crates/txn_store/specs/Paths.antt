-- Paths as callers see them: lists of segments, each a list of bytes.
use Rattle.std.specs.Prelude.{ℕ, ◌==◌, Bool, ◌&&◌, ◌||◌, not, List, [], ◌∷◌, length, filter, nat_eq, nat_lt}
use Rattle.std.specs.Char.{is_ascii_alphanumeric}
use Rattle.std.specs.List.{slice_split, join_with_byte, list_all, starts_with}
use Rattle.std.specs.declared.cmp.Ordering.{Ordering}
use Rattle.std.specs.Ordering.{nat_cmp}
use Rattle.std.specs.Cmp.Lexicographic.{slice_cmp, pointwise}

-- the segments, each as its bytes
abbrev pub Segments : Type 0
Segments = List (List ℕ)

-- the order of paths: by segments, each by bytes
abbrev pub path_cmp : Segments → Segments → Ordering
path_cmp = slice_cmp (slice_cmp nat_cmp)

-- an ASCII letter, a digit, `-`, `_` or `.`
abbrev pub is_plain_byte : ℕ → Bool
is_plain_byte b = is_ascii_alphanumeric b || b == 45 || b == 95 || b == 46

-- `.` or `..`
abbrev pub is_dots : List ℕ → Bool
is_dots s = pointwise nat_eq s (46 ∷ []) || pointwise nat_eq s (46 ∷ 46 ∷ [])

-- a plain segment: not empty, not `.` or `..`, and of plain bytes alone
abbrev pub is_plain : List ℕ → Bool
is_plain s = not (length s == 0) && not (is_dots s) && list_all is_plain_byte s

abbrev pub all_plain : Segments → Bool
all_plain ss = list_all is_plain ss

-- the parts that are not empty
abbrev pub named : Segments → Segments
named ps = filter (λ p. not (length p == 0)) ps

-- what stands between the slashes of a text, empty parts dropped
abbrev pub parts : List ℕ → Segments
parts text = named (slice_split (λ b. b == 47) text)

-- the segments joined by slashes
abbrev pub shown : Segments → List ℕ
shown path = join_with_byte 47 path

-- a path that is strictly below a prefix: the segments of the prefix, and at least one more
abbrev pub is_below : Segments → Segments → Bool
is_below prefix path = starts_with (pointwise nat_eq) path prefix && nat_lt (length prefix) (length path)
