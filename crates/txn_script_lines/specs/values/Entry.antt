-- The bytes of an entry.
use Rattle.std.specs.Prelude.{ℕ, ◌==◌, List, ◌∷◌, ◌++◌, Option, Some, None, Bool, if◌then◌else◌, length, nat_lt}
use Rattle.std.specs.Fmt.{decimal}
use Rattle.std.specs.List.{before_first, after_first, position_or_len}
use Rattle.txn_script_lines.specs.Numerals.{decimal_read}
use Rattle.txn_script_lines.specs.declared.values.entry.Entry.{Entry}

-- the epoch as a plain decimal, a colon and the payload
abbrev pub entry_bytes : Entry → List ℕ
entry_bytes v = decimal v.epoch ++ 58 ∷ v.payload

abbrev pub is_colon : ℕ → Bool
is_colon b = b == 58

abbrev pub with_payload : List ℕ → Option ℕ → Option Entry
with_payload payload None = None
with_payload payload (Some epoch) = Some (record { epoch = epoch; payload = payload })

-- a plain decimal before the first colon, and what follows it
abbrev pub entry_read : List ℕ → Option Entry
entry_read bytes = if nat_lt (position_or_len is_colon bytes) (length bytes) then with_payload (after_first is_colon bytes) (decimal_read (before_first is_colon bytes)) else None
