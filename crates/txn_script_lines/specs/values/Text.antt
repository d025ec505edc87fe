-- The text of an entry.
use Rattle.std.specs.Prelude.{ℕ, ◌<◌, ◌^◌, List, ◌∷◌, ◌++◌, All}
use Rattle.std.specs.Fmt.{decimal}
use Rattle.percent_encoding.specs.Percent.{percent_encode}
use Rattle.txn_script_lines.specs.declared.values.text.TheConstants.{ESCAPED}
use Rattle.txn_script_lines.specs.declared.values.entry.Entry.{Entry}

-- the epoch as a plain decimal, a colon, and the payload with each byte that is no graphic one of ASCII, and `%`, as `%` and two upper-case hexadecimal digits
abbrev pub entry_text : Entry → List ℕ
entry_text v = decimal v.epoch ++ 58 ∷ percent_encode ESCAPED v.payload

-- an epoch below 2 ^ 64, and bytes
pub record IsEntry (v : Entry) : Type 0 where
  pub epoch : v.epoch < 2 ^ 64
  pub payload : All (λ b. b < 256) v.payload
