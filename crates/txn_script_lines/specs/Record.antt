-- The text of a record.
use Rattle.std.specs.Prelude.{ℕ, ◌<◌, ◌^◌, ◌==◌, List, [], ◌∷◌, ◌++◌, Option, Some, None}
use Rattle.std.specs.List.{slice_split}
use Rattle.std.specs.Fmt.{decimal}
use Rattle.txn_script_lines.specs.Numerals.{decimal_read}
use Rattle.txn_script_lines.specs.declared.record.Record.{Record}

-- the epoch, a colon and the payload
abbrev pub record_text : Record → List ℕ
record_text v = decimal v.epoch ++ 58 ∷ decimal v.payload

-- both are below 2 ^ 64
pub record IsNumbers (v : Record) : Type 0 where
  pub epoch : v.epoch < 2 ^ 64
  pub payload : v.payload < 2 ^ 64

-- the record of two numbers
abbrev pub both : Option ℕ → Option ℕ → Option Record
both (Some epoch) (Some payload) = Some (record { epoch = epoch; payload = payload })
both epoch payload = None

-- two parts, each a plain decimal
abbrev pub of_parts : List (List ℕ) → Option Record
of_parts (epoch ∷ payload ∷ []) = both (decimal_read epoch) (decimal_read payload)
of_parts parts = None

-- the record of a text that is cut at its colons
abbrev pub record_read : List ℕ → Option Record
record_read bytes = of_parts (slice_split (λ b. b == 58) bytes)
