-- What says a record is text.
use Rattle.std.proofs.Common.{refl}
use Rattle.std.specs.Fmt.{decimal}
use Rattle.std.specs.Str.{IsUtf8}
use Rattle.txn_script_lines.specs.declared.record.Record.{Record}
use Rattle.txn_script_lines.specs.Record.{record_text, IsNumbers}
use Rattle.txn_script_lines.specs.TextLaws.{between_utf8, number_utf8}

pub record_utf8 : (v : Record) → IsNumbers v → IsUtf8 (record_text v)
record_utf8 v fits = between_utf8 (decimal v.epoch) (decimal v.payload) 58 refl (number_utf8 v.epoch fits.epoch) (number_utf8 v.payload fits.payload)
