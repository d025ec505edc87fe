-- What says an entry is text.
use Rattle.std.proofs.Common.{lit<, zero, suc, ◌∷◌, []}
use Rattle.std.specs.Fmt.{decimal}
use Rattle.std.specs.Str.{IsUtf8, IsAscii}
use Rattle.std.proofs.lemmas.Str.{IsUtf8-append, IsUtf8-from_ascii}
use Rattle.std.proofs.lemmas.Fmt.{IsAscii-decimal}
use Rattle.percent_encoding.specs.Percent.{percent_encode}
use Rattle.percent_encoding.proofs.PercentLemmas.{IsAscii-percent_encode}
use Rattle.txn_script_lines.specs.declared.values.text.TheConstants.{ESCAPED}
use Rattle.txn_script_lines.specs.declared.values.entry.Entry.{Entry}
use Rattle.txn_script_lines.specs.values.Text.{entry_text, IsEntry}

colon_ascii : IsAscii (58 ∷ [])
colon_ascii zero = lit< tt
colon_ascii (suc i) = lit< tt

pub entry_utf8 : (v : Entry) → IsEntry v → IsUtf8 (entry_text v)
entry_utf8 v fits = IsUtf8-append (decimal v.epoch) (58 ∷ percent_encode ESCAPED v.payload) (IsUtf8-from_ascii (decimal v.epoch) (IsAscii-decimal v.epoch fits.epoch)) (IsUtf8-append (58 ∷ []) (percent_encode ESCAPED v.payload) (IsUtf8-from_ascii (58 ∷ []) colon_ascii) (IsUtf8-from_ascii (percent_encode ESCAPED v.payload) (IsAscii-percent_encode ESCAPED v.payload)))
