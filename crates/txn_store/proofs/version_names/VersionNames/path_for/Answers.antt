-- The name is the number in 20 digits, a dot and the suffix.
use Rattle.std.proofs.Common.{◌≡◌, ◌∙◌, sym, ap, string_bytes, ◌++◌, ◌∷◌, [], Ok, Err, rules}
use Rattle.std.specs.Fmt.{styled_decimal}
use Rattle.txn_store.specs.PathText.{lines_of}
use Rattle.txn_store.specs.VersionName.{Names, version_path}
use Rattle.txn_store.proofs.NameLemmas.{version_text, version_all_plain, version_written}
use Rattle.txn_store.proofs.ShortTexts.{written}
use Rattle.txn_store.proofs.TextLemmas.{kept, shows}
use Rattle.txn_store.proofs.version_names.VersionNames.path_for.Goals as goal
use Rattle.txn_store.proofs.version_names.VersionNames.path_for.Goals.{Then-is_ok, In_ok-write}

abbrev short_names : Then-is_ok → Names
short_names c = record { dir = c.self.inside.dir; suffix = string_bytes c.self.inside.suffix }

short_text_is : (c : Then-is_ok) → c.write.new.self.bytes ≡ lines_of (version_path (short_names c) c.args.number)
short_text_is c =
    written c.new-short.result c.write.new.self (c.as_lines-dir.result.now ++ (styled_decimal c.laid_out.result c.args.number ++ (46 ∷ (c.as_str-suffix.result.now ++ 10 ∷ [])))) (search (rules))
    ∙ version_written _ c.args.number _ _ _ _ _ c.new-short.ensures c.as_lines-dir.ensures.lines c.laid_out.ensures c.as_str-suffix.ensures.value
    ∙ sym (version_text (short_names c) c.as_lines-dir.ensures.plain c.self.invariant c.args.number c.ranges.number.fits)

pub from_short_lines-requires : goal.from_short_lines-requires
from_short_lines-requires c = kept _ _ (version_all_plain (short_names c) c.as_lines-dir.ensures.plain c.self.invariant c.args.number c.ranges.number.fits) (short_text_is c)

pub returns-then-is_ok : goal.returns-then-is_ok
returns-then-is_ok c =
    let made = (goal.at.returns-then-is_ok c).Then-is_ok in
    c.from_short_lines.ensures
    ∙ shows _ _ (version_all_plain (short_names made) c.as_lines-dir.ensures.plain c.self.invariant c.args.number c.ranges.number.fits) (short_text_is made)
    ∙ ap (λ (v : Names). version_path v c.args.number) c.self.view_is

abbrev names : In_ok-write → Names
names c = record { dir = c.self.inside.dir; suffix = string_bytes c.self.inside.suffix }

text_is : (c : In_ok-write) → string_bytes c.write-2.new.self ≡ lines_of (version_path (names c) c.args.number)
text_is c =
    let wrote : string_bytes c.write-2.new.self ≡ string_bytes c.in_ok-text.text ++ (c.as_lines-dir.result.now ++ (styled_decimal c.laid_out-2.result c.args.number ++ (46 ∷ (c.as_str-suffix.result.now ++ 10 ∷ [])))) = c.in_ok-write.ensures.bytes in
    wrote
    ∙ version_written _ c.args.number _ _ _ _ _ c.in_ok-text.ensures.bytes c.as_lines-dir.ensures.lines c.laid_out-2.ensures c.as_str-suffix.ensures.value
    ∙ sym (version_text (names c) c.as_lines-dir.ensures.plain c.self.invariant c.args.number c.ranges.number.fits)

pub from_lines-requires : goal.from_lines-requires
from_lines-requires c = kept _ _ (version_all_plain (names c) c.as_lines-dir.ensures.plain c.self.invariant c.args.number c.ranges.number.fits) (text_is c)

pub returns : goal.returns
returns c =
    let made = (goal.at.returns c).In_ok-write in
    c.from_lines.ensures
    ∙ shows _ _ (version_all_plain (names made) c.as_lines-dir.ensures.plain c.self.invariant c.args.number c.ranges.number.fits) (text_is made)
    ∙ ap (λ (v : Names). version_path v c.args.number) c.self.view_is
