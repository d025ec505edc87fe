-- The directory's text is stripped from the front, and the rest of the name from the back.
use Rattle.std.proofs.Common.{lit<, Some, None}
use Rattle.std.proofs.lemmas.Str.Pattern.{strip_suffix_char}
use Rattle.txn_store.proofs.NameLemmas.{prefix_parts, suffix_parts, other_dir, no_feed, other_suffix, no_dot, read_name}
use Rattle.txn_store.proofs.version_names.VersionNames.parse_id.Goals as goal

pub returns-in_err-name : goal.returns-in_err-name
returns-in_err-name c =
    rw (← c.self.view_is) (other_dir _ _ _ _ c.as_lines.ensures.plain c.as_lines-2.ensures.plain c.self.invariant c.as_lines.ensures.lines c.as_lines-2.ensures.lines _ c.from_residual.ensures c.in_err-name.ensures.cases)

pub returns-in_err-strip_suffix : goal.returns-in_err-strip_suffix
returns-in_err-strip_suffix c =
    let name = prefix_parts _ _ _ c.in_ok-name.ensures.cases in
    let none = strip_suffix_char 10 c.in_ok-name.name.now None c.in_err-strip_suffix.ensures.cases (lit< tt) in
    rw (← c.self.view_is) (no_feed _ _ _ _ c.as_lines.ensures.plain c.as_lines-2.ensures.plain c.self.invariant c.as_lines.ensures.lines c.as_lines-2.ensures.lines _ name _ c.from_residual-in_err-strip_suffix.ensures none)

pub returns-in_err-name-2 : goal.returns-in_err-name-2
returns-in_err-name-2 c =
    let name = prefix_parts _ _ _ c.in_ok-name.ensures.cases in
    let stem = strip_suffix_char 10 c.in_ok-name.name.now (Some c.in_ok-strip_suffix.field-0) c.in_ok-strip_suffix.ensures.cases (lit< tt) in
    rw (← c.self.view_is) (other_suffix _ _ _ _ c.as_lines.ensures.plain c.as_lines-2.ensures.plain c.self.invariant c.as_lines.ensures.lines c.as_lines-2.ensures.lines _ name _ _ stem c.as_str.ensures.value _ c.from_residual-in_err-name-2.ensures c.in_err-name-2.ensures.cases)

pub returns-in_err-strip_suffix-2 : goal.returns-in_err-strip_suffix-2
returns-in_err-strip_suffix-2 c =
    let name = prefix_parts _ _ _ c.in_ok-name.ensures.cases in
    let stem = strip_suffix_char 10 c.in_ok-name.name.now (Some c.in_ok-strip_suffix.field-0) c.in_ok-strip_suffix.ensures.cases (lit< tt) in
    let begun = suffix_parts _ _ _ c.in_ok-name-2.ensures.cases in
    let none = strip_suffix_char 46 c.in_ok-name-2.name.now None c.in_err-strip_suffix-2.ensures.cases (lit< tt) in
    rw (← c.self.view_is) (no_dot _ _ _ _ c.as_lines.ensures.plain c.as_lines-2.ensures.plain c.self.invariant c.as_lines.ensures.lines c.as_lines-2.ensures.lines _ name _ _ stem c.as_str.ensures.value _ begun _ c.from_residual-in_err-strip_suffix-2.ensures none)

pub returns : goal.returns
returns c =
    let name = prefix_parts _ _ _ c.in_ok-name.ensures.cases in
    let stem = strip_suffix_char 10 c.in_ok-name.name.now (Some c.in_ok-strip_suffix.field-0) c.in_ok-strip_suffix.ensures.cases (lit< tt) in
    let begun = suffix_parts _ _ _ c.in_ok-name-2.ensures.cases in
    let digits = strip_suffix_char 46 c.in_ok-name-2.name.now (Some c.in_ok-strip_suffix-2.field-0) c.in_ok-strip_suffix-2.ensures.cases (lit< tt) in
    rw (← c.self.view_is) (read_name _ _ _ _ c.as_lines.ensures.plain c.as_lines-2.ensures.plain c.self.invariant c.as_lines.ensures.lines c.as_lines-2.ensures.lines _ name _ _ stem c.as_str.ensures.value _ begun _ _ digits c.read_padded.ensures)
