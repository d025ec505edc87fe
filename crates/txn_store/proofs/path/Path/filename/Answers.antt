-- The last line of the text.
use Rattle.std.proofs.Common.{◌∙◌, ap, sym, lit<, Some, None}
use Rattle.std.specs.Option.{option_copied}
use Rattle.std.proofs.lemmas.Str.Pattern.{strip_suffix_char}
use Rattle.txn_store.specs.PathText.{lines_of}
use Rattle.txn_store.proofs.LastLine.{no_line, only_line, last_line, feed_parts, no_feed}
use Rattle.txn_store.proofs.path.Path.filename.Goals as goal

pub returns-in_err-lines : goal.returns-in_err-lines
returns-in_err-lines c =
    let none = strip_suffix_char 10 c.as_str.result.now None c.in_err-lines.ensures.cases (lit< tt) in
    let text = c.as_str.ensures.value ∙ c.self.invariant.whole ∙ ap lines_of c.self.view_is in
    ap option_copied c.from_residual.ensures ∙ no_line c.args.self.now (λ front e. none front (text ∙ e))

pub returns-in-Some : goal.returns-in-Some
returns-in-Some c =
    let is = sym c.as_str.ensures.value ∙ strip_suffix_char 10 c.as_str.result.now (Some c.in_ok-lines.lines) c.in_ok-lines.ensures.cases (lit< tt) in
    let parts = feed_parts c.in_ok-lines.lines.now c.in-Some.field-0-0.now c.in-Some.last.now c.in-Some.ensures.cases in
    last_line _ c.in_ok-lines.lines.now c.args.self.now c.self.view_is is c.in-Some.field-0-0.now c.in-Some.last.now parts.0 parts.1

pub returns-in-None : goal.returns-in-None
returns-in-None c =
    let is = sym c.as_str.ensures.value ∙ strip_suffix_char 10 c.as_str.result.now (Some c.in_ok-lines.lines) c.in_ok-lines.ensures.cases (lit< tt) in
    only_line _ c.in_ok-lines.lines.now c.args.self.now c.self.view_is is (no_feed c.in_ok-lines.lines.now c.in-None.ensures.cases)
