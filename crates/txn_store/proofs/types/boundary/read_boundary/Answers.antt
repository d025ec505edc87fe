use Rattle.std.proofs.Common.{◌≡◌, ◌∙◌, ap, List, ℕ}
use Rattle.std.specs.Str.{IsUtf8, trim}
use denote.Ref.{Bor}
use Rattle.txn_store.proofs.types.BoundaryLemmas.{not_text, read_text, at_none, at_some}
use Rattle.txn_store.proofs.types.boundary.read_boundary.Goals as goal

pub returns-in_err-ok : goal.returns-in_err-ok
returns-in_err-ok c = c.from_residual.ensures ∙ not_text c.args.bytes.now (at_none _ _ _ c.from_utf8.result c.from_utf8.ensures.cases c.in_err-ok.ensures.value)

pub returns : goal.returns
returns c =
    let text = at_some (λ (s : Bor (List ℕ)). (s.now ≡ c.args.bytes.now) × IsUtf8 c.args.bytes.now) _ c.from_utf8.result c.in_ok-ok.field-0 c.from_utf8.ensures.cases c.in_ok-ok.ensures.value in
    c.ok-2.ensures.value ∙ read_text c.args.bytes.now c.trim.result.now c.parse.result text.1 (c.trim.ensures.trim ∙ ap trim text.0) c.parse.ensures.value.0
