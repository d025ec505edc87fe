-- The text is cut at its first colon.
use Rattle.std.proofs.Common.{◌≡◌, rules, List, ℕ}
use Rattle.std.specs.Str.{IsUtf8}
use denote.Ref.{Bor}
use Rattle.txn_store.proofs.types.BoundaryLemmas.{at_none, at_some}
use Rattle.txn_script_lines.proofs.RecordLemmas.{not_utf8, no_colon, bad_epoch, bad_payload, reads}
use Rattle.txn_script_lines.proofs.record.read_record.Goals as goal

pub returns-in_err-ok-clause-exact : goal.returns-in_err-ok-clause-exact
returns-in_err-ok-clause-exact c = rw c.from_residual.ensures (not_utf8 c.args.bytes.now (at_none _ _ _ c.from_utf8.result c.from_utf8.ensures.cases c.in_err-ok.ensures.value))

pub returns-in_err-epoch-clause-exact : goal.returns-in_err-epoch-clause-exact
returns-in_err-epoch-clause-exact c =
    let text = at_some (λ (s : Bor (List ℕ)). (s.now ≡ c.args.bytes.now) × IsUtf8 c.args.bytes.now) _ c.from_utf8.result c.in_ok-ok.field-0 c.from_utf8.ensures.cases c.in_ok-ok.ensures.value in
    rw (c.from_residual-in_err-epoch.ensures, ← text.0) (no_colon c.in_ok-ok.field-0.now c.in_err-epoch.ensures.cases)

pub returns-in_err-epoch-2-clause-exact : goal.returns-in_err-epoch-2-clause-exact
returns-in_err-epoch-2-clause-exact c =
    let text = at_some (λ (s : Bor (List ℕ)). (s.now ≡ c.args.bytes.now) × IsUtf8 c.args.bytes.now) _ c.from_utf8.result c.in_ok-ok.field-0 c.from_utf8.ensures.cases c.in_ok-ok.ensures.value in
    rw (c.from_residual-in_err-epoch-2.ensures, ← text.0) (bad_epoch c.in_ok-ok.field-0.now (c.in_ok-epoch.epoch, c.in_ok-epoch.payload) c.in_ok-epoch.ensures.cases c.in_err-epoch-2.ensures.exact)

pub returns-in_err-payload-clause-exact : goal.returns-in_err-payload-clause-exact
returns-in_err-payload-clause-exact c =
    let text = at_some (λ (s : Bor (List ℕ)). (s.now ≡ c.args.bytes.now) × IsUtf8 c.args.bytes.now) _ c.from_utf8.result c.in_ok-ok.field-0 c.from_utf8.ensures.cases c.in_ok-ok.ensures.value in
    rw (c.from_residual-in_err-payload.ensures, ← text.0) (bad_payload c.in_ok-ok.field-0.now (c.in_ok-epoch.epoch, c.in_ok-epoch.payload) c.in_ok-epoch.ensures.cases c.in_err-payload.ensures.exact)

pub returns-clause-exact : goal.returns-clause-exact
returns-clause-exact c =
    let text = at_some (λ (s : Bor (List ℕ)). (s.now ≡ c.args.bytes.now) × IsUtf8 c.args.bytes.now) _ c.from_utf8.result c.in_ok-ok.field-0 c.from_utf8.ensures.cases c.in_ok-ok.ensures.value in
    rw (← text.0) (reads c.in_ok-ok.field-0.now (c.in_ok-epoch.epoch, c.in_ok-epoch.payload) c.in_ok-epoch-2.epoch c.in_ok-payload.payload (search rules) (search rules) c.in_ok-epoch.ensures.cases c.in_ok-epoch-2.ensures.exact c.in_ok-payload.ensures.exact)
