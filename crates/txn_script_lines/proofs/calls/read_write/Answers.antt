use Rattle.std.proofs.Common.{refl}
use Rattle.txn_script_lines.proofs.Cuts.{write_cut, write_no_cut, clash, same}
use Rattle.txn_script_lines.proofs.calls.read_write.Goals as goal

pub returns-in_default-clause-all : goal.returns-in_default-clause-all
returns-in_default-clause-all g c base value fits e = absurd (write_no_cut g.T.TextForm.text c.args.words.now base value c.split_once.result c.split_once.ensures.cases fits.0 e c.in_default.is)

pub returns-in_default-read_base-clause-all : goal.returns-in_default-read_base-clause-all
returns-in_default-read_base-clause-all g c base value fits e =
    let parts = write_cut g.T.TextForm.text c.args.words.now base value c.split_once.result c.in-Some.base_word c.in-Some.rest c.split_once.ensures.cases fits.0 e c.in-Some.is in
    absurd (clash c.read_base.result base (c.read_base.ensures.all base fits.0 parts.0) c.in_default-read_base.is)

pub returns-in-None-clause-all : goal.returns-in-None-clause-all
returns-in-None-clause-all g c base value fits e =
    let parts = write_cut g.T.TextForm.text c.args.words.now base value c.split_once.result c.in-Some.base_word c.in-Some.rest c.split_once.ensures.cases fits.0 e c.in-Some.is in
    absurd (clash c.in_ok-value.field-0 value (c.in_ok-value.ensures.all value (record { words = parts.1; numbers = fits.1 })) c.in-None.is)

pub returns-in-Some-2-clause-all : goal.returns-in-Some-2-clause-all
returns-in-Some-2-clause-all g c base value fits e =
    let parts = write_cut g.T.TextForm.text c.args.words.now base value c.split_once.result c.in-Some.base_word c.in-Some.rest c.split_once.ensures.cases fits.0 e c.in-Some.is in
    let base_is = same c.read_base.result base c.in-Some-read_base.base (c.read_base.ensures.all base fits.0 parts.0) c.in-Some-read_base.is in
    let value_is = same c.in_ok-value.field-0 value c.in-Some-2.value (c.in_ok-value.ensures.all value (record { words = parts.1; numbers = fits.1 })) c.in-Some-2.is in
    rw (base_is, value_is) refl
