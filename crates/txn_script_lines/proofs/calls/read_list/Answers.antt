use Rattle.std.proofs.Common.{refl}
use Rattle.txn_script_lines.proofs.Cuts.{list_cut, list_no_cut, clash, same}
use Rattle.txn_script_lines.proofs.calls.read_list.Goals as goal

pub returns-in_err-from_word-clause-all : goal.returns-in_err-from_word-clause-all
returns-in_err-from_word-clause-all c from to fits e = absurd (list_no_cut c.args.text.now from to c.split_once.result c.split_once.ensures.cases fits.0 e c.in_err-from_word.was)

pub returns-in_err-from-clause-all : goal.returns-in_err-from-clause-all
returns-in_err-from-clause-all c from to fits e =
    let parts = list_cut c.args.text.now from to c.split_once.result c.in_ok-from_word.from_word c.in_ok-from_word.to_word c.split_once.ensures.cases fits.0 e c.in_ok-from_word.was in
    absurd (clash c.read_bound.result from (c.read_bound.ensures.all from fits.0 parts.0) c.in_err-from.was)

pub returns-in_err-read_bound-clause-all : goal.returns-in_err-read_bound-clause-all
returns-in_err-read_bound-clause-all c from to fits e =
    let parts = list_cut c.args.text.now from to c.split_once.result c.in_ok-from_word.from_word c.in_ok-from_word.to_word c.split_once.ensures.cases fits.0 e c.in_ok-from_word.was in
    absurd (clash c.read_bound-2.result to (c.read_bound-2.ensures.all to fits.1 parts.1) c.in_err-read_bound.was)

pub returns-clause-all : goal.returns-clause-all
returns-clause-all c from to fits e =
    let parts = list_cut c.args.text.now from to c.split_once.result c.in_ok-from_word.from_word c.in_ok-from_word.to_word c.split_once.ensures.cases fits.0 e c.in_ok-from_word.was in
    let from_is = same c.read_bound.result from c.in_ok-from.from (c.read_bound.ensures.all from fits.0 parts.0) c.in_ok-from.was in
    let to_is = same c.read_bound-2.result to c.in_ok-read_bound.field-0 (c.read_bound-2.ensures.all to fits.1 parts.1) c.in_ok-read_bound.was in
    rw (from_is, to_is) refl
