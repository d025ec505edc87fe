use Rattle.std.proofs.Common.{refl}
use Rattle.txn_script_lines.proofs.Cuts.{pair_cut, pair_no_cut, clash, same}
use Rattle.txn_script_lines.proofs.numerals.read_pair.Goals as goal

pub returns-in_err-first_word-clause-all : goal.returns-in_err-first_word-clause-all
returns-in_err-first_word-clause-all c first second fits e = absurd (pair_no_cut c.args.text.now first second c.split_once.result c.split_once.ensures.cases fits.0 e c.in_err-first_word.was)

pub returns-in_err-first-clause-all : goal.returns-in_err-first-clause-all
returns-in_err-first-clause-all c first second fits e =
    let parts = pair_cut c.args.text.now first second c.split_once.result c.in_ok-first_word.first_word c.in_ok-first_word.second_word c.split_once.ensures.cases fits.0 e c.in_ok-first_word.was in
    absurd (clash c.read_decimal.result first ((c.read_decimal.ensures.exact first fits.0).1 parts.0) c.in_err-first.was)

pub returns-in_err-read_decimal-clause-all : goal.returns-in_err-read_decimal-clause-all
returns-in_err-read_decimal-clause-all c first second fits e =
    let parts = pair_cut c.args.text.now first second c.split_once.result c.in_ok-first_word.first_word c.in_ok-first_word.second_word c.split_once.ensures.cases fits.0 e c.in_ok-first_word.was in
    absurd (clash c.read_decimal-2.result second ((c.read_decimal-2.ensures.exact second fits.1).1 parts.1) c.in_err-read_decimal.was)

pub returns-clause-all : goal.returns-clause-all
returns-clause-all c first second fits e =
    let parts = pair_cut c.args.text.now first second c.split_once.result c.in_ok-first_word.first_word c.in_ok-first_word.second_word c.split_once.ensures.cases fits.0 e c.in_ok-first_word.was in
    let first_is = same c.read_decimal.result first c.in_ok-first.first ((c.read_decimal.ensures.exact first fits.0).1 parts.0) c.in_ok-first.was in
    let second_is = same c.read_decimal-2.result second c.in_ok-read_decimal.field-0 ((c.read_decimal-2.ensures.exact second fits.1).1 parts.1) c.in_ok-read_decimal.was in
    rw (first_is, second_is) refl
