use Rattle.std.proofs.Common.{refl}
use Rattle.txn_script_lines.proofs.Cuts.{begin_cut, begin_no_cut, clash, same}
use Rattle.txn_script_lines.proofs.line.read_begin.Goals as goal

pub returns-in_default-clause-all : goal.returns-in_default-clause-all
returns-in_default-clause-all g c client call small fits e = absurd (begin_no_cut g.C.TextForm.text c.args.words.now client call c.split_once.result c.split_once.ensures.cases small e c.in_default.is)

pub returns-in_default-read_decimal-clause-all : goal.returns-in_default-read_decimal-clause-all
returns-in_default-read_decimal-clause-all g c client call small fits e =
    let parts = begin_cut g.C.TextForm.text c.args.words.now client call c.split_once.result c.in-Some.client_word c.in-Some.rest c.split_once.ensures.cases small e c.in-Some.is in
    absurd (clash c.read_decimal.result client ((c.read_decimal.ensures.exact client small).1 parts.0) c.in_default-read_decimal.is)

pub returns-in-None-clause-all : goal.returns-in-None-clause-all
returns-in-None-clause-all g c client call small fits e =
    let parts = begin_cut g.C.TextForm.text c.args.words.now client call c.split_once.result c.in-Some.client_word c.in-Some.rest c.split_once.ensures.cases small e c.in-Some.is in
    absurd (clash c.in_ok-call.field-0 call (c.in_ok-call.ensures.all call (record { words = parts.1; numbers = fits })) c.in-None.is)

pub returns-in-Some-2-clause-all : goal.returns-in-Some-2-clause-all
returns-in-Some-2-clause-all g c client call small fits e =
    let parts = begin_cut g.C.TextForm.text c.args.words.now client call c.split_once.result c.in-Some.client_word c.in-Some.rest c.split_once.ensures.cases small e c.in-Some.is in
    let first_is = same c.read_decimal.result client c.in-Some-read_decimal.client ((c.read_decimal.ensures.exact client small).1 parts.0) c.in-Some-read_decimal.is in
    let second_is = same c.in_ok-call.field-0 call c.in-Some-2.call (c.in_ok-call.ensures.all call (record { words = parts.1; numbers = fits })) c.in-Some-2.is in
    rw (first_is, second_is) refl
