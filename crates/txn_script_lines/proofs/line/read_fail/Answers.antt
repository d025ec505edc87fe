use Rattle.std.proofs.Common.{refl}
use Rattle.txn_script_lines.proofs.Cuts.{fail_cut, fail_no_cut, clash, same}
use Rattle.txn_script_lines.proofs.line.read_fail.Goals as goal

pub returns-in_err-op_word-clause-all : goal.returns-in_err-op_word-clause-all
returns-in_err-op_word-clause-all c op failure small e = absurd (fail_no_cut c.args.text.now op failure c.split_once.result c.split_once.ensures.cases small e c.in_err-op_word.was)

pub returns-in_err-op-clause-all : goal.returns-in_err-op-clause-all
returns-in_err-op-clause-all c op failure small e =
    let parts = fail_cut c.args.text.now op failure c.split_once.result c.in_ok-op_word.op_word c.in_ok-op_word.failure_word c.split_once.ensures.cases small e c.in_ok-op_word.was in
    absurd (clash c.read_decimal.result op ((c.read_decimal.ensures.exact op small).1 parts.0) c.in_err-op.was)

pub returns-in_err-read_failure-clause-all : goal.returns-in_err-read_failure-clause-all
returns-in_err-read_failure-clause-all c op failure small e =
    let parts = fail_cut c.args.text.now op failure c.split_once.result c.in_ok-op_word.op_word c.in_ok-op_word.failure_word c.split_once.ensures.cases small e c.in_ok-op_word.was in
    absurd (clash c.read_failure.result failure (c.read_failure.ensures.all failure parts.1) c.in_err-read_failure.was)

pub returns-clause-all : goal.returns-clause-all
returns-clause-all c op failure small e =
    let parts = fail_cut c.args.text.now op failure c.split_once.result c.in_ok-op_word.op_word c.in_ok-op_word.failure_word c.split_once.ensures.cases small e c.in_ok-op_word.was in
    let op_is = same c.read_decimal.result op c.in_ok-op.op ((c.read_decimal.ensures.exact op small).1 parts.0) c.in_ok-op.was in
    let failure_is = same c.read_failure.result failure c.in_ok-read_failure.field-0 (c.read_failure.ensures.all failure parts.1) c.in_ok-read_failure.was in
    rw (op_is, failure_is) refl
