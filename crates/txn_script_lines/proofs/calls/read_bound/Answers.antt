use Rattle.txn_script_lines.proofs.Cuts.{no_bound, not_dash}
use Rattle.txn_script_lines.proofs.calls.read_bound.Goals as goal

pub returns-in_err-strip_prefix-clause-all : goal.returns-in_err-strip_prefix-clause-all
unfolding lib.Utf8.encode
returns-in_err-strip_prefix-clause-all c bound fits e = absurd (no_bound c.args.text.now bound (not_dash c.args.text.now c.eq.result c.eq.ensures c.if-eq.false) c.in_default.ensures.cases c.in_err-strip_prefix.ensures.cases e)
