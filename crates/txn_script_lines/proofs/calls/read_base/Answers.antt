use Rattle.txn_script_lines.proofs.Cuts.{dash_is_none}
use Rattle.txn_script_lines.proofs.calls.read_base.Goals as goal

pub returns-then-eq-clause-all : goal.returns-then-eq-clause-all
returns-then-eq-clause-all c base fits e = dash_is_none c.args.text.now base c.eq.result c.eq.ensures c.if-eq.true fits e
