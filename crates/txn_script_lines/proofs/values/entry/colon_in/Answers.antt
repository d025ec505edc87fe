use Rattle.std.proofs.Common.{sym}
use Rattle.txn_script_lines.proofs.values.EntryLemmas.{place_of}
use Rattle.txn_script_lines.proofs.values.entry.colon_in.Goals as goal

pub returns-clause-place : goal.returns-clause-place
returns-clause-place c = sym (place_of c.args.bytes.now c.before_colon.result c.before_colon.ensures.within c.before_colon.ensures.before c.before_colon.ensures.found)
