use Rattle.std.specs.Prelude.{codes}
use Rattle.txn_script_lines.specs.Grammar.{list_text}
use Rattle.txn_script_lines.proofs.Cuts.{word_number, word_rest}
use Rattle.txn_script_lines.proofs.calls.read_valueless.Goals as goal

pub returns-in-list-clause-reads : goal.returns-in-list-clause-reads
returns-in-list-clause-reads g c = word_rest c.args.text.now (codes "list") (list_text c.in_ok-from-in-list.from c.in_ok-from-in-list.to) c.in_ok-word.word c.in_ok-word.rest c.in_ok-word.ensures.cases c.in-list.is c.in_ok-from-in-list.ensures.reads

pub returns-in-read_unchecked-clause-reads : goal.returns-in-read_unchecked-clause-reads
returns-in-read_unchecked-clause-reads g c = word_number c.args.text.now (codes "read_unchecked") c.in_ok-word.word c.in_ok-word.rest c.in_ok-number.number c.in_ok-word.ensures.cases c.in-read_unchecked.is c.in_ok-number.ensures.value

pub returns-in-read_seen-clause-reads : goal.returns-in-read_seen-clause-reads
returns-in-read_seen-clause-reads g c = word_number c.args.text.now (codes "read_seen") c.in_ok-word.word c.in_ok-word.rest c.in_ok-number.number c.in_ok-word.ensures.cases c.in-read_seen.is c.in_ok-number.ensures.value

pub returns-in-delete-clause-reads : goal.returns-in-delete-clause-reads
returns-in-delete-clause-reads g c = word_number c.args.text.now (codes "delete") c.in_ok-word.word c.in_ok-word.rest c.in_ok-number.number c.in_ok-word.ensures.cases c.in-delete.is c.in_ok-number.ensures.value

pub returns-in-check-clause-reads : goal.returns-in-check-clause-reads
returns-in-check-clause-reads g c = word_number c.args.text.now (codes "check") c.in_ok-word.word c.in_ok-word.rest c.in_ok-number.number c.in_ok-word.ensures.cases c.in-check.is c.in_ok-number.ensures.value

pub returns-in-advance-clause-reads : goal.returns-in-advance-clause-reads
returns-in-advance-clause-reads g c = word_number c.args.text.now (codes "advance") c.in_ok-word.word c.in_ok-word.rest c.in_ok-number.number c.in_ok-word.ensures.cases c.in-advance.is c.in_ok-number.ensures.value

pub returns-in-refresh-clause-reads : goal.returns-in-refresh-clause-reads
returns-in-refresh-clause-reads g c = word_number c.args.text.now (codes "refresh") c.in_ok-word.word c.in_ok-word.rest c.in_ok-number.number c.in_ok-word.ensures.cases c.in-refresh.is c.in_ok-number.ensures.value

pub returns-in-claim-clause-reads : goal.returns-in-claim-clause-reads
returns-in-claim-clause-reads g c = word_number c.args.text.now (codes "claim") c.in_ok-word.word c.in_ok-word.rest c.in_ok-number.number c.in_ok-word.ensures.cases c.in-claim.is c.in_ok-number.ensures.value

pub returns-in-holder_refresh-clause-reads : goal.returns-in-holder_refresh-clause-reads
returns-in-holder_refresh-clause-reads g c = word_number c.args.text.now (codes "holder_refresh") c.in_ok-word.word c.in_ok-word.rest c.in_ok-number.number c.in_ok-word.ensures.cases c.in-holder_refresh.is c.in_ok-number.ensures.value
