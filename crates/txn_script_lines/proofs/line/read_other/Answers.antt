use Rattle.std.specs.Prelude.{codes}
use Rattle.txn_script_lines.proofs.Cuts.{word_number}
use Rattle.txn_script_lines.proofs.line.read_other.Goals as goal

pub returns-in-clients-clause-reads : goal.returns-in-clients-clause-reads
returns-in-clients-clause-reads g c = word_number c.args.words.now (codes "clients") c.in_ok-word.word c.in_ok-word.rest c.in_ok-number.number c.in_ok-word.ensures.cases c.in-clients.is c.in_ok-number.ensures.value

pub returns-in-page-clause-reads : goal.returns-in-page-clause-reads
returns-in-page-clause-reads g c = word_number c.args.words.now (codes "page") c.in_ok-word.word c.in_ok-word.rest c.in_ok-number.number c.in_ok-word.ensures.cases c.in-page.is c.in_ok-number.ensures.value

pub returns-in-run-clause-reads : goal.returns-in-run-clause-reads
returns-in-run-clause-reads g c = word_number c.args.words.now (codes "run") c.in_ok-word.word c.in_ok-word.rest c.in_ok-number.number c.in_ok-word.ensures.cases c.in-run.is c.in_ok-number.ensures.value

pub returns-in-look-clause-reads : goal.returns-in-look-clause-reads
returns-in-look-clause-reads g c = word_number c.args.words.now (codes "look") c.in_ok-word.word c.in_ok-word.rest c.in_ok-number.number c.in_ok-word.ensures.cases c.in-look.is c.in_ok-number.ensures.value

pub returns-in-serve-clause-reads : goal.returns-in-serve-clause-reads
returns-in-serve-clause-reads g c = word_number c.args.words.now (codes "serve") c.in_ok-word.word c.in_ok-word.rest c.in_ok-number.number c.in_ok-word.ensures.cases c.in-serve.is c.in_ok-number.ensures.value

pub returns-in-giveup-clause-reads : goal.returns-in-giveup-clause-reads
returns-in-giveup-clause-reads g c = word_number c.args.words.now (codes "giveup") c.in_ok-word.word c.in_ok-word.rest c.in_ok-number.number c.in_ok-word.ensures.cases c.in-giveup.is c.in_ok-number.ensures.value

pub returns-in-land-clause-reads : goal.returns-in-land-clause-reads
returns-in-land-clause-reads g c = word_number c.args.words.now (codes "land") c.in_ok-word.word c.in_ok-word.rest c.in_ok-number.number c.in_ok-word.ensures.cases c.in-land.is c.in_ok-number.ensures.value

pub returns-in-crash-clause-reads : goal.returns-in-crash-clause-reads
returns-in-crash-clause-reads g c = word_number c.args.words.now (codes "crash") c.in_ok-word.word c.in_ok-word.rest c.in_ok-number.number c.in_ok-word.ensures.cases c.in-crash.is c.in_ok-number.ensures.value
