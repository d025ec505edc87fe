use Rattle.txn_audit.proofs.recordings.stage.Rebuilding.make.Goals as goal

pub returns-in-Begin-clause-told : goal.returns-in-Begin-clause-told
returns-in-Begin-clause-told g c = rw c.in-Begin.is c.begin.ensures.told

pub returns-in-Ask-clause-told : goal.returns-in-Ask-clause-told
returns-in-Ask-clause-told g c = rw c.in-Ask.is c.ask.ensures.told

pub returns-in-Reply-clause-told : goal.returns-in-Reply-clause-told
returns-in-Reply-clause-told g c = rw c.in-Reply.is c.reply.ensures.told

pub returns-in-Failed-clause-told : goal.returns-in-Failed-clause-told
returns-in-Failed-clause-told g c = rw c.in-Failed.is c.fail.ensures.told

pub returns-in-GiveUp-clause-told : goal.returns-in-GiveUp-clause-told
returns-in-GiveUp-clause-told g c = rw c.in-GiveUp.is c.give_up.ensures.told

pub returns-in-Answer-clause-told : goal.returns-in-Answer-clause-told
returns-in-Answer-clause-told g c = rw c.in-Answer.is (rw c.as_str.ensures.value at c.answer.ensures.told)
