use Rattle.txn_diary.proofs.Started.{started_can}
use Rattle.txn_diary.proofs.Turned.{turned_can}
use Rattle.txn_diary.proofs.Replied.{takes_fitting, can_be_served, is_in_range}
use Rattle.txn_diary.proofs.laws.operations_take_replies.Goals as goal

pub returns-clause-started : goal.returns-clause-started
returns-clause-started g c page encode get_epoch set_epoch call view room = started_can page room encode get_epoch set_epoch call view

pub returns-clause-turned : goal.returns-clause-turned
returns-clause-turned g c page encode decode get_epoch set_epoch refused doing caches reply room can = turned_can page room encode decode get_epoch set_epoch refused doing caches reply can

pub returns-clause-takes : goal.returns-clause-takes
returns-clause-takes g c doing ask reply can is fits = takes_fitting doing ask reply can is fits

pub returns-clause-serves : goal.returns-clause-serves
returns-clause-serves g c doing can = can_be_served doing can

pub returns-clause-range : goal.returns-clause-range
returns-clause-range g c doing can = is_in_range doing can
