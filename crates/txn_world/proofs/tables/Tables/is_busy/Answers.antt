use Rattle.std.proofs.Common.{◌∙◌, sym}
use Rattle.txn_world.proofs.tables.Tables.is_busy.Goals as goal

pub returns-in-Some : goal.returns-in-Some
returns-in-Some g c = rw c.in-Some.is (c.is_used.ensures ∙ sym (c.requires.fit.busy c.in-Some.number))
