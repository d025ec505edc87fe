-- What an operation does next, of what is kept of it.
use Rattle.txn_machine.specs.declared.plain.doing.PlainDoing.TheVariants as plain
use Rattle.txn_machine.specs.declared.doing.Doing.{Doing}
use Rattle.txn_machine.specs.declared.doing.Doing.TheVariants.{Plain}
use Rattle.txn_machine.specs.declared.work.Kept.{Kept}
use Rattle.txn_machine.specs.declared.work.Kept.TheVariants.{Runs, Ended}

abbrev pub doing_kept : {T : Type 0} → Kept T → Doing T
doing_kept (Runs doing) = doing.value
doing_kept Ended = Plain plain.Ended
