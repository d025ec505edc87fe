use Rattle.std.proofs.Common.{ap, sym, nat_eq, ◌+◌}
use Rattle.std.proofs.lemmas.List.FromFn.{length-map-range_with_len}
use Rattle.std.specs.HashMap.{get}
use Rattle.txn_machine.specs.Machine.{used_in}
use Rattle.txn_diary.proofs.standing.StandingViewTable.next.Goals as goal

pub returns : goal.returns
returns g c = let t = c.args.self.now in ap (λ n. n + 1) (sym (length-map-range_with_len (λ number. used_in (get nat_eq t.used number)) 1 t.count))
