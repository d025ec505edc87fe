use Rattle.std.proofs.Common.{◌||◌, ℕ, List, nat_eq, sym, ap, ◌∙◌}
use Rattle.std.specs.List.{list_any}
use Rattle.txn_machine.proofs.traces.Ascending.{or_move, insert_has}
use Rattle.txn_machine.proofs.traces.sets.ascending.Goals as goal

pub loop-id-preserved : goal.loop-id-preserved
loop-id-preserved c = λ n.
    ap (λ (keys : List ℕ). list_any (nat_eq n) keys || list_any (nat_eq n) c.next.new.self) c.in_ok-insert.ensures.keys
    ∙ (ap (λ b. b || list_any (nat_eq n) c.next.new.self) (insert_has c.loop-id.sorted.keys c.in-Some.id.now n)
    ∙ (or_move (list_any (nat_eq n) c.loop-id.sorted.keys) (nat_eq n c.in-Some.id.now) (list_any (nat_eq n) c.next.new.self)
    ∙ (ap (λ (rest : List ℕ). list_any (nat_eq n) c.loop-id.sorted.keys || list_any (nat_eq n) rest) (sym c.in-Some.ensures.steps) ∙ c.loop-id.invariant n)))
