use Rattle.std.proofs.Common.{◌≡◌, ◌++◌, ◌+◌, true, None, replicate, refl, sym, subst, arith, List, Option, ℕ}
use Rattle.txn_machine.specs.declared.doing.Operation.{Operation}
use Rattle.txn_diary.specs.Forgetting.{forgotten, AreKeptOperations, AreKeptWrites}
use Rattle.txn_diary.specs.Shown.{operations_of, writes_of}
use Rattle.txn_diary.proofs.Places.{length_behind, ended_kept, operations_forgotten, writes_forgotten}
use Rattle.txn_diary.proofs.calls.Calls.forget.Goals as goal
use Rattle.txn_diary.proofs.calls.Calls.forget.Goals.{then-more-self-via-then-more-self, then-more-self-via-else-more-self+then-not-have_ended}

pub returns-then-more-self-clause-ended : goal.returns-then-more-self-clause-ended
returns-then-more-self-clause-ended g c = λ few ended. (
    let t = c.args.self.now in
    elim c.then-more-self.branch [
      | then-more-self-via-then-more-self w ↦ absurd (omega (arith, w.if-more-self.true, few, length_behind forgotten t.forgotten t.operations.items, c.len-more.ensures, t.operations.ok.0))
      | then-more-self-via-else-more-self+then-not-have_ended w ↦ (let clash : w.have_ended.result ≡ true = w.have_ended.ensures.1 (rw w.deref.ensures.value (ended_kept t.forgotten t.operations.items ended)) in absurd (cc))
    ])

pub returns-clause-operations : goal.returns-clause-operations
returns-clause-operations g c =
    let t = c.args.self.now in
    let m = t.forgotten + c.len-more.result in
    subst (λ (os : List (Operation g.row.T.Denot)). AreKeptOperations (operations_of t) (replicate m forgotten ++ os)) (sym c.clear.ensures.items)
    (operations_forgotten t.forgotten m t.operations.items (rw (← c.deref.ensures.value) (c.if-not-have_ended.ensures.0 refl)) (omega (arith, c.len-more.ensures, t.operations.ok.0)))

pub returns-clause-writes : goal.returns-clause-writes
returns-clause-writes g c =
    let t = c.args.self.now in
    let m = t.forgotten + c.len-more.result in
    subst (λ (ws : List (Option ℕ)). AreKeptWrites (operations_of t) (writes_of t) (replicate m None ++ ws)) (sym c.clear-2.ensures.items)
    (writes_forgotten t.forgotten m t.operations.items t.writes.items (rw (← c.deref.ensures.value) (c.if-not-have_ended.ensures.0 refl)) (omega (arith, c.len-more.ensures, t.operations.ok.0)) (omega (arith, t.each, t.operations.ok.0, t.writes.ok.0)))
