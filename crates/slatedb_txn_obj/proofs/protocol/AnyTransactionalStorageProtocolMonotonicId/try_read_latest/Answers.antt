-- A pass that goes on read a version which the check refused: none that began fresh, or with the newest at hand, does.
use Rattle.std.proofs.Common.{rules, arith, ◌≡◌, ℕ, ◌<◌, ◌≤◌, List, length, Err, ap, sym, subst, ◌∙◌, inl, inr}
use Rattle.txn_steps_driven.specs.LatestReads.{IsLatest}
use Rattle.slatedb_txn_obj.proofs.Leaving.{same-trans}
use Rattle.slatedb_txn_obj.proofs.protocol.AnyTransactionalStorageProtocolMonotonicId.try_read_latest.Goals as goal

-- the boundary is below the newest entry
refused-not_latest : {T : Type 0} (h : List T) (b checked id : ℕ) (value : T) → checked ≤ b → checked ≡ id → (0 < length h → b < length h) → IsLatest h id value → ⊥
refused-not_latest h b checked id value low same below latest =
    let above = below latest.some in
    let top = latest.id_is in
    omega (arith, low, same, above, top)

pub passes-preserved : goal.passes-preserved
passes-preserved g c =
    let inv = c.passes.invariant in
    let read = c.in_ok-id.ensures in
    let check = c.in-Err-ObjectVersionExists.ensures in
    let protocol = g.met.P.SequencedStorageProtocol in
    let moved = rw c.in-Err-ObjectVersionExists.field-0-is at check.moved in
    record {
      stays = λ h b stands. protocol.stands_checked _ _ _ _ _ _ h b check.moved (read.kept h b (inv.stays h b stands));
      spends = search rules;
      placed = protocol.place_checked _ _ _ _ _ _ check.moved ∙ read.placed ∙ inv.placed;
      files = same-trans (same-trans inv.files read.files) (record {
        files = g.met.P.BoundaryObject.check_frame _ _ _ _ _ _ check.moved;
        given = λ token. g.met.P.BoundaryObject.check_given _ _ _ _ _ token _ check.moved;
      });
      paged = λ h b stands. protocol.pages_checked _ _ _ _ _ _ h b check.moved (read.kept h b (inv.stays h b stands)) ∙ read.paged ∙ inv.paged h b stands;
      passes = λ h b stands.
          let here = inv.stays h b stands in
          let found = rw c.in-Some.is at (read.found h b here) in
          let spent = read.few h b here in
          let turn = c.passes-test.ensures.spent in
          let same = inv.paged h b stands in
          let low = check.fenced (ap Err c.in-Err-ObjectVersionExists.field-0-is) b (protocol.stands_bounded _ _ h b (read.kept h b here)) in
          let not_latest = refused-not_latest h b _ c.in-Some.id c.in-Some.value low (search rules) (protocol.stands_above _ _ h b here) in
          let begins = inv.passes h b stands in
          elim found [
            | inl latest ↦ absurd (not_latest latest)
            | inr fenced ↦ inr (
              elim begins [ inl first ↦ let all = first.0 in omega (arith, all, turn, spent, same) | inr later ↦ absurd (fenced.0 later.1) ],
              protocol.refused_fresh _ _ _ _ _ moved (subst (λ id. g.P.SequencedStorageProtocol.freshens c.try_read_latest_unchecked.new.self id) (search rules) fenced.2),
              λ at some. elim begins [ inl first ↦ not_latest (rw c.in-Some.is at (read.warm h b here (subst (λ p. g.P.SequencedStorageProtocol.at_hand p (length h)) (sym first.1) at) some).0) | inr later ↦ later.2 at some ],
            )
          ];
    }

pub returns-in-Ok-clause-files : goal.returns-in-Ok-clause-files
returns-in-Ok-clause-files g c = same-trans (same-trans c.passes.invariant.files c.in_ok-id.ensures.files) (record {
  files = g.met.P.BoundaryObject.check_frame _ _ _ _ _ _ c.check.ensures.moved;
  given = λ token. g.met.P.BoundaryObject.check_given _ _ _ _ _ token _ c.check.ensures.moved;
})

pub returns-in-Err-clause-files : goal.returns-in-Err-clause-files
returns-in-Err-clause-files g c = same-trans (same-trans c.passes.invariant.files c.in_ok-id.ensures.files) (record {
  files = g.met.P.BoundaryObject.check_frame _ _ _ _ _ _ c.check.ensures.moved;
  given = λ token. g.met.P.BoundaryObject.check_given _ _ _ _ _ token _ c.check.ensures.moved;
})
