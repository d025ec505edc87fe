-- A check changes no file, and nothing is undone after it.
use Rattle.std.proofs.Common.{refl, ap, true≢false, is_ok, arith, ℕ, inl, inr, Ok, Err}
use Rattle.std.proofs.lemmas.Result.{err_from_is_err_and}
use Rattle.slatedb_txn_obj.specs.Checked.{Refused, Entered}
use Rattle.slatedb_txn_obj.proofs.Leaving.{create-same}
use Rattle.slatedb_txn_obj.proofs.Causes.{check-not_exhausted}
use Rattle.slatedb_txn_obj.proofs.Updates.{error_is}
use Rattle.slatedb_txn_obj.proofs.protocol.AnyTransactionalStorageProtocolMonotonicId.write.Goals as goal

pub returns-in_err-id-clause-moved : goal.returns-in_err-id-clause-moved
returns-in_err-id-clause-moved g c =
    let p = err_from_is_err_and c.from_residual.result c.from_residual.ensures.1 in
    rw p.1 (rw p.2 (Refused _ refl c.in_err-id.ensures.moved))

pub returns-in_err-check-clause-creates : goal.returns-in_err-check-clause-creates
returns-in_err-check-clause-creates g c = create-same c.in_ok-id.ensures.creates (record {
  files = g.met.P.BoundaryObject.check_frame _ _ _ _ _ _ c.check.ensures.moved;
  given = λ token. g.met.P.BoundaryObject.check_given _ _ _ _ _ token _ c.check.ensures.moved;
})

pub returns-in_err-check-clause-moved : goal.returns-in_err-check-clause-moved
returns-in_err-check-clause-moved g c =
    let p = err_from_is_err_and c.from_residual-in_err-check.result c.from_residual-in_err-check.ensures.1 in
    rw p.1 (rw p.2 (Entered c.in_ok-id.id c.write_unchecked.new.self c.write_unchecked.new.store (Err c.in_err-check.field-0.0) c.in_ok-id.ensures.moved c.in_err-check.ensures.moved refl))

pub returns-clause-creates : goal.returns-clause-creates
returns-clause-creates g c = create-same c.in_ok-id.ensures.creates (record {
  files = g.met.P.BoundaryObject.check_frame _ _ _ _ _ _ c.check.ensures.moved;
  given = λ token. g.met.P.BoundaryObject.check_given _ _ _ _ _ token _ c.check.ensures.moved;
})

pub returns-clause-moved : goal.returns-clause-moved
returns-clause-moved g c = Entered c.in_ok-id.id c.write_unchecked.new.self c.write_unchecked.new.store (Ok tt) c.in_ok-id.ensures.moved c.in_ok-check.ensures.moved refl

pub returns-in_err-id-clause-full : goal.returns-in_err-id-clause-full
returns-in_err-id-clause-full g c =
    let p = err_from_is_err_and c.from_residual.result c.from_residual.ensures.1 in
    rw p.1 (rw p.2 (λ full. c.in_err-id.ensures.full full))

pub returns-in_err-id-clause-exhausted : goal.returns-in_err-id-clause-exhausted
returns-in_err-id-clause-exhausted g c is = c.in_err-id.ensures.exhausted (ap Err (error_is c.from_residual.result _ c.from_residual.ensures.1 is))

pub returns-in_err-check-clause-full : goal.returns-in_err-check-clause-full
returns-in_err-check-clause-full g c full = absurd (true≢false (ap is_ok (c.in_ok-id.ensures.full full)))

pub returns-in_err-check-clause-exhausted : goal.returns-in_err-check-clause-exhausted
returns-in_err-check-clause-exhausted g c is = absurd (check-not_exhausted ((b : ℕ) → g.P.BoundaryObject.bounds c.write_unchecked.new.self c.write_unchecked.new.store b → ⊥) (g.S.ObjectStore.state c.write_unchecked.new.store) (g.S.ObjectStore.state c.check.new.store) _ c.in_err-check.ensures.cause (error_is c.from_residual-in_err-check.result _ c.from_residual-in_err-check.ensures.1 is))

pub returns-clause-full : goal.returns-clause-full
returns-clause-full g c full = absurd (true≢false (ap is_ok (c.in_ok-id.ensures.full full)))

pub returns-clause-exhausted : goal.returns-clause-exhausted
returns-clause-exhausted g c is = absurd (true≢false (ap is_ok is))

pub returns-clause-held : goal.returns-clause-held
returns-clause-held g c h b stands le =
    let protocol = g.met.P.SequencedStorageProtocol in
    elim (c.in_ok-id.ensures.entered h b stands le).1 [
      | inl newest ↦ let base = newest.0 in protocol.at_hand_checked _ _ _ _ _ _ c.in_ok-check.ensures.moved (c.in_ok-id.ensures.held h b stands (omega (arith, base)))
      | inr fenced ↦ let above = c.in_ok-check.ensures.above b (protocol.stands_bounded _ _ h b fenced.2) in let low = fenced.1 in absurd (omega (arith, above, low))
    ]
