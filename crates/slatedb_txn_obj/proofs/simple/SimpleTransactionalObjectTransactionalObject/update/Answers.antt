-- What an update answers after its tests and its write.
use Rattle.std.proofs.Common.{refl, sym, ap, ◌∙◌, inl, inr, true≢false, not, is_ok, Err, le-add_right}
use Rattle.std.proofs.lemmas.Result.{err_from_is_err_and}
use Rattle.slatedb_txn_obj.specs.Protocol.{UnheldAt}
use Rattle.slatedb_txn_obj.specs.Views.{IsTestFailure}
use Rattle.slatedb_txn_obj.proofs.Leaving.{same-refl}
use Rattle.slatedb_txn_obj.proofs.Updates.{updated-by_write, error_is, spends_none, callback-no_conflict, write-no_refusal, update-test, update-write}
use Rattle.slatedb_txn_obj.proofs.simple.SimpleTransactionalObjectTransactionalObject.update.Goals as goal

pub returns-clause-updated : goal.returns-clause-updated
returns-clause-updated g c = updated-by_write c.in_ok-id.ensures.appended

pub returns-clause-held : goal.returns-clause-held
returns-clause-held g c = λ h b stands version. c.in_ok-id.ensures.held h b stands version.within

pub returns-clause-written : goal.returns-clause-written
returns-clause-written g c = c.in_ok-id.ensures.moved

pub returns-clause-allowed : goal.returns-clause-allowed
returns-clause-allowed g c = rw c.as_slice.ensures.value at c.in_ok-test_all.ensures.tested

pub returns-then-ne-clause-refused : goal.returns-then-ne-clause-refused
returns-then-ne-clause-refused g c = λ refusal failure. elim refusal [ inl callback ↦ absurd callback | inr shuts ↦ absurd shuts ]

pub returns-in_err-test_all-clause-refused : goal.returns-in_err-test_all-clause-refused
returns-in_err-test_all-clause-refused g c =
    let p = err_from_is_err_and c.from_residual.result c.from_residual.ensures.1 in
    rw p.1 (λ refusal failure. (refl, refl))

pub returns-in_err-id-clause-refused : goal.returns-in_err-id-clause-refused
returns-in_err-id-clause-refused g c =
    let protocol = g.P.TransactionalStorageProtocol in
    let state = g.S.ObjectStore.state in
    let number = protocol.number c.args.self.now.id in
    let unheld : Type 0 = UnheldAt (protocol.stands c.args.protocol.now c.args.store.now) number in
    let p = err_from_is_err_and c.from_residual-in_err-id.result c.from_residual-in_err-id.ensures.1 in
    let holds = λ (i : g.row.I.Denot). g.I.Invariant.holds i c.args.dirty.value c.args.self.now.object in
    let fails = λ (i : g.row.I.Denot). g.I.Invariant.fails i c.args.dirty.value c.args.self.now.object in
    rw p.1 (rw p.2 (λ refusal failure.
    let none = write-no_refusal holds fails c.args.self.now.invariants.items unheld number (state c.args.store.now) (state c.write.new.store) c.in_err-id.field-0.0 c.in_err-id.ensures.cause refusal failure in
    (absurd none, absurd none)))

pub returns-then-ne-clause-other : goal.returns-then-ne-clause-other
returns-then-ne-clause-other g c = λ _. (refl, refl, refl)

pub returns-in_err-test_all-clause-other : goal.returns-in_err-test_all-clause-other
returns-in_err-test_all-clause-other g c other = absurd (true≢false (sym (c.if-ne.ensures ∙ ap not other)))

pub returns-in_err-id-clause-other : goal.returns-in_err-id-clause-other
returns-in_err-id-clause-other g c other = absurd (true≢false (sym (c.if-ne.ensures ∙ ap not other)))

pub returns-clause-other : goal.returns-clause-other
returns-clause-other g c other = absurd (true≢false (sym (c.if-ne.ensures ∙ ap not other)))

pub returns-then-ne-clause-barred : goal.returns-then-ne-clause-barred
returns-then-ne-clause-barred g c = λ _. (refl, refl, refl)

pub returns-in_err-test_all-clause-barred : goal.returns-in_err-test_all-clause-barred
returns-in_err-test_all-clause-barred g c fails = (c.from_residual.ensures.0, refl, refl)

pub returns-in_err-id-clause-barred : goal.returns-in_err-id-clause-barred
returns-in_err-id-clause-barred g c fails = absurd (fails (rw c.as_slice.ensures.value at c.in_ok-test_all.ensures.tested))

pub returns-clause-barred : goal.returns-clause-barred
returns-clause-barred g c fails = absurd (fails (rw c.as_slice.ensures.value at c.in_ok-test_all.ensures.tested))

pub returns-then-ne-clause-answered : goal.returns-then-ne-clause-answered
returns-then-ne-clause-answered g c fails same = absurd (true≢false (c.if-ne.ensures ∙ ap not same))

pub returns-in_err-test_all-clause-answered : goal.returns-in_err-test_all-clause-answered
returns-in_err-test_all-clause-answered g c fails same =
    let p = err_from_is_err_and c.from_residual.result c.from_residual.ensures.1 in
    rw p.1 (c.in_err-test_all.field-0.0, p.2, rw c.as_slice.ensures.value at c.in_err-test_all.ensures.tested)

pub returns-in_err-id-clause-answered : goal.returns-in_err-id-clause-answered
returns-in_err-id-clause-answered g c fails same = absurd (fails (rw c.as_slice.ensures.value at c.in_ok-test_all.ensures.tested))

pub returns-clause-answered : goal.returns-clause-answered
returns-clause-answered g c fails same = tt

pub returns-then-ne-clause-conflict : goal.returns-then-ne-clause-conflict
returns-then-ne-clause-conflict g c is same = absurd (true≢false (c.if-ne.ensures ∙ ap not same))

pub returns-in_err-test_all-clause-conflict : goal.returns-in_err-test_all-clause-conflict
returns-in_err-test_all-clause-conflict g c is same =
    let none = callback-no_conflict c.in_err-test_all.field-0.0 (sym (error_is c.from_residual.result _ c.from_residual.ensures.1 is)) in
    record { newer = λ h b stands within. absurd none; stands = λ h b stands within. stands }

pub returns-in_err-id-clause-conflict : goal.returns-in_err-id-clause-conflict
returns-in_err-id-clause-conflict g c is same = c.in_err-id.ensures.conflict (ap Err (error_is c.from_residual-in_err-id.result _ c.from_residual-in_err-id.ensures.1 is))

pub returns-clause-conflict : goal.returns-clause-conflict
returns-clause-conflict g c is same = absurd (true≢false (ap is_ok is))

pub returns-then-ne-clause-err : goal.returns-then-ne-clause-err
returns-then-ne-clause-err g c = λ h b stands within. inl stands

pub returns-in_err-test_all-clause-err : goal.returns-in_err-test_all-clause-err
returns-in_err-test_all-clause-err g c =
    let p = err_from_is_err_and c.from_residual.result c.from_residual.ensures.1 in
    rw p.1 (λ h b stands within. inl stands)

pub returns-in_err-id-clause-err : goal.returns-in_err-id-clause-err
returns-in_err-id-clause-err g c =
    let p = err_from_is_err_and c.from_residual-in_err-id.result c.from_residual-in_err-id.ensures.1 in
    rw p.1 c.in_err-id.ensures.err

pub returns-in_err-test_all-clause-cause : goal.returns-in_err-test_all-clause-cause
returns-in_err-test_all-clause-cause g c =
    let number = g.P.TransactionalStorageProtocol.number c.args.self.now.id in
    let state = g.S.ObjectStore.state c.args.store.now in
    let p = err_from_is_err_and c.from_residual.result c.from_residual.ensures.1 in
    rw p.1 (rw p.2 (update-test (UnheldAt (g.P.TransactionalStorageProtocol.stands c.args.protocol.now c.args.store.now) number) number state state
    (λ i. g.I.Invariant.holds i c.args.dirty.value c.args.self.now.object)
    (λ i. g.I.Invariant.fails i c.args.dirty.value c.args.self.now.object)
    c.args.self.now.invariants.items c.in_err-test_all.field-0.0 (rw c.as_slice.ensures.value at c.in_err-test_all.ensures.tested)))

pub returns-in_err-id-clause-cause : goal.returns-in_err-id-clause-cause
returns-in_err-id-clause-cause g c =
    let protocol = g.P.TransactionalStorageProtocol in
    let state = g.S.ObjectStore.state in
    let number = protocol.number c.args.self.now.id in
    let unheld : Type 0 = UnheldAt (protocol.stands c.args.protocol.now c.args.store.now) number in
    let holds = λ (i : g.row.I.Denot). g.I.Invariant.holds i c.args.dirty.value c.args.self.now.object in
    let fails = λ (i : g.row.I.Denot). g.I.Invariant.fails i c.args.dirty.value c.args.self.now.object in
    let p = err_from_is_err_and c.from_residual-in_err-id.result c.from_residual-in_err-id.ensures.1 in
    rw p.1 (rw p.2 (update-write unheld number (state c.args.store.now) (state c.write.new.store) (IsTestFailure holds fails c.args.self.now.invariants.items) c.in_err-id.field-0.0 c.in_err-id.ensures.cause))

pub returns-then-ne-clause-spends : goal.returns-then-ne-clause-spends
returns-then-ne-clause-spends g c = spends_none _

pub returns-in_err-test_all-clause-spends : goal.returns-in_err-test_all-clause-spends
returns-in_err-test_all-clause-spends g c = spends_none _

pub returns-in_err-id-clause-spends : goal.returns-in_err-id-clause-spends
returns-in_err-id-clause-spends g c = c.in_err-id.ensures.spends

pub returns-clause-spends : goal.returns-clause-spends
returns-clause-spends g c = c.in_ok-id.ensures.spends

pub returns-then-ne-clause-paged : goal.returns-then-ne-clause-paged
returns-then-ne-clause-paged g c h b stands within = le-add_right _ 1

pub returns-in_err-test_all-clause-paged : goal.returns-in_err-test_all-clause-paged
returns-in_err-test_all-clause-paged g c h b stands within = le-add_right _ 1

pub returns-in_err-id-clause-paged : goal.returns-in_err-id-clause-paged
returns-in_err-id-clause-paged g c = c.in_err-id.ensures.paged

pub returns-clause-paged : goal.returns-clause-paged
returns-clause-paged g c = c.in_ok-id.ensures.paged

pub returns-in_err-id-clause-placed : goal.returns-in_err-id-clause-placed
returns-in_err-id-clause-placed g c = c.in_err-id.ensures.placed

pub returns-clause-placed : goal.returns-clause-placed
returns-clause-placed g c = c.in_ok-id.ensures.placed

pub returns-then-ne-clause-creates : goal.returns-then-ne-clause-creates
returns-then-ne-clause-creates g c = inl (same-refl _)

pub returns-in_err-test_all-clause-creates : goal.returns-in_err-test_all-clause-creates
returns-in_err-test_all-clause-creates g c = inl (same-refl _)

pub returns-in_err-id-clause-creates : goal.returns-in_err-id-clause-creates
returns-in_err-id-clause-creates g c = c.in_err-id.ensures.creates

pub returns-clause-creates : goal.returns-clause-creates
returns-clause-creates g c = c.in_ok-id.ensures.creates

pub returns-in_err-id-clause-exhausted : goal.returns-in_err-id-clause-exhausted
returns-in_err-id-clause-exhausted g c is = c.in_err-id.ensures.exhausted (ap Err (error_is c.from_residual-in_err-id.result _ c.from_residual-in_err-id.ensures.1 is))

pub returns-clause-exhausted : goal.returns-clause-exhausted
returns-clause-exhausted g c is = absurd (true≢false (ap is_ok is))

pub returns-then-ne-clause-exhausted : goal.returns-then-ne-clause-exhausted
returns-then-ne-clause-exhausted g c is = (refl, λ h b stands. stands)

pub returns-in_err-test_all-clause-exhausted : goal.returns-in_err-test_all-clause-exhausted
returns-in_err-test_all-clause-exhausted g c is = (refl, λ h b stands. stands)
