-- What an update answers after the tests of its epochs, and what the update of the simple object gives.
use Rattle.std.proofs.Common.{refl, sym, subst, ap, ◌∙◌, inl, inr, ◌⊎◌, ◌≡◌, is_err}
use Rattle.std.proofs.lemmas.Result.{err_from_is_err_and, IfErr-weaker, on_ok_weaker, on_err_weaker}
use Rattle.txn_store.specs.types.Epochs.{IsEpochError}
use Rattle.txn_store.specs.declared.types.error.TransactionalObjectError.{TransactionalObjectError}
use Rattle.slatedb_txn_obj.specs.Claims.{IsUnlike}
use Rattle.slatedb_txn_obj.specs.Protocol.{UnheldAt}
use Rattle.slatedb_txn_obj.specs.Views.{IsTestFailure, IsRefusal, HasCauseOfUpdate}
use Rattle.slatedb_txn_obj.proofs.Leaving.{same-refl}
use Rattle.slatedb_txn_obj.proofs.Updates.{spends_none, error_is, own-no_error, like-no_error, update-epoch, update-wider}
use Rattle.slatedb_txn_obj.proofs.fenceable.FenceableTransactionalObjectTransactionalObjectMonotonicId.update.Goals as goal

pub returns-clause-updated : goal.returns-clause-updated
returns-clause-updated g c = c.update.ensures.updated

pub returns-clause-moved : goal.returns-clause-moved
returns-clause-moved g c = on_ok_weaker c.update.result (λ moved. (ap (λ delegate. record c.args.self.now { delegate = delegate }) moved.0, moved.1)) c.update.ensures.moved

pub returns-clause-held : goal.returns-clause-held
returns-clause-held g c = c.update.ensures.held

pub returns-clause-written : goal.returns-clause-written
returns-clause-written g c = c.update.ensures.written

pub returns-clause-allowed : goal.returns-clause-allowed
returns-clause-allowed g c = on_ok_weaker c.update.result (λ all. (c.in_ok-check_epoch.ensures.own, sym c.get_epoch.ensures ∙ c.if-get_epoch-self.false, all)) c.update.ensures.allowed

pub returns-clause-left : goal.returns-clause-left
returns-clause-left g c = on_err_weaker c.update.result (λ left. ap (λ delegate. record c.args.self.now { delegate = delegate }) left) c.update.ensures.left

pub returns-in_err-check_epoch-clause-shut : goal.returns-in_err-check_epoch-clause-shut
returns-in_err-check_epoch-clause-shut g c other =
    let p = err_from_is_err_and c.from_residual.result c.from_residual.ensures.1 in
    (rw p.1 (rw p.2 c.in_err-check_epoch.ensures.other), c.from_residual.ensures.0, refl, refl)

pub returns-then-get_epoch-self-clause-shut : goal.returns-then-get_epoch-self-clause-shut
returns-then-get_epoch-self-clause-shut g c other = absurd (other c.in_ok-check_epoch.ensures.own)

pub returns-clause-shut : goal.returns-clause-shut
returns-clause-shut g c other = absurd (other c.in_ok-check_epoch.ensures.own)

pub returns-in_err-check_epoch-clause-unlike : goal.returns-in_err-check_epoch-clause-unlike
returns-in_err-check_epoch-clause-unlike g c own other = absurd (own-no_error _ _ c.in_err-check_epoch.field-0.0 own c.in_err-check_epoch.ensures.other)

pub returns-then-get_epoch-self-clause-unlike : goal.returns-then-get_epoch-self-clause-unlike
returns-then-get_epoch-self-clause-unlike g c own other = (refl, refl, refl)

pub returns-clause-unlike : goal.returns-clause-unlike
returns-clause-unlike g c own other = absurd (other (sym c.get_epoch.ensures ∙ c.if-get_epoch-self.false))

pub returns-in_err-check_epoch-clause-refused : goal.returns-in_err-check_epoch-clause-refused
returns-in_err-check_epoch-clause-refused g c =
    let p = err_from_is_err_and c.from_residual.result c.from_residual.ensures.1 in
    rw p.1 (λ refusal refuses. (refl, refl))

pub returns-clause-refused : goal.returns-clause-refused
returns-clause-refused g c =
    let local = c.args.self.now.local_epoch in
    let stored = g.X.EpochField.epoch_of c.args.self.now.epochs c.args.self.now.delegate.object in
    let candidate = g.X.EpochField.epoch_of c.args.self.now.epochs c.args.dirty.value in
    let failure : TransactionalObjectError → Type 0 = IsTestFailure (λ i. g.I.Invariant.holds i c.args.dirty.value c.args.self.now.delegate.object) (λ i. g.I.Invariant.fails i c.args.dirty.value c.args.self.now.delegate.object) c.args.self.now.delegate.invariants.items in
    let refuses : TransactionalObjectError → Type 0 = λ e. IsEpochError local stored e ⊎ (IsUnlike local candidate e ⊎ failure e) in
    let like : candidate ≡ local = sym c.get_epoch.ensures ∙ c.if-get_epoch-self.false in
    let same : Type 0 = (c.update.new.protocol ≡ c.args.protocol.now) × (c.update.new.store ≡ c.args.store.now) in
    IfErr-weaker c.update.result (λ e. IsRefusal e → failure e → same) (λ e. IsRefusal e → refuses e → same) (λ e refused refusal why. elim why [
      | inl shut ↦ absurd (own-no_error local stored e c.in_ok-check_epoch.ensures.own shut)
      | inr (inl unlike) ↦ absurd (like-no_error local candidate e like unlike)
      | inr (inr failed) ↦ refused refusal failed
    ]) c.update.ensures.refused

pub returns-then-get_epoch-self-clause-refused : goal.returns-then-get_epoch-self-clause-refused
returns-then-get_epoch-self-clause-refused g c = λ refusal refuses. (refl, refl)

pub returns-in_err-check_epoch-clause-other : goal.returns-in_err-check_epoch-clause-other
returns-in_err-check_epoch-clause-other g c other = (c.from_residual.ensures.0, refl, refl)

pub returns-then-get_epoch-self-clause-other : goal.returns-then-get_epoch-self-clause-other
returns-then-get_epoch-self-clause-other g c other = (refl, refl, refl)

pub returns-clause-other : goal.returns-clause-other
returns-clause-other g c other =
    let left = c.update.ensures.other other in
    (ap is_err left.0, left.1, left.2)

pub returns-in_err-check_epoch-clause-unequal : goal.returns-in_err-check_epoch-clause-unequal
returns-in_err-check_epoch-clause-unequal g c own like other = absurd (own-no_error _ _ c.in_err-check_epoch.field-0.0 own c.in_err-check_epoch.ensures.other)

pub returns-then-get_epoch-self-clause-unequal : goal.returns-then-get_epoch-self-clause-unequal
returns-then-get_epoch-self-clause-unequal g c own like other = absurd (c.if-get_epoch-self.true (c.get_epoch.ensures ∙ like))

pub returns-clause-unequal : goal.returns-clause-unequal
returns-clause-unequal g c own like other = (c.update.ensures.other other).0

pub returns-in_err-check_epoch-clause-barred : goal.returns-in_err-check_epoch-clause-barred
returns-in_err-check_epoch-clause-barred g c not_allowed = (c.from_residual.ensures.0, refl, refl)

pub returns-then-get_epoch-self-clause-barred : goal.returns-then-get_epoch-self-clause-barred
returns-then-get_epoch-self-clause-barred g c not_allowed = (refl, refl, refl)

pub returns-clause-barred : goal.returns-clause-barred
returns-clause-barred g c not_allowed = c.update.ensures.barred (λ all. not_allowed (c.in_ok-check_epoch.ensures.own, sym c.get_epoch.ensures ∙ c.if-get_epoch-self.false, all))

pub returns-in_err-check_epoch-clause-answered : goal.returns-in_err-check_epoch-clause-answered
returns-in_err-check_epoch-clause-answered g c not_allowed same =
    let p = err_from_is_err_and c.from_residual.result c.from_residual.ensures.1 in
    rw p.1 (rw p.2 (inl c.in_err-check_epoch.ensures.other))

pub returns-then-get_epoch-self-clause-answered : goal.returns-then-get_epoch-self-clause-answered
returns-then-get_epoch-self-clause-answered g c not_allowed same = inr (inl (λ same. c.if-get_epoch-self.true (c.get_epoch.ensures ∙ same)))

pub returns-clause-answered : goal.returns-clause-answered
returns-clause-answered g c not_allowed same =
    let answered = c.update.ensures.answered (λ all. not_allowed (c.in_ok-check_epoch.ensures.own, sym c.get_epoch.ensures ∙ c.if-get_epoch-self.false, all)) same in
    let local = c.args.self.now.local_epoch in
    let stored = g.X.EpochField.epoch_of c.args.self.now.epochs c.args.self.now.delegate.object in
    let candidate = g.X.EpochField.epoch_of c.args.self.now.epochs c.args.dirty.value in
    let failure : TransactionalObjectError → Type 0 = IsTestFailure (λ i. g.I.Invariant.holds i c.args.dirty.value c.args.self.now.delegate.object) (λ i. g.I.Invariant.fails i c.args.dirty.value c.args.self.now.delegate.object) c.args.self.now.delegate.invariants.items in
    let refuses : TransactionalObjectError → Type 0 = λ e. IsEpochError local stored e ⊎ (IsUnlike local candidate e ⊎ failure e) in
    IfErr-weaker c.update.result failure refuses (λ e failed. inr (inr failed)) answered

pub returns-in_err-check_epoch-clause-conflict : goal.returns-in_err-check_epoch-clause-conflict
returns-in_err-check_epoch-clause-conflict g c is same = absurd (subst (IsEpochError c.args.self.now.local_epoch (g.X.EpochField.epoch_of c.args.self.now.epochs c.args.self.now.delegate.object)) (error_is c.from_residual.result _ c.from_residual.ensures.1 is) c.in_err-check_epoch.ensures.other)

pub returns-clause-conflict : goal.returns-clause-conflict
returns-clause-conflict g c = c.update.ensures.conflict

pub returns-in_err-check_epoch-clause-err : goal.returns-in_err-check_epoch-clause-err
returns-in_err-check_epoch-clause-err g c =
    let p = err_from_is_err_and c.from_residual.result c.from_residual.ensures.1 in
    rw p.1 (λ h b stands within. inl stands)

pub returns-clause-err : goal.returns-clause-err
returns-clause-err g c = c.update.ensures.err

pub returns-in_err-check_epoch-clause-cause : goal.returns-in_err-check_epoch-clause-cause
returns-in_err-check_epoch-clause-cause g c =
    let number = g.P.TransactionalStorageProtocol.number c.args.self.now.delegate.id in
    let state = g.S.ObjectStore.state c.args.store.now in
    let p = err_from_is_err_and c.from_residual.result c.from_residual.ensures.1 in
    rw p.1 (rw p.2 (update-epoch (UnheldAt (g.P.TransactionalStorageProtocol.stands c.args.protocol.now c.args.store.now) number) number state state
    c.args.self.now.local_epoch
    (g.X.EpochField.epoch_of c.args.self.now.epochs c.args.self.now.delegate.object)
    (λ e. IsUnlike c.args.self.now.local_epoch (g.X.EpochField.epoch_of c.args.self.now.epochs c.args.dirty.value) e ⊎ IsTestFailure (λ i. g.I.Invariant.holds i c.args.dirty.value c.args.self.now.delegate.object) (λ i. g.I.Invariant.fails i c.args.dirty.value c.args.self.now.delegate.object) c.args.self.now.delegate.invariants.items e)
    c.in_err-check_epoch.field-0.0 c.in_err-check_epoch.ensures.other))

pub returns-then-get_epoch-self-clause-cause : goal.returns-then-get_epoch-self-clause-cause
returns-then-get_epoch-self-clause-cause g c = inl (inr (inl (λ same. c.if-get_epoch-self.true (c.get_epoch.ensures ∙ same))))

pub returns-clause-cause : goal.returns-clause-cause
returns-clause-cause g c =
    let protocol = g.P.TransactionalStorageProtocol in
    let state = g.S.ObjectStore.state in
    let number = protocol.number c.args.self.now.delegate.id in
    let unheld : Type 0 = UnheldAt (protocol.stands c.args.protocol.now c.args.store.now) number in
    let local = c.args.self.now.local_epoch in
    let stored = g.X.EpochField.epoch_of c.args.self.now.epochs c.args.self.now.delegate.object in
    let candidate = g.X.EpochField.epoch_of c.args.self.now.epochs c.args.dirty.value in
    let failure : TransactionalObjectError → Type 0 = IsTestFailure (λ i. g.I.Invariant.holds i c.args.dirty.value c.args.self.now.delegate.object) (λ i. g.I.Invariant.fails i c.args.dirty.value c.args.self.now.delegate.object) c.args.self.now.delegate.invariants.items in
    let refuses : TransactionalObjectError → Type 0 = λ e. IsEpochError local stored e ⊎ (IsUnlike local candidate e ⊎ failure e) in
    IfErr-weaker c.update.result
    (HasCauseOfUpdate failure unheld number (state c.args.store.now) (state c.update.new.store))
    (HasCauseOfUpdate refuses unheld number (state c.args.store.now) (state c.update.new.store))
    (update-wider unheld number (state c.args.store.now) (state c.update.new.store) failure refuses (λ e failed. inr (inr failed)))
    c.update.ensures.cause

pub returns-in_err-check_epoch-clause-spends : goal.returns-in_err-check_epoch-clause-spends
returns-in_err-check_epoch-clause-spends g c = spends_none _

pub returns-then-get_epoch-self-clause-spends : goal.returns-then-get_epoch-self-clause-spends
returns-then-get_epoch-self-clause-spends g c = spends_none _

pub returns-clause-spends : goal.returns-clause-spends
returns-clause-spends g c = c.update.ensures.spends

pub returns-clause-paged : goal.returns-clause-paged
returns-clause-paged g c = c.update.ensures.paged

pub returns-clause-placed : goal.returns-clause-placed
returns-clause-placed g c = c.update.ensures.placed

pub returns-in_err-check_epoch-clause-creates : goal.returns-in_err-check_epoch-clause-creates
returns-in_err-check_epoch-clause-creates g c = inl (same-refl _)

pub returns-clause-creates : goal.returns-clause-creates
returns-clause-creates g c = c.update.ensures.creates

pub returns-clause-exhausted : goal.returns-clause-exhausted
returns-clause-exhausted g c = c.update.ensures.exhausted

pub returns-in_err-check_epoch-clause-exhausted : goal.returns-in_err-check_epoch-clause-exhausted
returns-in_err-check_epoch-clause-exhausted g c is = (refl, λ h b stands. stands)

pub returns-then-get_epoch-self-clause-exhausted : goal.returns-then-get_epoch-self-clause-exhausted
returns-then-get_epoch-self-clause-exhausted g c is = (refl, λ h b stands. stands)
