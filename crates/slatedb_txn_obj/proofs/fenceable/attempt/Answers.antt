-- Why an attempt failed.
use Rattle.std.proofs.Common.{All, Err, sym, ◌≡◌, refl, subst, ap, ◌∙◌, inl, inr, ◌++◌, ◌∷◌, [], ℕ, ◌-◌, ◌≤◌}
use Rattle.std.proofs.lemmas.Bool.{eq-eqb}
use Rattle.std.proofs.lemmas.Result.{err_from_is_err_and, IfErr-at_err}
use Rattle.txn_store.specs.types.Epochs.{NextEpoch}
use Rattle.slatedb_txn_obj.specs.Claims.{ReadsOne}
use Rattle.slatedb_txn_obj.specs.Protocol.{UnheldAt}
use Rattle.slatedb_txn_obj.specs.Views.{IsTestFailure}
use Rattle.slatedb_txn_obj.proofs.AttemptCauses.{attempt-blocked, attempt-update, one_epoch, test-no_conflict, blocked-no_conflict, same_error, no_conflict, claimed-none, claimed-some, not_shut, update-unwritten}
use Rattle.slatedb_txn_obj.proofs.Attempts.{spends-nothing, le-more}
use Rattle.slatedb_txn_obj.proofs.Leaving.{same-refl}
use Rattle.slatedb_txn_obj.proofs.fenceable.attempt.Goals as goal

pub returns-clause-next : goal.returns-clause-next
returns-clause-next g c =
    rw c.object.ensures at (rw c.get_epoch.ensures at c.in_ok-epoch.ensures.next)

pub returns-clause-moved : goal.returns-clause-moved
returns-clause-moved g c =
    let set = c.set_epoch.ensures.set ∙ ap (λ v. g.X.EpochField.with_epoch c.args.epochs.now v c.in_ok-epoch.epoch) c.in_ok-dirty.ensures.dirty.1 in
    (c.in_ok-update.ensures.moved.0 ∙ ap (λ v. record c.args.view.now { id = c.update.new.self.id; object = v }) set, ap (λ v. g.X.EpochField.epoch_of c.args.epochs.now v) (c.in_ok-update.ensures.moved.1 ∙ c.set_epoch.ensures.set) ∙ c.set_epoch.ensures.reads_back)

pub returns-clause-updated : goal.returns-clause-updated
returns-clause-updated g c =
    let set = c.set_epoch.ensures.set ∙ ap (λ v. g.X.EpochField.with_epoch c.args.epochs.now v c.in_ok-epoch.epoch) c.in_ok-dirty.ensures.dirty.1 in
    rw set at c.in_ok-update.ensures.updated

pub returns-clause-allowed : goal.returns-clause-allowed
returns-clause-allowed g c =
    let set = c.set_epoch.ensures.set ∙ ap (λ v. g.X.EpochField.with_epoch c.args.epochs.now v c.in_ok-epoch.epoch) c.in_ok-dirty.ensures.dirty.1 in
    subst (λ v. All (λ i. g.I.Invariant.holds i v c.args.view.now.object) c.args.view.now.invariants.items) set c.in_ok-update.ensures.allowed

pub returns-in_err-update-clause-err : goal.returns-in_err-update-clause-err
returns-in_err-update-clause-err g c =
    let p = err_from_is_err_and c.from_residual-in_err-update.result c.from_residual-in_err-update.ensures.1 in
    let set = c.set_epoch.ensures.set ∙ ap (λ v. g.X.EpochField.with_epoch c.args.epochs.now v c.in_ok-epoch.epoch) c.in_ok-dirty.ensures.dirty.1 in
    let next = rw c.object.ensures at (rw c.get_epoch.ensures at c.in_ok-epoch.ensures.next) in
    rw p.1 (λ h b stands within.
    elim (c.in_err-update.ensures.err h b stands within) [
      | inl after ↦ inl after
      | inr written ↦ inr (written.0, c.in_ok-epoch.epoch, next, subst (λ v. g.P.TransactionalStorageProtocol.stands c.update.new.protocol c.update.new.store (h ++ v ∷ []) b) set written.1)
    ])

pub returns-in_err-epoch-clause-cause : goal.returns-in_err-epoch-clause-cause
returns-in_err-epoch-clause-cause g c =
    let p = err_from_is_err_and c.from_residual.result c.from_residual.ensures.1 in
    rw p.1 (rw p.2 (attempt-blocked c.args.asked (g.X.EpochField.epoch_of c.args.epochs.now c.args.view.now.object) c.args.deadline.now.timeout (g.P.TransactionalStorageProtocol.number c.args.view.now.id)
    (ReadsOne (λ r. c.args.deadline.now.timeout ≤ r - c.args.deadline.now.start) (g.K.SystemClock.readings c.args.clock.now) (g.K.SystemClock.readings c.args.clock.now))
    (λ error. (e : ℕ) × NextEpoch c.args.asked (g.X.EpochField.epoch_of c.args.epochs.now c.args.view.now.object) e × IsTestFailure (λ i. g.I.Invariant.holds i (g.X.EpochField.with_epoch c.args.epochs.now c.args.view.now.object e) c.args.view.now.object) (λ i. g.I.Invariant.fails i (g.X.EpochField.with_epoch c.args.epochs.now c.args.view.now.object e) c.args.view.now.object) c.args.view.now.invariants.items error)
    (UnheldAt (g.P.TransactionalStorageProtocol.stands c.args.protocol.now c.args.store.now) (g.P.TransactionalStorageProtocol.number c.args.view.now.id))
    (g.S.ObjectStore.state c.args.store.now) (g.S.ObjectStore.state c.args.store.now)
    _ (rw c.object.ensures at (rw c.get_epoch.ensures at c.in_err-epoch.ensures.none))))

pub returns-in_err-dirty-clause-cause : goal.returns-in_err-dirty-clause-cause
returns-in_err-dirty-clause-cause g c =
    let p = err_from_is_err_and c.from_residual-in_err-dirty.result c.from_residual-in_err-dirty.ensures.1 in
    rw p.1 (rw p.2 (rw (not_shut c.in_err-dirty.ensures.err) tt))

pub returns-in_err-check-clause-cause : goal.returns-in_err-check-clause-cause
returns-in_err-check-clause-cause g c =
    let p = err_from_is_err_and c.from_residual-in_err-check.result c.from_residual-in_err-check.ensures.1 in
    let late = c.in_err-check.ensures.late in
    rw p.1 (rw p.2 (rw late.0 (refl, late.1)))

pub returns-in_err-update-clause-cause : goal.returns-in_err-update-clause-cause
returns-in_err-update-clause-cause g c =
    let p = err_from_is_err_and c.from_residual-in_err-update.result c.from_residual-in_err-update.ensures.1 in
    let set = c.set_epoch.ensures.set ∙ ap (λ v. g.X.EpochField.with_epoch c.args.epochs.now v c.in_ok-epoch.epoch) c.in_ok-dirty.ensures.dirty.1 in
    let next = rw c.object.ensures at (rw c.get_epoch.ensures at c.in_ok-epoch.ensures.next) in
    rw p.1 (rw p.2 (attempt-update (λ i. g.I.Invariant.holds i c.set_epoch.new.value c.args.view.now.object) (λ i. g.I.Invariant.fails i c.set_epoch.new.value c.args.view.now.object) c.args.view.now.invariants.items
    c.args.asked (g.X.EpochField.epoch_of c.args.epochs.now c.args.view.now.object) c.args.deadline.now.timeout (g.P.TransactionalStorageProtocol.number c.args.view.now.id)
    (ReadsOne (λ r. c.args.deadline.now.timeout ≤ r - c.args.deadline.now.start) (g.K.SystemClock.readings c.args.clock.now) (g.K.SystemClock.readings c.check.new.clock))
    (λ error. (e : ℕ) × NextEpoch c.args.asked (g.X.EpochField.epoch_of c.args.epochs.now c.args.view.now.object) e × IsTestFailure (λ i. g.I.Invariant.holds i (g.X.EpochField.with_epoch c.args.epochs.now c.args.view.now.object e) c.args.view.now.object) (λ i. g.I.Invariant.fails i (g.X.EpochField.with_epoch c.args.epochs.now c.args.view.now.object e) c.args.view.now.object) c.args.view.now.invariants.items error)
    (UnheldAt (g.P.TransactionalStorageProtocol.stands c.args.protocol.now c.args.store.now) (g.P.TransactionalStorageProtocol.number c.args.view.now.id))
    (g.S.ObjectStore.state c.args.store.now) (g.S.ObjectStore.state c.update.new.store)
    (λ error failure. (c.in_ok-epoch.epoch, next, subst (λ v. IsTestFailure (λ i. g.I.Invariant.holds i v c.args.view.now.object) (λ i. g.I.Invariant.fails i v c.args.view.now.object) c.args.view.now.invariants.items error) set failure))
    _ c.in_err-update.ensures.cause))

pub returns-in_err-epoch-clause-spends : goal.returns-in_err-epoch-clause-spends
returns-in_err-epoch-clause-spends g c =
    spends-nothing _

pub returns-in_err-dirty-clause-spends : goal.returns-in_err-dirty-clause-spends
returns-in_err-dirty-clause-spends g c =
    spends-nothing _

pub returns-in_err-check-clause-spends : goal.returns-in_err-check-clause-spends
returns-in_err-check-clause-spends g c =
    spends-nothing _

pub returns-in_err-epoch-clause-paged : goal.returns-in_err-epoch-clause-paged
returns-in_err-epoch-clause-paged g c h b stands within =
    le-more _

pub returns-in_err-dirty-clause-paged : goal.returns-in_err-dirty-clause-paged
returns-in_err-dirty-clause-paged g c h b stands within =
    le-more _

pub returns-in_err-check-clause-paged : goal.returns-in_err-check-clause-paged
returns-in_err-check-clause-paged g c h b stands within =
    le-more _

pub returns-in_err-epoch-clause-creates : goal.returns-in_err-epoch-clause-creates
returns-in_err-epoch-clause-creates g c =
    inl (same-refl _)

pub returns-in_err-dirty-clause-creates : goal.returns-in_err-dirty-clause-creates
returns-in_err-dirty-clause-creates g c =
    inl (same-refl _)

pub returns-in_err-check-clause-creates : goal.returns-in_err-check-clause-creates
returns-in_err-check-clause-creates g c =
    inl (same-refl _)

pub returns-in_err-epoch-clause-blocked : goal.returns-in_err-epoch-clause-blocked
returns-in_err-epoch-clause-blocked g c e lacks =
    let p = err_from_is_err_and c.from_residual.result c.from_residual.ensures.1 in
    (p.1 ∙ ap Err p.2 ∙ (rw c.object.ensures at (rw c.get_epoch.ensures at c.in_err-epoch.ensures.claimed)) ∙ claimed-none c.args.asked _ e lacks, refl)

pub returns-in_err-dirty-clause-blocked : goal.returns-in_err-dirty-clause-blocked
returns-in_err-dirty-clause-blocked g c e lacks =
    absurd (claimed-some c.args.asked _ _ e (rw c.object.ensures at (rw c.get_epoch.ensures at c.in_ok-epoch.ensures.claimed)) lacks)

pub returns-in_err-check-clause-blocked : goal.returns-in_err-check-clause-blocked
returns-in_err-check-clause-blocked g c e lacks =
    absurd (claimed-some c.args.asked _ _ e (rw c.object.ensures at (rw c.get_epoch.ensures at c.in_ok-epoch.ensures.claimed)) lacks)

pub returns-in_err-update-clause-blocked : goal.returns-in_err-update-clause-blocked
returns-in_err-update-clause-blocked g c e lacks =
    absurd (claimed-some c.args.asked _ _ e (rw c.object.ensures at (rw c.get_epoch.ensures at c.in_ok-epoch.ensures.claimed)) lacks)

pub returns-clause-blocked : goal.returns-clause-blocked
returns-clause-blocked g c e lacks =
    absurd (claimed-some c.args.asked _ _ e (rw c.object.ensures at (rw c.get_epoch.ensures at c.in_ok-epoch.ensures.claimed)) lacks)

pub returns-in_err-epoch-clause-unwritten : goal.returns-in_err-epoch-clause-unwritten
returns-in_err-epoch-clause-unwritten g c =
    let p = err_from_is_err_and c.from_residual.result c.from_residual.ensures.1 in
    rw p.1 (λ unwritten. (refl, λ h b stands. stands))

pub returns-in_err-dirty-clause-unwritten : goal.returns-in_err-dirty-clause-unwritten
returns-in_err-dirty-clause-unwritten g c =
    let p = err_from_is_err_and c.from_residual-in_err-dirty.result c.from_residual-in_err-dirty.ensures.1 in
    rw p.1 (λ unwritten. (refl, λ h b stands. stands))

pub returns-in_err-check-clause-unwritten : goal.returns-in_err-check-clause-unwritten
returns-in_err-check-clause-unwritten g c =
    let p = err_from_is_err_and c.from_residual-in_err-check.result c.from_residual-in_err-check.ensures.1 in
    rw p.1 (λ unwritten. (refl, λ h b stands. stands))

pub returns-in_err-update-clause-unwritten : goal.returns-in_err-update-clause-unwritten
returns-in_err-update-clause-unwritten g c =
    let p = err_from_is_err_and c.from_residual-in_err-update.result c.from_residual-in_err-update.ensures.1 in
    rw p.1 (rw p.2 (update-unwritten (λ i. g.I.Invariant.holds i c.set_epoch.new.value c.args.view.now.object) (λ i. g.I.Invariant.fails i c.set_epoch.new.value c.args.view.now.object) _ (UnheldAt (g.P.TransactionalStorageProtocol.stands c.args.protocol.now c.args.store.now) (g.P.TransactionalStorageProtocol.number c.args.view.now.id)) (g.P.TransactionalStorageProtocol.number c.args.view.now.id) (g.S.ObjectStore.state c.args.store.now) (g.S.ObjectStore.state c.update.new.store) _ c.in_err-update.ensures.cause c.in_err-update.ensures.exhausted (λ refusal failure. let same = c.in_err-update.ensures.refused refusal failure in (ap (λ s. g.S.ObjectStore.state s) same.1, λ h b stands. rw same.0 (rw same.1 stands)))))

pub returns-in_err-update-clause-barred : goal.returns-in_err-update-clause-barred
returns-in_err-update-clause-barred g c e next fails =
    let p = err_from_is_err_and c.from_residual-in_err-update.result c.from_residual-in_err-update.ensures.1 in
    let set = c.set_epoch.ensures.set ∙ ap (λ v. g.X.EpochField.with_epoch c.args.epochs.now v c.in_ok-epoch.epoch) c.in_ok-dirty.ensures.dirty.1 in
    let took = rw c.object.ensures at (rw c.get_epoch.ensures at c.in_ok-epoch.ensures.next) in
    let one = one_epoch c.args.asked _ c.in_ok-epoch.epoch e took next in
    let value = set ∙ ap (λ n. g.X.EpochField.with_epoch c.args.epochs.now c.args.view.now.object n) one in
    let not_all : (All (λ i. g.I.Invariant.holds i c.set_epoch.new.value c.args.view.now.object) c.args.view.now.invariants.items → ⊥) = λ all. fails (subst (λ v. All (λ i. g.I.Invariant.holds i v c.args.view.now.object) c.args.view.now.invariants.items) value all) in
    let barred = c.in_err-update.ensures.barred not_all in
    let failure = c.in_err-update.ensures.answered not_all (eq-eqb _ _ c.in_ok-dirty.ensures.dirty.0) in (
      rw p.1 refl,
      ap (λ s. g.S.ObjectStore.state s) barred.2,
      λ is. test-no_conflict (λ i. g.I.Invariant.holds i c.set_epoch.new.value c.args.view.now.object) (λ i. g.I.Invariant.fails i c.set_epoch.new.value c.args.view.now.object) c.args.view.now.invariants.items failure (IfErr-at_err (λ error. c.in_err-update.field-0.0 ≡ error) (ap Err (sym p.2) ∙ sym p.1 ∙ is) refl),
    )

pub returns-in_err-epoch-clause-barred : goal.returns-in_err-epoch-clause-barred
returns-in_err-epoch-clause-barred g c e next fails =
    let p = err_from_is_err_and c.from_residual.result c.from_residual.ensures.1 in
    let none = rw c.object.ensures at (rw c.get_epoch.ensures at c.in_err-epoch.ensures.none) in
    (rw p.1 refl, refl, λ is. blocked-no_conflict _ _ _ none (same_error p.1 p.2 is))

pub returns-in_err-dirty-clause-barred : goal.returns-in_err-dirty-clause-barred
returns-in_err-dirty-clause-barred g c e next fails =
    let p = err_from_is_err_and c.from_residual-in_err-dirty.result c.from_residual-in_err-dirty.ensures.1 in
    (rw p.1 refl, refl, no_conflict _ (rw p.1 (rw p.2 (rw (not_shut c.in_err-dirty.ensures.err) tt))))

pub returns-in_err-check-clause-barred : goal.returns-in_err-check-clause-barred
returns-in_err-check-clause-barred g c e next fails =
    let p = err_from_is_err_and c.from_residual-in_err-check.result c.from_residual-in_err-check.ensures.1 in
    (rw p.1 refl, refl, no_conflict _ (rw p.1 (rw p.2 (rw c.in_err-check.ensures.late.0 tt))))

pub returns-clause-barred : goal.returns-clause-barred
returns-clause-barred g c e next fails =
    let set = c.set_epoch.ensures.set ∙ ap (λ v. g.X.EpochField.with_epoch c.args.epochs.now v c.in_ok-epoch.epoch) c.in_ok-dirty.ensures.dirty.1 in
    let took = rw c.object.ensures at (rw c.get_epoch.ensures at c.in_ok-epoch.ensures.next) in
    let one = one_epoch c.args.asked _ c.in_ok-epoch.epoch e took next in
    let value = set ∙ ap (λ n. g.X.EpochField.with_epoch c.args.epochs.now c.args.view.now.object n) one in
    absurd (fails (subst (λ v. All (λ i. g.I.Invariant.holds i v c.args.view.now.object) c.args.view.now.invariants.items) value c.in_ok-update.ensures.allowed))

pub returns-in_err-epoch-clause-conflict : goal.returns-in_err-epoch-clause-conflict
returns-in_err-epoch-clause-conflict g c is =
    let p = err_from_is_err_and c.from_residual.result c.from_residual.ensures.1 in
    let none = rw c.object.ensures at (rw c.get_epoch.ensures at c.in_err-epoch.ensures.none) in
    absurd (blocked-no_conflict _ _ _ none (same_error p.1 p.2 is))

pub returns-in_err-epoch-clause-conflict_in_time : goal.returns-in_err-epoch-clause-conflict_in_time
returns-in_err-epoch-clause-conflict_in_time g c is =
    let p = err_from_is_err_and c.from_residual.result c.from_residual.ensures.1 in
    let none = rw c.object.ensures at (rw c.get_epoch.ensures at c.in_err-epoch.ensures.none) in
    absurd (blocked-no_conflict _ _ _ none (same_error p.1 p.2 is))

pub returns-in_err-dirty-clause-conflict : goal.returns-in_err-dirty-clause-conflict
returns-in_err-dirty-clause-conflict g c is =
    let p = err_from_is_err_and c.from_residual-in_err-dirty.result c.from_residual-in_err-dirty.ensures.1 in
    absurd (no_conflict _ (rw p.1 (rw p.2 (rw (not_shut c.in_err-dirty.ensures.err) tt))) is)

pub returns-in_err-dirty-clause-conflict_in_time : goal.returns-in_err-dirty-clause-conflict_in_time
returns-in_err-dirty-clause-conflict_in_time g c is =
    let p = err_from_is_err_and c.from_residual-in_err-dirty.result c.from_residual-in_err-dirty.ensures.1 in
    absurd (no_conflict _ (rw p.1 (rw p.2 (rw (not_shut c.in_err-dirty.ensures.err) tt))) is)

pub returns-in_err-check-clause-conflict : goal.returns-in_err-check-clause-conflict
returns-in_err-check-clause-conflict g c is =
    let p = err_from_is_err_and c.from_residual-in_err-check.result c.from_residual-in_err-check.ensures.1 in
    absurd (no_conflict _ (rw p.1 (rw p.2 (rw c.in_err-check.ensures.late.0 tt))) is)

pub returns-in_err-check-clause-conflict_in_time : goal.returns-in_err-check-clause-conflict_in_time
returns-in_err-check-clause-conflict_in_time g c is =
    let p = err_from_is_err_and c.from_residual-in_err-check.result c.from_residual-in_err-check.ensures.1 in
    absurd (no_conflict _ (rw p.1 (rw p.2 (rw c.in_err-check.ensures.late.0 tt))) is)

pub returns-in_err-update-clause-conflict : goal.returns-in_err-update-clause-conflict
returns-in_err-update-clause-conflict g c is =
    let p = err_from_is_err_and c.from_residual-in_err-update.result c.from_residual-in_err-update.ensures.1 in
    c.in_err-update.ensures.conflict (ap Err (same_error p.1 p.2 is)) (eq-eqb _ _ c.in_ok-dirty.ensures.dirty.0)

pub returns-clause-conflict : goal.returns-clause-conflict
returns-clause-conflict g c is =
    absurd (no_conflict _ tt is)

pub returns-clause-conflict_in_time : goal.returns-clause-conflict_in_time
returns-clause-conflict_in_time g c is =
    absurd (no_conflict _ tt is)
