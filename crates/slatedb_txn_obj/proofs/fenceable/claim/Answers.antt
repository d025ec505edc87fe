-- What a refused attempt leaves, and what the one that succeeded has read of the clock.
use Rattle.std.proofs.Common.{arith, true, true≢false, refl, sym, subst, ap, ◌∙◌, ◌≡◌, ◌⊎◌, All, Err, inl, inr, ℕ, ◌+◌, ◌-◌, ◌*◌, ◌^◌, ◌≤◌, List, [], ◌∷◌, ◌++◌}
use Rattle.std.proofs.lemmas.List.{length_push}
use Rattle.std.proofs.lemmas.Result.{err_from_is_err_and}
use Rattle.txn_store.specs.declared.types.error.TransactionalObjectError.{TransactionalObjectError}
use Rattle.txn_store.specs.types.Epochs.{NextEpoch, HasNoEpoch}
use Rattle.txn_store.specs.Store.{State}
use Rattle.txn_steps_driven.specs.LatestReads.{IsLatest}
use Rattle.slatedb_txn_obj.specs.Claims.{ReadsOne, ReadsInTime, ReadsLate, HasCauseOfClaim}
use Rattle.slatedb_txn_obj.specs.Protocol.{UnheldAt}
use Rattle.slatedb_txn_obj.specs.Views.{IsVersion, IsTestFailure, HasCauseOfRefresh}
use Rattle.slatedb_txn_obj.proofs.AttemptCauses.{claim-refresh, refresh-not_blocking, refresh-not_late, blocking-unwritten, late-unwritten}
use Rattle.slatedb_txn_obj.proofs.Leaving.{keeps-same, keeps-create, others-trans, others-same, others-placed}
use Rattle.slatedb_txn_obj.proofs.Attempts.{paged-after, pages-most, spends-update, spends-refresh, attempt-within_two, one-within_two, conflict-spent, conflict-next, conflict-left, idle-spent, late-spent, late-idle, reads-for, latest-not_overtaken}
use Rattle.slatedb_txn_obj.proofs.Claiming.{next-asked, reads-more, reads-late, claim-cause, not_exhausted, attempt-other, refresh-exhausted, has_begun, ok_begun, not_begun, not_passed}
use Rattle.slatedb_txn_obj.proofs.Views.{version-of_latest, latest-of_version, none-empty}
use Rattle.slatedb_txn_obj.proofs.fenceable.claim.Goals as goal

pub loop-asked-preserved : goal.loop-asked-preserved
loop-asked-preserved g c =
    let inv = c.loop-asked.invariant in
    let conflict = c.in-Err.ensures in
    let refresh = c.refresh.ensures in
    let exists = ap Err (c.is_sequenced_write_conflict.ensures.kind.0 c.if-is_sequenced_write_conflict.true) in
    let overtaken = conflict.conflict exists in
    let shown = rw c.in_ok-refresh-in-Err.was at c.refresh.follows.holds-at-none in
    let one = conflict.conflict_in_time exists in
    let two = c.in_ok-check-in-Err.ensures.in_time in
    record {
      timeout = inv.timeout;
      invariants = ap (λ v. v.invariants) shown.1 ∙ ap (λ v. v.invariants) conflict.left ∙ inv.invariants;
      unmoved = λ h b stands version.
          let here = inv.unmoved h b stands version in
          let after = overtaken.stands h b here.0 here.1.within in
          (refresh.kept h b after, version-of_latest (shown.2 h b after));
      met = inr (λ h b stands version.
          let here = inv.unmoved h b stands version in
          shown.2 h b (overtaken.stands h b here.0 here.1.within));
      placed = refresh.placed ∙ conflict.placed ∙ inv.placed;
      others = others-trans (others-placed (λ at. g.P.TransactionalStorageProtocol.owns at) (λ at n. g.P.TransactionalStorageProtocol.version_file at n) (λ at n. g.met.P.TransactionalStorageProtocol.owns_version at n) (g.P.TransactionalStorageProtocol.number c.loop-asked.view.id + 1) inv.placed inv.others conflict.creates) (others-same refresh.files);
      kept = keeps-same _ _ _ (keeps-create _ _ _ _ inv.kept conflict.creates) refresh.files;
      first = inr (has_begun (λ v. g.X.EpochField.epoch_of c.args.epochs v.object) (λ v e. All (λ i. g.I.Invariant.holds i (g.X.EpochField.with_epoch c.args.epochs v.object e) v.object) v.invariants.items) c.args.asked _ _ _ _ _ _ _ inv.first conflict.blocked conflict.barred (c.is_sequenced_write_conflict.ensures.kind.0 c.if-is_sequenced_write_conflict.true));
      paged = λ h b stands version.
          let here = inv.unmoved h b stands version in
          let after = overtaken.stands h b here.0 here.1.within in
          paged-after true _ _ _ _ _ _ (λ no. absurd (true≢false no)) (λ yes latest. latest-not_overtaken _ _ _ h b _ overtaken here.0 here.1 latest) (conflict.paged h b here.0 here.1.within) (refresh.paged h b after) (shown.2 h b after) (inv.paged h b stands version);
      spends = spends-refresh _ _ _ _ _ _ (spends-update _ _ _ _ _ _ c.loop-asked-test.ensures.spent inv.spends conflict.spends) refresh.spends;
      timed = (
        (inv.timed.0 ++ one.0 ∷ []) ++ two.0 ∷ [],
        reads-more _ _ (inv.timed.0 ++ one.0 ∷ []) _ _ _ (reads-more _ _ inv.timed.0 _ _ _ inv.timed.1 one) two,
        λ h b stands version.
            let here = inv.unmoved h b stands version in
            let after = overtaken.stands h b here.0 here.1.within in
            conflict-next _ _ _ _ _ _ _ _ _ _ _ _ _ _ _ _ _ _ _ _ _ (inv.timed.2 h b stands version) (λ latest. latest-not_overtaken _ _ _ h b _ overtaken here.0 here.1 latest) c.loop-asked-test.ensures.spent (conflict.paged h b here.0 here.1.within) (refresh.few h b after) conflict.spends.left_least refresh.spends.left_least (shown.2 h b after) (overtaken.newer h b here.0 here.1.within) (length_push inv.timed.0 one.0) (length_push (inv.timed.0 ++ one.0 ∷ []) two.0),
      );
    }

pub returns-in_err-check-in-Err : goal.returns-in_err-check-in-Err
returns-in_err-check-in-Err g c =
    let inv = c.loop-asked.invariant in
    let conflict = c.in-Err.ensures in
    let is_conflict = c.is_sequenced_write_conflict.ensures.kind.0 c.if-is_sequenced_write_conflict.true in
    let begun = has_begun (λ v. g.X.EpochField.epoch_of c.args.epochs v.object) (λ v e. All (λ i. g.I.Invariant.holds i (g.X.EpochField.with_epoch c.args.epochs v.object e) v.object) v.invariants.items) c.args.asked _ _ _ _ _ _ _ inv.first conflict.blocked conflict.barred is_conflict in
    let p = err_from_is_err_and c.from_residual.result c.from_residual.ensures.1 in
    let late = c.in_err-check-in-Err.ensures.late in
    record {
      claimed = rw p.1 tt;
      holder = rw p.1 tt;
      timely = rw p.1 tt;
      failed = rw p.1 (λ h b stands version.
          let here = inv.unmoved h b stands version in
          inl ((conflict.conflict (ap Err is_conflict)).stands h b here.0 here.1.within));
      spends = spends-update _ _ _ _ _ _ c.loop-asked-test.ensures.spent inv.spends conflict.spends;
      few = λ h b stands version. attempt-within_two _ _ _ _ _ _ _ _ _ _ _ _ _ (inv.timed.2 h b stands version) c.loop-asked-test.ensures.spent conflict.spends.left_least;
      enough = λ h b stands version most is. not_exhausted _ (rw p.1 (rw p.2 (rw late.0 tt))) is;
      cause = rw p.1 (rw p.2 (rw late.0 (inv.timeout, subst (λ n. ReadsLate n (g.K.SystemClock.readings c.args.clock.now) (g.K.SystemClock.readings c.check.new.clock)) inv.timeout (reads-late _ _ _ _ _ _ (reads-more _ _ inv.timed.0 _ _ _ inv.timed.1 (conflict.conflict_in_time (ap Err is_conflict))) late.1))));
      unwritten = rw p.1 (rw p.2 (rw late.0 (λ unwritten h b stands version.
          let here = inv.unmoved h b stands version in
          (conflict.conflict (ap Err is_conflict)).stands h b here.0 here.1.within)));
      blocked = λ e none some. absurd (begun.0 e none);
      barred = λ e next fails. absurd (begun.1 e next fails);
      idle = rw p.1 (rw p.2 (rw late.0 (λ blocks. absurd blocks)));
      late = rw p.1 (rw p.2 (rw late.0 (λ late. late-spent _ _ _ _ _ _ conflict.spends.calls_most inv.spends.calls_most c.loop-asked-test.ensures.spent)));
      paged = λ h b stands version.
          let here = inv.unmoved h b stands version in
          pages-most _ _ _ _ (conflict.paged h b here.0 here.1.within) (inv.paged h b stands version);
      placed = conflict.placed ∙ inv.placed;
      others = others-placed (λ at. g.P.TransactionalStorageProtocol.owns at) (λ at n. g.P.TransactionalStorageProtocol.version_file at n) (λ at n. g.met.P.TransactionalStorageProtocol.owns_version at n) (g.P.TransactionalStorageProtocol.number c.loop-asked.view.id + 1) inv.placed inv.others conflict.creates;
      kept = keeps-create _ _ _ _ inv.kept conflict.creates;
    }

pub returns-in_err-refresh-in-Err : goal.returns-in_err-refresh-in-Err
returns-in_err-refresh-in-Err g c =
    let inv = c.loop-asked.invariant in
    let conflict = c.in-Err.ensures in
    let is_conflict = c.is_sequenced_write_conflict.ensures.kind.0 c.if-is_sequenced_write_conflict.true in
    let begun = has_begun (λ v. g.X.EpochField.epoch_of c.args.epochs v.object) (λ v e. All (λ i. g.I.Invariant.holds i (g.X.EpochField.with_epoch c.args.epochs v.object e) v.object) v.invariants.items) c.args.asked _ _ _ _ _ _ _ inv.first conflict.blocked conflict.barred is_conflict in
    let refresh = c.refresh.ensures in
    let overtaken = conflict.conflict (ap Err is_conflict) in
    let p = err_from_is_err_and c.from_residual-in_err-refresh-in-Err.result c.from_residual-in_err-refresh-in-Err.ensures.1 in
    let stood = g.P.TransactionalStorageProtocol.stands c.args.protocol.now c.args.store.now in
    let number = g.P.TransactionalStorageProtocol.number c.args.view.id in
    let unheld : Type 0 = (h : List g.row.T.Denot) (b : ℕ) → stood h b → IsVersion h number c.args.view.object → ⊥ in
    let epoch_of = g.X.EpochField.epoch_of c.args.epochs in
    let with_epoch = g.X.EpochField.with_epoch c.args.epochs in
    let met : ℕ → g.row.T.Denot → Type 0 = λ n v. ((n ≡ number) × (v ≡ c.args.view.object)) ⊎ ((h : List g.row.T.Denot) (b : ℕ) → stood h b → IsVersion h number c.args.view.object → IsLatest h n v) in
    let fails : TransactionalObjectError → Type 0 = λ error. (n : ℕ) × (v : g.row.T.Denot) × met n v × ((e : ℕ) × NextEpoch c.args.asked (epoch_of v) e × IsTestFailure (λ i. g.I.Invariant.holds i (with_epoch v e) v) (λ i. g.I.Invariant.fails i (with_epoch v e) v) c.args.view.invariants.items error) in
    let blocked : TransactionalObjectError → Type 0 = λ error. (n : ℕ) × (v : g.row.T.Denot) × met n v × HasNoEpoch c.args.asked (epoch_of v) error in
    let full : Type 0 = (n : ℕ) × (v : g.row.T.Denot) × met n v × (n + 1 ≡ 2 ^ 64) in
    let told = rw c.in_err-refresh-in-Err.was at c.refresh.follows.holds-at-none in
    let told_cause : HasCauseOfRefresh (g.P.TransactionalStorageProtocol.stands c.attempt.new.protocol c.attempt.new.store) c.refresh.new.turns (g.S.ObjectStore.state c.attempt.new.store) (g.S.ObjectStore.state c.refresh.new.store) c.in_err-refresh-in-Err.field-0.0 = elim told [ inl same ↦ same.1 | inr shuts ↦ absurd shuts.1 ] in
    let failures : (g.S.ObjectStore.state c.args.store.now).failures ≤ (g.S.ObjectStore.state c.attempt.new.store).failures = omega (arith, inv.spends.failures_rise, conflict.spends.failures_rise) in
    let spent : (h : List g.row.T.Denot) (b : ℕ) → stood h b → IsVersion h number c.args.view.object → (c.args.turns.now ≤ c.refresh.new.turns + 3 + 2 * g.P.TransactionalStorageProtocol.pages c.args.protocol.now c.args.store.now) × ((g.S.ObjectStore.state c.args.store.now).left ≤ (g.S.ObjectStore.state c.refresh.new.store).left + 1) = λ h b stands version.
    let here = inv.unmoved h b stands version in
    conflict-spent _ _ _ _ _ _ _ _ _ _ _ _ _ _ _ _ (inv.timed.2 h b stands version) (λ latest. latest-not_overtaken _ _ _ h b _ overtaken here.0 here.1 latest) c.loop-asked-test.ensures.spent (conflict.paged h b here.0 here.1.within) (refresh.few h b (overtaken.stands h b here.0 here.1.within)) conflict.spends.left_least refresh.spends.left_least in
    record {
      claimed = rw p.1 tt;
      holder = rw p.1 tt;
      timely = rw p.1 tt;
      failed = rw p.1 (λ h b stands version.
          let here = inv.unmoved h b stands version in
          inl (refresh.kept h b (overtaken.stands h b here.0 here.1.within)));
      spends = spends-refresh _ _ _ _ _ _ (spends-update _ _ _ _ _ _ c.loop-asked-test.ensures.spent inv.spends conflict.spends) refresh.spends;
      few = λ h b stands version.
          let most = spent h b stands version in
          one-within_two _ _ _ _ _ most.0 most.1;
      enough = λ h b stands version most is. conflict-left _ _ _ (spent h b stands version).0 (refresh-exhausted (g.P.TransactionalStorageProtocol.stands c.attempt.new.protocol c.attempt.new.store) c.refresh.new.turns (g.S.ObjectStore.state c.attempt.new.store) (g.S.ObjectStore.state c.refresh.new.store) _ told_cause (ap Err (sym p.2) ∙ sym p.1 ∙ is)) most;
      cause = rw p.1 (rw p.2 (claim-refresh _ _ fails blocked full unheld c.refresh.new.turns (g.S.ObjectStore.state c.args.store.now) (g.S.ObjectStore.state c.attempt.new.store) (g.S.ObjectStore.state c.refresh.new.store) (g.P.TransactionalStorageProtocol.stands c.attempt.new.protocol c.attempt.new.store) failures
          (λ empty h b stands version.
          let here = inv.unmoved h b stands version in
          none-empty h (empty h b (overtaken.stands h b here.0 here.1.within)) version)
          (λ unheld h b stands version.
          let here = inv.unmoved h b stands version in
          unheld h b (overtaken.stands h b here.0 here.1.within))
          _ told_cause));
      unwritten = rw p.1 (rw p.2 (λ unwritten h b stands version.
          let here = inv.unmoved h b stands version in
          refresh.kept h b (overtaken.stands h b here.0 here.1.within)));
      blocked = λ e none some. absurd (begun.0 e none);
      barred = λ e next fails. absurd (begun.1 e next fails);
      idle = rw p.1 (rw p.2 (λ blocks. absurd (refresh-not_blocking (g.P.TransactionalStorageProtocol.stands c.attempt.new.protocol c.attempt.new.store) c.refresh.new.turns (g.S.ObjectStore.state c.attempt.new.store) (g.S.ObjectStore.state c.refresh.new.store) _ blocks told_cause)));
      late = rw p.1 (rw p.2 (λ late. absurd (refresh-not_late (g.P.TransactionalStorageProtocol.stands c.attempt.new.protocol c.attempt.new.store) c.refresh.new.turns (g.S.ObjectStore.state c.attempt.new.store) (g.S.ObjectStore.state c.refresh.new.store) _ late told_cause)));
      paged = λ h b stands version.
          let here = inv.unmoved h b stands version in
          let read = refresh.paged h b (overtaken.stands h b here.0 here.1.within) in
          rw read (pages-most _ _ _ _ (conflict.paged h b here.0 here.1.within) (inv.paged h b stands version));
      placed = refresh.placed ∙ conflict.placed ∙ inv.placed;
      others = others-trans (others-placed (λ at. g.P.TransactionalStorageProtocol.owns at) (λ at n. g.P.TransactionalStorageProtocol.version_file at n) (λ at n. g.met.P.TransactionalStorageProtocol.owns_version at n) (g.P.TransactionalStorageProtocol.number c.loop-asked.view.id + 1) inv.placed inv.others conflict.creates) (others-same refresh.files);
      kept = keeps-same _ _ _ (keeps-create _ _ _ _ inv.kept conflict.creates) refresh.files;
    }

pub returns-in-Err-2 : goal.returns-in-Err-2
returns-in-Err-2 g c =
    let inv = c.loop-asked.invariant in
    let attempt = c.in-Err.ensures in
    record {
      claimed = tt;
      holder = tt;
      timely = tt;
      failed = λ h b stands version.
          let here = inv.unmoved h b stands version in
          elim (attempt.err h b here.0 here.1.within) [
            | inl after ↦ inl after
            | inr written ↦ inr (g.P.TransactionalStorageProtocol.number c.loop-asked.view.id, c.loop-asked.view.object, written.1, latest-of_version here.1 written.0, written.2, written.3)
          ];
      spends = spends-update _ _ _ _ _ _ c.loop-asked-test.ensures.spent inv.spends attempt.spends;
      few = λ h b stands version. attempt-within_two _ _ _ _ _ _ _ _ _ _ _ _ _ (inv.timed.2 h b stands version) c.loop-asked-test.ensures.spent attempt.spends.left_least;
      enough = λ h b stands version most is. not_exhausted _ (attempt-other _ _ _ (g.P.TransactionalStorageProtocol.number c.loop-asked.view.id) _ (λ error. (e : ℕ) × NextEpoch c.args.asked (g.X.EpochField.epoch_of c.args.epochs c.loop-asked.view.object) e × IsTestFailure (λ i. g.I.Invariant.holds i (g.X.EpochField.with_epoch c.args.epochs c.loop-asked.view.object e) c.loop-asked.view.object) (λ i. g.I.Invariant.fails i (g.X.EpochField.with_epoch c.args.epochs c.loop-asked.view.object e) c.loop-asked.view.object) c.loop-asked.view.invariants.items error) _ (g.S.ObjectStore.state c.loop-asked.store) (g.S.ObjectStore.state c.attempt.new.store) _ attempt.cause) is;
      cause =
          let stood = g.P.TransactionalStorageProtocol.stands c.args.protocol.now c.args.store.now in
          let number = g.P.TransactionalStorageProtocol.number c.args.view.id in
          let at = g.P.TransactionalStorageProtocol.number c.loop-asked.view.id in
          let epoch_of = g.X.EpochField.epoch_of c.args.epochs in
          let with_epoch = g.X.EpochField.with_epoch c.args.epochs in
          let met : ℕ → g.row.T.Denot → Type 0 = λ n v. ((n ≡ number) × (v ≡ c.args.view.object)) ⊎ ((h : List g.row.T.Denot) (b : ℕ) → stood h b → IsVersion h number c.args.view.object → IsLatest h n v) in
          let late = ReadsLate c.args.timeout (g.K.SystemClock.readings c.args.clock.now) (g.K.SystemClock.readings c.attempt.new.clock) in
          let fails : TransactionalObjectError → Type 0 = λ error. (n : ℕ) × (v : g.row.T.Denot) × met n v × ((e : ℕ) × NextEpoch c.args.asked (epoch_of v) e × IsTestFailure (λ i. g.I.Invariant.holds i (with_epoch v e) v) (λ i. g.I.Invariant.fails i (with_epoch v e) v) c.args.view.invariants.items error) in
          let blocked : TransactionalObjectError → Type 0 = λ error. (n : ℕ) × (v : g.row.T.Denot) × met n v × HasNoEpoch c.args.asked (epoch_of v) error in
          let full : Type 0 = (n : ℕ) × (v : g.row.T.Denot) × met n v × (n + 1 ≡ 2 ^ 64) in
          let unheld : Type 0 = (h : List g.row.T.Denot) (b : ℕ) → stood h b → IsVersion h number c.args.view.object → ⊥ in
          subst (λ n. HasCauseOfClaim n late fails blocked full unheld c.spend.new.self (g.S.ObjectStore.state c.args.store.now) (g.S.ObjectStore.state c.attempt.new.store) c.in-Err.error) inv.timeout
          (claim-cause c.args.asked (epoch_of c.loop-asked.view.object) c.starting-deadline.result.timeout at
          (ReadsOne (λ r. c.starting-deadline.result.timeout ≤ r - c.starting-deadline.result.start) (g.K.SystemClock.readings c.loop-asked.clock) (g.K.SystemClock.readings c.attempt.new.clock))
          (λ error. (e : ℕ) × NextEpoch c.args.asked (epoch_of c.loop-asked.view.object) e × IsTestFailure (λ i. g.I.Invariant.holds i (with_epoch c.loop-asked.view.object e) c.loop-asked.view.object) (λ i. g.I.Invariant.fails i (with_epoch c.loop-asked.view.object e) c.loop-asked.view.object) c.loop-asked.view.invariants.items error)
          (UnheldAt (g.P.TransactionalStorageProtocol.stands c.loop-asked.protocol c.loop-asked.store) at)
          (g.S.ObjectStore.state c.args.store.now) (g.S.ObjectStore.state c.loop-asked.store) (g.S.ObjectStore.state c.attempt.new.store)
          late
          fails
          blocked
          full
          unheld
          c.spend.new.self
          inv.spends.failures_rise
          (λ late. subst (λ n. ReadsLate n (g.K.SystemClock.readings c.args.clock.now) (g.K.SystemClock.readings c.attempt.new.clock)) inv.timeout (reads-late _ _ _ _ _ _ inv.timed.1 late))
          (λ error failing. (at, c.loop-asked.view.object, inv.met, (failing.0, failing.1, rw inv.invariants at failing.2)))
          (λ error none. (at, c.loop-asked.view.object, inv.met, none))
          (λ fills. (at, c.loop-asked.view.object, inv.met, fills))
          (λ none h b stands version. none h b (inv.unmoved h b stands version).0 (inv.unmoved h b stands version).1.within)
          _ (λ is. true≢false (sym (c.is_sequenced_write_conflict.ensures.kind.1 is) ∙ c.if-is_sequenced_write_conflict.false)) c.in-Err.ensures.cause);
      unwritten = λ unwritten h b stands version. (attempt.unwritten unwritten).1 h b (inv.unmoved h b stands version).0;
      blocked = λ e none some.
          let told = not_begun (λ v. g.X.EpochField.epoch_of c.args.epochs v.object) (λ v e. All (λ i. g.I.Invariant.holds i (g.X.EpochField.with_epoch c.args.epochs v.object e) v.object) v.invariants.items) c.args.asked _ _ _ (g.S.ObjectStore.state c.args.store.now) (g.S.ObjectStore.state c.loop-asked.store) (g.S.ObjectStore.state c.attempt.new.store) _ inv.first attempt.blocked e none in
          (ap Err told.0, told.1);
      barred = λ e next fails. (refl, not_passed (λ v. g.X.EpochField.epoch_of c.args.epochs v.object) (λ v e. All (λ i. g.I.Invariant.holds i (g.X.EpochField.with_epoch c.args.epochs v.object e) v.object) v.invariants.items) c.args.asked _ _ _ (g.S.ObjectStore.state c.args.store.now) (g.S.ObjectStore.state c.loop-asked.store) (g.S.ObjectStore.state c.attempt.new.store) inv.first attempt.barred e next fails);
      idle = λ blocks.
          idle-spent _ _ _ _ _ _ (ap (λ (s : State). s.calls) (attempt.unwritten (blocking-unwritten _ blocks)).0) inv.spends.calls_most c.loop-asked-test.ensures.spent;
      late = λ late.
          late-idle _ _ _ _ _ _ (ap (λ (s : State). s.calls) (attempt.unwritten (late-unwritten _ late)).0) inv.spends.calls_most c.loop-asked-test.ensures.spent;
      paged = λ h b stands version.
          let here = inv.unmoved h b stands version in
          pages-most _ _ _ _ (attempt.paged h b here.0 here.1.within) (inv.paged h b stands version);
      placed = attempt.placed ∙ inv.placed;
      others = others-placed (λ at. g.P.TransactionalStorageProtocol.owns at) (λ at n. g.P.TransactionalStorageProtocol.version_file at n) (λ at n. g.met.P.TransactionalStorageProtocol.owns_version at n) (g.P.TransactionalStorageProtocol.number c.loop-asked.view.id + 1) inv.placed inv.others attempt.creates;
      kept = keeps-create _ _ _ _ inv.kept attempt.creates;
    }

pub returns-in-Ok : goal.returns-in-Ok
returns-in-Ok g c = record {
  claimed = λ h b stands version.
      let inv = c.loop-asked.invariant in
      let here = inv.unmoved h b stands version in
      let ok = c.in-Ok.ensures in
      let latest = ok.updated.newest h b here.0 here.1 in
      let value = ap (λ v. v.object) ok.moved.0 in
      record {
        newest = c.loop-asked.view.object;
        latest = subst (λ n. IsLatest h n c.loop-asked.view.object) latest.id_is latest;
        next = ok.next;
        value = value;
        own = ok.moved.1;
        allowed = rw value (rw inv.invariants at ok.allowed);
        stands = rw value (ok.updated.stands h b here.0 here.1);
        at = rw value (ok.updated.next h b here.0 here.1);
      };
  holder = (refl, ap (λ v. v.invariants) c.in-Ok.ensures.moved.0 ∙ c.loop-asked.invariant.invariants, c.in-Ok.ensures.moved.1, next-asked _ _ _ c.in-Ok.ensures.next);
  timely =
      let inv = c.loop-asked.invariant in
      let one = c.in-Ok.ensures.in_time in
      let more = reads-more _ _ inv.timed.0 _ _ _ inv.timed.1 one in (
        c.starting-deadline.result.start,
        inv.timed.0 ++ one.0 ∷ [],
        subst (λ n. ReadsInTime c.starting-deadline.result.start n (inv.timed.0 ++ one.0 ∷ []) (g.K.SystemClock.readings c.args.clock.now) (g.K.SystemClock.readings c.attempt.new.clock)) inv.timeout more,
        λ h b stands version.
            let here = inv.unmoved h b stands version in
            reads-for _ _ _ _ _ _ _ _ _ _ _ _ (inv.timed.2 h b stands version) (length_push inv.timed.0 one.0) (c.in-Ok.ensures.updated.newest h b here.0 here.1).id_is,
      );
  failed = tt;
  spends = spends-update _ _ _ _ _ _ c.loop-asked-test.ensures.spent c.loop-asked.invariant.spends c.in-Ok.ensures.spends;
  few = λ h b stands version. attempt-within_two _ _ _ _ _ _ _ _ _ _ _ _ _ (c.loop-asked.invariant.timed.2 h b stands version) c.loop-asked-test.ensures.spent c.in-Ok.ensures.spends.left_least;
  enough = λ h b stands version most is. not_exhausted _ tt is;
  cause = tt;
  unwritten = tt;
  blocked = λ e none some. absurd ((ok_begun (λ v. g.X.EpochField.epoch_of c.args.epochs v.object) (λ v e. All (λ i. g.I.Invariant.holds i (g.X.EpochField.with_epoch c.args.epochs v.object e) v.object) v.invariants.items) c.args.asked _ _ _ _ _ _ _ _ c.loop-asked.invariant.first c.in-Ok.ensures.blocked c.in-Ok.ensures.barred).0 e none);
  barred = λ e next fails. absurd ((ok_begun (λ v. g.X.EpochField.epoch_of c.args.epochs v.object) (λ v e. All (λ i. g.I.Invariant.holds i (g.X.EpochField.with_epoch c.args.epochs v.object e) v.object) v.invariants.items) c.args.asked _ _ _ _ _ _ _ _ c.loop-asked.invariant.first c.in-Ok.ensures.blocked c.in-Ok.ensures.barred).1 e next fails);
  idle = tt;
  late = tt;
  paged = λ h b stands version.
      let inv = c.loop-asked.invariant in
      let here = inv.unmoved h b stands version in
      pages-most _ _ _ _ (c.in-Ok.ensures.paged h b here.0 here.1.within) (inv.paged h b stands version);
  placed = c.in-Ok.ensures.placed ∙ c.loop-asked.invariant.placed;
  others = let inv = c.loop-asked.invariant in others-placed (λ at. g.P.TransactionalStorageProtocol.owns at) (λ at n. g.P.TransactionalStorageProtocol.version_file at n) (λ at n. g.met.P.TransactionalStorageProtocol.owns_version at n) (g.P.TransactionalStorageProtocol.number c.loop-asked.view.id + 1) inv.placed inv.others c.in-Ok.ensures.creates;
  kept = keeps-create _ _ _ _ c.loop-asked.invariant.kept c.in-Ok.ensures.creates;
}
