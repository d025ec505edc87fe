-- What the last answer of the mutator and its update gave, and what an attempt spends.
use Rattle.std.proofs.Common.{arith, true≢false, refl, sym, subst, ap, ◌∙◌, Ok, Err, Some, None, inl, inr, ◌≡◌, ◌+◌, ◌^◌, ℕ, List}
use Rattle.std.specs.Fn.{FnReturnsAt}
use Rattle.std.proofs.lemmas.Result.{err_from_is_err_and, IfErr-at_err}
use Rattle.txn_store.specs.declared.types.error.TransactionalObjectError.{TransactionalObjectError}
use Rattle.slatedb_txn_obj.specs.Protocol.{UnheldAt}
use Rattle.slatedb_txn_obj.specs.Views.{IsVersion, Nothing, Entered, Shut, Refused, Failed, Spent, Stopped, HasCauseOfUpdate, ByVersion, ByMutator, ByObject}
use Rattle.slatedb_txn_obj.proofs.AttemptCauses.{apply-shut, apply-mutator, apply-refresh, apply-update, mutator-not_spent}
use Rattle.slatedb_txn_obj.proofs.Updates.{update-left}
use Rattle.slatedb_txn_obj.proofs.Leaving.{others-trans, others-same, others-placed}
use Rattle.slatedb_txn_obj.proofs.Attempts.{spends-turn, spends-none, spends-update, spends-refresh, attempt-spends, turn-left, attempts-after, refresh-within_two, enough-after, paged-after, pages-most, conflict-stays, latest-not_overtaken, candidate-first}
use Rattle.slatedb_txn_obj.proofs.Views.{version-of_latest, none-empty}
use Rattle.slatedb_txn_obj.proofs.object.TransactionalObject.maybe_apply_update.Goals as goal

pub loop-self-preserved : goal.loop-self-preserved
loop-self-preserved g c =
    let inv = c.loop-self.invariant in
    let conflict = c.in-Err-update.ensures in
    let refresh = c.refresh.ensures in
    let exists = ap Err (c.is_sequenced_write_conflict.ensures.kind.0 c.if-is_sequenced_write_conflict.true) in
    let shown = rw c.in_ok-refresh-in-Err-update.was at c.refresh.follows.holds-at-none in
    let stays = conflict-stays (g.P.TransactionalStorageProtocol.stands c.loop-self.protocol c.loop-self.store) (g.P.TransactionalStorageProtocol.stands c.update.new.protocol c.update.new.store) (g.P.TransactionalStorageProtocol.number (g.Self.TransactionalObject.at c.loop-self.self)) (g.Id.PartialEq.eq c.in-Ok-Some.dirty.id (g.Self.TransactionalObject.at c.loop-self.self)) (λ no h b stands. rw (conflict.other no).1 (rw (conflict.other no).2 stands)) (conflict.conflict exists) in
    let answered : FnReturnsAt g.F.Fn c.args.mutator.now c.loop-self.self (Ok (Some c.in-Ok-Some.dirty)) = record { shown = _; shows = refl; says = record { met = rw c.in-Ok-Some.field-0-is at c.in-Ok-Some.ensures } } in
    record {
      callable = inv.callable;
      unmoved = λ h b stands version.
          let here = inv.unmoved h b stands version in
          let after = stays h b here.0 here.1.within in
          (refresh.kept h b after, version-of_latest (shown.2 h b after));
      spends = spends-refresh _ _ _ _ _ _ (spends-update _ _ _ _ _ _ c.loop-self-test.ensures.spent inv.spends conflict.spends) refresh.spends;
      attempts = λ h b stands version keeps.
          let here = inv.unmoved h b stands version in
          let overtaken = conflict.conflict exists (keeps c.loop-self.self c.in-Ok-Some.dirty answered) in
          let spent = attempts-after _ _ _ _ _ _ _ _ _ _ _ _ (λ latest. latest-not_overtaken _ _ _ h b _ overtaken here.0 here.1 latest) c.loop-self-test.ensures.spent (conflict.paged h b here.0 here.1.within) (refresh.few h b (overtaken.stands h b here.0 here.1.within)) conflict.spends.left_least refresh.spends.left_least (inv.attempts h b stands version keeps) in
          inr (spent.0, shown.2 h b (overtaken.stands h b here.0 here.1.within), spent.1);
      same =
          let now = c.refresh.follows.lender-at-none in
          shown.1 ∙ ap (λ v. g.Self.TransactionalObject.moved v (g.Self.TransactionalObject.at now) (g.Self.TransactionalObject.value now)) (conflict.left ∙ inv.same) ∙ g.met.Self.TransactionalObject.moved_again c.args.self.now (g.Self.TransactionalObject.at c.loop-self.self) (g.Self.TransactionalObject.at now) (g.Self.TransactionalObject.value c.loop-self.self) (g.Self.TransactionalObject.value now);
      met = inr (λ h b stands version.
          let here = inv.unmoved h b stands version in
          shown.2 h b (stays h b here.0 here.1.within));
      placed = refresh.placed ∙ conflict.placed ∙ inv.placed;
      others = others-trans (others-placed (λ at. g.P.TransactionalStorageProtocol.owns at) (λ at n. g.P.TransactionalStorageProtocol.version_file at n) (λ at n. g.met.P.TransactionalStorageProtocol.owns_version at n) (g.P.TransactionalStorageProtocol.number (g.Self.TransactionalObject.at c.loop-self.self) + 1) c.loop-self.invariant.placed c.loop-self.invariant.others conflict.creates) (others-same refresh.files);
      paged = λ h b stands version.
          let here = inv.unmoved h b stands version in
          let after = stays h b here.0 here.1.within in
          paged-after (g.Id.PartialEq.eq c.in-Ok-Some.dirty.id (g.Self.TransactionalObject.at c.loop-self.self)) _ _ _ _ _ _ (λ no. rw (conflict.other no).1 (rw (conflict.other no).2 refl)) (λ yes latest. latest-not_overtaken _ _ _ h b _ (conflict.conflict exists yes) here.0 here.1 latest) (conflict.paged h b here.0 here.1.within) (refresh.paged h b after) (shown.2 h b after) (inv.paged h b stands version);
      first = inr (candidate-first (λ v r. FnReturnsAt g.F.Fn c.args.mutator.now v r) _ _ _ _ _ c.in-Ok-Some.dirty c.loop-self.invariant.first answered);
    }

pub returns-in-Ok-None : goal.returns-in-Ok-None
returns-in-Ok-None g c =
    let inv = c.loop-self.invariant in
    record {
      applied = λ h b stands version.
          let here = inv.unmoved h b stands version in
          Nothing here.1 (elim inv.met [ inl same ↦ inl same | inr latest ↦ inr (latest h b stands version) ]) (record { shown = _; shows = refl; says = record { met = rw c.in-Ok-None.field-0-is at c.in-Ok-None.ensures } }) here.0;
      failed = tt;
      first = λ some.
          elim inv.first [
            | inl same ↦ (
              Ok None,
              subst (λ v. FnReturnsAt g.F.Fn c.args.mutator.now v (Ok None)) same.0 (record { shown = _; shows = refl; says = record { met = rw c.in-Ok-None.field-0-is at c.in-Ok-None.ensures } }),
              (refl, (same.0, same.1, same.2, sym same.3 ∙ c.loop-self-test.ensures.spent)),
            )
            | inr earlier ↦ (Ok (Some earlier.0), earlier.1, tt)
          ];
      spends = spends-turn _ _ _ _ _ c.loop-self-test.ensures.spent inv.spends;
      few = λ h b stands version keeps. attempt-spends _ _ _ _ _ _ _ _ _ (omega (arith, c.loop-self-test.ensures.spent)) (omega arith) (inv.attempts h b stands version keeps);
      enough = λ h b stands version keeps many is. absurd (cc);
      cause = tt;
      same_object = inv.same;
      met = tt;
      paged = λ h b stands version. pages-most _ _ _ _ (omega arith) (inv.paged h b stands version);
      placed = inv.placed;
      others = inv.others;
    }

pub returns-in-Ok : goal.returns-in-Ok
returns-in-Ok g c =
    let inv = c.loop-self.invariant in
    let update = c.in-Ok.ensures in
    let answered : FnReturnsAt g.F.Fn c.args.mutator.now c.loop-self.self (Ok (Some c.in-Ok-Some.dirty)) = record { shown = _; shows = refl; says = record { met = rw c.in-Ok-Some.field-0-is at c.in-Ok-Some.ensures } } in
    record {
      applied = λ h b stands version.
          let here = inv.unmoved h b stands version in
          Entered c.loop-self.self c.in-Ok-Some.dirty inv.same (update.updated.newest h b here.0 here.1) answered update.allowed (update.updated.stands h b here.0 here.1) (rw update.moved.1 (update.updated.next h b here.0 here.1));
      failed = tt;
      first = λ some.
          let candidate = candidate-first (λ v r. FnReturnsAt g.F.Fn c.args.mutator.now v r) _ _ _ _ _ c.in-Ok-Some.dirty inv.first answered in
          (Ok (Some candidate.0), candidate.1, tt);
      spends = spends-update _ _ _ _ _ _ c.loop-self-test.ensures.spent inv.spends update.spends;
      few = λ h b stands version keeps. attempt-spends _ _ _ _ _ _ _ _ _ (omega (arith, c.loop-self-test.ensures.spent)) update.spends.left_least (inv.attempts h b stands version keeps);
      enough = λ h b stands version keeps many is. absurd (cc);
      cause = tt;
      same_object =
          let moved = update.moved in
          let now = c.update.new.self in
          moved.0 ∙ ap (λ v. g.Self.TransactionalObject.moved v (g.Self.TransactionalObject.at now) c.in-Ok-Some.dirty.value) inv.same
          ∙ g.met.Self.TransactionalObject.moved_again c.args.self.now (g.Self.TransactionalObject.at c.loop-self.self) (g.Self.TransactionalObject.at now) (g.Self.TransactionalObject.value c.loop-self.self) c.in-Ok-Some.dirty.value
          ∙ ap (λ x. g.Self.TransactionalObject.moved c.args.self.now (g.Self.TransactionalObject.at now) x) (sym moved.1);
      met = tt;
      paged = λ h b stands version.
          let here = inv.unmoved h b stands version in
          pages-most _ _ _ _ (update.paged h b here.0 here.1.within) (inv.paged h b stands version);
      placed = update.placed ∙ inv.placed;
      others = others-placed (λ at. g.P.TransactionalStorageProtocol.owns at) (λ at n. g.P.TransactionalStorageProtocol.version_file at n) (λ at n. g.met.P.TransactionalStorageProtocol.owns_version at n) (g.P.TransactionalStorageProtocol.number (g.Self.TransactionalObject.at c.loop-self.self) + 1) inv.placed inv.others update.creates;
    }

pub returns-in-Err : goal.returns-in-Err
returns-in-Err g c =
    let inv = c.loop-self.invariant in
    record {
      applied = tt;
      failed = λ h b stands version.
          let here = inv.unmoved h b stands version in
          Refused c.in-Err.fault here.1 (record { shown = _; shows = refl; says = record { met = c.in-Err.ensures } }) c.from.ensures here.0;
      first = λ some.
          elim inv.first [
            | inl same ↦ (
              Err c.in-Err.fault,
              subst (λ v. FnReturnsAt g.F.Fn c.args.mutator.now v (Err c.in-Err.fault)) same.0 (record { shown = _; shows = refl; says = record { met = c.in-Err.ensures } }),
              (ap Err c.from.ensures, (same.0, same.1, same.2, sym same.3 ∙ c.loop-self-test.ensures.spent)),
            )
            | inr earlier ↦ (Ok (Some earlier.0), earlier.1, tt)
          ];
      spends = spends-turn _ _ _ _ _ c.loop-self-test.ensures.spent inv.spends;
      few = λ h b stands version keeps. attempt-spends _ _ _ _ _ _ _ _ _ (omega (arith, c.loop-self-test.ensures.spent)) (omega arith) (inv.attempts h b stands version keeps);
      enough = λ h b stands version keeps many is. mutator-not_spent c.in-Err.fault _ c.from.ensures (IfErr-at_err (λ e. c.from.result ≡ e) is refl);
      cause =
          let object = g.Self.TransactionalObject in
          let protocol = g.P.TransactionalStorageProtocol in
          let state = g.S.ObjectStore.state in
          let stopped : TransactionalObjectError → Type 0 = Stopped (λ v r. FnReturnsAt g.F.Fn c.args.mutator.now v r) object.is_shut object.refuses c.loop-self.self in
          let full : Type 0 = protocol.number (object.at c.loop-self.self) + 1 ≡ 2 ^ 64 in
          let unheld : Type 0 = (h : List g.row.T.Denot) (b : ℕ) → protocol.stands c.args.protocol.now c.args.store.now h b → IsVersion h (protocol.number (object.at c.args.self.now)) (object.value c.args.self.now) → ⊥ in
          rw c.from.ensures (apply-mutator stopped full unheld c.spend.new.self (state c.args.store.now) (state c.loop-self.store) (state c.loop-self.store) c.in-Err.fault (ByMutator c.in-Err.fault (record { shown = _; shows = refl; says = record { met = c.in-Err.ensures } }) refl));
      same_object = inv.same;
      met = inv.met;
      paged = λ h b stands version. pages-most _ _ _ _ (omega arith) (inv.paged h b stands version);
      placed = inv.placed;
      others = inv.others;
    }

pub returns-in-Err-2 : goal.returns-in-Err-2
returns-in-Err-2 g c =
    let inv = c.loop-self.invariant in
    let update = c.in-Err-update.ensures in
    let answered : FnReturnsAt g.F.Fn c.args.mutator.now c.loop-self.self (Ok (Some c.in-Ok-Some.dirty)) = record { shown = _; shows = refl; says = record { met = rw c.in-Ok-Some.field-0-is at c.in-Ok-Some.ensures } } in
    record {
      applied = tt;
      failed = λ h b stands version.
          let here = inv.unmoved h b stands version in
          let now : IsVersion h (g.P.TransactionalStorageProtocol.number (g.Self.TransactionalObject.at c.update.new.self)) (g.Self.TransactionalObject.value c.update.new.self) = rw update.left here.1 in
          let object = g.Self.TransactionalObject in
          let protocol = g.P.TransactionalStorageProtocol in
          let state = g.S.ObjectStore.state in
          let at = protocol.number (object.at c.loop-self.self) in
          Failed c.in-Ok-Some.dirty now (rw update.left answered) (update-left (λ e. object.refuses c.loop-self.self c.in-Ok-Some.dirty.value e) (UnheldAt (protocol.stands c.loop-self.protocol c.loop-self.store) at) at (state c.loop-self.store) (state c.update.new.store) _ update.cause
          (λ is. true≢false (sym (c.is_sequenced_write_conflict.ensures.kind.1 is) ∙ c.if-is_sequenced_write_conflict.false))
          (λ none. none h b here.0 here.1.within)
          (λ is. (update.exhausted is).1 h b here.0)
          (λ refusal refuses. let same = update.refused refusal refuses in rw same.0 (rw same.1 here.0))
          (elim (update.err h b here.0 here.1.within) [ inl stays ↦ inl stays | inr grown ↦ inr (ap (λ v. protocol.number (object.at v)) update.left ∙ grown.0, grown.1) ]));
      first = λ some.
          let candidate = candidate-first (λ v r. FnReturnsAt g.F.Fn c.args.mutator.now v r) _ _ _ _ _ c.in-Ok-Some.dirty inv.first answered in
          (Ok (Some candidate.0), candidate.1, tt);
      spends = spends-update _ _ _ _ _ _ c.loop-self-test.ensures.spent inv.spends update.spends;
      few = λ h b stands version keeps. attempt-spends _ _ _ _ _ _ _ _ _ (omega (arith, c.loop-self-test.ensures.spent)) update.spends.left_least (inv.attempts h b stands version keeps);
      enough = λ h b stands version keeps many is. IfErr-at_err (HasCauseOfUpdate (λ e. g.Self.TransactionalObject.refuses c.loop-self.self c.in-Ok-Some.dirty.value e) (UnheldAt (g.P.TransactionalStorageProtocol.stands c.loop-self.protocol c.loop-self.store) (g.P.TransactionalStorageProtocol.number (g.Self.TransactionalObject.at c.loop-self.self))) (g.P.TransactionalStorageProtocol.number (g.Self.TransactionalObject.at c.loop-self.self)) (g.S.ObjectStore.state c.loop-self.store) (g.S.ObjectStore.state c.update.new.store)) is update.cause;
      cause =
          let object = g.Self.TransactionalObject in
          let protocol = g.P.TransactionalStorageProtocol in
          let state = g.S.ObjectStore.state in
          let stopped : TransactionalObjectError → Type 0 = Stopped (λ v r. FnReturnsAt g.F.Fn c.args.mutator.now v r) object.is_shut object.refuses c.update.new.self in
          let full : Type 0 = protocol.number (object.at c.update.new.self) + 1 ≡ 2 ^ 64 in
          let unheld : Type 0 = (h : List g.row.T.Denot) (b : ℕ) → protocol.stands c.args.protocol.now c.args.store.now h b → IsVersion h (protocol.number (object.at c.args.self.now)) (object.value c.args.self.now) → ⊥ in
          let refuses : TransactionalObjectError → Type 0 = λ e. object.refuses c.loop-self.self c.in-Ok-Some.dirty.value e in
          let stops : (error : TransactionalObjectError) → refuses error → stopped error = λ error why. ByObject c.in-Ok-Some.dirty (rw update.left answered) (subst (λ v. object.refuses v c.in-Ok-Some.dirty.value error) (sym update.left) why) in
          apply-update stopped full unheld c.spend.new.self (state c.args.store.now) (state c.loop-self.store) (state c.update.new.store) refuses _ _ inv.spends.failures_rise
          stops
          (λ fills. rw update.left fills)
          (λ none h b stands version. none h b (inv.unmoved h b stands version).0 (inv.unmoved h b stands version).1.within)
          _ (λ is. true≢false (sym (c.is_sequenced_write_conflict.ensures.kind.1 is) ∙ c.if-is_sequenced_write_conflict.false)) update.cause;
      same_object = rw update.left inv.same;
      met = rw update.left inv.met;
      paged = λ h b stands version.
          let here = inv.unmoved h b stands version in
          pages-most _ _ _ _ (update.paged h b here.0 here.1.within) (inv.paged h b stands version);
      placed = update.placed ∙ inv.placed;
      others = others-placed (λ at. g.P.TransactionalStorageProtocol.owns at) (λ at n. g.P.TransactionalStorageProtocol.version_file at n) (λ at n. g.met.P.TransactionalStorageProtocol.owns_version at n) (g.P.TransactionalStorageProtocol.number (g.Self.TransactionalObject.at c.loop-self.self) + 1) inv.placed inv.others update.creates;
    }

pub returns-in_err-refresh-in-Err-update : goal.returns-in_err-refresh-in-Err-update
returns-in_err-refresh-in-Err-update g c =
    let p = err_from_is_err_and c.from_residual.result c.from_residual.ensures.1 in
    let inv = c.loop-self.invariant in
    let conflict = c.in-Err-update.ensures in
    let refresh = c.refresh.ensures in
    let exists = ap Err (c.is_sequenced_write_conflict.ensures.kind.0 c.if-is_sequenced_write_conflict.true) in
    let stays = conflict-stays (g.P.TransactionalStorageProtocol.stands c.loop-self.protocol c.loop-self.store) (g.P.TransactionalStorageProtocol.stands c.update.new.protocol c.update.new.store) (g.P.TransactionalStorageProtocol.number (g.Self.TransactionalObject.at c.loop-self.self)) (g.Id.PartialEq.eq c.in-Ok-Some.dirty.id (g.Self.TransactionalObject.at c.loop-self.self)) (λ no h b stands. rw (conflict.other no).1 (rw (conflict.other no).2 stands)) (conflict.conflict exists) in
    let answered : FnReturnsAt g.F.Fn c.args.mutator.now c.loop-self.self (Ok (Some c.in-Ok-Some.dirty)) = record { shown = _; shows = refl; says = record { met = rw c.in-Ok-Some.field-0-is at c.in-Ok-Some.ensures } } in
    let told = rw c.in_err-refresh-in-Err-update.was at c.refresh.follows.holds-at-none in
    record {
      applied = rw p.1 tt;
      failed =
          rw p.1 (rw p.2 (λ h b stands version.
          let here = inv.unmoved h b stands version in
          let still = stays h b here.0 here.1.within in
          let after = refresh.kept h b still in
          elim told [
            | inl same ↦ Failed c.in-Ok-Some.dirty (rw (same.0 ∙ conflict.left) here.1) (rw (same.0 ∙ conflict.left) answered) (inl after)
            | inr shut ↦ Shut (shut.3 h b still) shut.0 shut.1 after
          ]));
      first = λ some.
          let candidate = candidate-first (λ v r. FnReturnsAt g.F.Fn c.args.mutator.now v r) _ _ _ _ _ c.in-Ok-Some.dirty inv.first answered in
          (Ok (Some candidate.0), candidate.1, tt);
      spends = spends-refresh _ _ _ _ _ _ (spends-update _ _ _ _ _ _ c.loop-self-test.ensures.spent inv.spends conflict.spends) refresh.spends;
      few = λ h b stands version keeps.
          let here = inv.unmoved h b stands version in
          let overtaken = conflict.conflict exists (keeps c.loop-self.self c.in-Ok-Some.dirty answered) in
          refresh-within_two _ _ _ _ _ _ _ _ _ _ _ _ (λ latest. latest-not_overtaken _ _ _ h b _ overtaken here.0 here.1 latest) c.loop-self-test.ensures.spent (conflict.paged h b here.0 here.1.within) (refresh.few h b (overtaken.stands h b here.0 here.1.within)) conflict.spends.left_least refresh.spends.left_least (inv.attempts h b stands version keeps);
      enough = λ h b stands version keeps many is.
          let here = inv.unmoved h b stands version in
          let overtaken = conflict.conflict exists (keeps c.loop-self.self c.in-Ok-Some.dirty answered) in
          refresh.enough h b (overtaken.stands h b here.0 here.1.within) (enough-after _ _ _ _ _ _ _ _ _ (λ latest. latest-not_overtaken _ _ _ h b _ overtaken here.0 here.1 latest) many c.loop-self-test.ensures.spent (conflict.paged h b here.0 here.1.within) (inv.attempts h b stands version keeps)) (c.in_err-refresh-in-Err-update.was ∙ ap Err (IfErr-at_err (λ e. c.in_err-refresh-in-Err-update.field-0.0 ≡ e) (ap Err (sym p.2) ∙ sym p.1 ∙ is) refl));
      cause =
          let object = g.Self.TransactionalObject in
          let protocol = g.P.TransactionalStorageProtocol in
          let state = g.S.ObjectStore.state in
          let stopped : TransactionalObjectError → Type 0 = Stopped (λ v r. FnReturnsAt g.F.Fn c.args.mutator.now v r) object.is_shut object.refuses c.refresh.follows.lender-at-none in
          let full : Type 0 = protocol.number (object.at c.refresh.follows.lender-at-none) + 1 ≡ 2 ^ 64 in
          let unheld : Type 0 = (h : List g.row.T.Denot) (b : ℕ) → protocol.stands c.args.protocol.now c.args.store.now h b → IsVersion h (protocol.number (object.at c.args.self.now)) (object.value c.args.self.now) → ⊥ in
          rw p.1 (rw p.2 (elim told [
            | inl same ↦ apply-refresh stopped full unheld c.refresh.new.turns (state c.args.store.now) (state c.update.new.store) (state c.refresh.new.store) (protocol.stands c.update.new.protocol c.update.new.store)
                (omega (arith, inv.spends.failures_rise, conflict.spends.failures_rise))
                (λ empty h b stands version.
                let here = inv.unmoved h b stands version in
                none-empty h (empty h b (stays h b here.0 here.1.within)) version)
                (λ none h b stands version.
                let here = inv.unmoved h b stands version in
                none h b (stays h b here.0 here.1.within))
                _ same.1
            | inr shuts ↦ apply-shut stopped full unheld c.refresh.new.turns (state c.args.store.now) (state c.update.new.store) (state c.refresh.new.store) _ shuts.0 (ByVersion shuts.1)
          ]));
      same_object =
          let now = c.refresh.follows.lender-at-none in
          elim told [
            | inl same ↦ rw (same.0 ∙ conflict.left) inv.same
            | inr shuts ↦ shuts.2 ∙ ap (λ v. g.Self.TransactionalObject.moved v (g.Self.TransactionalObject.at now) (g.Self.TransactionalObject.value now)) (conflict.left ∙ inv.same) ∙ g.met.Self.TransactionalObject.moved_again c.args.self.now (g.Self.TransactionalObject.at c.loop-self.self) (g.Self.TransactionalObject.at now) (g.Self.TransactionalObject.value c.loop-self.self) (g.Self.TransactionalObject.value now)
          ];
      met =
          rw p.1 (elim told [
            | inl same ↦ rw (same.0 ∙ conflict.left) inv.met
            | inr shuts ↦ inr (λ h b stands version.
                let here = inv.unmoved h b stands version in
                shuts.3 h b (stays h b here.0 here.1.within))
          ]);
      paged = λ h b stands version.
          let here = inv.unmoved h b stands version in
          let read = refresh.paged h b (stays h b here.0 here.1.within) in
          rw read (pages-most _ _ _ _ (conflict.paged h b here.0 here.1.within) (inv.paged h b stands version));
      placed = refresh.placed ∙ conflict.placed ∙ inv.placed;
      others = others-trans (others-placed (λ at. g.P.TransactionalStorageProtocol.owns at) (λ at n. g.P.TransactionalStorageProtocol.version_file at n) (λ at n. g.met.P.TransactionalStorageProtocol.owns_version at n) (g.P.TransactionalStorageProtocol.number (g.Self.TransactionalObject.at c.loop-self.self) + 1) inv.placed inv.others conflict.creates) (others-same refresh.files);
    }

pub returns : goal.returns
returns g c =
    let inv = c.loop-self.invariant in
    record {
      applied = tt;
      failed = λ h b stands version.
          let here = inv.unmoved h b stands version in
          Spent here.1 refl here.0;
      first = λ some.
          elim inv.first [
            | inl same ↦ absurd (omega (arith, some, same.3, c.loop-self-test.ensures.none.0))
            | inr earlier ↦ (Ok (Some earlier.0), earlier.1, tt)
          ];
      spends = spends-none _ _ _ _ _ c.loop-self-test.ensures.none inv.spends;
      few = λ h b stands version keeps. attempt-spends _ _ _ _ _ _ _ _ _ (omega (arith, c.loop-self-test.ensures.none.0)) (omega arith) (inv.attempts h b stands version keeps);
      enough = λ h b stands version keeps many is. turn-left _ _ _ _ _ _ _ many c.loop-self-test.ensures.none.0 (inv.attempts h b stands version keeps);
      cause = c.loop-self-test.ensures.none.1;
      same_object = inv.same;
      met = inv.met;
      paged = λ h b stands version. pages-most _ _ _ _ (omega arith) (inv.paged h b stands version);
      placed = inv.placed;
      others = inv.others;
    }
