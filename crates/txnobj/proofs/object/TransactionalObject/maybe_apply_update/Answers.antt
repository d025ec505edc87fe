use Rattle.std.proofs.Common.{arith, ◌≡◌, ◌∙◌, true≢false, Ok, Err, refl, sym, ap, subst, inl, inr}
use Rattle.std.proofs.lemmas.Result.{err_from_is_err_and}
use Rattle.std.specs.Fn.{FnReturnsAt}
use Rattle.txnobj.specs.declared.error.Error.TheVariants.{ObjectVersionExists}
use Rattle.txnobj.specs.Retrying.{Round, Unchanged, NotAsked, Tried, NotRefreshed}
use Rattle.txnobj.specs.Rounds.{Rounds}
use Rattle.txnobj.proofs.Rounds.{after_rounds, rounds_more}
use Rattle.txnobj.proofs.object.TransactionalObject.maybe_apply_update.Goals as goal

pub returns-in-Ok-None : goal.returns-in-Ok-None
returns-in-Ok-None g c =
    inl (after_rounds c.loop-attempt._attempt _ (omega arith) c.loop-attempt.invariant (Unchanged (rw (← (c.in-Ok-None.is ∙ ap Ok c.in-Ok-None.field-0-is)) c.asked.ensures) refl refl))

pub returns-in-Err : goal.returns-in-Err
returns-in-Err g c =
    inl (after_rounds c.loop-attempt._attempt _ (omega arith) c.loop-attempt.invariant (NotAsked c.in-Err.fault (rw (← c.in-Err.is) c.asked.ensures) (ap Err c.from.ensures) refl))

pub returns-in_err-refresh-in-Err-update : goal.returns-in_err-refresh-in-Err-update
returns-in_err-refresh-in-Err-update g c =
    let p = err_from_is_err_and c.from_residual.result c.from_residual.ensures.1 in
    let exists = c.is_sequenced_write_conflict.ensures.kind.0 c.if-is_sequenced_write_conflict.true in
    rw (p.1, p.2) (inl (after_rounds c.loop-attempt._attempt _ (omega arith) c.loop-attempt.invariant (NotRefreshed _ (record {
      between = record { object = c.update.new.self; protocol = c.update.new.protocol };
      conflict = record {
        dirty = c.in-Ok-Some.dirty;
        asked = rw (← (c.in-Ok-Some.is ∙ ap Ok c.in-Ok-Some.field-0-is)) c.asked.ensures;
        update = rw (← exists) c.in-Err-update.ensures;
      };
      refresh = c.in_err-refresh-in-Err-update.ensures;
    }) refl)))

pub returns-in-Err-2 : goal.returns-in-Err-2
returns-in-Err-2 g c =
    inl (after_rounds c.loop-attempt._attempt _ (omega arith) c.loop-attempt.invariant (Tried (record {
      dirty = c.in-Ok-Some.dirty;
      asked = rw (← (c.in-Ok-Some.is ∙ ap Ok c.in-Ok-Some.field-0-is)) c.asked.ensures;
      update = c.in-Err-update.ensures;
    }) (λ same.
    let is : c.in-Err-update.error ≡ ObjectVersionExists = cc in
    true≢false (sym (c.is_sequenced_write_conflict.ensures.kind.1 is) ∙ c.if-is_sequenced_write_conflict.false))))

pub returns-in-Ok : goal.returns-in-Ok
returns-in-Ok g c =
    inl (after_rounds c.loop-attempt._attempt _ (omega arith) c.loop-attempt.invariant (Tried (record {
      dirty = c.in-Ok-Some.dirty;
      asked = rw (← (c.in-Ok-Some.is ∙ ap Ok c.in-Ok-Some.field-0-is)) c.asked.ensures;
      update = c.in-Ok.ensures;
    }) (λ same. cc)))

pub loop-attempt-preserved : goal.loop-attempt-preserved
loop-attempt-preserved g c =
    let exists = c.is_sequenced_write_conflict.ensures.kind.0 c.if-is_sequenced_write_conflict.true in
    rounds_more (Round (λ object answer. FnReturnsAt g.F.Fn c.args.mutator.now object answer) g.Self.TransactionalObject.refreshes g.Self.TransactionalObject.updates) c.loop-attempt._attempt (record { object = c.args.self.now; protocol = c.args.protocol.now }) (record { object = c.loop-attempt.self; protocol = c.loop-attempt.protocol }) (record { object = c.refresh.new.self; protocol = c.refresh.new.protocol }) c.loop-attempt.invariant (record {
      between = record { object = c.update.new.self; protocol = c.update.new.protocol };
      conflict = record {
        dirty = c.in-Ok-Some.dirty;
        asked = rw (← (c.in-Ok-Some.is ∙ ap Ok c.in-Ok-Some.field-0-is)) c.asked.ensures;
        update = rw (← exists) c.in-Err-update.ensures;
      };
      refresh = c.in_ok-refresh-in-Err-update.ensures;
    })

pub returns : goal.returns
returns g c =
    let all : c.loop-attempt._attempt ≡ g.P.TransactionalStorageProtocol.most c.args.protocol.now = omega arith in
    inr (subst (λ count. Rounds (Round (λ object answer. FnReturnsAt g.F.Fn c.args.mutator.now object answer) g.Self.TransactionalObject.refreshes g.Self.TransactionalObject.updates) count (record { object = c.args.self.now; protocol = c.args.protocol.now }) (record { object = c.loop-attempt.self; protocol = c.loop-attempt.protocol })) all c.loop-attempt.invariant, refl)
