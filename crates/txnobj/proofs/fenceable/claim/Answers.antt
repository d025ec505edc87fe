use Rattle.std.proofs.Common.{arith, ◌≡◌, ◌∙◌, ◌++◌, ◌∷◌, [], true≢false, refl, sym, subst, inl, inr}
use Rattle.std.proofs.lemmas.Result.{err_from_is_err_and}
use Rattle.txnobj.specs.declared.error.Error.TheVariants.{TurnsExhausted}
use Rattle.txnobj.specs.Claims.{Round, TimedOut, Answered, NotLoaded}
use Rattle.txnobj.specs.Rounds.{Rounds}
use Rattle.txnobj.proofs.Rounds.{after_rounds, rounds_more}
use Rattle.txnobj.proofs.fenceable.claim.Goals as goal

pub returns-then-not-is_in_time : goal.returns-then-not-is_in_time
returns-then-not-is_in_time g c =
    record {
      start = c.starting-deadline.result.start;
      ends = inl (after_rounds c.loop-attempt._attempt _ (omega arith) c.loop-attempt.invariant (TimedOut (rw c.starting-deadline.ensures.timeout at c.if-not-is_in_time.ensures) refl c.end_view.ensures));
    }

pub returns-in-Ok : goal.returns-in-Ok
returns-in-Ok g c =
    record {
      start = c.starting-deadline.result.start;
      ends = inl (after_rounds c.loop-attempt._attempt _ (omega arith) c.loop-attempt.invariant (Answered (record {
        in_time = rw c.starting-deadline.ensures.timeout at c.if-not-is_in_time.ensures;
        claim = rw c.claim_call.ensures at c.in-Ok.ensures;
      }) (λ same. cc)));
    }

pub returns-in-Err-2 : goal.returns-in-Err-2
returns-in-Err-2 g c =
    record {
      start = c.starting-deadline.result.start;
      ends = inl (after_rounds c.loop-attempt._attempt _ (omega arith) c.loop-attempt.invariant (Answered (record {
        in_time = rw c.starting-deadline.ensures.timeout at c.if-not-is_in_time.ensures;
        claim = rw c.claim_call.ensures at c.in-Err.ensures;
      }) (λ same.
          let is : c.in-Err.error ≡ TurnsExhausted = cc in
          true≢false (sym (c.is_spent.ensures.1 is) ∙ c.if-is_spent.false))));
    }

pub returns-in_err-view : goal.returns-in_err-view
returns-in_err-view g c =
    let p = err_from_is_err_and c.from_residual.result c.from_residual.ensures.1 in
    rw (p.1, p.2) (record {
      start = c.starting-deadline.result.start;
      ends = inl (after_rounds c.loop-attempt._attempt _ (omega arith) c.loop-attempt.invariant (NotLoaded c.held.new.protocol _ (record {
        in_time = rw c.starting-deadline.ensures.timeout at c.if-not-is_in_time.ensures;
        claim = rw (← (c.is_spent.ensures.0 c.if-is_spent.true)) (rw c.claim_call.ensures at c.in-Err.ensures);
      }) c.in_err-view.ensures refl));
    })

pub loop-attempt-preserved : goal.loop-attempt-preserved
loop-attempt-preserved g c =
    rounds_more (Round g.P.TransactionalStorageProtocol.made g.P.TransactionalStorageProtocol.stopped g.P.TransactionalStorageProtocol.tells c.args.asked c.starting-deadline.result.start c.args.timeout) c.loop-attempt._attempt (record { view = c.args.view; protocol = c.args.protocol.now; readings = g.K.SystemClock.readings c.args.clock.now ++ c.starting-deadline.result.start ∷ [] }) (record { view = c.loop-attempt.view; protocol = c.loop-attempt.protocol; readings = g.K.SystemClock.readings c.loop-attempt.clock }) (record { view = c.in_ok-view.view; protocol = c.newest_view.new.protocol; readings = g.K.SystemClock.readings c.is_in_time.new.clock }) c.loop-attempt.invariant (record {
      between = c.held.new.protocol;
      spent = record {
        in_time = rw c.starting-deadline.ensures.timeout at c.if-not-is_in_time.ensures;
        claim = rw (← (c.is_spent.ensures.0 c.if-is_spent.true)) (rw c.claim_call.ensures at c.in-Err.ensures);
      };
      loaded = c.in_ok-view.ensures;
    })

pub returns : goal.returns
returns g c =
    let all : c.loop-attempt._attempt ≡ g.P.TransactionalStorageProtocol.most c.args.protocol.now = omega arith in
    record {
      start = c.starting-deadline.result.start;
      ends = inr (c.loop-attempt.view, c.loop-attempt.protocol, subst (λ count. Rounds (Round g.P.TransactionalStorageProtocol.made g.P.TransactionalStorageProtocol.stopped g.P.TransactionalStorageProtocol.tells c.args.asked c.starting-deadline.result.start c.args.timeout) count (record { view = c.args.view; protocol = c.args.protocol.now; readings = g.K.SystemClock.readings c.args.clock.now ++ c.starting-deadline.result.start ∷ [] }) (record { view = c.loop-attempt.view; protocol = c.loop-attempt.protocol; readings = g.K.SystemClock.readings c.loop-attempt.clock })) all c.loop-attempt.invariant, c.end_view-2.ensures, refl);
    }
