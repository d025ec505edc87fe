-- A call over a read takes a look or a reply as the read of the machine of plain calls does.
use Rattle.std.proofs.Common.{◌≡◌, ℕ, List, Bool, true, false, Option, Some, None, Result, Ok, Err, refl, sym, ◌∙◌, ap, subst, inl}
use Rattle.std.proofs.lemmas.Option.{same_Some}
use Rattle.txn_store.specs.declared.request.Reply.{Reply}
use Rattle.txn_store.specs.declared.types.error.TransactionalObjectError.{TransactionalObjectError}
use Rattle.txn_store.specs.types.Epochs.{epoch_tested}
use Rattle.txn_steps.specs.declared.boundary.caches.Caches.{Caches}
use Rattle.txn_steps.specs.declared.boundary.turned.Turned.{Turned}
use Rattle.txn_steps.specs.declared.boundary.turned.Turned.TheVariants as turns
use Rattle.txn_steps.specs.boundary.Asking.{unless_lacking}
use Rattle.txn_steps.specs.declared.read.ReadOp.{ReadOp}
use Rattle.txn_steps.specs.declared.read.ReadOp.TheVariants as reads
use Rattle.txn_steps.specs.Latest.{ReadAnswer}
use Rattle.txn_steps.specs.Reads.{read_turned, read_caches_after}
use Rattle.txn_history.specs.Names.{world_names, world_boundary}
use Rattle.txn_machine.specs.declared.plain.doing.PlainDoing.{PlainDoing}
use Rattle.txn_machine.specs.declared.plain.doing.PlainDoing.TheVariants as doings
use Rattle.txn_machine.specs.plain.Doing as plain
use Rattle.txn_steps_views.specs.declared.op.ViewOp.{ViewOp}
use Rattle.txn_steps_views.specs.declared.op.ViewOp.TheVariants as ops
use Rattle.txn_steps_views.specs.declared.outcome.Outcome.{Outcome}
use Rattle.txn_steps_views.specs.declared.outcome.Outcome.TheVariants as outcomes
use Rattle.txn_steps_views.specs.declared.view_read.Purpose.{Purpose}
use Rattle.txn_steps_views.specs.declared.view_read.Purpose.TheVariants as purposes
use Rattle.txn_steps_views.specs.Readings.{seen, said}
use Rattle.txn_steps_views.specs.ViewOps.{held}
use Rattle.txn_steps_views.specs.ViewReads.{as_view_read, holder_viewed, shown}
use Rattle.txn_history.specs.declared.event.ViewCall.{ViewCall}
use Rattle.txn_history.specs.declared.event.ViewCall.TheVariants as view_calls
use Rattle.txn_history.specs.declared.event.Call.TheVariants as any
use Rattle.txn_machine.specs.views.Layer.{Reads}
use Rattle.txn_machine.specs.views.Parts.{missed, refusing, viewed}
use Rattle.txn_machine.specs.views.Parts as parts
use Rattle.txn_machine.specs.declared.doing.Doing.TheVariants as does
use Rattle.txn_machine.specs.declared.doing.Ending.TheVariants as endings
use Rattle.txn_machine.specs.Doing.{ended, refused, view_next, goes_by}
use Rattle.txn_machine.specs.Doing as whole
use Rattle.txn_machine.proofs.Matched.{purpose_of, Answered, TurnsAs}
use Rattle.txn_machine.proofs.ReadsLeft.{left_by_refusal, left_as_refused}
use Rattle.txn_machine.proofs.EntryTurns.{Tells, refusal_keeps, puts_view}

module _ {T : Type 0} where
  -- it makes this read, for this purpose
  abbrev pub at_read : Purpose → ReadOp T → ViewOp T
  at_read purpose read = ops.Reads (as_view_read purpose read)

  -- a call over its read, as that of any call
  held_seen : {O : Type 0} (hold : O → ViewOp T) (as_read : ReadOp T → O) (see : Option (ℕ × T) → Result (Outcome T) ℕ) (lacks : Bool) (x : ReadOp T × Turned (ReadAnswer T)) →
      held hold (unless_lacking lacks (as_read reads.Ended) (seen as_read see x)) ≡ unless_lacking lacks (hold (as_read reads.Ended)) (seen (λ read. hold (as_read read)) see x)
  held_seen {O} hold as_read see true x = refl
  held_seen {O} hold as_read see false (read, turns.Goes) = refl
  held_seen {O} hold as_read see false (read, turns.Done (Ok found)) = refl
  held_seen {O} hold as_read see false (read, turns.Done (Err number)) = refl

  -- whatever it is answered, it has ended
  answered_said : (op : ViewOp T) (answer : Result (Outcome T) ℕ) → goes_by (view_next (op, turns.Done answer)).1 ≡ turns.Done (Err 9)
  answered_said op (Ok outcome) = refl
  answered_said op (Err number) = refl

module _ {T : Type 0} (page : ℕ) (encode : T → List ℕ) (decode : List ℕ → Option T) (get_epoch : T → ℕ) (set_epoch : T → ℕ → T) where
  -- A call over a read: what the layer makes of the read's answers, and what its operation does then.
  pub record IsReadCall (call : ViewCall T) (local : Option ℕ) (purpose : Purpose) : Type 0 where
    pub reads_so : purpose_of (any.View call) local ≡ Some purpose
    pub finds : (found : ℕ × T) → Tells page encode decode get_epoch call local (parts.found get_epoch set_epoch (any.View call) local found.0 found.1) (view_next (at_read purpose reads.Ended, turns.Done (shown get_epoch purpose (Some found))))
    pub misses : Tells page encode decode get_epoch call local (missed (any.View call)) (view_next (at_read purpose reads.Ended, turns.Done (shown get_epoch purpose None)))
    pub refuses : (number : ℕ) → Tells page encode decode get_epoch call local (refusing (any.View call) number) (refused number)

  module _ (call : ViewCall T) (local : Option ℕ) (purpose : Purpose) (facts : IsReadCall call local purpose) where
    abbrev as_op : ReadOp T → ViewOp T
    as_op read = at_read purpose read

    abbrev see : Option (ℕ × T) → Result (Outcome T) ℕ
    see found = shown get_epoch purpose found

    read_answered : (lacks : Bool) (x : ReadOp T × Turned (ReadAnswer T)) →
        Answered page encode decode get_epoch set_epoch (any.View call) local Reads (plain.or_no_memory lacks (plain.read_next x)).0 (plain.or_no_memory lacks (plain.read_next x)).1 (view_next (unless_lacking lacks (as_op reads.Ended) (seen as_op see x)))
    read_answered true x = (refusing (any.View call) 9, refl, inl refl, (facts.refuses 9).0, (facts.refuses 9).1)
    read_answered false (read, turns.Goes) = (does.View (as_op read), refl, (facts.reads_so, refl))
    read_answered false (read, turns.Done (Ok None)) = (missed (any.View call), refl, inl refl, facts.misses.0, facts.misses.1)
    read_answered false (read, turns.Done (Ok (Some found))) = (parts.found get_epoch set_epoch (any.View call) local found.0 found.1, refl, inl refl, (facts.finds found).0, (facts.finds found).1)
    read_answered false (read, turns.Done (Err number)) = (refusing (any.View call) number, refl, inl refl, (facts.refuses number).0, (facts.refuses number).1)

    read_leaves : (read : ReadOp T) (caches : Caches) (reply : Option Reply) (lacks : Bool) (x : ReadOp T × Turned (ReadAnswer T)) → x ≡ read_turned world_names world_boundary page decode read caches reply →
        read_caches_after read caches (said (goes_by (view_next (unless_lacking lacks (as_op reads.Ended) (seen as_op see x))).1)) ≡ read_caches_after read caches (plain.said_of (plain.or_no_memory lacks (plain.read_next x)).1)
    read_leaves read caches reply true x e = refl
    read_leaves read caches reply false (next, turns.Goes) e = refl
    read_leaves read caches reply false (next, turns.Done (Ok found)) e =
        ap (λ (t : Turned (Result (Outcome T) ℕ)). read_caches_after read caches (said t)) (answered_said (as_op reads.Ended) (see found)) ∙ left_as_refused world_names world_boundary page decode read caches reply next found e
    read_leaves read caches reply false (next, turns.Done (Err number)) e = left_by_refusal read caches 9 number

    read_at : (read : ReadOp T) (caches : Caches) (reply : Option Reply) (lacks : Bool) →
        TurnsAs page encode decode get_epoch set_epoch (any.View call) local Reads (does.View (as_op read)) (doings.Read read) caches reply (whole.turned page encode decode get_epoch set_epoch lacks (does.View (as_op read)) caches reply)
    read_at read caches reply lacks =
        let x = read_turned world_names world_boundary page decode read caches reply in
        let after = plain.or_no_memory lacks (plain.read_next x) in
        let is = held_seen ops.Reads (as_view_read purpose) see lacks x in
        record {
          refused = lacks;
          after = after;
          turns = refl;
          answered = subst (λ (n : ViewOp T × Turned (Result (Outcome T) ℕ)). Answered page encode decode get_epoch set_epoch (any.View call) local Reads after.0 after.1 (view_next n)) (sym is) (read_answered lacks x);
          leaves = ap (λ (n : ViewOp T × Turned (Result (Outcome T) ℕ)). read_caches_after read caches (said (goes_by (view_next n).1))) is ∙ read_leaves read caches reply lacks x refl;
        }

    pub read_turns : (read : ReadOp T) (fine : PlainDoing T) (caches : Caches) (reply : Option Reply) (lacks : Bool) → fine ≡ doings.Read read →
        TurnsAs page encode decode get_epoch set_epoch (any.View call) local Reads (does.View (as_op read)) fine caches reply (whole.turned page encode decode get_epoch set_epoch lacks (does.View (as_op read)) caches reply)
    read_turns read fine caches reply lacks e =
        subst (λ (f : PlainDoing T). TurnsAs page encode decode get_epoch set_epoch (any.View call) local Reads (does.View (as_op read)) f caches reply (whole.turned page encode decode get_epoch set_epoch lacks (does.View (as_op read)) caches reply)) (sym e) (read_at read caches reply lacks)

  -- a holder's view is at the version that was read, and the holder may be shut out
  holder_finds : (number own : ℕ) (found : ℕ × T) (test : Result (Unit {0}) TransactionalObjectError) →
      Tells page encode decode get_epoch (view_calls.HolderRefresh number) (Some own) (viewed number found.0 found.1 test) (ended, Some (endings.Comes (holder_viewed found test)))
  holder_finds number own found (Ok same) = (tt, puts_view (any.View (view_calls.HolderRefresh number)) number found.0 found.1 refl)
  holder_finds number own found (Err error) = (
    tt,
    record { ending = endings.Comes (outcomes.Shut found.0 found.1 error); ends = refl; answers = λ count. refl; changes = refl; quiet = λ none client. absurd (cc) },
  )

  -- each call that reads so
  pub read_call : (call : ViewCall T) (local : Option ℕ) (purpose : Purpose) → purpose_of (any.View call) local ≡ Some purpose → IsReadCall call local purpose
  read_call view_calls.Load local purpose e = subst (IsReadCall view_calls.Load local) (same_Some purposes.Load purpose e) (record {
    reads_so = refl;
    finds = λ found. (tt, (refl, refl));
    misses = (tt, refusal_keeps (any.View view_calls.Load) 4 refl);
    refuses = λ number. (tt, refusal_keeps (any.View view_calls.Load) number refl);
  })
  read_call (view_calls.Refresh number) local purpose e = subst (IsReadCall (view_calls.Refresh number) local) (same_Some purposes.Refresh purpose e) (record {
    reads_so = refl;
    finds = λ found. (tt, puts_view (any.View (view_calls.Refresh number)) number found.0 found.1 refl);
    misses = (tt, refusal_keeps (any.View (view_calls.Refresh number)) 7 refl);
    refuses = λ n. (tt, refusal_keeps (any.View (view_calls.Refresh number)) n refl);
  })
  read_call (view_calls.HolderRefresh number) (Some own) purpose e = subst (IsReadCall (view_calls.HolderRefresh number) (Some own)) (same_Some (purposes.HolderRefresh own) purpose e) (record {
    reads_so = refl;
    finds = λ found. holder_finds number own found (epoch_tested own (get_epoch found.1));
    misses = (tt, refusal_keeps (any.View (view_calls.HolderRefresh number)) 7 refl);
    refuses = λ n. (tt, refusal_keeps (any.View (view_calls.HolderRefresh number)) n refl);
  })
  read_call call local purpose e = absurd (cc)
