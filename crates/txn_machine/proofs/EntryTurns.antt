-- A call over a write takes a look or a reply as the write of the machine of plain calls does.
use Rattle.std.proofs.Common.{◌≡◌, ℕ, List, Bool, true, false, Option, Some, Result, Ok, Err, refl, sym, ap, subst, inl}
use Rattle.txn_store.specs.declared.request.Reply.{Reply}
use Rattle.txn_steps.specs.declared.boundary.caches.Caches.{Caches}
use Rattle.txn_steps.specs.declared.boundary.turned.Turned.{Turned}
use Rattle.txn_steps.specs.declared.boundary.turned.Turned.TheVariants as turns
use Rattle.txn_steps.specs.declared.write.WriteOp.{WriteOp}
use Rattle.txn_steps.specs.Writes.{write_turned}
use Rattle.txn_history.specs.declared.event.PlainAnswer.TheVariants as plain_answers
use Rattle.txn_machine.specs.declared.plain.doing.PlainDoing.{PlainDoing}
use Rattle.txn_machine.specs.declared.plain.doing.PlainDoing.TheVariants as doings
use Rattle.txn_machine.specs.plain.Doing as plain
use Rattle.txn_steps_views.specs.declared.entry.EntryOp.{EntryOp}
use Rattle.txn_steps_views.specs.declared.entry.EntryOp.TheVariants as entries
use Rattle.txn_steps_views.specs.declared.op.ViewOp.TheVariants as ops
use Rattle.txn_steps_views.specs.declared.outcome.Outcome.TheVariants as outcomes
use Rattle.txn_steps_views.specs.Entries.{written_turned}
use Rattle.txn_history.specs.declared.event.ViewCall.{ViewCall}
use Rattle.txn_history.specs.declared.event.ViewCall.TheVariants as view_calls
use Rattle.txn_history.specs.declared.event.Call.{Call}
use Rattle.txn_history.specs.declared.event.Call.TheVariants as any
use Rattle.txn_history.specs.declared.event.Answer.TheVariants as answers
use Rattle.txn_history.specs.Calls.{view_used}
use Rattle.txn_machine.specs.views.Layer as layer
use Rattle.txn_machine.specs.views.Layer.{Writes, Keeps, Puts, Closes, Ends}
use Rattle.txn_machine.specs.views.Parts.{HasEpoch, entered, denied, is_claim_call}
use Rattle.txn_machine.specs.declared.doing.Doing.TheVariants as does
use Rattle.txn_machine.specs.declared.doing.Ending.TheVariants as endings
use Rattle.txn_machine.specs.Doing.{Next, ended, refused, view_next}
use Rattle.txn_machine.specs.Doing as whole
use Rattle.txn_machine.specs.Machine.{let_go}
use Rattle.txn_machine.proofs.Matched.{enters, IsEntryWrite, EndsAs, NextAs, Answered, TurnsAs}

module _ {T : Type 0} where
  -- a refusal frees the view, but that of a claim
  pub refusal_keeps : (call : Call T) (number : ℕ) → is_claim_call call ≡ false → EndsAs call (layer.refused number) Keeps (refused number)
  refusal_keeps call number e = record { ending = endings.Answers (plain_answers.Refused number); ends = refl; answers = λ count. refl; changes = ap let_go e; quiet = λ none client. refl }

  pub refusal_closes : (call : Call T) (number : ℕ) → is_claim_call call ≡ true → EndsAs call (layer.refused number) Closes (refused number)
  refusal_closes call number e = record { ending = endings.Answers (plain_answers.Refused number); ends = refl; answers = λ count. refl; changes = ap let_go e; quiet = λ none client. refl }

  -- the view that was used is at this version
  pub puts_view : (call : Call T) (number id : ℕ) (value : T) → view_used call ≡ Some number → EndsAs call (answers.View number id value) (Puts id value) (ended, Some (endings.Comes (outcomes.Viewed id value)))
  puts_view call number id value e = record {
    ending = endings.Comes (outcomes.Viewed id value);
    ends = refl;
    answers = λ count. rw e;
    changes = refl;
    quiet = λ none client. absurd (cc);
  }

module _ {T : Type 0} (page : ℕ) (encode : T → List ℕ) (decode : List ℕ → Option T) (get_epoch : T → ℕ) where
  -- what a call does next, and what the layer says of that
  abbrev pub Tells : ViewCall T → Option ℕ → layer.Next T → Next T → Type 0
  Tells call local due next = HasEpoch get_epoch due × NextAs page encode decode get_epoch (any.View call) local due next

module _ {T : Type 0} (page : ℕ) (encode : T → List ℕ) (decode : List ℕ → Option T) (get_epoch : T → ℕ) (set_epoch : T → ℕ → T) where
  -- A call over a write: what the layer makes of the write's answers, and what its operation does then.
  pub record IsEntryCall (call : ViewCall T) (local : Option ℕ) (value : T) (epoch : ℕ) : Type 0 where
    pub enters_so : enters (any.View call) ≡ true
    pub wrote : (id : ℕ) → Tells page encode decode get_epoch call local (entered (any.View call) id value epoch) (ended, Some (endings.Comes (outcomes.Viewed id value)))
    pub denies : (number : ℕ) → Tells page encode decode get_epoch call local (denied (any.View call) number) (refused number)

  module _ (call : ViewCall T) (local : Option ℕ) (base : ℕ) (value : T) (epoch : ℕ) (facts : IsEntryCall call local value epoch) where
    entry_answered : (x : WriteOp × Turned (Result ℕ ℕ)) →
        Answered page encode decode get_epoch set_epoch (any.View call) local (Writes base value epoch) (plain.write_next {T = T} x).0 (plain.write_next {T = T} x).1 (view_next (ops.Enters (written_turned value x).0, (written_turned value x).1))
    entry_answered (write, turns.Goes) = (does.View (ops.Enters (entries.Writes write value)), refl, (facts.enters_so, record { write = write; entry_is = refl; fine_is = refl }))
    entry_answered (write, turns.Done (Ok id)) = (entered (any.View call) id value epoch, refl, inl refl, (facts.wrote id).0, (facts.wrote id).1)
    entry_answered (write, turns.Done (Err number)) = (denied (any.View call) number, refl, inl refl, (facts.denies number).0, (facts.denies number).1)

    entry_writes : (write : WriteOp) (caches : Caches) (reply : Option Reply) (lacks : Bool) →
        TurnsAs page encode decode get_epoch set_epoch (any.View call) local (Writes base value epoch) (does.View (ops.Enters (entries.Writes write value))) (doings.Write write) caches reply
        (whole.turned page encode decode get_epoch set_epoch lacks (does.View (ops.Enters (entries.Writes write value))) caches reply)
    entry_writes write caches reply lacks =
        let x = write_turned write caches reply in
        record { refused = lacks; after = plain.write_next x; turns = refl; answered = entry_answered x; leaves = refl }

    pub entry_turns : (entry : EntryOp T) (fine : PlainDoing T) (caches : Caches) (reply : Option Reply) (lacks : Bool) → IsEntryWrite entry value fine →
        TurnsAs page encode decode get_epoch set_epoch (any.View call) local (Writes base value epoch) (does.View (ops.Enters entry)) fine caches reply (whole.turned page encode decode get_epoch set_epoch lacks (does.View (ops.Enters entry)) caches reply)
    entry_turns entry fine caches reply lacks m =
        subst (λ (f : PlainDoing T). TurnsAs page encode decode get_epoch set_epoch (any.View call) local (Writes base value epoch) (does.View (ops.Enters entry)) f caches reply (whole.turned page encode decode get_epoch set_epoch lacks (does.View (ops.Enters entry)) caches reply)) (sym m.fine_is)
        (subst (λ (e : EntryOp T). TurnsAs page encode decode get_epoch set_epoch (any.View call) local (Writes base value epoch) (does.View (ops.Enters e)) (doings.Write m.write) caches reply (whole.turned page encode decode get_epoch set_epoch lacks (does.View (ops.Enters e)) caches reply)) (sym m.entry_is)
        (entry_writes m.write caches reply lacks))

  -- each call that writes so
  pub entry_call : (call : ViewCall T) (local : Option ℕ) (value : T) (epoch : ℕ) → enters (any.View call) ≡ true → IsEntryCall call local value epoch
  entry_call (view_calls.Init v) local value epoch e = record { enters_so = e; wrote = λ id. (tt, (refl, refl)); denies = λ number. (tt, refusal_keeps (any.View (view_calls.Init v)) number refl) }
  entry_call (view_calls.Update number v) local value epoch e = record { enters_so = e; wrote = λ id. (tt, puts_view (any.View (view_calls.Update number v)) number id value refl); denies = λ n. (tt, refusal_keeps (any.View (view_calls.Update number v)) n refl) }
  entry_call (view_calls.HolderUpdate number v) local value epoch e = record { enters_so = e; wrote = λ id. (tt, puts_view (any.View (view_calls.HolderUpdate number v)) number id value refl); denies = λ n. (tt, refusal_keeps (any.View (view_calls.HolderUpdate number v)) n refl) }
  entry_call call local value epoch e = absurd (cc)
