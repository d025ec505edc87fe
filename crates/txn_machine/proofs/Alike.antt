-- An operation of the world and the fine operation that stands for it ask for the same, and take the same.
use Rattle.std.proofs.Common.{◌≡◌, ℕ, Option, Some, refl, sym, ◌∙◌, ap, subst}
use Rattle.txn_store.specs.declared.request.Reply.{Reply}
use Rattle.txn_machine.specs.declared.plain.doing.PlainDoing.{PlainDoing}
use Rattle.txn_machine.specs.plain.Doing as plain
use Rattle.txn_machine.specs.plain.Doing.{ask_of}
use Rattle.txn_steps_views.specs.declared.entry.EntryOp.{EntryOp}
use Rattle.txn_steps_views.specs.declared.claiming.Claiming.{Claiming}
use Rattle.txn_steps_views.specs.Entries.{entry_asked, IsEntryReply}
use Rattle.txn_steps_views.specs.Attempts.{claiming_asked, IsClaimingReply, IsClaimingInRange}
use Rattle.txn_steps_views.specs.declared.op.ViewOp.{ViewOp}
use Rattle.txn_steps_views.specs.declared.op.ViewOp.TheVariants as ops
use Rattle.txn_history.specs.declared.event.ViewCall.{ViewCall}
use Rattle.txn_history.specs.declared.event.Call.{Call}
use Rattle.txn_history.specs.declared.event.Call.TheVariants as any
use Rattle.txn_machine.specs.views.Layer.{Inner, Writes, Reads}
use Rattle.txn_machine.specs.declared.doing.Doing.{Doing}
use Rattle.txn_machine.specs.declared.doing.Doing.TheVariants as does
use Rattle.txn_machine.specs.Doing as whole
use Rattle.txn_machine.proofs.Matched.{IsEntryWrite, IsAttempt, IsClaimRead, ViewMatched, Matched}

module _ {T : Type 0} where
  -- What is to be shown of an operation and of its fine one.
  pub record Same (doing : Doing T) (fine : PlainDoing T) : Type 0 where
    pub asks : whole.asked doing ≡ plain.asked fine
    pub replies : (reply : Option Reply) → plain.IsReply fine reply → whole.IsReply doing reply
    pub range : plain.InRange fine → whole.InRange doing

  entry_same : (entry : EntryOp T) (value : T) (fine : PlainDoing T) → IsEntryWrite entry value fine → (Some (ask_of (entry_asked entry)) ≡ plain.asked fine) × ((reply : Option Reply) → plain.IsReply fine reply → IsEntryReply entry reply)
  entry_same entry value fine h = (
    ap (λ (e : EntryOp T). Some (ask_of (entry_asked e))) h.entry_is ∙ sym (ap plain.asked h.fine_is),
    λ reply r. subst (λ (e : EntryOp T). IsEntryReply e reply) (sym h.entry_is) (subst (λ (d : PlainDoing T). plain.IsReply d reply) h.fine_is r),
  )

  attempt_same : (attempt : Claiming T) (value : T) (epoch : ℕ) (fine : PlainDoing T) → IsAttempt attempt value epoch fine → (Some (ask_of (claiming_asked attempt)) ≡ plain.asked fine) × ((reply : Option Reply) → plain.IsReply fine reply → IsClaimingReply attempt reply) × IsClaimingInRange attempt
  attempt_same attempt value epoch fine h = (
    ap (λ (e : Claiming T). Some (ask_of (claiming_asked e))) h.attempt_is ∙ sym (ap plain.asked h.fine_is),
    λ reply r. subst (λ (e : Claiming T). IsClaimingReply e reply) (sym h.attempt_is) (subst (λ (d : PlainDoing T). plain.IsReply d reply) h.fine_is r),
    subst (λ (e : Claiming T). IsClaimingInRange e) (sym h.attempt_is) tt,
  )

  claim_read_same : (attempt : Claiming T) (fine : PlainDoing T) → IsClaimRead attempt fine → (Some (ask_of (claiming_asked attempt)) ≡ plain.asked fine) × ((reply : Option Reply) → plain.IsReply fine reply → IsClaimingReply attempt reply) × (plain.InRange fine → IsClaimingInRange attempt)
  claim_read_same attempt fine h = (
    ap (λ (e : Claiming T). Some (ask_of (claiming_asked e))) h.attempt_is ∙ sym (ap plain.asked h.fine_is),
    λ reply r. subst (λ (e : Claiming T). IsClaimingReply e reply) (sym h.attempt_is) (subst (λ (d : PlainDoing T). plain.IsReply d reply) h.fine_is r),
    λ r. subst (λ (e : Claiming T). IsClaimingInRange e) (sym h.attempt_is) (subst (λ (d : PlainDoing T). plain.InRange d) h.fine_is r),
  )

  view_same : (call : ViewCall T) (local : Option ℕ) (inner : Inner T) (op : ViewOp T) (fine : PlainDoing T) → ViewMatched (any.View call) local inner op fine → Same (does.View op) fine
  view_same call local (Writes base value epoch) (ops.Enters op) fine h = (let s = entry_same op value fine h.1 in record { asks = s.0; replies = s.1; range = λ r. tt })
  view_same call local Reads (ops.Reads op) fine h = subst (Same (does.View (ops.Reads op))) (sym h.1) (record { asks = refl; replies = λ reply r. r; range = λ r. r })
  view_same call local (Writes base value epoch) (ops.Claims op) fine h = (let s = attempt_same op.claiming value epoch fine h.1 in record { asks = s.0; replies = s.1; range = λ r. s.2 })
  view_same call local Reads (ops.Claims op) fine h = (let s = claim_read_same op.claiming fine h.1 in record { asks = s.0; replies = s.1; range = s.2 })
  view_same call local inner op fine h = absurd h

module _ {T : Type 0} (get_epoch : T → ℕ) where
  pub matched_same : (call : Call T) (local : Option ℕ) (inner : Inner T) (doing : Doing T) (fine : PlainDoing T) → Matched get_epoch call local inner doing fine → Same doing fine
  matched_same (any.Plain call) local inner (does.Plain doing) fine h = subst (Same (does.Plain doing)) (sym h.1) (record { asks = refl; replies = λ reply r. r; range = λ r. r })
  matched_same (any.Plain call) local inner (does.View op) fine h = absurd h
  matched_same (any.View call) local inner (does.Plain doing) fine h = absurd h
  matched_same (any.View call) local inner (does.View op) fine h = view_same call local inner op fine h
