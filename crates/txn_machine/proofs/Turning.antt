-- Every turn of an operation is the turn of the operation of the machine of plain calls that stands for it, or the layer's.
use Rattle.std.proofs.Common.{ℕ, List, Bool, Option, sym, subst}
use Rattle.txn_store.specs.declared.request.Reply.{Reply}
use Rattle.txn_steps.specs.declared.boundary.caches.Caches.{Caches}
use Rattle.txn_machine.specs.declared.plain.doing.PlainDoing.{PlainDoing}
use Rattle.txn_steps_views.specs.declared.op.ViewOp.{ViewOp}
use Rattle.txn_steps_views.specs.declared.op.ViewOp.TheVariants as ops
use Rattle.txn_steps_views.specs.Attempts.{IsRefreshing}
use Rattle.txn_history.specs.declared.event.ViewCall.{ViewCall}
use Rattle.txn_history.specs.declared.event.Call.{Call}
use Rattle.txn_history.specs.declared.event.Call.TheVariants as any
use Rattle.txn_machine.specs.views.Layer.{Inner, Writes, Reads}
use Rattle.txn_machine.specs.declared.doing.Doing.{Doing}
use Rattle.txn_machine.specs.declared.doing.Doing.TheVariants as does
use Rattle.txn_machine.specs.Doing.{Next, MayLack, IsClaimReading, IsMadeSo, Turns}
use Rattle.txn_machine.specs.Doing as whole
use Rattle.txn_machine.proofs.Matched.{Matched, ViewMatched, TurnsAs, EveryTurn}
use Rattle.txn_machine.proofs.PlainTurns.{plain_turns}
use Rattle.txn_machine.proofs.EntryTurns.{entry_call, entry_turns}
use Rattle.txn_machine.proofs.ReadTurns.{read_call, read_turns}
use Rattle.txn_machine.proofs.ClaimTurns.{claim_call, attempt_turns, reading_turns}

module _ {T : Type 0} (page : ℕ) (encode : T → List ℕ) (decode : List ℕ → Option T) (get_epoch : T → ℕ) (set_epoch : T → ℕ → T) (caches : Caches) (reply : Option Reply) (lacks : Bool) where
  -- such a turn, where memory lacks as it may, and a claim that reads makes what it is to write
  abbrev Turned : Call T → Option ℕ → Inner T → Doing T → PlainDoing T → Type 0
  Turned call local inner old fine =
      MayLack old caches reply lacks → (IsClaimReading old → IsMadeSo encode decode get_epoch (whole.turned page encode decode get_epoch set_epoch lacks old caches reply).0) →
      TurnsAs page encode decode get_epoch set_epoch call local inner old fine caches reply (whole.turned page encode decode get_epoch set_epoch lacks old caches reply)

  view_turn : (call : ViewCall T) (local : Option ℕ) (inner : Inner T) (op : ViewOp T) (fine : PlainDoing T) → ViewMatched (any.View call) local inner op fine → Turned (any.View call) local inner (does.View op) fine
  view_turn call local (Writes base value epoch) (ops.Enters op) fine m =
      λ may made. entry_turns page encode decode get_epoch set_epoch call local base value epoch (entry_call page encode decode get_epoch set_epoch call local value epoch m.0) op fine caches reply lacks m.1
  view_turn call local Reads (ops.Reads op) fine m =
      λ may made. read_turns page encode decode get_epoch set_epoch call local op.purpose (read_call page encode decode get_epoch set_epoch call local op.purpose m.0) op.read fine caches reply lacks m.1
  view_turn call local (Writes base value epoch) (ops.Claims op) fine m =
      λ may made. attempt_turns page encode decode get_epoch set_epoch call local op.asked (claim_call page encode decode get_epoch set_epoch call local op.asked m.0) base value epoch op.claiming fine caches reply lacks m.1 may
  view_turn call local Reads (ops.Claims op) fine m =
      λ may made. reading_turns page encode decode get_epoch set_epoch call local op.asked (claim_call page encode decode get_epoch set_epoch call local op.asked m.0) op.claiming fine caches reply lacks m.1
      (λ read is. made (subst IsRefreshing (sym is) tt))
  view_turn call local inner op fine m = absurd m

  any_turn : (call : Call T) (local : Option ℕ) (inner : Inner T) (old : Doing T) (fine : PlainDoing T) → Matched get_epoch call local inner old fine → Turned call local inner old fine
  any_turn (any.Plain call) local inner (does.Plain doing) fine m = λ may made. plain_turns page encode decode get_epoch set_epoch call local inner doing fine caches reply lacks m.0 m.1
  any_turn (any.Plain call) local inner (does.View op) fine m = absurd m
  any_turn (any.View call) local inner (does.Plain doing) fine m = absurd m
  any_turn (any.View call) local inner (does.View op) fine m = view_turn call local inner op fine m

module _ {T : Type 0} (page : ℕ) (encode : T → List ℕ) (decode : List ℕ → Option T) (get_epoch : T → ℕ) (set_epoch : T → ℕ → T) where
  pub every_turn : EveryTurn page encode decode get_epoch set_epoch
  every_turn call local inner old fine caches reply next m is t =
      subst (λ (n : Next T). TurnsAs page encode decode get_epoch set_epoch call local inner old fine caches reply n) (sym t.turns)
      (any_turn page encode decode get_epoch set_epoch caches reply t.refused call local inner old fine m t.may
      (subst (λ (n : Next T). IsClaimReading old → IsMadeSo encode decode get_epoch n.0) t.turns t.made))
