-- Any call, and any operation: an advance goes one way, the others go another.
use Rattle.std.proofs.Common.{◌≡◌, ℕ, ◌+◌, ◌*◌, ◌≤◌, List, Option, Some, None, ◌⊎◌, inl, inr, refl, sym, subst}
use Rattle.txn_steps.specs.declared.boundary.advance.AdvanceOp.{AdvanceOp}
use Rattle.txn_history.specs.declared.event.PlainCall.TheVariants as calls
use Rattle.txn_history.specs.declared.event.Call.{Call}
use Rattle.txn_history.specs.declared.event.Call.TheVariants as any
use Rattle.txn_history.specs.declared.event.EventOf.TheVariants as events
use Rattle.txn_history.specs.Lists.{numbered}
use Rattle.txn_history.specs.Seen.{Ask}
use Rattle.txn_history.specs.Trace.{Event, Told}
use Rattle.txn_machine.specs.declared.plain.doing.PlainDoing.TheVariants as doings
use Rattle.txn_machine.specs.plain.Machine.{next_op}
use Rattle.txn_machine.specs.declared.doing.Doing.{Doing}
use Rattle.txn_machine.specs.declared.doing.Doing.TheVariants as does
use Rattle.txn_machine.specs.declared.doing.Operation.{Operation}
use Rattle.txn_machine.specs.Doing.{asked}
use Rattle.txn_machine.specs.Machine.{State, refusal_of, next_event, Takes, IsReached}
use Rattle.txn_world.specs.finishing.Progress.{cost_of, most_left, own_count, FewPages, Disturbed}
use Rattle.txn_world.proofs.finishing.Advances.{advance_bound, advance_alone}
use Rattle.txn_world.proofs.finishing.Bounds.{IsNoAdvance, IsNoRaise, call_bound, alone_bound, next_allowed}

module _ {T : Type 0} where
  pub advance_or_not : (call : Call T) → ((to : ℕ) × (call ≡ any.Plain (calls.Advance to))) ⊎ IsNoAdvance call
  advance_or_not (any.Plain (calls.Write base value)) = inr tt
  advance_or_not (any.Plain (calls.WriteUnchecked base value)) = inr tt
  advance_or_not (any.Plain calls.Read) = inr tt
  advance_or_not (any.Plain (calls.ReadUnchecked id)) = inr tt
  advance_or_not (any.Plain (calls.ReadSeen id)) = inr tt
  advance_or_not (any.Plain (calls.ListIds from to)) = inr tt
  advance_or_not (any.Plain (calls.Delete id)) = inr tt
  advance_or_not (any.Plain (calls.Check id)) = inr tt
  advance_or_not (any.Plain (calls.Advance to)) = inl (to, refl)
  advance_or_not (any.View call) = inr tt

  raise_or_not : (doing : Doing T) → ((op : AdvanceOp) × (doing ≡ does.Plain (doings.Advance op))) ⊎ IsNoRaise doing
  raise_or_not (does.Plain (doings.Write op)) = inr tt
  raise_or_not (does.Plain (doings.WriteUnchecked op)) = inr tt
  raise_or_not (does.Plain (doings.Read op)) = inr tt
  raise_or_not (does.Plain (doings.ReadUnchecked op)) = inr tt
  raise_or_not (does.Plain (doings.ReadSeen op)) = inr tt
  raise_or_not (does.Plain (doings.ListIds op)) = inr tt
  raise_or_not (does.Plain (doings.Delete op)) = inr tt
  raise_or_not (does.Plain (doings.Check op)) = inr tt
  raise_or_not (does.Plain (doings.Advance op)) = inl (op, refl)
  raise_or_not (does.Plain doings.Ended) = inr tt
  raise_or_not (does.View op) = inr tt

module _ {T : Type 0} (encode : T → List ℕ) (decode : List ℕ → Option T) (get_epoch : T → ℕ) (set_epoch : T → ℕ → T) where
  -- from its begin on
  pub any_bound : (old : State T) (client : ℕ) (call : Call T) (said : Told T) (first : State T) (pages times : ℕ) (taken : List (Event T × Told T)) (new : State T) → IsReached encode decode get_epoch set_epoch old → Takes encode decode get_epoch set_epoch old (events.Begin client call) said first → FewPages pages first →
      Disturbed encode decode get_epoch set_epoch (next_op old) pages times first taken new → own_count (next_op old) taken ≤ (cost_of call pages).alone + times * (cost_of call pages).again
  any_bound old client call said first pages times taken new r t few d =
      elim (advance_or_not call) [
        | inl is ↦ subst (λ (c : Call T). own_count (next_op old) taken ≤ (cost_of c pages).alone + times * (cost_of c pages).again) (sym is.1)
            (advance_bound encode decode get_epoch set_epoch old client is.0 said first pages times taken new r (subst (λ (c : Call T). Takes encode decode get_epoch set_epoch old (events.Begin client c) said first) is.1 t) d)
        | inr fits ↦ call_bound encode decode get_epoch set_epoch old client call said first pages times taken new r t fits few d
      ]

  -- from any state in which it runs
  pub any_alone : (s : State T) (op : ℕ) (o : Operation T) (ask : Ask) (pages : ℕ) (taken : List (Event T × Told T)) (new : State T) → IsReached encode decode get_epoch set_epoch s → numbered s.operations op ≡ Some o → asked o.doing ≡ Some ask → FewPages pages s →
      Disturbed encode decode get_epoch set_epoch op pages 0 s taken new → own_count op taken ≤ most_left o.doing pages
  any_alone s op o ask pages taken new r found asks few d =
      elim (raise_or_not o.doing) [
        | inl is ↦ subst (λ (doing : Doing T). own_count op taken ≤ most_left doing pages) (sym is.1) (advance_alone encode decode get_epoch set_epoch s op o ask is.0 pages taken new r found asks is.1 d)
        | inr fits ↦ alone_bound encode decode get_epoch set_epoch s op pages o ask taken new r found asks fits few d
      ]

  -- what it asks for is never refused
  pub any_allowed : (s : State T) (op : ℕ) (o : Operation T) (ask : Ask) → numbered s.operations op ≡ Some o → asked o.doing ≡ Some ask → refusal_of encode decode get_epoch set_epoch s (next_event s op) ≡ None
  any_allowed s op o ask found asks = next_allowed encode decode get_epoch set_epoch s op o ask found asks
