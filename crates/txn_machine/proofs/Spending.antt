-- The operation of a bounded call spends its looks and its calls of the store, whatever others do.
use Rattle.std.proofs.Common.{◌≡◌, ◌≢◌, ℕ, ◌+◌, ◌-◌, ◌≤◌, ◌==◌, List, [], ◌∷◌, ◌++◌, set, map, Bool, true, false, if◌then◌else◌, Option, Some, None, Result, Ok, Err, ◌⊎◌, inl, inr, refl, sym, ◌∙◌, ap, subst, arith}
use Rattle.std.proofs.lemmas.Bool.{cases_Bool, eqb-true, eqb-false}
use Rattle.std.proofs.lemmas.Option.{same_Some}
use Rattle.txn_store.specs.declared.request.Reply.{Reply}
use Rattle.txn_store.specs.declared.request.Reply.TheVariants as replies
use Rattle.txn_store.specs.types.Numbers.{number_of}
use Rattle.txn_steps.specs.declared.boundary.caches.Caches.{Caches}
use Rattle.txn_steps.specs.declared.boundary.check.CheckOp.{CheckOp}
use Rattle.txn_steps.specs.declared.boundary.turned.Turned.{Turned}
use Rattle.txn_steps.specs.declared.boundary.turned.Turned.TheVariants.{Goes, Done}
use Rattle.txn_steps.specs.boundary.Checks.{check_turned}
use Rattle.txn_steps.specs.boundary.Counts.{Budget, no_budget, budget_after, SpendsOne, check_budget}
use Rattle.txn_steps.proofs.boundary.CountLemmas.{check_spends}
use Rattle.txn_steps.specs.declared.write.WriteUncheckedOp.{WriteUncheckedOp}
use Rattle.txn_steps.specs.declared.write.WriteOp.{WriteOp}
use Rattle.txn_steps.specs.declared.delete.DeleteOp.{DeleteOp}
use Rattle.txn_steps.specs.declared.seen.ReadSeenOp.{ReadSeenOp}
use Rattle.txn_steps.specs.declared.seen.ReadUncheckedOp.{ReadUncheckedOp}
use Rattle.txn_steps.specs.CallsLeft.{unchecked_budget, write_budget, delete_budget, seen_budget}
use Rattle.txn_steps.specs.Writes.{unchecked_started, unchecked_turned, write_started, write_turned}
use Rattle.txn_steps.specs.Deletes.{delete_turned}
use Rattle.txn_steps.specs.SeenSteps.{value_got, seen_turned}
use Rattle.txn_steps.proofs.CallLemmas.{unchecked_spends, write_spends, delete_spends, seen_spends}
use Rattle.txn_history.specs.declared.event.PlainCall.TheVariants as calls
use Rattle.txn_history.specs.declared.event.PlainAnswer.TheVariants as plain_answers
use Rattle.txn_history.specs.declared.event.EventOf.TheVariants as events
use Rattle.txn_history.specs.declared.event.Failure.{Failure}
use Rattle.txn_history.specs.declared.event.Failure.TheVariants as failures
use Rattle.txn_history.specs.Lists.{numbered}
use Rattle.txn_history.specs.Names.{world_names, world_boundary}
use Rattle.txn_history.proofs.Lists.{numbered_kept}
use Rattle.txn_machine.proofs.plain.Lists.{numbered_here, numbered_other, numbered_of_map, numbered_new, within}
use Rattle.txn_machine.specs.declared.plain.doing.PlainDoing.{PlainDoing}
use Rattle.txn_machine.specs.declared.plain.doing.PlainDoing.TheVariants as doings
use Rattle.txn_machine.specs.plain.Doing as plain
use Rattle.txn_steps_views.specs.declared.entry.EntryOp.{EntryOp}
use Rattle.txn_steps_views.specs.declared.entry.EntryOp.TheVariants as entries
use Rattle.txn_steps_views.specs.declared.op.ViewOp.TheVariants as ops
use Rattle.txn_steps_views.specs.declared.outcome.Outcome.{Outcome}
use Rattle.txn_steps_views.specs.CallsLeft.{entry_budget}
use Rattle.txn_steps_views.specs.Entries.{entry_started, entry_turned, entry_tested, own_epochs}
use Rattle.txn_steps_views.proofs.CallLemmas.{entry_spends}
use Rattle.txn_history.specs.declared.event.ViewCall.TheVariants as view_calls
use Rattle.txn_history.specs.declared.event.Call.{Call}
use Rattle.txn_history.specs.declared.event.Call.TheVariants as any
use Rattle.txn_history.specs.Trace.{Event, Told}
use Rattle.txn_history.specs.Views.{View}
use Rattle.txn_machine.specs.declared.doing.Doing.{Doing}
use Rattle.txn_machine.specs.declared.doing.Doing.TheVariants as does
use Rattle.txn_machine.specs.declared.doing.Operation.{Operation}
use Rattle.txn_machine.specs.Doing.{Next, ended, plain_next, next_of, with_local, first_next, started, turned, IsReply, Turns}
use Rattle.txn_machine.specs.CallsLeft.{five_and_two, most_of, any_budget, is_look_of, is_serve_of, taken_of}
use Rattle.txn_machine.specs.plain.Machine.{next_op}
use Rattle.txn_machine.specs.Machine.{State, doing_next, with_doing, ended_by, new_operation, view_now, Fails, Takes, Runs, IsReached}
use Rattle.txn_machine.proofs.Reached.{reached_replies, reached_looks}
use Rattle.txn_machine.proofs.Runs.{taken_reached}

-- where one is left at least, all may be spent at once
spends_all : (reply : Option Reply) (before after : Budget) → SpendsOne reply before after → SpendsOne reply before no_budget
spends_all None before after h = (let less = h.0 in omega (arith, less), omega arith)
spends_all (Some reply) before after h = (omega arith, (let less = h.1 in omega (arith, less)))

-- what an operation has left is one number
one_left : (P : Budget → Type 0) (own left : Budget) → Some own ≡ Some left → P own → P left
one_left P own left e h = subst P (same_Some own left e) h

module _ {T : Type 0} where
  -- an operation goes on with less, or has ended
  abbrev pub Spent : Option Reply → Budget → Next T → Type 0
  Spent reply before next = (after : Budget) × (any_budget next.0 ≡ Some after) × SpendsOne reply before after

module _ (T : Type 0) where
  module _ (reply : Option Reply) (before : Budget) where
    write_next : (x : WriteOp × Turned (Result ℕ ℕ)) → SpendsOne reply before (budget_after x.1 (write_budget x.0)) → Spent reply before (plain_next {T = T} (plain.write_next x))
    write_next (op, Goes) h = (write_budget op, refl, h)
    write_next (op, Done (Ok id)) h = (no_budget, refl, h)
    write_next (op, Done (Err number)) h = (no_budget, refl, h)

    unchecked_next : (x : WriteUncheckedOp × Turned (Result ℕ ℕ)) → SpendsOne reply before (budget_after x.1 (unchecked_budget x.0)) → Spent reply before (plain_next {T = T} (plain.unchecked_next x))
    unchecked_next (op, Goes) h = (unchecked_budget op, refl, h)
    unchecked_next (op, Done (Ok id)) h = (no_budget, refl, h)
    unchecked_next (op, Done (Err number)) h = (no_budget, refl, h)

    delete_next : (x : DeleteOp × Turned (Result (Unit {0}) ℕ)) → SpendsOne reply before (budget_after x.1 (delete_budget x.0)) → Spent reply before (plain_next {T = T} (plain.delete_next x))
    delete_next (op, Goes) h = (delete_budget op, refl, h)
    delete_next (op, Done (Ok done)) h = (no_budget, refl, h)
    delete_next (op, Done (Err number)) h = (no_budget, refl, h)

    check_next : (x : CheckOp × Turned (Result (Unit {0}) ℕ)) → SpendsOne reply before (budget_after x.1 (check_budget x.0)) → Spent reply before (plain_next {T = T} (plain.check_next x))
    check_next (op, Goes) h = (check_budget op, refl, h)
    check_next (op, Done (Ok done)) h = (no_budget, refl, h)
    check_next (op, Done (Err number)) h = (no_budget, refl, h)

module _ {T : Type 0} where
  module _ (reply : Option Reply) (before : Budget) where
    seen_next : (lacking : Bool) (x : ReadSeenOp T × Turned (Result (Option T) ℕ)) → SpendsOne reply before (budget_after x.1 (seen_budget x.0)) → Spent reply before (plain_next (plain.or_no_memory lacking (plain.seen_next x)))
    seen_next true x h = (no_budget, refl, spends_all reply before (budget_after x.1 (seen_budget x.0)) h)
    seen_next false (op, Goes) h = (seen_budget op, refl, h)
    seen_next false (op, Done (Ok found)) h = (no_budget, refl, h)
    seen_next false (op, Done (Err number)) h = (no_budget, refl, h)

    entry_next : (x : EntryOp T × Turned (Result (Outcome T) ℕ)) → SpendsOne reply before (budget_after x.1 (entry_budget x.0)) → Spent reply before (next_of (does.View (ops.Enters x.0)) x.1)
    entry_next (entry, Goes) h = (entry_budget entry, refl, h)
    entry_next (entry, Done (Ok outcome)) h = (no_budget, refl, h)
    entry_next (entry, Done (Err number)) h = (no_budget, refl, h)

  -- a get of one id, and nothing more
  value_next : (lacking : Bool) (op : ReadUncheckedOp) (answer : Result (Option T) ℕ) (reply : Reply) → Spent (Some reply) (record { looks = 0; calls = 1 }) (plain_next (plain.or_no_memory lacking (plain.value_next op (Done answer))))
  value_next true op answer reply = (no_budget, refl, (omega arith, omega arith))
  value_next false op (Ok found) reply = (no_budget, refl, (omega arith, omega arith))
  value_next false op (Err number) reply = (no_budget, refl, (omega arith, omega arith))

module _ {T : Type 0} (page : ℕ) (encode : T → List ℕ) (decode : List ℕ → Option T) (get_epoch : T → ℕ) (set_epoch : T → ℕ → T) (lacking : Bool) (caches : Caches) where
  abbrev After : Doing T → Option Reply → Next T
  After doing reply = turned page encode decode get_epoch set_epoch lacking doing caches reply

  -- each look or reply of the kind that is asked for spends one of its kind
  pub turn_spends : (doing : Doing T) (reply : Option Reply) (left : Budget) → any_budget doing ≡ Some left → IsReply doing reply → Spent reply left (After doing reply)
  turn_spends (does.Plain (doings.Write op)) reply left e is =
      one_left (λ l. Spent reply l (After (does.Plain (doings.Write op)) reply)) (write_budget op) left e (write_next T reply (write_budget op) (write_turned op caches reply) (write_spends op caches reply is))
  turn_spends (does.Plain (doings.WriteUnchecked op)) reply left e is =
      one_left (λ l. Spent reply l (After (does.Plain (doings.WriteUnchecked op)) reply)) (unchecked_budget op) left e (unchecked_next T reply (unchecked_budget op) (unchecked_turned op reply) (unchecked_spends op reply is))
  turn_spends (does.Plain (doings.ReadSeen op)) reply left e is =
      one_left (λ l. Spent reply l (After (does.Plain (doings.ReadSeen op)) reply)) (seen_budget op) left e (seen_next reply (seen_budget op) lacking (seen_turned world_names decode op caches.latest reply) (seen_spends world_names decode op caches.latest reply is))
  turn_spends (does.Plain (doings.Delete op)) reply left e is =
      one_left (λ l. Spent reply l (After (does.Plain (doings.Delete op)) reply)) (delete_budget op) left e (delete_next T reply (delete_budget op) (delete_turned op caches reply) (delete_spends op caches reply is))
  turn_spends (does.Plain (doings.Check op)) reply left e is =
      one_left (λ l. Spent reply l (After (does.Plain (doings.Check op)) reply)) (check_budget op) left e (check_next T reply (check_budget op) (check_turned op caches reply) (check_spends op caches reply is))
  turn_spends (does.Plain (doings.ReadUnchecked op)) (Some (replies.Get answer)) left e is =
      one_left (λ l. Spent (Some (replies.Get answer)) l (After (does.Plain (doings.ReadUnchecked op)) (Some (replies.Get answer)))) (record { looks = 0; calls = 1 }) left e
      (value_next lacking op (value_got decode answer) (replies.Get answer))
  turn_spends (does.Plain (doings.ReadUnchecked op)) (Some (replies.Put answer)) left e is = absurd is
  turn_spends (does.Plain (doings.ReadUnchecked op)) (Some (replies.List answer)) left e is = absurd is
  turn_spends (does.Plain (doings.ReadUnchecked op)) (Some (replies.Delete answer)) left e is = absurd is
  turn_spends (does.Plain (doings.ReadUnchecked op)) None left e is = absurd is
  turn_spends (does.Plain doings.Ended) reply left e is = absurd is
  turn_spends (does.Plain (doings.Read op)) reply left e is = absurd (cc)
  turn_spends (does.Plain (doings.ListIds op)) reply left e is = absurd (cc)
  turn_spends (does.Plain (doings.Advance op)) reply left e is = absurd (cc)
  turn_spends (does.View (ops.Enters op)) reply left e is =
      one_left (λ l. Spent reply l (After (does.View (ops.Enters op)) reply)) (entry_budget op) left e (entry_next reply (entry_budget op) (entry_turned op caches reply) (entry_spends op caches reply is))
  turn_spends (does.View (ops.Reads op)) reply left e is = absurd (cc)
  turn_spends (does.View (ops.Claims op)) reply left e is = absurd (cc)

module _ {T : Type 0} where
  -- it has the most of its call left as it starts, or is refused at once
  abbrev pub Starts : Budget → Next T → Type 0
  Starts most next = (any_budget next.0 ≡ Some most) ⊎ (next.0 ≡ ended)

  either_starts : (b : Bool) (number : ℕ) (doing : PlainDoing T) (most : Budget) → any_budget (does.Plain doing) ≡ Some most → Starts most (plain_next {T = T} (if◌then◌else◌ {A = plain.Next T} b (doings.Ended, Some (plain_answers.Refused number)) (doing, None)))
  either_starts true number doing most e = inr refl
  either_starts false number doing most e = inl e

  entry_starts : (b : Bool) (op : EntryOp T) (most : Budget) → any_budget (does.View (ops.Enters op)) ≡ Some most → Starts most (first_next ops.Enters (if◌then◌else◌ {A = Result (EntryOp T) ℕ} b (Err 10) (Ok op)))
  entry_starts true op most e = inr refl
  entry_starts false op most e = inl e

  local_starts : (most : Budget) (local : Option ℕ) (next : ℕ → Next T) → ((own : ℕ) → Starts most (next own)) → Starts most (with_local local next)
  local_starts most None next h = inr refl
  local_starts most (Some own) next h = h own

module _ {T : Type 0} (page : ℕ) (encode : T → List ℕ) (get_epoch : T → ℕ) (set_epoch : T → ℕ → T) where
  -- a write on a version
  update_starts : (id : ℕ) (value : T) → Starts five_and_two (first_next ops.Enters (entry_started world_names world_boundary encode (Some id) value))
  update_starts id value = entry_starts (id == 18446744073709551615) (entries.Writes (write_started world_names world_boundary (Some id) (encode value)) value) five_and_two refl

  holder_starts : (id : ℕ) (value : T) (own : Result (Unit {0}) ℕ) → Starts five_and_two (first_next ops.Enters (entry_tested world_names world_boundary encode id value own))
  holder_starts id value (Ok fits) = update_starts id value
  holder_starts id value (Err number) = inr refl

  abbrev Start : Call T → Option (View T) → Next T
  Start call view = started page encode get_epoch set_epoch call view

  pub call_starts : (call : Call T) (view : Option (View T)) (most : Budget) → most_of call ≡ Some most → Starts most (Start call view)
  call_starts (any.Plain (calls.Write base value)) view most e =
      one_left (λ l. Starts l (Start (any.Plain (calls.Write base value)) view)) five_and_two most e (either_starts (number_of base == 18446744073709551615) 10 (doings.Write (write_started world_names world_boundary base (encode value))) five_and_two refl)
  call_starts (any.Plain (calls.WriteUnchecked base value)) view most e =
      one_left (λ l. Starts l (Start (any.Plain (calls.WriteUnchecked base value)) view)) (record { looks = 1; calls = 1 }) most e (either_starts (number_of base == 18446744073709551615) 10 (doings.WriteUnchecked (unchecked_started world_names base (encode value))) (record { looks = 1; calls = 1 }) refl)
  call_starts (any.Plain (calls.ReadUnchecked id)) view most e = inl e
  call_starts (any.Plain (calls.ReadSeen id)) view most e = inl e
  call_starts (any.Plain (calls.Delete id)) view most e = inl e
  call_starts (any.Plain (calls.Check id)) view most e = inl e
  call_starts (any.Plain calls.Read) view most e = absurd (cc)
  call_starts (any.Plain (calls.ListIds from to)) view most e = absurd (cc)
  call_starts (any.Plain (calls.Advance to)) view most e = absurd (cc)
  call_starts (any.View (view_calls.Init value)) view most e = inl e
  call_starts (any.View (view_calls.Update number value)) (Some view) most e =
      one_left (λ l. Starts l (Start (any.View (view_calls.Update number value)) (Some view))) five_and_two most e (update_starts view.id value)
  call_starts (any.View (view_calls.HolderUpdate number value)) (Some view) most e =
      one_left (λ l. Starts l (Start (any.View (view_calls.HolderUpdate number value)) (Some view))) five_and_two most e
      (local_starts five_and_two view.epoch _ (λ own. holder_starts view.id value (own_epochs own (get_epoch view.object) (get_epoch value))))
  call_starts (any.View (view_calls.Update number value)) None most e = inr refl
  call_starts (any.View (view_calls.HolderUpdate number value)) None most e = inr refl
  call_starts (any.View view_calls.Load) view most e = absurd (cc)
  call_starts (any.View (view_calls.Refresh number)) view most e = absurd (cc)
  call_starts (any.View (view_calls.Claim number)) view most e = absurd (cc)
  call_starts (any.View (view_calls.ClaimAt number epoch)) view most e = absurd (cc)
  call_starts (any.View (view_calls.HolderRefresh number)) view most e = absurd (cc)

-- in a run

abbrev one_where : Bool → ℕ
one_where b = if b then 1 else 0

module _ {T : Type 0} where
  -- an operation that has so much left
  abbrev Has : State T → ℕ → Budget → Type 0
  Has s op left = (o : Operation T) × (numbered s.operations op ≡ Some o) × (any_budget o.doing ≡ Some left)

  -- an event takes its look or its serve from what is left
  abbrev Spends : Event T → ℕ → Budget → State T → Type 0
  Spends event op left new = (after : Budget) × Has new op after × (one_where (is_look_of op event) + after.looks ≤ left.looks) × (one_where (is_serve_of op event) + after.calls ≤ left.calls)

  -- it is as it was, or it has ended

  stays : (event : Event T) (op : ℕ) (left : Budget) (new : State T) → is_look_of op event ≡ false → is_serve_of op event ≡ false → Has new op left → Spends event op left new
  stays event op left new look serve h = (left, h, rw look (omega arith), rw serve (omega arith))

  ends : (event : Event T) (op : ℕ) (left : Budget) (new : State T) (o : Operation T) → is_look_of op event ≡ false → is_serve_of op event ≡ false → numbered new.operations op ≡ Some (doing_next o ended) → Spends event op left new
  ends event op left new o look serve there = (no_budget, (doing_next o ended, there, refl), rw look (omega arith), rw serve (omega arith))

  -- one of the operations does something else
  other_has : (s new : State T) (op other : ℕ) (left : Budget) (o now : Operation T) → numbered s.operations other ≡ Some o → new.operations ≡ set s.operations (other - 1) now → op ≢ other → Has s op left → Has new op left
  other_has s new op other left o now found is ne h =
      (h.0, ap (λ (os : List (Operation T)). numbered os op) is ∙ (numbered_other s.operations other op now (within s.operations other o found).0 ne ∙ h.1), h.2)

  -- an operation ends by an event that is neither its look nor its serve
  one_ends : (event : Event T) (s new : State T) (op other : ℕ) (left : Budget) (o : Operation T) → is_look_of op event ≡ false → is_serve_of op event ≡ false → numbered s.operations other ≡ Some o → new.operations ≡ with_doing s.operations other o ended → Has s op left → Spends event op left new
  one_ends event s new op other left o look serve found is h =
      elim (cases_Bool (other == op)) [
        | inl same ↦
            let here : numbered (with_doing s.operations other o ended) other ≡ Some (doing_next o ended) = numbered_here s.operations other (doing_next o ended) o found in
            ends event op left new o look serve (ap (λ (os : List (Operation T)). numbered os op) is ∙ (ap (λ (n : ℕ). numbered (with_doing s.operations other o ended) n) (sym (eqb-true other op same)) ∙ here))
        | inr differ ↦ stays event op left new look serve (other_has s new op other left o (doing_next o ended) found is (λ same. eqb-false other op differ (sym same)) h)
      ]

  -- the operation itself goes on
  own_spends : (event : Event T) (s new : State T) (op : ℕ) (left : Budget) (reply : Option Reply) (o : Operation T) (next : Next T) → numbered s.operations op ≡ Some o → new.operations ≡ with_doing s.operations op o next.0 → Spent reply left next →
      ((after : Budget) → SpendsOne reply left after → (one_where (is_look_of op event) + after.looks ≤ left.looks) × (one_where (is_serve_of op event) + after.calls ≤ left.calls)) → Spends event op left new
  own_spends event s new op left reply o next found is spent counts =
      let here = numbered_here s.operations op (doing_next o next.0) o found in
      let c = counts spent.0 spent.2 in
      (spent.0, (doing_next o next.0, ap (λ (os : List (Operation T)). numbered os op) is ∙ here, spent.1), c.0, c.1)

  fails_spend : (failure : Failure) (old : State T) (other : ℕ) (said : Told T) (new : State T) (op : ℕ) (left : Budget) → Fails old other failure said new → Has old op left → Spends (events.Fail other failure) op left new
  fails_spend failures.Before old other said new op left v h = one_ends (events.Fail other failures.Before) old new op other left v.operation refl refl v.acts.found (ap (λ (s : State T). s.operations) v.state) h
  fails_spend failures.After old other said new op left v h = one_ends (events.Fail other failures.After) old new op other left v.call.operation refl refl v.call.acts.found (ap (λ (s : State T). s.operations) v.state) h
  fails_spend failures.Loose old other said new op left v h = one_ends (events.Fail other failures.Loose) old new op other left v.operation refl refl v.acts.found (ap (λ (s : State T). s.operations) v.state) h

  crash_spends : (old : State T) (client : ℕ) (new : State T) (op : ℕ) (left : Budget) → new.operations ≡ map (ended_by client) old.operations → Has old op left → Spends (events.Crash client) op left new
  crash_spends old client new op left is h = by (h.0.client == client) refl
    where
      there : numbered new.operations op ≡ Some (ended_by client h.0)
      there = ap (λ (os : List (Operation T)). numbered os op) is ∙ numbered_of_map (ended_by client) old.operations op h.0 h.1

      by : (b : Bool) → (h.0.client == client) ≡ b → Spends (events.Crash client) op left new
      by true e = ends (events.Crash client) op left new h.0 refl refl (there ∙ ap (λ (b : Bool). Some (if◌then◌else◌ {A = Operation T} b (doing_next h.0 ended) h.0)) e)
      by false e = stays (events.Crash client) op left new refl refl (h.0, there ∙ ap (λ (b : Bool). Some (if◌then◌else◌ {A = Operation T} b (doing_next h.0 ended) h.0)) e, h.2)

module _ {T : Type 0} (encode : T → List ℕ) (decode : List ℕ → Option T) (get_epoch : T → ℕ) (set_epoch : T → ℕ → T) where
  -- An operation takes its look or its serve: it is this one, which goes on with less left, or another.
  turn_is_spent : (event : Event T) (old new : State T) (op other : ℕ) (left : Budget) (o : Operation T) (caches : Caches) (reply : Option Reply) (next : Next T) → numbered old.operations other ≡ Some o → new.operations ≡ with_doing old.operations other o next.0 →
      Turns old.page encode decode get_epoch set_epoch o.doing caches reply next → IsReply o.doing reply → ((other == op) ≡ false → (is_look_of op event ≡ false) × (is_serve_of op event ≡ false)) →
      ((other == op) ≡ true → (after : Budget) → SpendsOne reply left after → (one_where (is_look_of op event) + after.looks ≤ left.looks) × (one_where (is_serve_of op event) + after.calls ≤ left.calls)) → Has old op left → Spends event op left new
  turn_is_spent event old new op other left o caches reply next there operations turns given elsewhere counts h =
      elim (cases_Bool (other == op)) [
        | inl same ↦
            let is : other ≡ op = eqb-true other op same in
            let found : numbered old.operations op ≡ Some o = subst (λ (n : ℕ). numbered old.operations n ≡ Some o) is there in
            let left_now : any_budget o.doing ≡ Some left = ap (λ (x : Operation T). any_budget x.doing) (same_Some o h.0 (sym found ∙ h.1)) ∙ h.2 in
            let spent = turn_spends old.page encode decode get_epoch set_epoch turns.refused caches o.doing reply left left_now given in
            own_spends event old new op left reply o next found (subst (λ (n : ℕ). new.operations ≡ with_doing old.operations n o next.0) is operations) (subst (Spent reply left) (sym turns.turns) spent) (counts same)
        | inr differ ↦ stays event op left new (elsewhere differ).0 (elsewhere differ).1 (other_has old new op other left o (doing_next o next.0) there operations (λ same. eqb-false other op differ (sym same)) h)
      ]

  look_spends : (old : State T) (other : ℕ) (said : Told T) (new : State T) (op : ℕ) (left : Budget) → IsReached encode decode get_epoch set_epoch old → Takes encode decode get_epoch set_epoch old (events.Look other) said new → Has old op left → Spends (events.Look other) op left new
  look_spends old other said new op left r t h =
      let v = t.step in
      turn_is_spent (events.Look other) old new op other left v.operation v.caches None v.next v.acts.found (ap (λ (s : State T). s.operations) v.state) v.turns (reached_looks encode decode get_epoch set_epoch old r other v.operation v.acts.found v.acts.asks) (λ differ. (differ, refl))
      (λ same after s. (rw same (let less = s.0 in omega (arith, less)), (let le = s.1 in omega (arith, le)))) h

  serve_spends : (old : State T) (other : ℕ) (said : Told T) (new : State T) (op : ℕ) (left : Budget) → IsReached encode decode get_epoch set_epoch old → Takes encode decode get_epoch set_epoch old (events.Serve other) said new → Has old op left → Spends (events.Serve other) op left new
  serve_spends old other said new op left r t h =
      let v = t.step in
      turn_is_spent (events.Serve other) old new op other left v.call.operation v.call.caches (Some v.call.reply) v.next v.call.acts.found (ap (λ (s : State T). s.operations) v.state) v.turns (reached_replies encode decode get_epoch set_epoch old r other v.call.operation v.call.acts.found v.call.request v.call.reply v.call.store v.call.acts.asks v.call.reaches.serves) (λ differ. (refl, differ))
      (λ same after s. ((let le = s.0 in omega (arith, le)), rw same (let less = s.1 in omega (arith, less)))) h

  pub takes_spend : (old : State T) (event : Event T) (said : Told T) (new : State T) (op : ℕ) (left : Budget) → IsReached encode decode get_epoch set_epoch old → Takes encode decode get_epoch set_epoch old event said new → Has old op left → Spends event op left new
  takes_spend old (events.Begin client call) said new op left r t h =
      let is : new.operations ≡ old.operations ++ new_operation client call t.step.next.0 ∷ [] = ap (λ (s : State T). s.operations) t.step.state in
      stays (events.Begin client call) op left new refl refl (h.0, ap (λ (os : List (Operation T)). numbered os op) is ∙ numbered_kept old.operations (new_operation client call t.step.next.0 ∷ []) op h.0 h.1, h.2)
  takes_spend old (events.Look other) said new op left r t h = look_spends old other said new op left r t h
  takes_spend old (events.Serve other) said new op left r t h = serve_spends old other said new op left r t h
  takes_spend old (events.Fail other failure) said new op left r t h = fails_spend failure old other said new op left t.step h
  takes_spend old (events.GiveUp other) said new op left r t h = one_ends (events.GiveUp other) old new op other left t.step.operation refl refl t.step.found (ap (λ (s : State T). s.operations) t.step.state) h
  takes_spend old (events.Land k) said new op left r t h = stays (events.Land k) op left new refl refl (h.0, ap (λ (s : State T). numbered s.operations op) t.step.state ∙ h.1, h.2)
  takes_spend old (events.Crash client) said new op left r t h = crash_spends old client new op left (ap (λ (s : State T). s.operations) t.step.state) h

  run_spends : (taken : List (Event T × Told T)) (old new : State T) (op : ℕ) (left : Budget) → IsReached encode decode get_epoch set_epoch old → Runs encode decode get_epoch set_epoch old taken new → Has old op left →
      (taken_of (is_look_of op) taken ≤ left.looks) × (taken_of (is_serve_of op) taken ≤ left.calls)
  run_spends [] old new op left r runs h = (omega arith, omega arith)
  run_spends (one ∷ taken) old new op left r runs h =
      let spent = takes_spend old one.0 one.1 runs.0 op left r runs.1 h in
      let rest = run_spends taken runs.0 new op spent.0 (taken_reached encode decode get_epoch set_epoch old one.0 one.1 runs.0 r runs.1) runs.2 spent.1 in
      (omega (arith, spent.2, rest.0), omega (arith, spent.3, rest.1))

  -- from its begin on, an operation takes no more than the most of its call
  pub call_is_bounded : (old : State T) (client : ℕ) (call : Call T) (said : Told T) (first : State T) (taken : List (Event T × Told T)) (new : State T) (most : Budget) → IsReached encode decode get_epoch set_epoch old →
      Takes encode decode get_epoch set_epoch old (events.Begin client call) said first → Runs encode decode get_epoch set_epoch first taken new → most_of call ≡ Some most →
      (taken_of (is_look_of (next_op old)) taken ≤ most.looks) × (taken_of (is_serve_of (next_op old)) taken ≤ most.calls)
  call_is_bounded old client call said first taken new most r t runs bound =
      let v = t.step in
      let one : Operation T = new_operation client call v.next.0 in
      let is : first.operations ≡ old.operations ++ one ∷ [] = ap (λ (s : State T). s.operations) v.state in
      let there : numbered first.operations (next_op old) ≡ Some one = ap (λ (os : List (Operation T)). numbered os (next_op old)) is ∙ numbered_new old.operations one in
      let reached = taken_reached encode decode get_epoch set_epoch old (events.Begin client call) said first r t in
      elim (subst (Starts most) (sym v.starts) (call_starts old.page encode get_epoch set_epoch call (view_now old call) most bound)) [
        | inl left ↦ run_spends taken first new (next_op old) most reached runs (one, there, left)
        | inr none ↦ (
            let all = run_spends taken first new (next_op old) no_budget reached runs (one, there, ap any_budget none) in
            (omega (arith, all.0), omega (arith, all.1))
            )
      ]
