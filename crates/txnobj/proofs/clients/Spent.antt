-- The operation of a call that has a bound, as a client keeps it, spends its looks and its store calls.
use Rattle.std.proofs.Common.{◌≡◌, ℕ, ◌+◌, ◌≤◌, List, length, false, Option, Some, None, Err, ◌⊎◌, inl, inr, refl, sym, ◌∙◌, ap, subst, arith}
use Rattle.std.proofs.lemmas.Option.{same_Some}
use Rattle.txn_store.specs.declared.store.StoreError.TheVariants as errors
use Rattle.txn_store.specs.declared.request.Request.{Request}
use Rattle.txn_store.specs.declared.request.Request.TheVariants as requests
use Rattle.txn_store.specs.declared.request.Reply.{Reply}
use Rattle.txn_store.specs.declared.request.Reply.TheVariants as replies
use Rattle.txn_steps.specs.boundary.Counts.{Budget, no_budget, SpendsOne}
use Rattle.txn_history.specs.Seen.{Ask, Store, Look}
use Rattle.txn_history.specs.Lists.{numbered}
use Rattle.txn_history.specs.declared.event.Call.{Call}
use Rattle.txn_history.specs.Calls.{view_used}
use Rattle.txn_history.specs.Views.{View}
use Rattle.txn_history.specs.declared.event.Answer.{Answer}
use Rattle.txn_machine.proofs.plain.Lists.{numbered_here, numbered_new}
use Rattle.txn_machine.specs.declared.doing.Doing.{Doing}
use Rattle.txn_machine.specs.declared.doing.Operation.{Operation}
use Rattle.txn_machine.specs.Doing.{ended, asked, started, IsReply}
use Rattle.txn_machine.specs.CallsLeft.{most_of, any_budget}
use Rattle.txn_machine.specs.Machine.{doing_next, new_operation, seen_view, used_by}
use Rattle.txn_machine.proofs.Spending.{turn_spends, call_starts}
use Rattle.txn_client_journals.specs.tables.Operations.{request_of}
use Rattle.txn_client_journals.specs.Parts.{Part}
use Rattle.txn_client_journals.specs.Journals.{BeginsCall, TakesTurn, FailsAt, GivesUp}
use Rattle.txn_client_journals.specs.Logged.{IsOfKind}
use Rattle.txn_diary.specs.Taking.{CanTake, FitsAsk}
use Rattle.txn_diary.proofs.Started.{started_can}
use Rattle.txn_diary.proofs.Turned.{turned_can}
use Rattle.txn_diary.proofs.Replied.{takes_fitting}
use Rattle.txn_diary.specs.Forgetting.{forgotten, Remembers}

module _ {T : Type 0} where
  -- an operation is there, can take what it asks for, and has so much left
  pub record Has (part : Part T) (op : ℕ) (left : Budget) : Type 0 where
    pub operation : Operation T
    pub found : numbered part.operations op ≡ Some operation
    pub can : CanTake operation.doing
    pub has : any_budget operation.doing ≡ Some left

  -- it has this much less left, at least
  pub record Took (looks calls : ℕ) (left : Budget) (part : Part T) (op : ℕ) : Type 0 where
    pub after : Budget
    pub holds : Has part op after
    pub looks_left : looks + after.looks ≤ left.looks
    pub calls_left : calls + after.calls ≤ left.calls

  -- the same operation, by another look at the list
  has_at : (part : Part T) (op : ℕ) (left : Budget) (o : Operation T) → numbered part.operations op ≡ Some o → Has part op left → CanTake o.doing × (any_budget o.doing ≡ Some left)
  has_at part op left o found h =
      let same : h.operation ≡ o = same_Some h.operation o (sym h.found ∙ found) in
      (subst (λ (p : Operation T). CanTake p.doing) same h.can, subst (λ (p : Operation T). any_budget p.doing ≡ Some left) same h.has)

  -- what was forgotten has ended
  pub forget_took : (looks calls : ℕ) (left : Budget) (old new : Part T) (op : ℕ) → Remembers old new → Took looks calls left old op → Took looks calls left new op
  forget_took looks calls left old new op r t = elim (r.operations.each op) [
    | inl same ↦ record {
      after = t.after;
      holds = record { operation = t.holds.operation; found = same ∙ t.holds.found; can = t.holds.can; has = t.holds.has };
      looks_left = t.looks_left;
      calls_left = t.calls_left;
    }
    | inr gone ↦ record {
      after = no_budget;
      holds = record { operation = forgotten; found = gone.1; can = tt; has = refl };
      looks_left = (let few = t.looks_left in omega (arith, few));
      calls_left = (let few = t.calls_left in omega (arith, few));
    }
  ]

-- some reply of a request's kind
abbrev any_reply : Request → Reply
any_reply (requests.Put path bytes mode) = replies.Put (Err errors.Failed)
any_reply (requests.Get path known) = replies.Get (Err errors.Failed)
any_reply (requests.List prefix after limit) = replies.List (Err errors.Failed)
any_reply (requests.Delete path) = replies.Delete (Err errors.Failed)

any_in_kind : (request : Request) → IsOfKind request (any_reply request)
any_in_kind (requests.Put path bytes mode) = tt
any_in_kind (requests.Get path known) = tt
any_in_kind (requests.List prefix after limit) = tt
any_in_kind (requests.Delete path) = tt

module _ {T : Type 0} (page : ℕ) (room : 1 ≤ page) (encode : T → List ℕ) (decode : List ℕ → Option T) (get_epoch : T → ℕ) (set_epoch : T → ℕ → T) where
  -- what fits is a reply that the operation can take
  is_reply : (doing : Doing T) (ask : Ask) (reply : Option Reply) → CanTake doing → asked doing ≡ Some ask → FitsAsk (request_of (Some ask)) reply → IsReply doing reply
  is_reply doing ask reply can asks fits = takes_fitting doing ask reply can asks (subst (λ (a : Option Ask). FitsAsk (request_of a) reply) (sym asks) fits)

  turn_took : (old : Part T) (op : ℕ) (ask : Ask) (reply : Option Reply) (answer : Option (Answer T)) (new : Part T) (left : Budget) → FitsAsk (request_of (Some ask)) reply → TakesTurn page encode decode get_epoch set_epoch old op ask reply answer new → Has old op left → (after : Budget) × Has new op after × SpendsOne reply left after
  turn_took old op ask reply answer new left fits v h =
      let at = has_at old op left v.operation v.found h in
      let is = is_reply v.operation.doing ask reply at.0 v.asks fits in
      let spent = turn_spends page encode decode get_epoch set_epoch v.turns.refused old.caches v.operation.doing reply left at.1 is in
      let can = turned_can page room encode decode get_epoch set_epoch v.turns.refused v.operation.doing old.caches reply at.0 in
      let next = v.turns.turns in
      let here = numbered_here old.operations op (doing_next v.operation v.next.0) v.operation v.found in (
        spent.0,
        record {
          operation = doing_next v.operation v.next.0;
          found = ap (λ (p : Part T). numbered p.operations op) v.part ∙ here;
          can = subst (λ n. CanTake n.0) (sym next) can;
          has = subst (λ n. any_budget n.0 ≡ Some spent.0) (sym next) spent.1;
        },
        spent.2,
      )

  pub look_took : (old : Part T) (op : ℕ) (answer : Option (Answer T)) (new : Part T) (left : Budget) → TakesTurn page encode decode get_epoch set_epoch old op Look None answer new → Has old op left → Took 1 0 left new op
  look_took old op answer new left v h =
      let t = turn_took old op Look None answer new left tt v h in
      record { after = t.0; holds = t.1; looks_left = (let less = t.2.0 in omega (arith, less)); calls_left = (let few = t.2.1 in omega (arith, few)) }

  pub reply_took : (old : Part T) (op : ℕ) (request : Request) (reply : Reply) (answer : Option (Answer T)) (new : Part T) (left : Budget) → IsOfKind request reply → TakesTurn page encode decode get_epoch set_epoch old op (Store request) (Some reply) answer new → Has old op left → Took 0 1 left new op
  reply_took old op request reply answer new left kind v h =
      let t = turn_took old op (Store request) (Some reply) answer new left kind v h in
      record { after = t.0; holds = t.1; looks_left = (let few = t.2.0 in omega (arith, few)); calls_left = (let less = t.2.1 in omega (arith, less)) }

  -- an operation that asks for a store call has one left
  has_call : (part : Part T) (op : ℕ) (left : Budget) (o : Operation T) (request : Request) → numbered part.operations op ≡ Some o → asked o.doing ≡ Some (Store request) → Has part op left → 1 ≤ left.calls
  has_call part op left o request found asks h =
      let at = has_at part op left o found h in
      let is = is_reply o.doing (Store request) (Some (any_reply request)) at.0 asks (any_in_kind request) in
      let less = (turn_spends page encode decode get_epoch set_epoch false part.caches o.doing (Some (any_reply request)) left at.1 is).2.1 in
      omega (arith, less)

  -- one that asks for a look has one of these
  has_look : (part : Part T) (op : ℕ) (left : Budget) (o : Operation T) → numbered part.operations op ≡ Some o → asked o.doing ≡ Some Look → Has part op left → 1 ≤ left.looks
  has_look part op left o found asks h =
      let at = has_at part op left o found h in
      let is = is_reply o.doing Look None at.0 asks tt in
      let less = (turn_spends page encode decode get_epoch set_epoch false part.caches o.doing None left at.1 is).2.0 in
      omega (arith, less)

  pub fail_took : (old : Part T) (op : ℕ) (request : Request) (answer : Option (Answer T)) (new : Part T) (left : Budget) → FailsAt get_epoch old op request answer new → Has old op left → Took 0 1 left new op
  fail_took old op request answer new left v h =
      let one = has_call old op left v.operation request v.found v.asks h in
      let here = numbered_here old.operations op (doing_next v.operation ended) v.operation v.found in
      record {
        after = no_budget;
        holds = record { operation = doing_next v.operation ended; found = ap (λ (p : Part T). numbered p.operations op) v.part ∙ here; can = tt; has = refl };
        looks_left = omega arith;
        calls_left = omega (arith, one);
      }

  -- one that is given up had something left
  pub given_up_had : (old : Part T) (op : ℕ) (left : Option Request) (answer : Option (Answer T)) (new : Part T) (budget : Budget) → GivesUp old op left answer new → Has old op budget → 1 ≤ budget.looks + budget.calls
  given_up_had old op left answer new budget v h = by v.ask v.asks
    where
      by : (ask : Ask) → asked v.operation.doing ≡ Some ask → 1 ≤ budget.looks + budget.calls
      by Look asks = (let one = has_look old op budget v.operation v.found asks h in omega (arith, one))
      by (Store request) asks = (let one = has_call old op budget v.operation request v.found asks h in omega (arith, one))

  -- a call begins with no more than it has at most
  pub begin_took : (client : ℕ) (old : Part T) (call : Call T) (answer : Option (Answer T)) (new : Part T) (most : Budget) → most_of call ≡ Some most → BeginsCall page encode decode get_epoch set_epoch client old call answer new → Took 0 0 most new (length old.operations + 1)
  begin_took client old call answer new most bound v = by (call_starts page encode get_epoch set_epoch call view most bound)
    where
      view : Option (View T)
      view = seen_view (used_by old.views (view_used call))

      there : numbered new.operations (length old.operations + 1) ≡ Some (new_operation client call v.next.0)
      there = ap (λ (p : Part T). numbered p.operations (length old.operations + 1)) v.part ∙ numbered_new old.operations (new_operation client call v.next.0)

      can : CanTake v.next.0
      can = subst (λ n. CanTake n.0) (sym v.starts) (started_can page room encode get_epoch set_epoch call view)

      with : (after : Budget) → any_budget v.next.0 ≡ Some after → after.looks ≤ most.looks → after.calls ≤ most.calls → Took 0 0 most new (length old.operations + 1)
      with after has looks calls = record { after = after; holds = record { operation = new_operation client call v.next.0; found = there; can = can; has = has }; looks_left = omega (arith, looks); calls_left = omega (arith, calls) }

      by : (any_budget (started page encode get_epoch set_epoch call view).0 ≡ Some most) ⊎ ((started page encode get_epoch set_epoch call view).0 ≡ ended) → Took 0 0 most new (length old.operations + 1)
      by (inl e) = with most (subst (λ n. any_budget n.0 ≡ Some most) (sym v.starts) e) (omega arith) (omega arith)
      by (inr e) = with no_budget (subst (λ (d : Doing T). any_budget d ≡ Some no_budget) (sym (ap (λ n. n.0) v.starts ∙ e)) refl) (omega arith) (omega arith)
