-- How an operation takes its turn: an answer ends it, and nothing else does.
use Rattle.std.proofs.Common.{◌≡◌, ℕ, zero, suc, nat_eq, ◌-◌, ◌≤◌, ◌==◌, ◌&&◌, List, [], ◌∷◌, ◌++◌, length, map, cond, inl, inr, set, get_or, not, Bool, true, false, is_some, Option, Some, None, Result, Ok, Err, refl, sym, ◌∙◌, ap, subst}
use Rattle.std.specs.HashSet.{HashSet}
use Rattle.std.specs.Option.{option_map}
use Rattle.txn_store.specs.declared.request.Reply.{Reply}
use Rattle.txn_steps.specs.declared.boundary.caches.Caches.{Caches}
use Rattle.txn_steps.specs.Writes.{write_turned, unchecked_turned}
use Rattle.txn_steps.specs.Reads.{read_turned}
use Rattle.txn_steps.specs.SeenSteps.{unchecked_turned as value_turned, seen_turned}
use Rattle.txn_steps.specs.Listings.{listing_turned}
use Rattle.txn_steps.specs.Deletes.{delete_turned}
use Rattle.txn_steps.specs.boundary.Checks.{check_turned}
use Rattle.txn_steps.specs.boundary.Advances.{advance_turned}
use Rattle.txn_history.specs.declared.event.PlainAnswer.{PlainAnswer}
use Rattle.txn_history.specs.Names.{world_names, world_boundary}
use Rattle.txn_history.specs.Lists.{numbered}
use Rattle.txn_machine.specs.declared.plain.doing.PlainDoing.{PlainDoing}
use Rattle.txn_machine.specs.declared.plain.doing.PlainDoing.TheVariants.{Write, WriteUnchecked, Read, ReadUnchecked, ReadSeen, ListIds, Delete, Check, Advance, Ended}
use Rattle.txn_machine.specs.plain.Doing as plain
use Rattle.txn_machine.specs.plain.Doing.{next_of, or_no_memory, write_answer, read_answer, value_answer, ids_answer, done_answer, read_next, value_next, seen_next, ids_next, advance_next}
use Rattle.txn_steps_views.specs.declared.outcome.Outcome.{Outcome}
use Rattle.txn_steps_views.specs.declared.op.ViewOp.{ViewOp}
use Rattle.txn_steps_views.specs.ViewOps.{view_turned}
use Rattle.txn_steps.specs.declared.boundary.turned.Turned.{Turned}
use Rattle.txn_steps.specs.declared.boundary.turned.Turned.TheVariants as turns
use Rattle.txn_machine.specs.declared.doing.Doing.{Doing}
use Rattle.txn_machine.specs.declared.doing.Doing.TheVariants as does
use Rattle.txn_machine.specs.declared.doing.Operation.{Operation}
use Rattle.txn_machine.specs.declared.doing.Ending.{Ending}
use Rattle.txn_machine.specs.Doing.{Next, asked, ended, plain_next, view_next, turned, IsReply, Turns}
use Rattle.txn_machine.specs.Machine.{doing_next, with_doing, ended_by}
use Rattle.txn_client_journals.specs.declared.tables.operations.Usage.{Usage}
use Rattle.txn_client_journals.specs.tables.Operations.{asked_of, asked_by, usage_of, TakesReply, Ends, TakesTurn}
use Rattle.txn_client_journals.specs.tables.Views.{IsFromOne}
use Rattle.txn_client_journals.proofs.tables.Acting.{held_at}
use Rattle.txn_world.specs.Running.{runs_for, ended_where}
use Rattle.txn_world.specs.Owning.{owns}
use Rattle.txn_world.specs.Acting.{EndsAmong, TurnsAmong}
use Rattle.std.proofs.lemmas.Bool.{eq-eqb, ne_eqb}
use Rattle.std.proofs.lemmas.Option.{same_Some}
use Rattle.txn_history.proofs.Lists.{numbered_set, numbered_more}
use Rattle.txn_machine.proofs.plain.Lists.{within, numbered_map, numbered_here, numbered_other, numbered_there}
use Rattle.txn_world.proofs.Running.{AreRunning, running_with, eq_cases}

module _ {T : Type 0} where
  -- it has ended exactly where it has an answer

  abbrev IsPlainOver : plain.Next T → Type 0
  IsPlainOver next = is_some (plain.asked next.0) ≡ not (is_some next.1)

  abbrev IsOver : Next T → Type 0
  IsOver next = is_some (asked next.0) ≡ not (is_some next.1)

  next_over : (doing : PlainDoing T) (answer : Option (PlainAnswer T)) → is_some (plain.asked doing) ≡ true → IsPlainOver (next_of doing answer)
  next_over doing None h = h
  next_over doing (Some answer) h = refl

  lacks_over : (refused : Bool) (next : plain.Next T) → IsPlainOver next → IsPlainOver (or_no_memory refused next)
  lacks_over true next h = refl
  lacks_over false next h = h

  plain_over : (next : plain.Next T) → IsPlainOver next → IsOver (plain_next next)
  plain_over (doing, None) h = h
  plain_over (doing, Some answer) h = h

  view_over : (next : ViewOp T × Turned (Result (Outcome T) ℕ)) → IsOver (view_next next)
  view_over (op, turns.Goes) = refl
  view_over (op, turns.Done (Ok outcome)) = refl
  view_over (op, turns.Done (Err number)) = refl

  -- a reply is for an operation that runs

  plain_runs : (doing : PlainDoing T) (reply : Option Reply) → plain.IsReply doing reply → is_some (plain.asked doing) ≡ true
  plain_runs (Write op) reply h = refl
  plain_runs (WriteUnchecked op) reply h = refl
  plain_runs (Read op) reply h = refl
  plain_runs (ReadUnchecked op) reply h = refl
  plain_runs (ReadSeen op) reply h = refl
  plain_runs (ListIds op) reply h = refl
  plain_runs (Delete op) reply h = refl
  plain_runs (Check op) reply h = refl
  plain_runs (Advance op) reply h = refl
  plain_runs Ended reply h = absurd h

  pub reply_runs : (doing : Doing T) (reply : Option Reply) → IsReply doing reply → is_some (asked doing) ≡ true
  reply_runs (does.Plain doing) reply h = plain_runs doing reply h
  reply_runs (does.View op) reply h = refl

  -- whose an operation is, and the view that it uses

  pub same_usage : (operations : List (Operation T)) (op : ℕ) (o : Operation T) (of : Usage) → numbered operations op ≡ Some o → option_map usage_of (numbered operations op) ≡ Some of → of ≡ usage_of o
  same_usage operations op o of found is = sym (same_Some (usage_of o) of (sym (ap (option_map usage_of) found) ∙ is))

  pub usage_found : (operations : List (Operation T)) (op : ℕ) (of : Usage) → option_map usage_of (numbered operations op) ≡ Some of → (o : Operation T) × (numbered operations op ≡ Some o) × (of ≡ usage_of o)
  usage_found operations op of is = by (numbered operations op) refl is
    where
      by : (found : Option (Operation T)) → numbered operations op ≡ found → option_map usage_of found ≡ Some of → (o : Operation T) × (numbered operations op ≡ Some o) × (of ≡ usage_of o)
      by None e h = cc
      by (Some o) e h = (o, e, sym (same_Some (usage_of o) of h))

  -- an operation that asks for something is there

  pub asks_there : (operations : List (Operation T)) (op : ℕ) → is_some (asked_by operations op) ≡ true → is_some (numbered operations op) ≡ true
  asks_there operations op asks = by (numbered operations op) asks
    where
      by : (found : Option (Operation T)) → is_some (asked_of found) ≡ true → is_some found ≡ true
      by None h = cc
      by (Some o) h = refl

  pub asks_runs : (operations : List (Operation T)) (op : ℕ) (o : Operation T) → is_some (asked_by operations op) ≡ true → numbered operations op ≡ Some o → is_some (asked o.doing) ≡ true
  asks_runs operations op o asks found = sym (ap (λ (f : Option (Operation T)). is_some (asked_of f)) found) ∙ asks

  -- and so does one that takes a reply
  pub takes_asks : (operations : List (Operation T)) (op : ℕ) (reply : Option Reply) → TakesReply operations op reply → is_some (asked_by operations op) ≡ true
  takes_asks operations op reply takes = ap (λ (f : Option (Operation T)). is_some (asked_of f)) takes.found ∙ reply_runs takes.operation.doing reply takes.kind

module _ {T : Type 0} (page : ℕ) (decode : List ℕ → Option T) where
  plain_turned_over : (refused : Bool) (doing : PlainDoing T) (caches : Caches) (reply : Option Reply) → plain.IsReply doing reply → IsPlainOver (plain.turned page decode refused doing caches reply)
  plain_turned_over refused (Write op) caches reply h = let next = write_turned op caches reply in next_over (Write next.0) (write_answer next.1) refl
  plain_turned_over refused (WriteUnchecked op) caches reply h = let next = unchecked_turned op reply in next_over (WriteUnchecked next.0) (write_answer next.1) refl
  plain_turned_over refused (Read op) caches reply h = let next = read_turned world_names world_boundary page decode op caches reply in lacks_over refused (read_next next) (next_over (Read next.0) (read_answer next.1) refl)
  plain_turned_over refused (ReadUnchecked op) caches reply h = let turn = value_turned decode reply in lacks_over refused (value_next op turn) (next_over (ReadUnchecked op) (value_answer turn) refl)
  plain_turned_over refused (ReadSeen op) caches reply h = let next = seen_turned world_names decode op caches.latest reply in lacks_over refused (seen_next next) (next_over (ReadSeen next.0) (value_answer next.1) refl)
  plain_turned_over refused (ListIds op) caches reply h = let next = listing_turned world_names page op reply in lacks_over refused (ids_next next) (next_over (ListIds next.0) (ids_answer next.1) refl)
  plain_turned_over refused (Delete op) caches reply h = let next = delete_turned op caches reply in next_over (Delete next.0) (done_answer next.1) refl
  plain_turned_over refused (Check op) caches reply h = let next = check_turned op caches reply in next_over (Check next.0) (done_answer next.1) refl
  plain_turned_over refused (Advance op) caches reply h = let next = advance_turned world_boundary op caches reply in lacks_over refused (advance_next next) (next_over (Advance next.0) (done_answer next.1) refl)
  plain_turned_over refused Ended caches reply h = absurd h

module _ {T : Type 0} (page : ℕ) (encode : T → List ℕ) (decode : List ℕ → Option T) (get_epoch : T → ℕ) (set_epoch : T → ℕ → T) where
  turned_over : (refused : Bool) (doing : Doing T) (caches : Caches) (reply : Option Reply) → IsReply doing reply → IsOver (turned page encode decode get_epoch set_epoch refused doing caches reply)
  turned_over refused (does.Plain doing) caches reply h = plain_over (plain.turned page decode refused doing caches reply) (plain_turned_over page decode refused doing caches reply h)
  turned_over refused (does.View op) caches reply h = view_over (view_turned world_names world_boundary page encode decode get_epoch set_epoch refused op caches reply)

  -- what it does next, by its answer
  pub turns_over : (old : Doing T) (caches : Caches) (reply : Option Reply) (next : Next T) → IsReply old reply → Turns page encode decode get_epoch set_epoch old caches reply next → is_some (asked next.0) ≡ not (is_some next.1)
  turns_over old caches reply next kind t = subst IsOver (sym t.turns) (turned_over t.refused old caches reply kind)

  -- those that run after a turn
  pub turn_running : {S : Type 0} (running new : List (HashSet ℕ S)) (operations after : List (Operation T)) (caches left : Caches) (op : ℕ) (reply : Option Reply) (ending : Option (Ending T)) (of : Usage) (ends : Bool) → AreRunning running operations → option_map usage_of (numbered operations op) ≡ Some of →
      TakesReply operations op reply → TakesTurn page encode decode get_epoch set_epoch operations caches op reply after left ending → ends ≡ is_some ending → ((c n : ℕ) → owns new c n ≡ (owns running c n && not (ends && ((of.client == c) && (op == n))))) → AreRunning new after
  turn_running running new operations after caches left op reply ending of ends all usage takes v over gone =
      let o = v.operation in
      let same : takes.operation ≡ o = same_Some takes.operation o (sym takes.found ∙ v.found) in
      let kind : IsReply o.doing reply = subst (λ (x : Operation T). IsReply x.doing reply) same takes.kind in
      let client : of.client ≡ o.client = ap (λ (u : Usage). u.client) (same_usage operations op o of v.found usage) in
      let next : is_some (asked v.next.0) ≡ not ends = turns_over o.doing caches reply v.next kind v.turns ∙ ap not (sym (over ∙ ap is_some v.ends)) in
      subst (λ (os : List (Operation T)). AreRunning new os) (sym v.operations)
      (running_with running new operations op o v.next.0 ends all v.found (reply_runs o.doing reply kind) next (λ c n. gone c n ∙ ap (λ (m : ℕ). owns running c n && not (ends && ((m == c) && (op == n)))) client))

  -- a turn among the caches of all clients
  pub turns_among : (operations after : List (Operation T)) (caches : List Caches) (op : ℕ) (reply : Option Reply) (ending : Option (Ending T)) (of : Usage) (keeps rest : Caches) → option_map usage_of (numbered operations op) ≡ Some of → 1 ≤ of.client → of.client ≤ length caches → keeps ≡ get_or caches (of.client - 1) keeps →
      TakesTurn page encode decode get_epoch set_epoch operations keeps op reply after rest ending → TurnsAmong page encode decode get_epoch set_epoch operations caches op reply after (set caches (of.client - 1) rest) ending
  turns_among operations after caches op reply ending of keeps rest usage some within at v =
      let client : of.client ≡ v.operation.client = ap (λ (u : Usage). u.client) (same_usage operations op v.operation of v.found usage) in
      record {
        keeps = keeps;
        rest = rest;
        turn = v;
        kept = subst (λ (n : ℕ). numbered caches n ≡ Some keeps) client (held_at caches of.client keeps some within at);
        leaves = ap (λ (n : ℕ). set caches (n - 1) rest) client;
      }

module _ {T : Type 0} where
  -- those that run after an end
  pub end_running : {S : Type 0} (running new : List (HashSet ℕ S)) (operations after : List (Operation T)) (op : ℕ) (of : Usage) → AreRunning running operations → option_map usage_of (numbered operations op) ≡ Some of → is_some (asked_by operations op) ≡ true → Ends operations op after →
      ((c n : ℕ) → owns new c n ≡ (owns running c n && not (true && ((of.client == c) && (op == n))))) → AreRunning new after
  end_running running new operations after op of all usage asks v gone =
      let client : of.client ≡ v.operation.client = ap (λ (u : Usage). u.client) (same_usage operations op v.operation of v.found usage) in
      subst (λ (os : List (Operation T)). AreRunning new os) (sym v.operations)
      (running_with running new operations op v.operation ended true all v.found (asks_runs operations op v.operation asks v.found) refl (λ c n. gone c n ∙ ap (λ (m : ℕ). owns running c n && not (true && ((m == c) && (op == n)))) client))

  -- an end among the caches of all clients
  pub ends_among : (operations after : List (Operation T)) (caches : List Caches) (op : ℕ) (of : Usage) → option_map usage_of (numbered operations op) ≡ Some of → 1 ≤ of.client → of.client ≤ length caches → Ends operations op after → EndsAmong operations caches op after
  ends_among operations after caches op of usage some within v =
      let client : of.client ≡ v.operation.client = ap (λ (u : Usage). u.client) (same_usage operations op v.operation of v.found usage) in
      let keeps = numbered_there caches of.client some within in
      record { ends = v; keeps = keeps.0; kept = subst (λ (n : ℕ). numbered caches n ≡ Some keeps.0) client keeps.1 }

-- the views of operations are counted from 1

module _ {T : Type 0} where
  abbrev pub AreFromOne : List (Operation T) → Type 0
  AreFromOne operations = (op : ℕ) (o : Operation T) → numbered operations op ≡ Some o → IsFromOne o.view

  pub from_with : (operations after : List (Operation T)) (op : ℕ) (o : Operation T) (doing : Doing T) → AreFromOne operations → numbered operations op ≡ Some o → after ≡ with_doing operations op o doing → AreFromOne after
  from_with operations after op o doing all found is n x e =
      elim (numbered_set operations op (doing_next o doing) n x (within operations op o found).0 (subst (λ (os : List (Operation T)). numbered os n ≡ Some x) is e)) [
        | inl h ↦ subst (λ (y : Operation T). IsFromOne y.view) h.1 (all op o found)
        | inr h ↦ all n x h.1
      ]

  pub from_more : (operations kept after : List (Operation T)) (o : Operation T) (made : Bool) → AreFromOne operations → IsFromOne o.view → kept ≡ operations → after ≡ cond made (kept ++ o ∷ []) kept → AreFromOne after
  from_more operations kept after o true all is same more n x e =
      elim (numbered_more operations o n x (subst (λ (os : List (Operation T)). numbered os n ≡ Some x) (more ∙ ap (λ (os : List (Operation T)). os ++ o ∷ []) same) e)) [
        | inl h ↦ all n x h
        | inr h ↦ subst (λ (y : Operation T). IsFromOne y.view) h.1 is
      ]
  from_more operations kept after o false all is same more n x e = all n x (subst (λ (os : List (Operation T)). numbered os n ≡ Some x) (more ∙ same) e)

  pub from_ended : (operations after : List (Operation T)) (client : ℕ) → AreFromOne operations → after ≡ map (ended_by client) operations → AreFromOne after
  from_ended operations after client all is n x e =
      let h = numbered_map (ended_by client) operations n x (subst (λ (os : List (Operation T)). numbered os n ≡ Some x) is e) in
      subst (λ (v : Option ℕ). IsFromOne v) (sym (ap (λ (y : Operation T). y.view) h.2 ∙ same_view h.0 (h.0.client == client))) (all n h.0 h.1)
    where
      same_view : (o : Operation T) (b : Bool) → (cond b (doing_next o ended) o).view ≡ o.view
      same_view o true = refl
      same_view o false = refl

  pub none_from_one : (operations : List (Operation T)) → operations ≡ [] → AreFromOne operations
  none_from_one operations none op o e = absurd (lacks op (sym (ap (λ (os : List (Operation T)). numbered os op) none) ∙ e))
    where
      lacks : (n : ℕ) → numbered {A = Operation T} [] n ≡ Some o → ⊥
      lacks zero h = cc
      lacks (suc n) h = cc

  -- one operation has ended
  pub ended_at : (operations after : List (Operation T)) (op : ℕ) → Ends operations op after → (n : ℕ) → numbered after n ≡ ended_where (nat_eq n op) (numbered operations n)
  ended_at operations after op v n =
      ap (λ (os : List (Operation T)). numbered os n) v.operations
      ∙ elim (eq_cases n op) [
        | inl here ↦
            ap (numbered (with_doing operations op v.operation ended)) here ∙ (numbered_here operations op (doing_next v.operation ended) v.operation v.found
            ∙ sym (ap (λ b. ended_where b (numbered operations n)) (eq-eqb n op here) ∙ ap (ended_where true) (ap (numbered operations) here ∙ v.found)))
        | inr ne ↦
            numbered_other operations op n (doing_next v.operation ended) (within operations op v.operation v.found).0 ne ∙ (unended (numbered operations n) ∙ ap (λ b. ended_where b (numbered operations n)) (sym (ne_eqb n op ne)))
      ]
    where
      unended : (found : Option (Operation T)) → found ≡ ended_where false found
      unended None = refl
      unended (Some x) = refl

  pub none_running : (operations : List (Operation T)) → operations ≡ [] → (client op : ℕ) → false ≡ runs_for operations client op
  none_running operations none client op = lacks op ∙ sym (ap (λ (os : List (Operation T)). runs_for os client op) none)
    where
      lacks : (n : ℕ) → false ≡ runs_for {T = T} [] client n
      lacks zero = refl
      lacks (suc n) = refl
