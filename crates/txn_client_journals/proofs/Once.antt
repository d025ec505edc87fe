-- An operation leaves at most one request: where it has, it has ended.
use Rattle.std.proofs.Common.{◌≡◌, ◌≢◌, ℕ, ◌+◌, ◌-◌, ◌≤◌, List, [], ◌∷◌, ◌++◌, length, map, slice_get, ◌==◌, Bool, false, Option, Some, None, inl, inr, refl, sym, ◌∙◌, ap, subst, arith}
use Rattle.std.proofs.lemmas.Bool.{cases_Bool, eqb-true, eq-eqb, ne_eqb}
use Rattle.std.proofs.lemmas.List.{length-append, length-set, length-map}
use Rattle.std.proofs.lemmas.Option.{same_Some}
use Rattle.txn_store.specs.declared.request.Request.{Request}
use Rattle.txn_history.specs.Lists.{numbered}
use Rattle.txn_history.specs.Seen.{Ask}
use Rattle.txn_history.specs.GoesOn.{all_left_loose}
use Rattle.txn_history.proofs.Lists.{numbered_more}
use Rattle.txn_machine.proofs.plain.Lists.{within, numbered_map, numbered_here, numbered_other}
use Rattle.txn_history.specs.declared.event.Answer.{Answer}
use Rattle.txn_machine.specs.declared.doing.Doing.{Doing}
use Rattle.txn_machine.specs.declared.doing.Operation.{Operation}
use Rattle.txn_machine.specs.Doing.{asked, ended}
use Rattle.txn_machine.specs.Machine.{seen_operations, doing_next, with_doing, new_operation, ended_by}
use Rattle.txn_client_journals.specs.declared.rows.Act.TheVariants as acts
use Rattle.txn_client_journals.specs.declared.rows.Left.{Left}
use Rattle.txn_client_journals.specs.declared.rows.Step.{Step}
use Rattle.txn_client_journals.specs.declared.rows.Step.TheVariants as steps
use Rattle.txn_client_journals.specs.declared.rows.JournalRow.{JournalRow}
use Rattle.txn_client_journals.specs.Parts.{Part}
use Rattle.txn_client_journals.specs.Journals.{as_pair, Follows, Replays, left_by, left_now, left_in, left_of}
use Rattle.txn_client_journals.specs.Verdict.{stops_at, left_at}
use Rattle.txn_client_journals.proofs.Lefts.{left_cases, among_cases, none_among}
use Rattle.txn_client_journals.proofs.Killing.{Leaver, killed_leaver}
use Rattle.txn_client_journals.proofs.Woven.{pushed}

module _ {T : Type 0} where
  -- the operation was begun and has ended
  record IsOver (operations : List (Operation T)) (op : ℕ) : Type 0 where
    within : op ≤ length operations
    ended : (o : Operation T) → numbered operations op ≡ Some o → asked o.doing ≡ None

  -- one that asks is not
  asks_still : (operations : List (Operation T)) (op k : ℕ) (o : Operation T) (ask : Ask) → IsOver operations op → numbered operations k ≡ Some o → asked o.doing ≡ Some ask → op ≢ k
  asks_still operations op k o ask over found asks e = (let none = over.ended o (subst (λ (n : ℕ). numbered operations n ≡ Some o) (sym e) found) in let clash : None ≡ Some ask = sym none ∙ asks in cc)

  over_set : (operations : List (Operation T)) (op k : ℕ) (o : Operation T) (ask : Ask) (doing : Doing T) → IsOver operations op → numbered operations k ≡ Some o → asked o.doing ≡ Some ask → IsOver (with_doing operations k o doing) op
  over_set operations op k o ask doing over found asks =
      let ne = asks_still operations op k o ask over found asks in
      record {
        within = (let len = length-set operations (k - 1) (doing_next o doing) in let low = over.within in omega (arith, len, low));
        ended = λ x is. over.ended x (sym (numbered_other operations k op (doing_next o doing) (within operations k o found).0 ne) ∙ is);
      }

  over_now : (operations : List (Operation T)) (op k : ℕ) (o : Operation T) → numbered operations k ≡ Some o → k ≡ op → IsOver (with_doing operations k o ended) op
  over_now operations op k o found e =
      subst (λ (n : ℕ). IsOver (with_doing operations k o ended) n) e
      (record {
        within = (let len = length-set operations (k - 1) (doing_next o ended) in let w = within operations k o found in omega (arith, len, w.1));
        ended = λ x is. ap (λ (y : Operation T). asked y.doing) (same_Some x (doing_next o ended) (sym is ∙ numbered_here operations k (doing_next o ended) o found));
      })

  over_begun : (operations : List (Operation T)) (op : ℕ) (new : Operation T) → IsOver operations op → IsOver (operations ++ new ∷ []) op
  over_begun operations op new over =
      let low = over.within in
      record {
        within = (let len = length-append operations (new ∷ []) in omega (arith, len, low));
        ended = λ x is. elim (numbered_more operations new op x is) [ inl old ↦ over.ended x old | inr now ↦ absurd (let at = now.0 in omega (arith, at, low)) ];
      }

  over_killed : (client : ℕ) (operations : List (Operation T)) (op : ℕ) → IsOver operations op → IsOver (map (ended_by client) operations) op
  over_killed client operations op over =
      record {
        within = (let len = length-map operations (ended_by client) in let low = over.within in omega (arith, len, low));
        ended = λ x is. (let was = numbered_map (ended_by client) operations op x is in ap (λ (y : Operation T). asked y.doing) was.2 ∙ none (was.0) (over.ended was.0 was.1));
      }
    where
      none : (o : Operation T) → asked o.doing ≡ None → asked (ended_by client o).doing ≡ None
      none o e = elim (cases_Bool (o.client == client)) [ inl h ↦ rw h refl | inr h ↦ rw h e ]

  leaver_there : (client : ℕ) (operations : List (Operation T)) (left : ℕ × Request) (l : Leaver client 1 operations left) → numbered operations left.0 ≡ Some l.o
  leaver_there client operations left l = (let next : l.place + 1 ≡ Rattle.std.proofs.Common.suc l.place = omega arith in ap (numbered operations) (l.op_is ∙ next) ∙ l.at)

  -- what a kill leaves is of operations that are over
  over_left : (client : ℕ) (operations : List (Operation T)) (lefts : List Left) → map as_pair lefts ≡ all_left_loose client 1 (seen_operations operations) → (j : ℕ) (left : Left) → slice_get lefts j ≡ Some left → IsOver (map (ended_by client) operations) left.op
  over_left client operations lefts leaves j left e =
      let l = killed_leaver client operations lefts leaves j left e in
      let there = leaver_there client operations (as_pair left) l in
      record {
        within = (let len = length-map operations (ended_by client) in let w = within operations left.op l.o there in omega (arith, len, w.1));
        ended = λ x is. (
            let was = numbered_map (ended_by client) operations left.op x is in
            let same : was.0 ≡ l.o = same_Some was.0 l.o (sym was.1 ∙ there) in
            ap (λ (y : Operation T). asked y.doing) (was.2 ∙ ap (ended_by client) same) ∙ rw (eq-eqb l.o.client client l.own) refl);
      }

module _ {T : Type 0} (page : ℕ) (encode : T → List ℕ) (decode : List ℕ → Option T) (get_epoch : T → ℕ) (set_epoch : T → ℕ → T) where
  over_after : (client : ℕ) (old new : Part T) (step : Step T) (answer : Option (Answer T)) (op : ℕ) → Follows page encode decode get_epoch set_epoch client old step answer new → IsOver old.operations op → IsOver new.operations op
  over_after client old new (steps.Begin call) answer op v over = subst (λ (p : Part T). IsOver p.operations op) (sym v.part) (over_begun old.operations op (new_operation client call v.next.0) over)
  over_after client old new (steps.Act k acts.Look) answer op v over = subst (λ (p : Part T). IsOver p.operations op) (sym v.part) (over_set old.operations op k v.operation _ v.next.0 over v.found v.asks)
  over_after client old new (steps.Act k (acts.Receive receipt)) answer op v over = subst (λ (p : Part T). IsOver p.operations op) (sym v.part) (over_set old.operations op k v.operation _ v.next.0 over v.found v.asks)
  over_after client old new (steps.Act k acts.Lacks) answer op v over = subst (λ (p : Part T). IsOver p.operations op) (sym v.part) (over_set old.operations op k v.operation _ ended over v.found v.asks)
  over_after client old new (steps.Act k (acts.GiveUp left)) answer op v over = subst (λ (p : Part T). IsOver p.operations op) (sym v.part) (over_set old.operations op k v.operation _ ended over v.found v.asks)
  over_after client old new (steps.Act k (acts.Fails request)) answer op v over = subst (λ (p : Part T). IsOver p.operations op) (sym v.part) (over_set old.operations op k v.operation _ ended over v.found v.asks)
  over_after client old new (steps.Killed lefts) answer op v over = subst (λ (p : Part T). IsOver p.operations op) (sym v.part) (over_killed client old.operations op over)

  -- what has left something is over
  left_over : (client : ℕ) (rows : List (JournalRow T)) (part : Part T) (op : ℕ) (request : Request) → Replays page encode decode get_epoch set_epoch client rows part → left_of op rows ≡ Some request → IsOver part.operations op
  left_over client [] part op request h e = absurd (nothing e)
    where
      nothing : None ≡ Some request → ⊥
      nothing e = cc
  left_over client (row ∷ rows) part op request h e = by row.step h.2 (λ e. over_after client h.0 part row.step row.answer op h.2 (left_over client rows h.0 op request h.1 e)) e
    where
      by : (step : Step T) → Follows page encode decode get_epoch set_epoch client h.0 step row.answer part → (left_of op rows ≡ Some request → IsOver part.operations op) → left_in op step (left_of op rows) ≡ Some request → IsOver part.operations op
      by (steps.Begin call) v old e = old e
      by (steps.Act k acts.Look) v old e = old e
      by (steps.Act k (acts.Receive receipt)) v old e = old e
      by (steps.Act k acts.Lacks) v old e = old e
      by (steps.Act k (acts.GiveUp left)) v old e = left_cases (IsOver part.operations op) (k == op) left (left_of op rows) request (λ is. subst (λ (p : Part T). IsOver p.operations op) (sym v.part) (over_now h.0.operations op k v.operation v.found (eqb-true k op is))) old e
      by (steps.Act k (acts.Fails asked)) v old e = left_cases (IsOver part.operations op) (k == op) (left_by (acts.Fails asked)) (left_of op rows) request (λ is. subst (λ (p : Part T). IsOver p.operations op) (sym v.part) (over_now h.0.operations op k v.operation v.found (eqb-true k op is))) old e
      by (steps.Killed lefts) v old e = among_cases (IsOver part.operations op) op lefts.items (left_of op rows) request (λ j left is at. subst (λ (p : Part T). IsOver p.operations op) (sym v.part) (subst (λ (n : ℕ). IsOver (map (ended_by client) h.0.operations) n) at (over_left client h.0.operations lefts.items v.leaves j left is))) old e

  skips : (is : Bool) (left : Option Request) (request : Request) → is ≡ false → left_now is left (Some request) ≡ Some request
  skips is None request e = refl
  skips is (Some left) request e = rw e refl

  -- one more row leaves nothing of it
  pub left_once : (client : ℕ) (row : JournalRow T) (rows : List (JournalRow T)) (part : Part T) (op : ℕ) (request : Request) → Replays page encode decode get_epoch set_epoch client (row ∷ rows) part → left_of op rows ≡ Some request → left_of op (row ∷ rows) ≡ Some request
  left_once client row rows part op request h e = ap (left_in op row.step) e ∙ by row.step h.2
    where
      over : IsOver h.0.operations op
      over = left_over client rows h.0 op request h.1 e

      by : (step : Step T) → Follows page encode decode get_epoch set_epoch client h.0 step row.answer part → left_in op step (Some request) ≡ Some request
      by (steps.Begin call) v = refl
      by (steps.Act k acts.Look) v = refl
      by (steps.Act k (acts.Receive receipt)) v = refl
      by (steps.Act k acts.Lacks) v = refl
      by (steps.Act k (acts.GiveUp left)) v = skips (k == op) left request (ne_eqb k op (λ is. asks_still h.0.operations op k v.operation _ over v.found v.asks (sym is)))
      by (steps.Act k (acts.Fails asked)) v = skips (k == op) (left_by (acts.Fails asked)) request (ne_eqb k op (λ is. asks_still h.0.operations op k v.operation _ over v.found v.asks (sym is)))
      by (steps.Killed lefts) v = none_among op lefts.items (Some request) (λ j left is at. (let l = killed_leaver client h.0.operations lefts.items v.leaves j left is in asks_still h.0.operations op left.op l.o l.ask over (leaver_there client h.0.operations (as_pair left) l) l.asks (sym at)))

  -- a journal's beginning is one
  pub replays_front : (client : ℕ) (rest base : List (JournalRow T)) (part : Part T) → Replays page encode decode get_epoch set_epoch client (pushed rest base) part → (was : Part T) × Replays page encode decode get_epoch set_epoch client base was
  replays_front client [] base part h = (part, h)
  replays_front client (x ∷ rest) base part h = (let f = replays_front client rest (x ∷ base) part h in (f.1.0, f.1.1))

  -- what was left stays so, however far the journal is read
  pub left_stays : (client place : ℕ) (rest base : List (JournalRow T)) (part : Part T) (op : ℕ) (request : Request) → Replays page encode decode get_epoch set_epoch client (pushed rest base) part → left_of op base ≡ Some request → left_at place op (left_of op base) rest ≡ Some request
  left_stays client place [] base part op request h e = e
  left_stays client place (x ∷ rest) base part op request h e = elim (cases_Bool (stops_at place x.step)) [
    | inl is ↦ rw is e
    | inr not ↦ rw not (let f = replays_front client rest (x ∷ base) part h in left_stays client place rest (x ∷ base) part op request h (left_once client x base f.0 op request f.1 e))
  ]
