-- What a client does that forgot something, one that forgot nothing could do.
use Rattle.std.proofs.Common.{◌≡◌, ℕ, ◌+◌, List, [], ◌∷◌, ◌++◌, length, Bool, true, cond, ◌==◌, ◌&&◌, not, Option, Some, None, option_map, ◌⊎◌, inl, inr, refl, sym, ◌∙◌, ap, subst, slice_get, suc, arith}
use Rattle.std.proofs.lemmas.Bool.{and_parts}
use Rattle.std.proofs.lemmas.Option.{same_Some}
use Rattle.txn_store.specs.types.Numbers.{number_of}
use Rattle.txn_store.specs.declared.request.Reply.{Reply}
use Rattle.txn_steps.specs.declared.boundary.caches.Caches.{Caches}
use Rattle.txn_history.specs.declared.event.Call.{Call}
use Rattle.txn_history.specs.declared.event.Call.TheVariants as calls
use Rattle.txn_history.specs.declared.event.Answer.{Answer}
use Rattle.txn_history.specs.Lists.{numbered}
use Rattle.txn_history.specs.Seen.{Ask, Store, Look, view_in, view_of}
use Rattle.txn_history.specs.Facts.{is_high}
use Rattle.txn_history.specs.Allowed.{is_client, is_own, may_use, id_seen, base_seen}
use Rattle.txn_history.specs.Calls.{plain_has_low_boundary, view_used, is_holders, value_written}
use Rattle.txn_history.specs.OneHistory.{base_of}
use Rattle.txn_history.specs.GoesOn.{left_loose, all_left_loose}
use Rattle.txn_machine.specs.views.Layer.{Used}
use Rattle.txn_machine.specs.views.Parts.{is_claim_call}
use Rattle.txn_machine.specs.declared.doing.Operation.{Operation}
use Rattle.txn_machine.specs.Doing.{Next, asked, ended, refused, started, caches_after, Turns}
use Rattle.txn_machine.specs.Machine.{seen_view, seen_operations, used_in, used_by, let_go, views_after, views_taken, new_operation, answered, doing_next}
use Rattle.txn_machine.proofs.Crashing.{numbered_mapped}
use Rattle.txn_client_journals.specs.declared.rows.Act.TheVariants as acts
use Rattle.txn_client_journals.specs.declared.rows.Step.{Step}
use Rattle.txn_client_journals.specs.declared.rows.Step.TheVariants as steps
use Rattle.txn_client_journals.specs.Parts.{Part, seen_in, knows_base, is_low, epoch_told, epoch_written, is_in_use, client_begin_fault, note_of, written_in, answer_in, begun, turned, turned_with, given_up, killed}
use Rattle.txn_client_journals.specs.Journals.{BeginsCall, TakesTurn, Follows}
use Rattle.txn_client_journals.proofs.Begun.{Passed, passed, all_pass}
use Rattle.txn_diary.specs.Forgetting.{forgotten, HasEnded, AreKeptOperations, AreKeptViews, AreKeptNotes, Remembers}
use Rattle.txn_diary.proofs.Kept.{operations_same, running_kept, operations_set, operations_more, operations_ended, writes_same, writes_running, writes_set, writes_more, writes_ended, views_same, views_change, views_take, views_ended, views_gone, notes_same, notes_more}
use Rattle.txn_diary.proofs.Places.{none_left}

module _ {T : Type 0} where
  pub remembers_all : (part : Part T) → Remembers part part
  remembers_all part = record { caches = refl; operations = operations_same part.operations; writes = writes_same part.operations part.writes; views = views_same part.views; told = notes_same part.told }

  -- an operation that runs was not forgotten
  pub running_then : (old new : Part T) → Remembers old new → (op : ℕ) (o : Operation T) (ask : Ask) → numbered new.operations op ≡ Some o → asked o.doing ≡ Some ask → numbered old.operations op ≡ Some o
  running_then old new kept op o ask found asks = running_kept old.operations new.operations kept.operations op o ask found asks

  answer_same : (old new : Part T) → Remembers old new → (o : Operation T) (next : Next T) → answer_in new o next ≡ answer_in old o next
  answer_same old new kept o next = ap (λ n. answered n o.view next.1) kept.views.count

module _ {T : Type 0} (get_epoch : T → ℕ) where
  -- an operation that runs does something next
  remembers_turned : (old new : Part T) → Remembers old new → (op : ℕ) (o : Operation T) (ask : Ask) → numbered new.operations op ≡ Some o → asked o.doing ≡ Some ask → (next : Next T) (caches caches' : Caches) → caches' ≡ caches →
      Remembers (turned_with get_epoch old op o next caches) (turned_with get_epoch new op o next caches')
  remembers_turned old new kept op o ask found asks next caches caches' same =
      let there = running_then old new kept op o ask found asks in
      let notes : note_of get_epoch (written_in (numbered new.writes op)) (answer_in new o next) ≡ note_of get_epoch (written_in (numbered old.writes op)) (answer_in old o next) =
      ap (λ w. note_of get_epoch w (answer_in new o next)) (writes_running old.operations old.writes new.writes kept.writes op o ask there asks) ∙ ap (note_of get_epoch (written_in (numbered old.writes op))) (answer_same old new kept o next) in
      record {
        caches = same;
        operations = operations_set old.operations new.operations kept.operations op o (doing_next o next.0) found;
        writes = writes_set old.operations old.writes new.writes kept.writes op o (doing_next o next.0) ask there asks;
        views = views_ended old.views new.views kept.views o.client o.view o.claims next.1;
        told = subst (λ (ns : List (ℕ × ℕ)). AreKeptNotes (note_of get_epoch (written_in (numbered old.writes op)) (answer_in old o next) ++ old.told) (ns ++ new.told)) (sym notes) (notes_more (note_of get_epoch (written_in (numbered old.writes op)) (answer_in old o next)) old.told new.told kept.told);
      }

known_then : (old new : List (ℕ × ℕ)) → AreKeptNotes old new → (base : Option ℕ) → knows_base new base ≡ true → (knows_base old base ≡ true) × (epoch_told new (number_of base) ≡ epoch_told old (number_of base))
known_then old new kept None h = (refl, kept.none)
known_then old new kept (Some id) h = kept.known id h

module _ {T : Type 0} where
  remembers_given_up : (old new : Part T) → Remembers old new → (op : ℕ) (o : Operation T) (ask : Ask) → numbered new.operations op ≡ Some o → asked o.doing ≡ Some ask → Remembers (given_up old op o) (given_up new op o)
  remembers_given_up old new kept op o ask found asks =
      let there = running_then old new kept op o ask found asks in
      record {
        caches = kept.caches;
        operations = operations_set old.operations new.operations kept.operations op o (doing_next o ended) found;
        writes = writes_set old.operations old.writes new.writes kept.writes op o (doing_next o ended) ask there asks;
        views = views_change old.views new.views kept.views o.view (let_go o.claims);
        told = kept.told;
      }

  remembers_killed : (client : ℕ) (old new : Part T) → Remembers old new → Remembers (killed client old) (killed client new)
  remembers_killed client old new kept = record {
    caches = refl;
    operations = operations_ended client old.operations new.operations kept.operations;
    writes = writes_ended client old.operations old.writes new.writes kept.writes;
    views = views_gone client old.views new.views kept.views;
    told = kept.told;
  }

  -- what a kill leaves is of operations that run
  abbrev AreAlike : List (Operation T) → List (Operation T) → Type 0
  AreAlike old new = (k : ℕ) → (slice_get new k ≡ slice_get old k) ⊎ ((o : Operation T) × (slice_get old k ≡ Some o) × (asked o.doing ≡ None) × (slice_get new k ≡ Some forgotten))

  lefts_same : (client op : ℕ) (old new : List (Operation T)) → length new ≡ length old → AreAlike old new → all_left_loose client op (seen_operations new) ≡ all_left_loose client op (seen_operations old)
  lefts_same client op [] [] count alike = refl
  lefts_same client op [] (o ∷ os) count alike = absurd (omega (arith, count))
  lefts_same client op (o ∷ os) [] count alike = absurd (omega (arith, count))
  lefts_same client op (o ∷ os) (p ∷ ps) count alike =
      let rest = lefts_same client (op + 1) os ps (omega (arith, count)) (λ k. alike (suc k)) in
      elim (alike 0) [
        | inl same ↦ (let is : p ≡ o = same_Some p o same in ap (λ (x : Operation T). cond (x.client == client) (left_loose op (asked x.doing)) [] ++ all_left_loose client (op + 1) (seen_operations ps)) is ∙ ap (λ ls. cond (o.client == client) (left_loose op (asked o.doing)) [] ++ ls) rest)
        | inr gone ↦ (
            let was : o ≡ gone.0 = same_Some o gone.0 gone.1 in
            let is : p ≡ forgotten = same_Some p forgotten gone.3 in
            let now : cond (p.client == client) (left_loose op (asked p.doing)) [] ≡ [] = none_left (p.client == client) op (asked p.doing) (ap (λ (x : Operation T). asked x.doing) is) in
            let then : cond (o.client == client) (left_loose op (asked o.doing)) [] ≡ [] = none_left (o.client == client) op (asked o.doing) (ap (λ (x : Operation T). asked x.doing) was ∙ gone.2) in
            ap (λ ls. ls ++ all_left_loose client (op + 1) (seen_operations ps)) now ∙ (rest ∙ sym (ap (λ ls. ls ++ all_left_loose client (op + 1) (seen_operations os)) then)))
      ]

  lefts_kept : (client : ℕ) (old new : List (Operation T)) → AreKeptOperations old new → all_left_loose client 1 (seen_operations new) ≡ all_left_loose client 1 (seen_operations old)
  lefts_kept client old new kept = lefts_same client 1 old new kept.count (λ k. elim (kept.each (suc k)) [ inl same ↦ inl same | inr gone ↦ inr (gone.0.0, gone.0.1, gone.0.2, gone.1) ])

  -- a begin

  seen_used : (client : ℕ) (part : Part T) (number : ℕ) → view_of (seen_in client part) number ≡ seen_view (used_by part.views (Some number))
  seen_used client part number = ap view_in (numbered_mapped seen_view part.views number) ∙ by (numbered part.views number)
    where
      by : (found : Option (Option (Used T))) → view_in (option_map seen_view found) ≡ seen_view (used_in found)
      by None = refl
      by (Some used) = refl

  -- a view that may be used was not let go
  used_same : (client : ℕ) (old new : Part T) → Remembers old new → (holders : Bool) (view : Option ℕ) → may_use (seen_in client new) client holders view ≡ true → used_by new.views view ≡ used_by old.views view
  used_same client old new kept holders None may = refl
  used_same client old new kept holders (Some number) may = elim (kept.views.each number) [ inl same ↦ same | inr gone ↦ by (used_by new.views (Some number)) gone (sym (ap (is_own client holders) (seen_used client new number)) ∙ may) ]
    where
      by : (used : Option (Used T)) → used ≡ None → is_own client holders (seen_view used) ≡ true → used_by new.views (Some number) ≡ used_by old.views (Some number)
      by None e h = cc
      by (Some used) e h = cc

  view_same : (client : ℕ) (old new : Part T) (number : ℕ) → used_by new.views (Some number) ≡ used_by old.views (Some number) → view_of (seen_in client new) number ≡ view_of (seen_in client old) number
  view_same client old new number same = seen_used client new number ∙ (ap seen_view same ∙ sym (seen_used client old number))

  may_same : (client : ℕ) (old new : Part T) (holders : Bool) (view : Option ℕ) → used_by new.views view ≡ used_by old.views view → may_use (seen_in client new) client holders view ≡ may_use (seen_in client old) client holders view
  may_same client old new holders None same = refl
  may_same client old new holders (Some number) same = ap (is_own client holders) (view_same client old new number same)

  id_same : (client : ℕ) (old new : Part T) (view : Option ℕ) → used_by new.views view ≡ used_by old.views view → id_seen (seen_in client new) view ≡ id_seen (seen_in client old) view
  id_same client old new None same = refl
  id_same client old new (Some number) same = ap (option_map (λ v. v.id)) (view_same client old new number same)

  low_same : (old new : List (ℕ × ℕ)) → AreKeptNotes old new → (call : Call T) → is_low new call ≡ is_low old call
  low_same old new kept (calls.Plain call) = λ i. plain_has_low_boundary (λ to. kept.greatest to i) call
  low_same old new kept (calls.View call) = refl

module _ {T : Type 0} (get_epoch : T → ℕ) where
  -- What a begin that is permitted finds as it was.
  record FindsSame (client : ℕ) (old new : Part T) (call : Call T) : Type 0 where
    used : used_by new.views (view_used call) ≡ used_by old.views (view_used call)
    permits : client_begin_fault get_epoch client old call ≡ None

  finds_same : (client : ℕ) (old new : Part T) → Remembers old new → (call : Call T) → client_begin_fault get_epoch client new call ≡ None → FindsSame client old new call
  finds_same client old new kept call permits =
      let view = view_used call in
      let base = base_seen (seen_in client new) call in
      let ok : Passed (is_client client client && may_use (seen_in client new) client (is_holders call) view) (not (is_in_use (used_by new.views view))) (knows_base new.told base) (is_low new.told call) (is_high get_epoch (epoch_told new.told (number_of base)) (value_written call)) =
      passed (is_client client client && may_use (seen_in client new) client (is_holders call) view) (not (is_in_use (used_by new.views view))) (knows_base new.told base) (is_low new.told call) (is_high get_epoch (epoch_told new.told (number_of base)) (value_written call)) permits in
      let both = and_parts (is_client client client) (may_use (seen_in client new) client (is_holders call) view) ok.one_is in
      let same = used_same client old new kept (is_holders call) view both.1 in
      let id : base_seen (seen_in client old) call ≡ base = sym (ap (λ at. base_of at call) (id_same client old new view same)) in
      let known = known_then old.told new.told kept.told base ok.three_is in
      record {
        used = same;
        permits = all_pass (is_client client client && may_use (seen_in client old) client (is_holders call) view) (not (is_in_use (used_by old.views view))) (knows_base old.told (base_seen (seen_in client old) call)) (is_low old.told call) (is_high get_epoch (epoch_told old.told (number_of (base_seen (seen_in client old) call))) (value_written call)) (record {
          one_is = sym (ap (λ b. is_client client client && b) (may_same client old new (is_holders call) view same)) ∙ ok.one_is;
          six_is = sym (ap (λ (u : Option (Used T)). not (is_in_use u)) same) ∙ ok.six_is;
          three_is = ap (knows_base old.told) id ∙ known.0;
          four_is = sym (low_same old.told new.told kept.told call) ∙ ok.four_is;
          five_is = ap (λ b. is_high get_epoch (epoch_told old.told (number_of b)) (value_written call)) id ∙ (sym (ap (λ e. is_high get_epoch e (value_written call)) known.1) ∙ ok.five_is);
        });
      }

  remembers_begun : (client : ℕ) (old new : Part T) → Remembers old new → (call : Call T) (next : Next T) → Remembers (begun get_epoch client old call next) (begun get_epoch client new call next)
  remembers_begun client old new kept call next = record {
    caches = kept.caches;
    operations = operations_more old.operations new.operations kept.operations (new_operation client call next.0);
    writes = writes_more old.operations old.writes new.writes kept.writes (new_operation client call next.0) (epoch_written get_epoch call);
    views = subst (λ n. AreKeptViews (begun get_epoch client old call next).views (views_of n)) (ap (λ n. n + 1) (sym kept.operations.count)) (views_ended _ _ (views_take old.views new.views kept.views (view_used call) (length old.operations + 1)) client (view_used call) (is_claim_call call) next.1);
    told = kept.told;
  }
    where
      views_of : ℕ → List (Option (Used T))
      views_of op = views_after (views_taken new.views (view_used call) op) client (view_used call) (is_claim_call call) next.1

module _ {T : Type 0} (page : ℕ) (encode : T → List ℕ) (decode : List ℕ → Option T) (get_epoch : T → ℕ) (set_epoch : T → ℕ → T) where
  -- Where a client goes that forgot nothing, by the step of one that forgot something.
  pub record GoesBeside (client : ℕ) (old : Part T) (step : Step T) (answer : Option (Answer T)) (new' : Part T) : Type 0 where
    pub new : Part T
    pub follows : Follows page encode decode get_epoch set_epoch client old step answer new
    pub remembers : Remembers new new'

  turn_beside : (old kept new' : Part T) → Remembers old kept → (op : ℕ) (ask : Ask) (reply : Option Reply) (answer : Option (Answer T)) → TakesTurn page encode decode get_epoch set_epoch kept op ask reply answer new' → (new : Part T) × TakesTurn page encode decode get_epoch set_epoch old op ask reply answer new × Remembers new new'
  turn_beside old kept new' remembers op ask reply answer v = (
    turned get_epoch old op v.operation v.next,
    record {
      operation = v.operation;
      found = running_then old kept remembers op v.operation ask v.found v.asks;
      asks = v.asks;
      next = v.next;
      turns = subst (λ (c : Caches). Turns page encode decode get_epoch set_epoch v.operation.doing c reply v.next) remembers.caches v.turns;
      tells = v.tells ∙ answer_same old kept remembers v.operation v.next;
      part = refl;
    },
    subst (Remembers (turned get_epoch old op v.operation v.next)) (sym v.part) (remembers_turned get_epoch old kept remembers op v.operation ask v.found v.asks v.next (caches_after v.operation.doing old.caches v.next.1) (caches_after v.operation.doing kept.caches v.next.1) (ap (λ (c : Caches). caches_after v.operation.doing c v.next.1) remembers.caches)),
  )

  begin_beside : (client : ℕ) (old kept new' : Part T) → Remembers old kept → (call : Call T) (answer : Option (Answer T)) → BeginsCall page encode decode get_epoch set_epoch client kept call answer new' → GoesBeside client old (steps.Begin call) answer new'
  begin_beside client old kept new' remembers call answer v =
      let same = finds_same get_epoch client old kept remembers call v.permits in
      record {
        new = begun get_epoch client old call v.next;
        follows = record {
          permits = same.permits;
          reads_back = v.reads_back;
          word = v.word;
          next = v.next;
          starts = v.starts ∙ ap (λ (u : Option (Used T)). started page encode get_epoch set_epoch call (seen_view u)) same.used;
          made = v.made;
          tells = v.tells ∙ ap (λ n. answered n (view_used call) v.next.1) remembers.views.count;
          part = refl;
        };
        remembers = subst (Remembers (begun get_epoch client old call v.next)) (sym v.part) (remembers_begun get_epoch client old kept remembers call v.next);
      }

  pub goes_beside : (client : ℕ) (old kept new' : Part T) (step : Step T) (answer : Option (Answer T)) → Remembers old kept → Follows page encode decode get_epoch set_epoch client kept step answer new' → GoesBeside client old step answer new'
  goes_beside client old kept new' (steps.Begin call) answer remembers v = begin_beside client old kept new' remembers call answer v
  goes_beside client old kept new' (steps.Act op acts.Look) answer remembers v = let on = turn_beside old kept new' remembers op Look None answer v in record { new = on.0; follows = on.1; remembers = on.2 }
  goes_beside client old kept new' (steps.Act op (acts.Receive receipt)) answer remembers v = let on = turn_beside old kept new' remembers op (Store receipt.request) (Some receipt.reply) answer v in record { new = on.0; follows = on.1; remembers = on.2 }
  goes_beside client old kept new' (steps.Act op acts.Lacks) answer remembers v = record {
    new = turned_with get_epoch old op v.operation (refused 9) old.caches;
    follows = record { operation = v.operation; request = v.request; found = running_then old kept remembers op v.operation (Store v.request) v.found v.asks; asks = v.asks; tells = v.tells ∙ answer_same old kept remembers v.operation (refused 9); part = refl };
    remembers = subst (Remembers (turned_with get_epoch old op v.operation (refused 9) old.caches)) (sym v.part) (remembers_turned get_epoch old kept remembers op v.operation (Store v.request) v.found v.asks (refused 9) old.caches kept.caches remembers.caches);
  }
  goes_beside client old kept new' (steps.Act op (acts.GiveUp left)) answer remembers v = record {
    new = given_up old op v.operation;
    follows = record { operation = v.operation; ask = v.ask; found = running_then old kept remembers op v.operation v.ask v.found v.asks; asks = v.asks; leaves = v.leaves; tells = v.tells; part = refl };
    remembers = subst (Remembers (given_up old op v.operation)) (sym v.part) (remembers_given_up old kept remembers op v.operation v.ask v.found v.asks);
  }
  goes_beside client old kept new' (steps.Act op (acts.Fails request)) answer remembers v = record {
    new = turned_with get_epoch old op v.operation (refused 2) old.caches;
    follows = record { operation = v.operation; found = running_then old kept remembers op v.operation (Store request) v.found v.asks; asks = v.asks; tells = v.tells ∙ answer_same old kept remembers v.operation (refused 2); part = refl };
    remembers = subst (Remembers (turned_with get_epoch old op v.operation (refused 2) old.caches)) (sym v.part) (remembers_turned get_epoch old kept remembers op v.operation (Store request) v.found v.asks (refused 2) old.caches kept.caches remembers.caches);
  }
  goes_beside client old kept new' (steps.Killed lefts) answer remembers v = record {
    new = killed client old;
    follows = record { some = v.some; leaves = v.leaves ∙ lefts_kept client old.operations kept.operations remembers.operations; tells = v.tells; part = refl };
    remembers = subst (Remembers (killed client old)) (sym v.part) (remembers_killed client old kept remembers);
  }

-- one that forgot something forgets more

module _ {T : Type 0} where
  ended_then : (old new : List (Operation T)) → AreKeptOperations old new → (op : ℕ) → HasEnded new op → HasEnded old op
  ended_then old new kept op has = elim (kept.each op) [ inl same ↦ (has.0, sym same ∙ has.1, has.2) | inr gone ↦ gone.0 ]

  pub remembers_less : (one two three : Part T) → Remembers one two → Remembers two three → Remembers one three
  remembers_less one two three a b = record {
    caches = b.caches ∙ a.caches;
    operations = record {
      count = b.operations.count ∙ a.operations.count;
      each = λ op. elim (b.operations.each op) [
        | inl same ↦ elim (a.operations.each op) [ inl was ↦ inl (same ∙ was) | inr gone ↦ inr (gone.0, same ∙ gone.1) ]
        | inr gone ↦ inr (ended_then one.operations two.operations a.operations op gone.0, gone.1)
      ];
    };
    writes = record {
      count = b.writes.count ∙ a.writes.count;
      each = λ op. elim (b.writes.each op) [
        | inl same ↦ elim (a.writes.each op) [ inl was ↦ inl (same ∙ was) | inr has ↦ inr has ]
        | inr has ↦ inr (ended_then one.operations two.operations a.operations op has)
      ];
    };
    views = record {
      count = b.views.count ∙ a.views.count;
      each = λ n. elim (b.views.each n) [
        | inl same ↦ elim (a.views.each n) [ inl was ↦ inl (same ∙ was) | inr gone ↦ inr (same ∙ gone) ]
        | inr gone ↦ inr gone
      ];
    };
    told = record {
      known = λ id h. (let so = b.told.known id h in let was = a.told.known id so.0 in (was.0, so.1 ∙ was.1));
      none = b.told.none ∙ a.told.none;
      greatest = λ to. b.told.greatest to ∙ a.told.greatest to;
    };
  }
