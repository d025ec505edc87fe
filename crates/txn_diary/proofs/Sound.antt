-- The operations that a journal leads to can take what they ask for, and their views are counted from 1.
use Rattle.std.proofs.Common.{◌≡◌, ℕ, zero, suc, ◌≤◌, List, [], ◌∷◌, ◌++◌, map, ◌==◌, ◌&&◌, not, Bool, true, false, Option, Some, None, inl, inr, sym, ◌∙◌, subst, arith}
use Rattle.std.proofs.lemmas.Bool.{cases_Bool, cases_eq}
use Rattle.std.proofs.lemmas.Option.{same_Some}
use Rattle.txn_store.specs.declared.request.Reply.{Reply}
use Rattle.txn_history.specs.Lists.{numbered}
use Rattle.txn_history.specs.Seen.{Ask, Store, Look}
use Rattle.txn_history.proofs.Lists.{numbered_more}
use Rattle.txn_machine.proofs.plain.Lists.{within, numbered_map, numbered_here, numbered_other}
use Rattle.txn_history.specs.declared.event.Answer.{Answer}
use Rattle.txn_machine.specs.declared.doing.Doing.{Doing}
use Rattle.txn_machine.specs.declared.doing.Operation.{Operation}
use Rattle.txn_machine.specs.Doing.{ended}
use Rattle.txn_machine.specs.Machine.{used_by, doing_next, with_doing, ended_by, new_operation}
use Rattle.txn_diary.specs.Taking.{CanTake}
use Rattle.txn_diary.proofs.Started.{started_can}
use Rattle.txn_diary.proofs.Turned.{turned_can}
use Rattle.txn_client_journals.specs.declared.rows.Act.TheVariants as acts
use Rattle.txn_client_journals.specs.declared.rows.Step.{Step}
use Rattle.txn_client_journals.specs.declared.rows.Step.TheVariants as steps
use Rattle.txn_client_journals.specs.declared.rows.JournalRow.{JournalRow}
use Rattle.txn_store.specs.types.Numbers.{number_of}
use Rattle.txn_history.specs.Allowed.{is_client, may_use, base_seen}
use Rattle.txn_history.specs.Facts.{is_high}
use Rattle.txn_history.specs.declared.event.Call.{Call}
use Rattle.txn_history.specs.Calls.{view_used, is_holders, value_written}
use Rattle.txn_client_journals.specs.tables.Views.{IsFromOne}
use Rattle.txn_client_journals.specs.Parts.{Part, seen_in, knows_base, is_low, epoch_told, is_in_use, client_begin_fault}
use Rattle.txn_client_journals.proofs.Begun.{Passed, passed}
use Rattle.txn_client_journals.specs.Journals.{TakesTurn, Follows, Replays}
use Rattle.txn_diary.specs.Forgetting.{forgotten, AreKeptOperations}
use Rattle.txn_diary.specs.Keepers.{IsSound, AreSound}

module _ {T : Type 0} where
  -- what a begin uses that is permitted is counted from 1
  pub used_from_one : (get_epoch : T → ℕ) (client : ℕ) (part : Part T) (call : Call T) → client_begin_fault get_epoch client part call ≡ None → IsFromOne (view_used call)
  used_from_one get_epoch client part call permits = by (view_used call) (own (is_client client client) (may_use (seen_in client part) client (is_holders call) (view_used call)) ok.one_is)
    where
      base : Option ℕ
      base = base_seen (seen_in client part) call

      ok : Passed (is_client client client && may_use (seen_in client part) client (is_holders call) (view_used call)) (not (is_in_use (used_by part.views (view_used call)))) (knows_base part.told base) (is_low part.told call) (is_high get_epoch (epoch_told part.told (number_of base)) (value_written call))
      ok = passed (is_client client client && may_use (seen_in client part) client (is_holders call) (view_used call)) (not (is_in_use (used_by part.views (view_used call)))) (knows_base part.told base) (is_low part.told call) (is_high get_epoch (epoch_told part.told (number_of base)) (value_written call)) permits

      own : (a b : Bool) → (a && b) ≡ true → b ≡ true
      own true b h = h
      own false b h = cc

      by : (view : Option ℕ) → may_use (seen_in client part) client (is_holders call) view ≡ true → IsFromOne view
      by None h = λ n e. cc
      by (Some zero) h = cc
      by (Some (suc n)) h = λ m e. let is : suc n ≡ m = same_Some (suc n) m e in omega (arith, is)

module _ {T : Type 0} (page : ℕ) (room : 1 ≤ page) (encode : T → List ℕ) (decode : List ℕ → Option T) (get_epoch : T → ℕ) (set_epoch : T → ℕ → T) where
  set_sound : (operations : List (Operation T)) (k : ℕ) (o : Operation T) (doing : Doing T) → numbered operations k ≡ Some o → CanTake doing → AreSound operations → AreSound (with_doing operations k o doing)
  set_sound operations k o doing found can all j x is =
      elim (cases_eq j k) [
        | inl same ↦ (
            let here = numbered_here operations k (doing_next o doing) o found in
            let now = same_Some (doing_next o doing) x (sym (subst (λ (n : ℕ). numbered (with_doing operations k o doing) n ≡ Some (doing_next o doing)) (sym same) here) ∙ is) in
            let sound : IsSound (doing_next o doing) = record { can = can; view = (all k o found).view } in
            subst (λ (y : Operation T). IsSound y) now sound)
        | inr ne ↦ all j x (sym (numbered_other operations k j (doing_next o doing) (within operations k o found).0 ne) ∙ is)
      ]

  push_sound : (operations : List (Operation T)) (o : Operation T) → IsSound o → AreSound operations → AreSound (operations ++ o ∷ [])
  push_sound operations o sound all j x is = elim (numbered_more operations o j x is) [ inl old ↦ all j x old | inr new ↦ subst (λ (y : Operation T). IsSound y) new.1 sound ]

  one_ended : (client : ℕ) (o : Operation T) → IsSound o → IsSound (ended_by client o)
  one_ended client o sound = elim (cases_Bool (o.client == client)) [ inl h ↦ rw h (record { can = tt; view = sound.view }) | inr h ↦ rw h sound ]

  ended_sound : (client : ℕ) (operations : List (Operation T)) → AreSound operations → AreSound (map (ended_by client) operations)
  ended_sound client operations all j x is = (let was = numbered_map (ended_by client) operations j x is in subst (λ (y : Operation T). IsSound y) (sym was.2) (one_ended client was.0 (all j was.0 was.1)))

  turn_sound : (old : Part T) (op : ℕ) (ask : Ask) (reply : Option Reply) (answer : Option (Answer T)) (new : Part T) → TakesTurn page encode decode get_epoch set_epoch old op ask reply answer new → AreSound old.operations → AreSound new.operations
  turn_sound old op ask reply answer new v all =
      let can = turned_can page room encode decode get_epoch set_epoch v.turns.refused v.operation.doing old.caches reply (all op v.operation v.found).can in
      subst (λ (p : Part T). AreSound p.operations) (sym v.part) (set_sound old.operations op v.operation v.next.0 v.found (subst (λ n. CanTake n.0) (sym v.turns.turns) can) all)

  step_sound : (client : ℕ) (old : Part T) (step : Step T) (answer : Option (Answer T)) (new : Part T) → Follows page encode decode get_epoch set_epoch client old step answer new → AreSound old.operations → AreSound new.operations
  step_sound client old (steps.Begin call) answer new v all =
      let can = subst (λ n. CanTake n.0) (sym v.starts) (started_can page room encode get_epoch set_epoch call _) in
      let sound : IsSound (new_operation client call v.next.0) = record { can = can; view = used_from_one get_epoch client old call v.permits } in
      subst (λ (p : Part T). AreSound p.operations) (sym v.part) (push_sound old.operations (new_operation client call v.next.0) sound all)
  step_sound client old (steps.Act op acts.Look) answer new v all = turn_sound old op Look None answer new v all
  step_sound client old (steps.Act op (acts.Receive receipt)) answer new v all = turn_sound old op (Store receipt.request) (Some receipt.reply) answer new v all
  step_sound client old (steps.Act op (acts.Fails request)) answer new v all = subst (λ (p : Part T). AreSound p.operations) (sym v.part) (set_sound old.operations op v.operation ended v.found tt all)
  step_sound client old (steps.Act op acts.Lacks) answer new v all = subst (λ (p : Part T). AreSound p.operations) (sym v.part) (set_sound old.operations op v.operation ended v.found tt all)
  step_sound client old (steps.Killed lefts) answer new v all = subst (λ (p : Part T). AreSound p.operations) (sym v.part) (ended_sound client old.operations all)
  step_sound client old (steps.Act op (acts.GiveUp left)) answer new v all = subst (λ (p : Part T). AreSound p.operations) (sym v.part) (set_sound old.operations op v.operation ended v.found tt all)

  pub replays_sound : (client : ℕ) (rows : List (JournalRow T)) (part : Part T) → Replays page encode decode get_epoch set_epoch client rows part → AreSound part.operations
  replays_sound client [] part h = subst (λ (p : Part T). AreSound p.operations) (sym h) (λ k o is. absurd (nothing k o is))
    where
      nothing : (k : ℕ) (o : Operation T) → numbered [] k ≡ Some o → ⊥
      nothing zero o e = cc
      nothing (suc k) o e = cc
  replays_sound client (row ∷ rows) part h = step_sound client h.0 row.step row.answer part h.2 (replays_sound client rows h.0 h.1)

module _ {T : Type 0} where
  -- those of which some were forgotten
  pub kept_sound : (old new : List (Operation T)) → AreKeptOperations old new → AreSound old → AreSound new
  kept_sound old new kept all op o found = elim (kept.each op) [
    | inl same ↦ all op o (sym same ∙ found)
    | inr gone ↦ (let sound : IsSound (forgotten {T = T}) = record { can = tt; view = λ n e. absurd (cc) } in subst (λ (x : Operation T). IsSound x) (same_Some forgotten o (sym gone.1 ∙ found)) sound)
  ]
