-- The rows that an event adds.
use Rattle.std.proofs.Common.{◌≡◌, ℕ, ◌+◌, ◌-◌, List, [], ◌∷◌, ◌++◌, length, Option, Some, None, inl, inr, refl, sym, ◌∙◌, ap, subst, arith}
use Rattle.std.specs.FinMap.{get-empty}
use Rattle.std.proofs.lemmas.List.{length-append, length-map, length-set}
use Rattle.txn_store.specs.Paths.{path_cmp}
use Rattle.txn_store.specs.Store.{State as StoreState}
use Rattle.txn_store.specs.declared.request.Request.{Request}
use Rattle.txn_store.specs.declared.request.Reply.{Reply}
use Rattle.txn_steps.specs.declared.boundary.caches.Caches.{Caches}
use Rattle.txn_history.specs.declared.event.PlainAnswer.TheVariants as plain_answers
use Rattle.txn_history.specs.declared.event.Failure.{Failure}
use Rattle.txn_history.specs.declared.event.Failure.TheVariants as failures
use Rattle.txn_history.specs.declared.event.EventOf.TheVariants as events
use Rattle.txn_history.specs.declared.event.ToldOf.TheVariants as told
use Rattle.txn_history.specs.declared.trace.RowOf.TheVariants.{Effect, Begun, Answered}
use Rattle.txn_history.specs.Calls.{begun_count, view_used}
use Rattle.txn_history.specs.Added.{Tells, answer_row, answer_rows, effect_rows, AddsRows}
use Rattle.txn_history.specs.Seen.{Store}
use Rattle.txn_machine.specs.plain.Machine.{effect_of, next_op, effected, loosened, failing, Reaches}
use Rattle.txn_machine.proofs.plain.Stands.{AllGiven}
use Rattle.txn_machine.proofs.plain.EffectRows.{tells_answer, went_row, began_row, adds_answer, adds_effect, adds_landing}
use Rattle.txn_history.specs.declared.event.Call.{Call}
use Rattle.txn_history.specs.declared.event.Answer.{Answer}
use Rattle.txn_history.specs.declared.event.Answer.TheVariants as answers
use Rattle.txn_history.specs.Trace.{Row, Event, Told}
use Rattle.txn_machine.specs.declared.doing.Operation.{Operation}
use Rattle.txn_machine.specs.Doing.{Next, ended, refused, caches_after}
use Rattle.txn_machine.specs.Machine.{State, opening, seen_calls, answered, answer_next, doing_next, new_operation, acted, given_up, ended_by, crashed, begun_as, Fails, Lands, Looks, Served, Begins, Lacks, Takes, TakesOrLacks, IsReached}
use Rattle.txn_machine.proofs.Busy.{seen_asks}
use Rattle.txn_machine.proofs.Runs.{runs_keep, or_lacking}
use Rattle.txn_machine.proofs.TokensGiven.{served_given}

module _ {T : Type 0} where
  -- the rows of failures and landings

  lacks_adds : (old : State T) (op : ℕ) (said : Told T) (new : State T) → Lacks old op said new → AddsRows (seen_calls old) old.trace old.store.files (events.Serve op) said new.trace new.store.files
  lacks_adds old op said new v =
      record {
        request = v.request;
        asked = seen_asks old.operations op v.operation v.acts.found ∙ v.acts.asks;
        rows = [];
        effect = inl (refl, ap (λ (s : State T). s.store.files) v.state);
        told = inr (answers.Plain (plain_answers.Refused 9), v.tells);
        added = ap (λ (s : State T). s.trace) v.state ∙ (ap (λ (t : Told T). old.trace ++ answer_row t) (sym v.tells) ∙ ap (λ (rows : List (Row T)). rows ++ answer_row said) (sym (Rattle.std.proofs.lemmas.List.append-nil old.trace)));
      }

  fail_adds : (failure : Failure) (old : State T) (op : ℕ) (said : Told T) (new : State T) → Fails old op failure said new → AllGiven old.store → AddsRows (seen_calls old) old.trace old.store.files (events.Fail op failure) said new.trace new.store.files
  fail_adds failures.Before old op said new v given = ((answers.Plain (plain_answers.Refused 2), v.tells), adds_answer op (answers.Plain (plain_answers.Refused 2)) old.trace new.trace old.store.files new.store.files said v.tells (ap (λ (s : State T). s.trace) v.state) (ap (λ (s : State T). s.store.files) v.state))
  fail_adds failures.Loose old op said new v given = ((answers.Plain (plain_answers.Refused 2), v.tells), adds_answer op (answers.Plain (plain_answers.Refused 2)) old.trace new.trace old.store.files new.store.files said v.tells (ap (λ (s : State T). s.trace) v.state) (ap (λ (s : State T). s.store.files) v.state))
  fail_adds failures.After old op said new v given = (
    (answers.Plain (plain_answers.Refused 2), v.tells),
    adds_effect (seen_calls old) op v.call.request v.call.reply old.store v.call.store old.trace new.trace new.store.files said (seen_asks old.operations op v.call.operation v.call.acts.found ∙ v.call.acts.asks) given v.call.reaches.serves v.call.reaches.honest (ap (λ (s : State T). s.store.files) v.state) (inr (answers.Plain (plain_answers.Refused 2), v.tells))
        (ap (λ (s : State T). s.trace) v.state ∙ ap (λ (t : Told T). (old.trace ++ effect_rows op (effect_of old.store.files v.call.request v.call.reply)) ++ answer_row t) (sym v.tells)),
  )

  land_adds : (old : State T) (k : ℕ) (said : Told T) (new : State T) → Lands old k said new → AllGiven old.store → AddsRows (seen_calls old) old.trace old.store.files (events.Land k) said new.trace new.store.files
  land_adds old k said new v given =
      adds_landing (seen_calls old) k v.loose.op v.loose.request v.loose.reply old.store v.loose.store old.trace new.trace new.store.files said v.loose.found given v.loose.reaches.serves v.loose.reaches.honest (ap (λ (s : State T). s.store.files) v.state) v.tells (ap (λ (s : State T). s.trace) v.state)

none_more : (operations rows more : ℕ) → operations ≡ rows → more ≡ 0 → operations ≡ rows + more
none_more operations rows more e none = omega arith

effects_begun : (T : Type 0) (op : ℕ) (effect : Option Request) → begun_count (effect_rows {C = Call T} {A = Answer T} op effect) ≡ 0
effects_begun T op None = refl
effects_begun T op (Some request) = refl

module _ {T : Type 0} where
  -- Each file's token was given, and each operation has its begin.
  pub record Counted (s : State T) : Type 0 where
    pub given : AllGiven s.store
    pub count : length s.operations ≡ begun_count s.trace

  begun_more : (rows more : List (Row T)) → begun_count (rows ++ more) ≡ begun_count rows + begun_count more
  begun_more [] more = omega arith
  begun_more (Begun op call ∷ rows) more = (let rest = begun_more rows more in omega (arith, rest))
  begun_more (Effect op request ∷ rows) more = begun_more rows more
  begun_more (Answered op answer ∷ rows) more = begun_more rows more

  answers_begun : (op : ℕ) (answer : Option (Answer T)) → begun_count (answer_rows {C = Call T} op answer) ≡ 0
  answers_begun op None = refl
  answers_begun op (Some answer) = refl

  acted_counted : (s : State T) (op : ℕ) (o : Operation T) (next : Next T) (caches : Caches) → Counted s → Counted (acted s op o next caches)
  acted_counted s op o next caches h =
      let answer = answer_next s o next in
      record {
        given = h.given;
        count = length-set s.operations (op - 1) (doing_next o next.0) ∙ (none_more (length s.operations) (begun_count s.trace) (begun_count (answer_rows op answer)) h.count (answers_begun op answer) ∙ sym (begun_more s.trace (answer_rows op answer)));
      }

  effected_counted : (s : State T) (op : ℕ) (request : Request) (reply : Reply) (store : StoreState) → Reaches s request reply store → Counted s → Counted (effected s op request reply store)
  effected_counted s op request reply store r h =
      let effect = effect_of s.store.files request reply in
      record {
        given = served_given s.store store request reply h.given r.serves r.honest;
        count = none_more (length s.operations) (begun_count s.trace) (begun_count (effect_rows op effect)) h.count (effects_begun T op effect) ∙ sym (begun_more s.trace (effect_rows op effect));
      }

  begun_counted : (s : State T) (client : ℕ) (call : Call T) (next : Next T) → Counted s → Counted (begun_as s client call next)
  begun_counted s client call next h =
      let answer = answered (length s.views) (view_used call) next.1 in
      let one = Begun (next_op s) call ∷ [] in
      let rows : begun_count (s.trace ++ one) ≡ begun_count s.trace + 1 = begun_more s.trace one in
      let all : begun_count ((s.trace ++ one) ++ answer_rows (next_op s) answer) ≡ begun_count (s.trace ++ one) + begun_count (answer_rows (next_op s) answer) = begun_more (s.trace ++ one) (answer_rows (next_op s) answer) in
      let none = answers_begun (next_op s) answer in
      let more : length (s.operations ++ new_operation client call next.0 ∷ []) ≡ length s.operations + 1 = length-append s.operations (new_operation client call next.0 ∷ []) in
      record { given = h.given; count = (let count = h.count in omega (arith, rows, all, none, more, count)) }

  crashed_counted : (s : State T) (client : ℕ) → Counted s → Counted (crashed s client)
  crashed_counted s client h = record { given = h.given; count = length-map s.operations (ended_by client) ∙ h.count }

  given_up_counted : (s : State T) (op : ℕ) (o : Operation T) → Counted s → Counted (given_up s op o)
  given_up_counted s op o h = record { given = h.given; count = length-set s.operations (op - 1) (doing_next o ended) ∙ h.count }

  kept : (s t : State T) → Counted s → t.store ≡ s.store → t.operations ≡ s.operations → t.trace ≡ s.trace → Counted t
  kept s t h store operations trace = record { given = subst AllGiven (sym store) h.given; count = ap length operations ∙ (h.count ∙ sym (ap begun_count trace)) }

  fails_counted : (failure : Failure) (old : State T) (op : ℕ) (said : Told T) (new : State T) → Fails old op failure said new → Counted old → Counted new
  fails_counted failures.Before old op said new v h = subst Counted (sym v.state) (acted_counted (failing old op) op v.operation (refused 2) v.caches (kept old (failing old op) h refl refl refl))
  fails_counted failures.After old op said new v h =
      let middle = effected old op v.call.request v.call.reply v.call.store in
      subst Counted (sym v.state) (acted_counted (failing middle op) op v.call.operation (refused 2) v.call.caches (kept middle (failing middle op) (effected_counted old op v.call.request v.call.reply v.call.store v.call.reaches h) refl refl refl))
  fails_counted failures.Loose old op said new v h =
      let middle = failing (loosened old op (Store v.request)) op in
      subst Counted (sym v.state) (acted_counted middle op v.operation (refused 2) v.caches (kept old middle h refl refl refl))

module _ {T : Type 0} (encode : T → List ℕ) (decode : List ℕ → Option T) (get_epoch : T → ℕ) (set_epoch : T → ℕ → T) where
  serve_adds : (old : State T) (op : ℕ) (said : Told T) (new : State T) → Served encode decode get_epoch set_epoch old op said new → AllGiven old.store → AddsRows (seen_calls old) old.trace old.store.files (events.Serve op) said new.trace new.store.files
  serve_adds old op said new v given =
      let answer = answer_next old v.call.operation v.next in
      adds_effect (seen_calls old) op v.call.request v.call.reply old.store v.call.store old.trace new.trace new.store.files said (seen_asks old.operations op v.call.operation v.call.acts.found ∙ v.call.acts.asks) given v.call.reaches.serves v.call.reaches.honest (ap (λ (s : State T). s.store.files) v.state)
      (subst (λ (t : Told T). Tells (told.Went op) op t) (sym v.tells) (tells_answer (told.Went op) op answer))
      (ap (λ (s : State T). s.trace) v.state ∙ ap (λ more. (old.trace ++ effect_rows op (effect_of old.store.files v.call.request v.call.reply)) ++ more) (went_row op answer ∙ ap answer_row (sym v.tells)))

  look_adds : (old : State T) (op : ℕ) (said : Told T) (new : State T) → Looks encode decode get_epoch set_epoch old op said new → AddsRows (seen_calls old) old.trace old.store.files (events.Look op) said new.trace new.store.files
  look_adds old op said new v =
      let answer = answer_next old v.operation v.next in (
        subst (λ (t : Told T). Tells (told.Went op) op t) (sym v.tells) (tells_answer (told.Went op) op answer),
        ap (λ (s : State T). s.trace) v.state ∙ ap (λ more. old.trace ++ more) (went_row op answer ∙ ap answer_row (sym v.tells)),
        ap (λ (s : State T). s.store.files) v.state,
      )

  begin_adds : (old : State T) (client : ℕ) (call : Call T) (said : Told T) (new : State T) → Begins encode decode get_epoch set_epoch old client call said new → length old.operations ≡ begun_count old.trace →
      AddsRows (seen_calls old) old.trace old.store.files (events.Begin client call) said new.trace new.store.files
  begin_adds old client call said new v count =
      let same : next_op old ≡ begun_count old.trace + 1 = ap (λ n. n + 1) count in
      let answer = answered (length old.views) (view_used call) v.next.1 in
      subst (λ (n : ℕ). Tells (told.Began n) n said × (new.trace ≡ (old.trace ++ Begun n call ∷ []) ++ answer_row said) × (new.store.files ≡ old.store.files)) same (
        subst (λ (t : Told T). Tells (told.Began (next_op old)) (next_op old) t) (sym v.tells) (tells_answer (told.Began (next_op old)) (next_op old) answer),
        ap (λ (s : State T). s.trace) v.state ∙ ap (λ rows. (old.trace ++ Begun (next_op old) call ∷ []) ++ rows) (began_row (next_op old) answer ∙ ap answer_row (sym v.tells)),
        ap (λ (s : State T). s.store.files) v.state,
      )

  -- which rows an event adds, where each file's token was given, and each operation has its begin
  pub added_rows_with : (old : State T) (event : Event T) (said : Told T) (new : State T) → AllGiven old.store → length old.operations ≡ begun_count old.trace → TakesOrLacks encode decode get_epoch set_epoch old event said new →
      AddsRows (seen_calls old) old.trace old.store.files event said new.trace new.store.files
  added_rows_with old (events.Begin client call) said new given count t = begin_adds old client call said new t.step count
  added_rows_with old (events.Look op) said new given count t = look_adds old op said new t.step
  added_rows_with old (events.Serve op) said new given count t = elim t.step [ inl v ↦ serve_adds old op said new v given | inr v ↦ lacks_adds old op said new v ]
  added_rows_with old (events.Fail op failure) said new given count t = fail_adds failure old op said new t.step given
  added_rows_with old (events.GiveUp op) said new given count t = (t.step.tells, ap (λ (s : State T). s.trace) t.step.state, ap (λ (s : State T). s.store.files) t.step.state)
  added_rows_with old (events.Land k) said new given count t = land_adds old k said new t.step given
  added_rows_with old (events.Crash client) said new given count t = (t.step.tells, ap (λ (s : State T). s.trace) t.step.state, ap (λ (s : State T). s.store.files) t.step.state)

  -- each operation has its begin among the rows, and each file's token was given

  takes_counted : (old : State T) (event : Event T) (said : Told T) (new : State T) → Counted old → TakesOrLacks encode decode get_epoch set_epoch old event said new → Counted new
  takes_counted old (events.Begin client call) said new h t = subst Counted (sym t.step.state) (begun_counted old client call t.step.next h)
  takes_counted old (events.Look op) said new h t = (let v = t.step in subst Counted (sym v.state) (acted_counted old op v.operation v.next (caches_after v.operation.doing v.caches v.next.1) h))
  takes_counted old (events.Serve op) said new h t = elim t.step [
    | inl v ↦ subst Counted (sym v.state) (acted_counted (effected old op v.call.request v.call.reply v.call.store) op v.call.operation v.next (caches_after v.call.operation.doing v.call.caches v.next.1) (effected_counted old op v.call.request v.call.reply v.call.store v.call.reaches h))
    | inr v ↦ subst Counted (sym v.state) (acted_counted old op v.operation (refused 9) v.caches h)
  ]
  takes_counted old (events.Fail op failure) said new h t = fails_counted failure old op said new t.step h
  takes_counted old (events.GiveUp op) said new h t = (
      let v = t.step in
      let middle = loosened old op v.ask in
      subst Counted (sym v.state) (given_up_counted middle op v.operation (kept old middle h refl refl refl))
      )
  takes_counted old (events.Land k) said new h t = (let v = t.step in subst Counted (sym v.state) (effected_counted old v.loose.op v.loose.request v.loose.reply v.loose.store v.loose.reaches h))
  takes_counted old (events.Crash client) said new h t = subst Counted (sym t.step.state) (crashed_counted old client h)

  pub reached_counts : (s : State T) → IsReached encode decode get_epoch set_epoch s → Counted s
  reached_counts s r = runs_keep encode decode get_epoch set_epoch Counted takes_counted (opening s.clients s.page) r.0 s r.1 (record { given = λ path got e. absurd (let clash = sym (get-empty path_cmp path) ∙ e in cc); count = refl })

  -- which rows an event adds
  pub added_rows_or_lacking : (old : State T) (event : Event T) (said : Told T) (new : State T) → IsReached encode decode get_epoch set_epoch old → TakesOrLacks encode decode get_epoch set_epoch old event said new → AddsRows (seen_calls old) old.trace old.store.files event said new.trace new.store.files
  added_rows_or_lacking old event said new r t = let c = reached_counts old r in added_rows_with old event said new c.given c.count t

  pub added_rows : (old : State T) (event : Event T) (said : Told T) (new : State T) → IsReached encode decode get_epoch set_epoch old → Takes encode decode get_epoch set_epoch old event said new → AddsRows (seen_calls old) old.trace old.store.files event said new.trace new.store.files
  added_rows old event said new r t = added_rows_or_lacking old event said new r (or_lacking encode decode get_epoch set_epoch old event said new t)
