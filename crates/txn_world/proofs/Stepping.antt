-- The code of an event is its step.
use Rattle.std.proofs.Common.{◌≡◌, ℕ, zero, suc, ◌-◌, ◌≤◌, List, [], ◌∷◌, ◌++◌, length, set, get_or, Bool, true, false, is_some, Option, Some, None, Result, Ok, Err, inl, inr, refl, sym, ◌∙◌, ap, subst, arith}
use Rattle.std.proofs.lemmas.List.{append-nil, set-get_or}
use Rattle.std.proofs.lemmas.Option.{same_Some, get_or_from_slice_get}
use Rattle.std.specs.Option.{option_map, ForSome}
use Rattle.txn_store.specs.Store.{State as StoreState}
use Rattle.txn_store.specs.MemoryServes.{lacks_memory}
use Rattle.txn_store.specs.Requests.{Serves}
use Rattle.txn_store.specs.declared.request.Request.{Request}
use Rattle.txn_store.specs.declared.request.Reply.{Reply}
use Rattle.txn_steps.specs.declared.boundary.caches.Caches.{Caches}
use Rattle.txn_steps.specs.declared.boundary.turned.Turned.{Turned}
use Rattle.txn_steps.specs.declared.boundary.turned.Turned.TheVariants as turns
use Rattle.txn_steps.specs.boundary.Checks.{check_turned}
use Rattle.txn_steps.specs.boundary.Advances.{advance_turned}
use Rattle.txn_steps.specs.Writes.{write_turned, unchecked_turned}
use Rattle.txn_steps.specs.Latest.{ReadAnswer}
use Rattle.txn_steps.specs.Reads.{read_turned}
use Rattle.txn_steps.specs.SeenSteps.{unchecked_turned as value_turned, seen_turned}
use Rattle.txn_steps.specs.Listings.{listing_turned}
use Rattle.txn_steps.specs.Deletes.{delete_turned}
use Rattle.txn_steps_views.specs.declared.outcome.Outcome.{Outcome}
use Rattle.txn_steps_views.specs.declared.outcome.Outcome.TheVariants as outcomes
use Rattle.txn_steps_views.specs.declared.op.ViewOp.{ViewOp}
use Rattle.txn_steps_views.specs.ViewOps.{view_turned}
use Rattle.txn_history.specs.declared.event.PlainAnswer.{PlainAnswer}
use Rattle.txn_history.specs.declared.event.PlainAnswer.TheVariants as answers
use Rattle.txn_history.specs.declared.event.ToldOf.TheVariants as told
use Rattle.txn_history.specs.declared.trace.RowOf.TheVariants.{Answered, Begun}
use Rattle.txn_history.specs.Lists.{numbered}
use Rattle.txn_history.specs.Names.{world_names, world_boundary}
use Rattle.txn_history.specs.Seen.{Ask, Store, Look, asks_in}
use Rattle.txn_history.specs.GoesOn.{as_loose, left_loose}
use Rattle.txn_history.specs.Added.{told_of, answer_rows, effect_rows}
use Rattle.txn_history.specs.declared.event.Call.{Call}
use Rattle.txn_history.specs.declared.event.Answer.{Answer}
use Rattle.txn_history.specs.declared.event.Answer.TheVariants as any
use Rattle.txn_history.specs.Allowed.{may_use, id_seen, base_seen}
use Rattle.txn_history.specs.OneHistory.{base_of}
use Rattle.txn_history.specs.Trace.{Row, Told}
use Rattle.txn_history.specs.Calls.{view_used}
use Rattle.txn_machine.specs.views.Layer.{Used}
use Rattle.txn_machine.specs.declared.plain.doing.PlainDoing.{PlainDoing}
use Rattle.txn_machine.specs.declared.plain.doing.PlainDoing.TheVariants.{Write, WriteUnchecked, Read, ReadUnchecked, ReadSeen, ListIds, Delete, Check, Advance, Ended}
use Rattle.txn_machine.specs.plain.Doing as plain
use Rattle.txn_machine.specs.plain.Doing.{next_of, or_no_memory, write_answer, read_answer, value_answer, ids_answer, done_answer, read_next, value_next, seen_next, ids_next, advance_next}
use Rattle.txn_machine.specs.plain.Machine.{effect_of, effected, loosened, failing, next_op}
use Rattle.txn_machine.specs.declared.doing.Doing.{Doing}
use Rattle.txn_machine.specs.declared.doing.Doing.TheVariants as does
use Rattle.txn_machine.specs.declared.doing.Operation.{Operation}
use Rattle.txn_machine.specs.declared.doing.Ending.{Ending}
use Rattle.txn_machine.specs.declared.doing.Ending.TheVariants as endings
use Rattle.txn_machine.specs.Doing.{Next, asked, ended, refused, plain_next, view_next, turned, started, caches_after, answer_in, IsClaimReading, IsMadeSo, ReadsBack, FitsWord, MayLack, Turns}
use Rattle.txn_machine.specs.views.Parts.{is_claim_call}
use Rattle.txn_machine.specs.Machine.{State, seen_operation, seen_operations, seen_of, with_doing, answer_of, answered, acted, given_up, let_go, views_changed, views_after, views_taken, begun_as, view_now, Acts, FailsFirst, FailsAfter, GivesUp, Lands, Looks, Served, Begins}
use Rattle.txn_client_journals.specs.declared.tables.operations.Usage.{Usage}
use Rattle.txn_client_journals.specs.tables.Operations.{request_of, loose_of, asked_of, asked_by, usage_of, TakesReply}
use Rattle.txn_client_journals.specs.tables.Views.{seen_with}
use Rattle.txn_machine.specs.traces.Beside.{told_count, ending_count, AreIds, IsAfforded}
use Rattle.txn_world.specs.Acting.{EndsAmong, TurnsAmong}
use Rattle.txn_world.specs.Answering.{IsAnswerable, ToldFailure}
use Rattle.txn_world.proofs.Running.{as_left, numbered_mapped}
use Rattle.txn_world.proofs.Acting.{same_usage}

module _ {T : Type 0} where
  -- states that are alike in each part
  pub same_state : (s t : State T) → s.clients ≡ t.clients → s.page ≡ t.page → s.store ≡ t.store → s.caches ≡ t.caches → s.operations ≡ t.operations → s.views ≡ t.views → s.loose ≡ t.loose → s.failed ≡ t.failed → s.trace ≡ t.trace → s ≡ t
  same_state s t a b c d e v f g h =
      ap (λ (x : ℕ). record s { clients = x }) a
      ∙ (ap (λ (x : ℕ). record s { clients = t.clients; page = x }) b
      ∙ (ap (λ (x : StoreState). record s { clients = t.clients; page = t.page; store = x }) c
      ∙ (ap (λ (x : List Caches). record s { clients = t.clients; page = t.page; store = t.store; caches = x }) d
      ∙ (ap (λ (x : List (Operation T)). record s { clients = t.clients; page = t.page; store = t.store; caches = t.caches; operations = x }) e
      ∙ (ap (λ (x : List (Option (Used T))). record s { clients = t.clients; page = t.page; store = t.store; caches = t.caches; operations = t.operations; views = x }) v
      ∙ (ap (λ (x : List (ℕ × Request)). record s { clients = t.clients; page = t.page; store = t.store; caches = t.caches; operations = t.operations; views = t.views; loose = x }) f
      ∙ (ap (λ (x : List ℕ). record s { clients = t.clients; page = t.page; store = t.store; caches = t.caches; operations = t.operations; views = t.views; loose = t.loose; failed = x }) g
      ∙ ap (λ (x : List (Row T)). record s { clients = t.clients; page = t.page; store = t.store; caches = t.caches; operations = t.operations; views = t.views; loose = t.loose; failed = t.failed; trace = x }) h)))))))

  -- an answer that is a list of ids

  abbrev ArePlainIds : Option (PlainAnswer T) → Type 0
  ArePlainIds answer = AreIds (option_map endings.Answers answer)

  next_ids : (doing : PlainDoing T) (answer : Option (PlainAnswer T)) → ArePlainIds (next_of doing answer).1 → ((next_of doing answer).0 ≡ Ended) × ArePlainIds answer
  next_ids doing None h = absurd h
  next_ids doing (Some answer) h = (refl, h)

  lacks_ids : (refused : Bool) (next : plain.Next T) → ArePlainIds (or_no_memory refused next).1 → (refused ≡ false) × ArePlainIds next.1
  lacks_ids true next h = absurd h
  lacks_ids false next h = (refl, h)

  write_no_ids : (turn : Turned (Result ℕ ℕ)) (said : Option (PlainAnswer T)) → said ≡ write_answer turn → ArePlainIds said → ⊥
  write_no_ids turns.Goes said e h = subst (λ (a : Option (PlainAnswer T)). ArePlainIds a) e h
  write_no_ids (turns.Done (Ok id)) said e h = subst (λ (a : Option (PlainAnswer T)). ArePlainIds a) e h
  write_no_ids (turns.Done (Err number)) said e h = subst (λ (a : Option (PlainAnswer T)). ArePlainIds a) e h

  read_no_ids : (turn : Turned (ReadAnswer T)) → ArePlainIds (read_answer turn) → ⊥
  read_no_ids turns.Goes h = h
  read_no_ids (turns.Done (Ok found)) h = h
  read_no_ids (turns.Done (Err number)) h = h

  value_no_ids : (turn : Turned (Result (Option T) ℕ)) → ArePlainIds (value_answer turn) → ⊥
  value_no_ids turns.Goes h = h
  value_no_ids (turns.Done (Ok found)) h = h
  value_no_ids (turns.Done (Err number)) h = h

  done_no_ids : (turn : Turned (Result (Unit {0}) ℕ)) (said : Option (PlainAnswer T)) → said ≡ done_answer turn → ArePlainIds said → ⊥
  done_no_ids turns.Goes said e h = subst (λ (a : Option (PlainAnswer T)). ArePlainIds a) e h
  done_no_ids (turns.Done (Ok done)) said e h = subst (λ (a : Option (PlainAnswer T)). ArePlainIds a) e h
  done_no_ids (turns.Done (Err number)) said e h = subst (λ (a : Option (PlainAnswer T)). ArePlainIds a) e h

  -- a call on a view answers no list of ids
  view_no_ids : (next : ViewOp T × Turned (Result (Outcome T) ℕ)) → AreIds (view_next next).1 → ⊥
  view_no_ids (op, turns.Goes) h = h
  view_no_ids (op, turns.Done (Ok outcome)) h = h
  view_no_ids (op, turns.Done (Err number)) h = h

  -- what a call without a view does next, and how it ends

  plain_ids : (next : plain.Next T) → AreIds (plain_next next).1 → ArePlainIds next.1
  plain_ids (doing, None) h = h
  plain_ids (doing, Some answer) h = h

  plain_first : (next : plain.Next T) → (plain_next next).0 ≡ does.Plain next.0
  plain_first (doing, None) = refl
  plain_first (doing, Some answer) = refl

  plain_answer : (next : plain.Next T) → answer_in (plain_next next).1 ≡ next.1
  plain_answer (doing, None) = refl
  plain_answer (doing, Some answer) = refl

module _ {T : Type 0} (page : ℕ) (decode : List ℕ → Option T) where
  -- a list of ids may be refused in place of being answered
  abbrev MayRefuse : Bool → PlainDoing T → Caches → Option Reply → Type 0
  MayRefuse refused doing caches reply =
      ((Ended, Some (answers.Refused 9)) ≡ plain.turned page decode true doing caches reply)
      × ((plain.turned page decode refused doing caches reply).0 ≡ Ended)
      × (plain.plain_caches_after doing caches (plain.turned page decode refused doing caches reply).1 ≡ plain.plain_caches_after doing caches (Some (answers.Refused 9)))

  may_refuse : (refused : Bool) (doing : PlainDoing T) (caches : Caches) (reply : Option Reply) → ArePlainIds (plain.turned page decode refused doing caches reply).1 → MayRefuse refused doing caches reply
  may_refuse refused (Write op) caches reply h = let next = write_turned op caches reply in absurd (write_no_ids next.1 (write_answer next.1) refl (next_ids (Write next.0) (write_answer next.1) h).1)
  may_refuse refused (WriteUnchecked op) caches reply h = let next = unchecked_turned op reply in absurd (write_no_ids next.1 (write_answer next.1) refl (next_ids (WriteUnchecked next.0) (write_answer next.1) h).1)
  may_refuse refused (Read op) caches reply h = let next = read_turned world_names world_boundary page decode op caches reply in absurd (read_no_ids next.1 (next_ids (Read next.0) (read_answer next.1) (lacks_ids refused (read_next next) h).1).1)
  may_refuse refused (ReadUnchecked op) caches reply h = let turn = value_turned decode reply in absurd (value_no_ids turn (next_ids (ReadUnchecked op) (value_answer turn) (lacks_ids refused (value_next op turn) h).1).1)
  may_refuse refused (ReadSeen op) caches reply h = let next = seen_turned world_names decode op caches.latest reply in absurd (value_no_ids next.1 (next_ids (ReadSeen next.0) (value_answer next.1) (lacks_ids refused (seen_next next) h).1).1)
  may_refuse refused (ListIds op) caches reply h =
      let next = listing_turned world_names page op reply in
      let some = lacks_ids refused (ids_next next) h in
      (refl, ap (λ b. (or_no_memory b (ids_next next)).0) some.0 ∙ (next_ids (ListIds next.0) (ids_answer next.1) some.1).0, refl)
  may_refuse refused (Delete op) caches reply h = let next = delete_turned op caches reply in absurd (done_no_ids next.1 (done_answer next.1) refl (next_ids (Delete next.0) (done_answer next.1) h).1)
  may_refuse refused (Check op) caches reply h = let next = check_turned op caches reply in absurd (done_no_ids next.1 (done_answer next.1) refl (next_ids (Check next.0) (done_answer next.1) h).1)
  may_refuse refused (Advance op) caches reply h = let next = advance_turned world_boundary op caches reply in absurd (done_no_ids next.1 (done_answer next.1) refl (next_ids (Advance next.0) (done_answer next.1) (lacks_ids refused (advance_next next) h).1).1)
  may_refuse refused Ended caches reply h = absurd h

module _ {T : Type 0} (page : ℕ) (encode : T → List ℕ) (decode : List ℕ → Option T) (get_epoch : T → ℕ) (set_epoch : T → ℕ → T) where
  -- the same of any call
  record MayEnd (lacks : Bool) (doing : Doing T) (caches : Caches) (reply : Option Reply) : Type 0 where
    pub refuses : (ended, Some (endings.Answers (answers.Refused 9))) ≡ turned page encode decode get_epoch set_epoch true doing caches reply
    pub ends : (turned page encode decode get_epoch set_epoch lacks doing caches reply).0 ≡ ended
    pub leaves : caches_after doing caches (turned page encode decode get_epoch set_epoch lacks doing caches reply).1 ≡ caches_after doing caches (Some (endings.Answers (answers.Refused 9)))
    pub may : MayLack doing caches reply true
    pub reads_no_claim : IsClaimReading doing → ⊥

  may_end : (lacks : Bool) (doing : Doing T) (caches : Caches) (reply : Option Reply) → AreIds (turned page encode decode get_epoch set_epoch lacks doing caches reply).1 → MayEnd lacks doing caches reply
  may_end lacks (does.Plain doing) caches reply h =
      let next = plain.turned page decode lacks doing caches reply in
      let may = may_refuse page decode lacks doing caches reply (plain_ids next h) in
      record {
        refuses = ap plain_next may.0;
        ends = plain_first next ∙ ap does.Plain may.1;
        leaves = ap (plain.plain_caches_after doing caches) (plain_answer next) ∙ may.2;
        may = tt;
        reads_no_claim = λ reads. reads;
      }
  may_end lacks (does.View op) caches reply h = absurd (view_no_ids (view_turned world_names world_boundary page encode decode get_epoch set_epoch lacks op caches reply) h)

  -- a turn, where the growth for the ids of its answer may have been refused
  pub afforded_turn : (old : List (Operation T)) (caches : List Caches) (op : ℕ) (reply : Option Reply) (new : List (Operation T)) (left : List Caches) (ending said : Option (Ending T)) →
      TurnsAmong page encode decode get_epoch set_epoch old caches op reply new left ending → IsAfforded ending said → TurnsAmong page encode decode get_epoch set_epoch old caches op reply new left said
  afforded_turn old caches op reply new left ending said v (inl same) = subst (λ (e : Option (Ending T)). TurnsAmong page encode decode get_epoch set_epoch old caches op reply new left e) (sym same) v
  afforded_turn old caches op reply new left ending said v (inr lacks) =
      let t = v.turn in
      let o = t.operation in
      let ids : AreIds (turned page encode decode get_epoch set_epoch t.turns.refused o.doing v.keeps reply).1 = subst (λ (e : Option (Ending T)). AreIds e) (t.ends ∙ ap (λ (n : Next T). n.1) t.turns.turns) lacks.1 in
      let m = may_end t.turns.refused o.doing v.keeps reply ids in
      record {
        keeps = v.keeps;
        rest = v.rest;
        turn = record {
          operation = o;
          found = t.found;
          next = (ended, Some (endings.Answers (answers.Refused 9)));
          turns = record { refused = true; turns = m.refuses; may = m.may; made = λ reads. absurd (m.reads_no_claim reads) };
          ends = lacks.0;
          operations = t.operations ∙ ap (with_doing old op o) (ap (λ (n : Next T). n.0) t.turns.turns ∙ m.ends);
          leaves = t.leaves ∙ (ap (λ (n : Next T). caches_after o.doing v.keeps n.1) t.turns.turns ∙ m.leaves);
        };
        kept = v.kept;
        leaves = v.leaves;
      }

module _ {T : Type 0} where
  asked_found : (operations : List (Operation T)) (op : ℕ) (ask : Ask) → asked_by operations op ≡ Some ask → (o : Operation T) × (numbered operations op ≡ Some o) × (asked o.doing ≡ Some ask)
  asked_found operations op ask e = by (numbered operations op) refl e
    where
      by : (found : Option (Operation T)) → numbered operations op ≡ found → asked_of found ≡ Some ask → (o : Operation T) × (numbered operations op ≡ Some o) × (asked o.doing ≡ Some ask)
      by None is h = cc
      by (Some o) is h = (o, is, h)

  pub takes_look : (s : State T) (op : ℕ) → IsAnswerable s → asked_by s.operations op ≡ Some Look → TakesReply s.operations op None
  takes_look s op fit asks = let f = asked_found s.operations op Look asks in record { operation = f.0; found = f.1; kind = fit.looks op f.0 f.1 f.2; range = fit.range op f.0 f.1 }

  pub takes_store : (s : State T) (op : ℕ) (request : Request) (reply : Reply) (new : StoreState) → IsAnswerable s → asked_by s.operations op ≡ Some (Store request) → Serves request s.store reply new → TakesReply s.operations op (Some reply)
  takes_store s op request reply new fit asks serves = let f = asked_found s.operations op (Store request) asks in record { operation = f.0; found = f.1; kind = fit.replies op f.0 f.1 request reply new f.2 serves; range = fit.range op f.0 f.1 }

  -- the answer of an operation, and the views after it, by how it ends

  answered_as : (count : ℕ) (o : Operation T) (of : Usage) (said ending : Option (Ending T)) → of ≡ usage_of o → said ≡ ending → answered count of.view said ≡ answered count o.view ending
  answered_as count o of said ending same is = ap (λ (u : Usage). answered count u.view said) same ∙ ap (answered count o.view) is

  after_as : (views : List (Option (Used T))) (o : Operation T) (of : Usage) (said ending : Option (Ending T)) → of ≡ usage_of o → said ≡ ending → views_after views of.client of.view of.claims said ≡ views_after views o.client o.view o.claims ending
  after_as views o of said ending same is = ap (λ (u : Usage). views_after views u.client u.view u.claims said) same ∙ ap (views_after views o.client o.view o.claims) is

  -- a refusal lets the view go
  pub let_go_after : (views : List (Option (Used T))) (client : ℕ) (view : Option ℕ) (claims : Bool) (answer : PlainAnswer T) → views_after views client view claims (Some (endings.Answers answer)) ≡ views_changed views view (let_go claims)
  let_go_after views client None claims answer = append-nil views
  let_go_after views client (Some number) claims answer = refl

module _ {T : Type 0} (encode : T → List ℕ) (decode : List ℕ → Option T) (get_epoch : T → ℕ) (set_epoch : T → ℕ → T) where
  -- What an operation's turn leaves, where the growth for the ids of its answer may have been refused, as the step says it.
  record Taken (old new : State T) (op : ℕ) (of : Usage) (ask : Ask) (reply : Option Reply) (said : Option (Ending T)) : Type 0 where
    pub operation : Operation T
    pub keeps : Caches
    pub acts : Acts old op operation ask keeps
    pub next : Next T
    pub turns : Turns old.page encode decode get_epoch set_epoch operation.doing keeps reply next
    pub answer : answered (length old.views) of.view said ≡ answered (length old.views) operation.view next.1
    pub views : views_after old.views of.client of.view of.claims said ≡ views_after old.views operation.client operation.view operation.claims next.1
    pub operations : new.operations ≡ with_doing old.operations op operation next.0
    pub leaves : new.caches ≡ set old.caches (operation.client - 1) (caches_after operation.doing keeps next.1)

  taken : (old new : State T) (op : ℕ) (of : Usage) (ask : Ask) (reply : Option Reply) (ending said : Option (Ending T)) → asked_by old.operations op ≡ Some ask → option_map usage_of (numbered old.operations op) ≡ Some of →
      TurnsAmong old.page encode decode get_epoch set_epoch old.operations old.caches op reply new.operations new.caches ending → IsAfforded ending said → Taken old new op of ask reply said
  taken old new op of ask reply ending said asks usage turn afforded =
      let v = afforded_turn old.page encode decode get_epoch set_epoch old.operations old.caches op reply new.operations new.caches ending said turn afforded in
      let t = v.turn in
      let o = t.operation in
      let same = same_usage old.operations op o of t.found usage in
      record {
        operation = o;
        keeps = v.keeps;
        acts = record { found = t.found; asks = sym (ap asked_of t.found) ∙ asks; kept = v.kept };
        next = t.next;
        turns = t.turns;
        answer = answered_as (length old.views) o of said t.next.1 same t.ends;
        views = after_as old.views o of said t.next.1 same t.ends;
        operations = t.operations;
        leaves = v.leaves ∙ ap (set old.caches (o.client - 1)) t.leaves;
      }

  -- a look
  pub looked : (old new : State T) (op : ℕ) (of : Usage) (ending said : Option (Ending T)) (tells : Told T) → asked_by old.operations op ≡ Some Look → option_map usage_of (numbered old.operations op) ≡ Some of →
      TurnsAmong old.page encode decode get_epoch set_epoch old.operations old.caches op None new.operations new.caches ending → IsAfforded ending said → tells ≡ told_of (told.Went op) op (answered (length old.views) of.view said) →
      new.clients ≡ old.clients → new.page ≡ old.page → new.store ≡ old.store → new.views ≡ views_after old.views of.client of.view of.claims said → new.loose ≡ old.loose → new.failed ≡ old.failed → new.trace ≡ old.trace ++ answer_rows op (answered (length old.views) of.view said) →
      Looks encode decode get_epoch set_epoch old op tells new
  looked old new op of ending said tells asks usage turn afforded is a b c e f g h =
      let t = taken old new op of Look None ending said asks usage turn afforded in
      record {
        operation = t.operation;
        caches = t.keeps;
        acts = t.acts;
        next = t.next;
        turns = t.turns;
        tells = is ∙ ap (told_of (told.Went op) op) t.answer;
        state = same_state new (acted old op t.operation t.next (caches_after t.operation.doing t.keeps t.next.1)) a b c t.leaves t.operations (e ∙ t.views) f g (h ∙ ap (λ a. old.trace ++ answer_rows op a) t.answer);
      }

  -- a serve
  pub served : (old new : State T) (op : ℕ) (of : Usage) (request : Request) (reply : Reply) (ending said : Option (Ending T)) (tells : Told T) → asked_by old.operations op ≡ Some (Store request) → option_map usage_of (numbered old.operations op) ≡ Some of →
      Serves request old.store reply new.store → new.store.failures ≡ 0 → TurnsAmong old.page encode decode get_epoch set_epoch old.operations old.caches op (Some reply) new.operations new.caches ending → IsAfforded ending said → tells ≡ told_of (told.Went op) op (answered (length old.views) of.view said) →
      new.clients ≡ old.clients → new.page ≡ old.page → new.views ≡ views_after old.views of.client of.view of.claims said → new.loose ≡ old.loose → new.failed ≡ old.failed → new.trace ≡ (old.trace ++ effect_rows op (effect_of old.store.files request reply)) ++ answer_rows op (answered (length old.views) of.view said) →
      Served encode decode get_epoch set_epoch old op tells new
  served old new op of request reply ending said tells asks usage serves honest turn afforded is a b e f g h =
      let t = taken old new op of (Store request) (Some reply) ending said asks usage turn afforded in
      record {
        call = record { operation = t.operation; request = request; caches = t.keeps; acts = t.acts; reply = reply; store = new.store; reaches = record { serves = serves; honest = honest } };
        next = t.next;
        turns = t.turns;
        tells = is ∙ ap (told_of (told.Went op) op) t.answer;
        state = same_state new (acted (effected old op request reply new.store) op t.operation t.next (caches_after t.operation.doing t.keeps t.next.1)) a b refl t.leaves t.operations (e ∙ t.views) f g
            (h ∙ ap (λ a. (old.trace ++ effect_rows op (effect_of old.store.files request reply)) ++ answer_rows op a) t.answer);
      }

  -- a begin, of an operation of this number, view and kind
  pub begun : (old new : State T) (client op : ℕ) (view : Option ℕ) (claims : Bool) (call : Call T) (next : Next T) (taken : List (Option (Used T))) (tells : Told T) → op ≡ next_op old → view ≡ view_used call → claims ≡ is_claim_call call →
      ReadsBack encode decode call → FitsWord call → next ≡ started old.page encode get_epoch set_epoch call (view_now old call) → IsMadeSo encode decode get_epoch next.0 → tells ≡ told_of (told.Began op) op (answered (length old.views) view next.1) →
      new.clients ≡ old.clients → new.page ≡ old.page → new.store ≡ old.store → new.caches ≡ old.caches → new.operations ≡ old.operations ++ record { client = client; view = view; claims = claims; doing = next.0 } ∷ [] →
      taken ≡ views_taken old.views view op → new.views ≡ views_after taken client view claims next.1 → new.loose ≡ old.loose → new.failed ≡ old.failed →
      new.trace ≡ (old.trace ++ Begun op call ∷ []) ++ answer_rows op (answered (length old.views) view next.1) → Begins encode decode get_epoch set_epoch old client call tells new
  begun old new client op view claims call next taken tells at uses kind back word starts made is a b c d e takes v f g h =
      let count = length old.views in
      let number = next_op old in
      let used = view_used call in
      record {
        reads_back = back;
        word = word;
        next = next;
        starts = starts;
        made = made;
        tells = is ∙ (ap (λ (n : ℕ). told_of (told.Began n) n (answered count view next.1)) at ∙ ap (λ (w : Option ℕ). told_of (told.Began number) number (answered count w next.1)) uses);
        state = same_state new (begun_as old client call next) a b c d
            (e ∙ (ap (λ (w : Option ℕ). old.operations ++ record { client = client; view = w; claims = claims; doing = next.0 } ∷ []) uses ∙ ap (λ (t : Bool). old.operations ++ record { client = client; view = used; claims = t; doing = next.0 } ∷ []) kind))
            (v ∙ (ap (λ (vs : List (Option (Used T))). views_after vs client view claims next.1) (takes ∙ ap (views_taken old.views view) at)
            ∙ (ap (λ (w : Option ℕ). views_after (views_taken old.views w number) client w claims next.1) uses ∙ ap (λ (t : Bool). views_after (views_taken old.views used number) client used t next.1) kind)))
            f g
            (h ∙ (ap (λ (n : ℕ). (old.trace ++ Begun n call ∷ []) ++ answer_rows n (answered count view next.1)) at ∙ ap (λ (w : Option ℕ). (old.trace ++ Begun number call ∷ []) ++ answer_rows number (answered count w next.1)) uses));
      }

-- the request that is asked for
pub request_asked : (ask : Option Ask) (request : Request) → Some request ≡ request_of ask → ask ≡ Some (Store request)
request_asked None request e = cc
request_asked (Some (Store other)) request e = let same : request ≡ other = same_Some request other e in ap (λ (r : Request). Some (Store r)) (sym same)
request_asked (Some Look) request e = cc

pub request_there : (ask : Option Ask) → is_some (request_of ask) ≡ true → (request : Request) × (ask ≡ Some (Store request))
request_there None h = cc
request_there (Some (Store request)) h = (request, refl)
request_there (Some Look) h = cc

ask_there : (ask : Option Ask) → is_some ask ≡ true → (a : Ask) × (ask ≡ Some a)
ask_there None h = cc
ask_there (Some a) h = (a, refl)

kept_caches : (caches : List Caches) (client : ℕ) (keeps : Caches) → numbered caches client ≡ Some keeps → caches ≡ set caches (client - 1) keeps
kept_caches caches zero keeps e = cc
kept_caches caches (suc n) keeps e =
    let place : suc n - 1 ≡ n = omega arith in
    let held : get_or caches n keeps ≡ keeps = get_or_from_slice_get caches n keeps keeps e in
    sym (ap (λ k. set caches k keeps) place ∙ (ap (set caches n) (sym held) ∙ set-get_or caches n keeps))

module _ {T : Type 0} where
  -- a failure that is told
  pub told_failed : (old new : State T) (op : ℕ) (of : Usage) → option_map usage_of (numbered old.operations op) ≡ Some of → EndsAmong old.operations old.caches op new.operations → new.clients ≡ old.clients → new.page ≡ old.page → new.store ≡ old.store → new.caches ≡ old.caches →
      new.views ≡ views_changed old.views of.view (let_go of.claims) → new.loose ≡ old.loose → new.failed ≡ old.failed ++ op ∷ [] → new.trace ≡ old.trace ++ Answered op (any.Plain (answers.Refused 2)) ∷ [] →
      ToldFailure old op (told.Answered op (any.Plain (answers.Refused 2))) new
  told_failed old new op of usage v a b c d e f g h =
      let o = v.ends.operation in
      let found = v.ends.found in
      let same = same_usage old.operations op o of found usage in
      record {
        operation = o;
        found = found;
        caches = v.keeps;
        kept = v.kept;
        tells = refl;
        state = same_state new (acted (failing old op) op o (refused 2) v.keeps) a b c (d ∙ kept_caches old.caches o.client v.keeps v.kept) v.ends.operations
            (e ∙ (ap (λ (u : Usage). views_changed old.views u.view (let_go u.claims)) same ∙ sym (let_go_after old.views o.client o.view o.claims (answers.Refused 2)))) f g h;
      }

  -- a give-up
  pub gave_up : (old new : State T) (op : ℕ) (of : Usage) (copy : Option Request) → is_some (asked_by old.operations op) ≡ true → option_map usage_of (numbered old.operations op) ≡ Some of → EndsAmong old.operations old.caches op new.operations → copy ≡ loose_of (asked_by old.operations op) →
      new.clients ≡ old.clients → new.page ≡ old.page → new.store ≡ old.store → new.caches ≡ old.caches → new.views ≡ views_changed old.views of.view (let_go of.claims) → new.loose ≡ old.loose ++ as_loose op copy → new.failed ≡ old.failed → new.trace ≡ old.trace → GivesUp old op (told.GaveUp op) new
  gave_up old new op of copy asks usage v is a b c d e f g h =
      let some = ask_there (asked_by old.operations op) asks in
      let o = v.ends.operation in
      let found = v.ends.found in
      let same = same_usage old.operations op o of found usage in
      record {
        operation = o;
        ask = some.0;
        found = found;
        asks = sym (ap asked_of found) ∙ some.1;
        tells = refl;
        state = same_state new (given_up (loosened old op some.0) op o) a b c d v.ends.operations (e ∙ ap (λ (u : Usage). views_changed old.views u.view (let_go u.claims)) same)
            (f ∙ ap (λ (ls : List (ℕ × Request)). old.loose ++ ls) (ap (as_loose op) is ∙ (as_left op (asked_by old.operations op) ∙ ap (left_loose op) some.1))) g h;
      }

  -- a landing
  pub landed : (old new : State T) (number op : ℕ) (request : Request) (reply : Reply) (changed : Bool) → numbered old.loose number ≡ Some (op, request) → Serves request old.store reply new.store → new.store.failures ≡ 0 → lacks_memory reply ≡ false → changed ≡ is_some (effect_of old.store.files request reply) →
      new.clients ≡ old.clients → new.page ≡ old.page → new.caches ≡ old.caches → new.operations ≡ old.operations → new.views ≡ old.views → new.loose ≡ old.loose → new.failed ≡ old.failed → new.trace ≡ old.trace ++ effect_rows op (effect_of old.store.files request reply) → Lands old number (told.Landed number changed) new
  landed old new number op request reply changed found serves honest answered is a b d e v f g h =
      record {
        loose = record { op = op; request = request; found = found; reply = reply; store = new.store; reaches = record { serves = serves; honest = honest } };
        answered = answered;
        tells = ap (told.Landed number) is;
        state = same_state new (effected old op request reply new.store) a b refl d e v f g h;
      }

  -- a failure before its effect
  pub failed_before : (old new : State T) (op : ℕ) (tells : Told T) → is_some (request_of (asked_by old.operations op)) ≡ true → ToldFailure old op tells new → FailsFirst old op tells false new
  failed_before old new op tells asks v =
      let some = request_there (asked_by old.operations op) asks in
      record { operation = v.operation; request = some.0; caches = v.caches; acts = record { found = v.found; asks = sym (ap asked_of v.found) ∙ some.1; kept = v.kept }; tells = v.tells; state = v.state }

  -- a failure of a request that becomes loose
  pub failed_loose : (old middle new : State T) (op : ℕ) (copy : Option Request) (tells : Told T) → is_some (request_of (asked_by old.operations op)) ≡ true → copy ≡ loose_of (asked_by old.operations op) → middle ≡ record old { loose = old.loose ++ as_loose op copy } → ToldFailure middle op tells new → FailsFirst old op tells true new
  failed_loose old middle new op copy tells asks is e v =
      let some = request_there (asked_by old.operations op) asks in
      let loose : as_loose op copy ≡ left_loose op (Some (Store some.0)) = ap (as_loose op) is ∙ (as_left op (asked_by old.operations op) ∙ ap (left_loose op) some.1) in
      let same : middle ≡ loosened old op (Store some.0) = e ∙ ap (λ (ls : List (ℕ × Request)). record old { loose = old.loose ++ ls }) loose in
      let w = subst (λ (s : State T). ToldFailure s op tells new) same v in
      record { operation = w.operation; request = some.0; caches = w.caches; acts = record { found = w.found; asks = sym (ap asked_of w.found) ∙ some.1; kept = w.kept }; tells = w.tells; state = w.state }

  -- a failure after its effect
  pub failed_after : (old middle new : State T) (op : ℕ) (request : Request) (reply : Reply) (tells : Told T) → asked_by old.operations op ≡ Some (Store request) → Serves request old.store reply middle.store → middle.store.failures ≡ 0 → lacks_memory reply ≡ false → middle ≡ effected old op request reply middle.store → ToldFailure middle op tells new → FailsAfter old op tells new
  failed_after old middle new op request reply tells asks serves honest answered e v =
      let w = subst (λ (s : State T). ToldFailure s op tells new) e v in
      record { call = record { operation = w.operation; request = request; caches = w.caches; acts = record { found = w.found; asks = sym (ap asked_of w.found) ∙ asks; kept = w.kept }; reply = reply; store = middle.store; reaches = record { serves = serves; honest = honest } }; answered = answered; tells = w.tells; state = w.state }

-- what an operation asks for, as it is seen
pub asks_seen : {T : Type 0} (operations : List (Operation T)) (op : ℕ) → asked_by operations op ≡ asks_in (numbered (seen_operations operations) op)
asks_seen {T = T} operations op = by (numbered operations op) ∙ sym (ap asks_in (numbered_mapped seen_operation operations op))
  where
    by : (found : Option (Operation T)) → asked_of found ≡ asks_in (option_map seen_operation found)
    by None = refl
    by (Some operation) = refl

-- one that is asked for a store call asks for something
pub asks_some : (ask : Option Ask) → is_some (request_of ask) ≡ true → is_some ask ≡ true
asks_some None h = cc
asks_some (Some ask) h = refl

-- an answer tells as many ids as its ending at most
told_few : {T : Type 0} (count : ℕ) (view : Option ℕ) (ending : Ending T) → told_count (answer_of count view ending) ≤ ending_count ending
told_few count view (endings.Answers answer) = omega arith
told_few count None (endings.Comes (outcomes.Viewed id value)) = omega arith
told_few count (Some number) (endings.Comes (outcomes.Viewed id value)) = omega arith
told_few count None (endings.Comes (outcomes.Held id value epoch)) = omega arith
told_few count (Some number) (endings.Comes (outcomes.Held id value epoch)) = omega arith
told_few count view (endings.Comes (outcomes.Shut id value error)) = omega arith

-- there is room for the ids of an answer
pub told_within : {T : Type 0} (count room : ℕ) (view : Option ℕ) (ending : Option (Ending T)) (result : Option (Answer T × Answer T)) (pair : Answer T × Answer T) → result ≡ Some pair → plain.first_of result ≡ answered count view ending → ForSome ending (λ e. ending_count e ≤ room) → told_count pair.0 ≤ room
told_within count room view None result pair is answer fits = let clash = sym (ap plain.first_of is) ∙ answer in cc
told_within {T = T} count room view (Some e) result pair is answer fits =
    let same : pair.0 ≡ answer_of count view e = same_Some pair.0 (answer_of count view e) (sym (ap plain.first_of is) ∙ answer) in
    let few : told_count pair.0 ≤ ending_count e = subst (λ (a : Answer T). told_count a ≤ ending_count e) (sym same) (told_few count view e) in
    let most = fits e refl in
    omega (arith, few, most)

-- why a begin is refused, as far as views tell

pub may_use_seen : {T : Type 0} (s : State T) (client : ℕ) (holders : Bool) (view : Option ℕ) → may_use (seen_with s.views) client holders view ≡ may_use (seen_of s) client holders view
may_use_seen s client holders None = refl
may_use_seen s client holders (Some number) = refl

pub base_as_seen : {T : Type 0} (s : State T) (call : Call T) → base_seen (seen_with s.views) call ≡ base_seen (seen_of s) call
base_as_seen s call = by (view_used call)
  where
    by : (view : Option ℕ) → base_of (id_seen (seen_with s.views) view) call ≡ base_of (id_seen (seen_of s) view) call
    by None = refl
    by (Some number) = refl
