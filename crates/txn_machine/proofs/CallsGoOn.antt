-- What a world shows of its operations goes on as each event that is taken says.
use Rattle.std.proofs.Common.{◌≡◌, ◌≢◌, ℕ, ◌+◌, List, [], ◌∷◌, ◌++◌, length, map, Bool, true, false, not, is_some, Option, Some, None, inl, inr, refl, sym, ◌∙◌, ap, subst}
use Rattle.std.proofs.lemmas.Bool.{eq-eqb, ne_eqb}
use Rattle.txn_history.specs.declared.event.PlainAnswer.TheVariants as plain_answers
use Rattle.txn_history.specs.declared.event.EventOf.TheVariants as events
use Rattle.txn_history.specs.declared.event.Failure.{Failure}
use Rattle.txn_history.specs.declared.event.Failure.TheVariants as failures
use Rattle.txn_history.specs.declared.event.ToldOf.TheVariants as told
use Rattle.txn_history.specs.Lists.{numbered}
use Rattle.txn_history.specs.Seen.{Ask, Store, Look, asks_of}
use Rattle.txn_history.specs.GoesOn.{left_loose, state_of, states_after, OperationsGoOn}
use Rattle.txn_history.specs.Added.{told_of}
use Rattle.txn_machine.specs.plain.Machine.{effected, loosened, failing, next_op}
use Rattle.txn_machine.proofs.plain.Ends.{EndsOne, answer_ends, give_up_ends, told_ends, told_so, land_goes, states_acted, states_new, states_crashed}
use Rattle.txn_history.specs.declared.event.Call.{Call}
use Rattle.txn_history.specs.declared.event.Answer.{Answer}
use Rattle.txn_history.specs.declared.event.Answer.TheVariants as answers
use Rattle.txn_history.specs.Trace.{Event, Told}
use Rattle.txn_history.specs.Calls.{view_used}
use Rattle.txn_machine.specs.declared.doing.Doing.{Doing}
use Rattle.txn_machine.specs.declared.doing.Operation.{Operation}
use Rattle.txn_machine.specs.declared.doing.Ending.{Ending}
use Rattle.txn_machine.specs.Doing.{Next, asked, ended, refused, caches_after}
use Rattle.txn_machine.specs.Machine.{State, seen_operation, seen_operations, seen_calls, seen_view, used_by, answered, answer_next, doing_next, with_doing, new_operation, acted, given_up, ended_by, crashed, begun_as, Fails, GivesUp, Crashes, Looks, Served, Begins, Lacks, TakesOrLacks}
use Rattle.txn_machine.proofs.Fits.{Fits, turned_fits, started_fits}
use Rattle.txn_machine.proofs.Busy.{seen_asks}

module _ {T : Type 0} where
  -- one of the operations does something else
  acted_states : (t : Told T) (op : ℕ) (ends : Bool) (os : List (Operation T)) (o : Operation T) (ask : Ask) (doing : Doing T) → numbered os op ≡ Some o → EndsOne t op ends → asked o.doing ≡ Some ask → is_some (asked doing) ≡ not ends →
      map state_of (seen_operations (with_doing os op o doing)) ≡ states_after t 1 (seen_operations os) None
  acted_states t op ends os o ask doing e one asks fits = states_acted seen_operation t op ends os o (doing_next o doing) e one refl (ap is_some asks) fits

  -- a new operation, which goes on or has ended
  new_states : (t : Told T) (client : ℕ) (call : Call T) (ends : Bool) (os : List (Operation T)) (doing : Doing T) → EndsOne t (length os + 1) ends → is_some (asked doing) ≡ not ends →
      map state_of (seen_operations (os ++ new_operation client call doing ∷ [])) ≡ states_after t 1 (seen_operations os) (Some client)
  new_states t client call ends os doing one fits = states_new seen_operation t ends os (new_operation client call doing) one fits

  -- the operations of a client end
  ended_state : (client : ℕ) (o : Operation T) → o.client ≡ client → state_of (seen_operation (ended_by client o)) ≡ (o.client, false)
  ended_state client o e = rw (eq-eqb o.client client e) refl

  stays_so : (client : ℕ) (o : Operation T) → o.client ≢ client → ended_by client o ≡ o
  stays_so client o ne = rw (ne_eqb o.client client ne) refl

  -- each event

  -- whether an ending is told
  answered_some : (count : ℕ) (view : Option ℕ) (ending : Option (Ending T)) → is_some (answered count view ending) ≡ is_some ending
  answered_some count view None = refl
  answered_some count view (Some ending) = refl

  -- what an operation leaves loose, by what it is seen to ask for
  leaves : (old : State T) (op : ℕ) (o : Operation T) (ask : Ask) → numbered old.operations op ≡ Some o → asked o.doing ≡ Some ask → old.loose ++ left_loose op (Some ask) ≡ old.loose ++ left_loose op (asks_of (seen_calls old) op)
  leaves old op o ask found asks = ap (λ loose. old.loose ++ left_loose op loose) (sym (seen_asks old.operations op o found ∙ asks))

  -- the operations, where one does this next
  turn_states : (old : State T) (op : ℕ) (o : Operation T) (ask : Ask) (next : Next T) → numbered old.operations op ≡ Some o → asked o.doing ≡ Some ask → Fits next →
      map state_of (seen_operations (with_doing old.operations op o next.0)) ≡ states_after (told_of (told.Went op) op (answer_next old o next)) 1 (seen_operations old.operations) None
  turn_states old op o ask next found asks fits =
      let answer = answer_next old o next in
      acted_states (told_of (told.Went op) op answer) op (is_some answer) old.operations o ask next.0 found (told_ends (told.Went op) op answer (λ c m. refl)) asks (fits ∙ ap not (sym (answered_some (length old.views) o.view next.1)))

  -- the operations, where one is told that its store call failed
  failed_states : (old : State T) (op : ℕ) (o : Operation T) (ask : Ask) → numbered old.operations op ≡ Some o → asked o.doing ≡ Some ask →
      map state_of (seen_operations (with_doing old.operations op o ended)) ≡ states_after {A = Answer T} (told.Answered op (answers.Plain (plain_answers.Refused 2))) 1 (seen_operations old.operations) None
  failed_states old op o ask found asks = acted_states (told.Answered op (answers.Plain (plain_answers.Refused 2))) op true old.operations o ask ended found (answer_ends op (answers.Plain (plain_answers.Refused 2))) asks refl

  lacks_goes : (old : State T) (op : ℕ) (said : Told T) (new : State T) → Lacks old op said new → OperationsGoOn {C = Call T} (seen_calls old) (events.Serve op) said (seen_calls new)
  lacks_goes old op said new v =
      let answer : Answer T = answers.Plain (plain_answers.Refused 9) in
      told_so seen_operation old (events.Serve op) said (told.Answered op answer) new (acted old op v.operation (refused 9) v.caches) v.tells v.state
      (record { clients = refl; operations = acted_states (told.Answered op answer) op true old.operations v.operation (Store v.request) ended v.acts.found (answer_ends op answer) v.acts.asks refl; loose = refl; failed = refl })

  fail_goes : (failure : Failure) (old : State T) (op : ℕ) (said : Told T) (new : State T) → Fails old op failure said new → OperationsGoOn {C = Call T} (seen_calls old) (events.Fail op failure) said (seen_calls new)
  fail_goes failures.Before old op said new v =
      told_so seen_operation old (events.Fail op failures.Before) said (told.Answered op (answers.Plain (plain_answers.Refused 2))) new (acted (failing old op) op v.operation (refused 2) v.caches) v.tells v.state
      (record { clients = refl; operations = failed_states old op v.operation (Store v.request) v.acts.found v.acts.asks; loose = refl; failed = refl })
  fail_goes failures.After old op said new v =
      told_so seen_operation old (events.Fail op failures.After) said (told.Answered op (answers.Plain (plain_answers.Refused 2))) new (acted (failing (effected old op v.call.request v.call.reply v.call.store) op) op v.call.operation (refused 2) v.call.caches) v.tells v.state
      (record { clients = refl; operations = failed_states old op v.call.operation (Store v.call.request) v.call.acts.found v.call.acts.asks; loose = refl; failed = refl })
  fail_goes failures.Loose old op said new v =
      told_so seen_operation old (events.Fail op failures.Loose) said (told.Answered op (answers.Plain (plain_answers.Refused 2))) new (acted (failing (loosened old op (Store v.request)) op) op v.operation (refused 2) v.caches) v.tells v.state
      (record { clients = refl; operations = failed_states old op v.operation (Store v.request) v.acts.found v.acts.asks; loose = leaves old op v.operation (Store v.request) v.acts.found v.acts.asks; failed = refl })

  give_up_goes : (old : State T) (op : ℕ) (said : Told T) (new : State T) → GivesUp old op said new → OperationsGoOn {C = Call T} (seen_calls old) (events.GiveUp op) said (seen_calls new)
  give_up_goes old op said new v =
      told_so seen_operation old (events.GiveUp op) said (told.GaveUp op) new (given_up (loosened old op v.ask) op v.operation) v.tells v.state
      (record {
        clients = refl;
        operations = acted_states (told.GaveUp op) op true old.operations v.operation v.ask ended v.found (give_up_ends op) v.asks refl;
        loose = leaves old op v.operation v.ask v.found v.asks;
        failed = refl;
      })

  crash_goes : (old : State T) (client : ℕ) (said : Told T) (new : State T) → Crashes old client said new → OperationsGoOn {C = Call T} (seen_calls old) (events.Crash client) said (seen_calls new)
  crash_goes old client said new v =
      told_so seen_operation old (events.Crash client) said (told.Crashed client) new (crashed old client) v.tells v.state
      (record { clients = refl; operations = states_crashed (Answer T) seen_operation (ended_by client) client (ended_state client) (stays_so client) 1 old.operations; loose = refl; failed = refl })

module _ {T : Type 0} (encode : T → List ℕ) (decode : List ℕ → Option T) (get_epoch : T → ℕ) (set_epoch : T → ℕ → T) where
  begin_goes : (old : State T) (client : ℕ) (call : Call T) (said : Told T) (new : State T) → Begins encode decode get_epoch set_epoch old client call said new → OperationsGoOn (seen_calls old) (events.Begin client call) said (seen_calls new)
  begin_goes old client call said new v =
      let n = next_op old in
      let answer = answered (length old.views) (view_used call) v.next.1 in
      let t = told_of (told.Began n) n answer in
      let fits = subst Fits (sym v.starts) (started_fits old.page encode get_epoch set_epoch call (seen_view (used_by old.views (view_used call)))) in
      told_so seen_operation old (events.Begin client call) said t new (begun_as old client call v.next) v.tells v.state
      (record {
        clients = refl;
        operations = new_states t client call (is_some answer) old.operations v.next.0 (told_ends (told.Began n) n answer (λ c m. refl)) (fits ∙ ap not (sym (answered_some (length old.views) (view_used call) v.next.1)));
        loose = refl;
        failed = refl;
      })

  look_goes : (old : State T) (op : ℕ) (said : Told T) (new : State T) → Looks encode decode get_epoch set_epoch old op said new → OperationsGoOn {C = Call T} (seen_calls old) (events.Look op) said (seen_calls new)
  look_goes old op said new v =
      let fits = subst Fits (sym v.turns.turns) (turned_fits old.page encode decode get_epoch set_epoch v.turns.refused v.operation.doing v.caches None Look v.acts.asks) in
      told_so seen_operation old (events.Look op) said (told_of (told.Went op) op (answer_next old v.operation v.next)) new (acted old op v.operation v.next (caches_after v.operation.doing v.caches v.next.1)) v.tells v.state
      (record { clients = refl; operations = turn_states old op v.operation Look v.next v.acts.found v.acts.asks fits; loose = refl; failed = refl })

  serve_goes : (old : State T) (op : ℕ) (said : Told T) (new : State T) → Served encode decode get_epoch set_epoch old op said new → OperationsGoOn {C = Call T} (seen_calls old) (events.Serve op) said (seen_calls new)
  serve_goes old op said new v =
      let fits = subst Fits (sym v.turns.turns) (turned_fits old.page encode decode get_epoch set_epoch v.turns.refused v.call.operation.doing v.call.caches (Some v.call.reply) (Store v.call.request) v.call.acts.asks) in
      told_so seen_operation old (events.Serve op) said (told_of (told.Went op) op (answer_next old v.call.operation v.next)) new (acted (effected old op v.call.request v.call.reply v.call.store) op v.call.operation v.next (caches_after v.call.operation.doing v.call.caches v.next.1)) v.tells v.state
      (record { clients = refl; operations = turn_states old op v.call.operation (Store v.call.request) v.next v.call.acts.found v.call.acts.asks fits; loose = refl; failed = refl })

  -- what a world shows of its operations goes on with each event that is taken, whatever the state before it
  pub calls_go_on : (old : State T) (event : Event T) (said : Told T) (new : State T) → TakesOrLacks encode decode get_epoch set_epoch old event said new → OperationsGoOn (seen_calls old) event said (seen_calls new)
  calls_go_on old (events.Begin client call) said new t = begin_goes old client call said new t.step
  calls_go_on old (events.Look op) said new t = look_goes old op said new t.step
  calls_go_on old (events.Serve op) said new t = elim t.step [ inl v ↦ serve_goes old op said new v | inr v ↦ lacks_goes old op said new v ]
  calls_go_on old (events.Fail op failure) said new t = fail_goes failure old op said new t.step
  calls_go_on old (events.GiveUp op) said new t = give_up_goes old op said new t.step
  calls_go_on old (events.Land k) said new t = (let v = t.step in land_goes seen_operation old k v.loose.op v.loose.request v.loose.reply v.loose.store said new v.tells v.state)
  calls_go_on old (events.Crash client) said new t = crash_goes old client said new t.step
