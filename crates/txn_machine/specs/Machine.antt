-- The world's step, over the store's contract, for all calls.
use Rattle.std.specs.Prelude.{◌≡◌, ◌≤◌, ◌⊎◌, ℕ, List, [], ◌∷◌, ◌++◌, ◌+◌, ◌-◌, ◌==◌, Bool, false, if◌then◌else◌, Option, Some, None, Result, Ok, Err, length, slice_set, is_some, map}
use Rattle.std.specs.Option.{option_map}
use Rattle.txn_store.specs.declared.request.Request.{Request}
use Rattle.txn_store.specs.types.Errors.{error_number}
use Rattle.txn_steps.specs.declared.boundary.caches.Caches.{Caches}
use Rattle.txn_history.specs.declared.event.PlainAnswer.TheVariants as plain_answers
use Rattle.txn_history.specs.declared.event.Failure.{Failure}
use Rattle.txn_history.specs.declared.event.ToldOf.TheVariants as told
use Rattle.txn_history.specs.declared.event.EventOf.TheVariants as events
use Rattle.txn_history.specs.declared.event.EventFault.{EventFault}
use Rattle.txn_history.specs.declared.trace.RowOf.TheVariants.{Begun}
use Rattle.txn_history.specs.Lists.{numbered}
use Rattle.txn_history.specs.Seen.{Ask, Store, Look, Operation as SeenOperation, Seen, asks_of, AllSeen}
use Rattle.txn_history.specs.GoesOn.{all_left_loose}
use Rattle.txn_history.specs.Added.{told_of, answer_rows}
use Rattle.txn_machine.specs.plain.Machine.{StateOf, no_caches, effect_of, opening_with, next_op, effected, loosened, failing, seen_by, Asking, CallReaches, LooseReaches, FailsBy, fault_met, taken_count}
use Rattle.txn_store.specs.MemoryServes.{lacks_memory}
use Rattle.txn_steps_views.specs.declared.outcome.Outcome.TheVariants as outcomes
use Rattle.txn_history.specs.declared.event.Call.{Call}
use Rattle.txn_history.specs.declared.event.Answer.{Answer}
use Rattle.txn_history.specs.declared.event.Answer.TheVariants as answers
use Rattle.txn_history.specs.Trace.{Event, Told}
use Rattle.txn_history.specs.Calls.{view_used}
use Rattle.txn_history.specs.Views.{View}
use Rattle.txn_history.specs.Allowed.{fault_of}
use Rattle.txn_machine.specs.views.Layer.{Used, Change, Keeps, Puts, Makes, Closes, with_busy, changed, new_view}
use Rattle.txn_machine.specs.views.Steps.{view_without}
use Rattle.txn_machine.specs.declared.doing.Doing.{Doing}
use Rattle.txn_machine.specs.declared.doing.Ending.{Ending}
use Rattle.txn_machine.specs.declared.doing.Ending.TheVariants as endings
use Rattle.txn_machine.specs.declared.doing.Operation.{Operation}
use Rattle.txn_machine.specs.Doing.{Next, ended, refused, asked, started, caches_after, ReadsBack, FitsWord, IsMadeSo, Turns}
use Rattle.txn_machine.specs.views.Parts.{is_claim_call}

-- All of a world but its codec and its allocator. An ended view is none.
abbrev pub State : Type 0 → Type 0
State T = StateOf (Operation T) (List (Option (Used T))) (Call T) (Answer T)

-- a world: its codec, where its values keep their epochs, and its state
pub record WorldState (T C E : Type 0) : Type 0 where
  pub codec : C
  pub epochs : E
  pub state : State T

module _ {T : Type 0} where
  -- a world in which nothing has happened
  abbrev pub opening : ℕ → ℕ → State T
  opening = opening_with []

  -- what it shows beside its rows: its calls, and its views below

  abbrev pub seen_operation : Operation T → SeenOperation
  seen_operation operation = record { client = operation.client; asks = asked operation.doing }

  abbrev pub seen_operations : List (Operation T) → List SeenOperation
  seen_operations operations = map seen_operation operations

  abbrev pub seen_calls : State T → Seen
  seen_calls = seen_by seen_operation

  -- what an operation that asks for this is given: a look at its client's caches, and else a store call
  abbrev pub asked_event : ℕ → Option Ask → Event T
  asked_event op None = events.Serve op
  asked_event op (Some (Store request)) = events.Serve op
  asked_event op (Some Look) = events.Look op

  -- The event that gives an operation what it asks for. Where it asks for nothing it is a serve, which is refused.
  abbrev pub next_event : State T → ℕ → Event T
  next_event s op = asked_event op (asks_of (seen_calls s) op)

  abbrev pub seen_view : Option (Used T) → Option (View T)
  seen_view used = option_map (λ u. u.view) used

  abbrev pub seen_views : List (Option (Used T)) → List (Option (View T))
  seen_views views = map seen_view views

  abbrev pub seen_of : State T → AllSeen T
  seen_of s = record { calls = seen_calls s; views = seen_views s.views }

  -- views by their numbers

  abbrev pub used_in : Option (Option (Used T)) → Option (Used T)
  used_in None = None
  used_in (Some used) = used

  -- the view of this number, where there is one
  abbrev pub used_by : List (Option (Used T)) → Option ℕ → Option (Used T)
  used_by views None = None
  used_by views (Some number) = used_in (numbered views number)

  abbrev pub with_used : List (Option (Used T)) → Option ℕ → Option (Used T) → List (Option (Used T))
  with_used views None new = views
  with_used views (Some number) new = slice_set views (number - 1) new

  -- the views after this change of one
  abbrev pub views_changed : List (Option (Used T)) → Option ℕ → Change T → List (Option (Used T))
  views_changed views number change = with_used views number (changed (used_by views number) change)

  -- how an operation ends

  -- a refusal, or the answer of a call without a view, frees the view, and ends that of a claim
  abbrev pub let_go : Bool → Change T
  let_go claims = if claims then Closes else Keeps

  -- the answer of an operation on this view, where so many views were made
  abbrev pub answer_of : ℕ → Option ℕ → Ending T → Answer T
  answer_of count view (endings.Answers answer) = answers.Plain answer
  answer_of count None (endings.Comes (outcomes.Viewed id value)) = answers.View (count + 1) id value
  answer_of count (Some number) (endings.Comes (outcomes.Viewed id value)) = answers.View number id value
  answer_of count None (endings.Comes (outcomes.Held id value epoch)) = answers.Held (count + 1) id value epoch
  answer_of count (Some number) (endings.Comes (outcomes.Held id value epoch)) = answers.Held number id value epoch
  answer_of count view (endings.Comes (outcomes.Shut id value error)) = answers.Plain (plain_answers.Refused (error_number error))

  -- what becomes of the view that was used
  abbrev pub change_of : Bool → Ending T → Change T
  change_of claims (endings.Answers answer) = let_go claims
  change_of claims (endings.Comes (outcomes.Viewed id value)) = Puts id value
  change_of claims (endings.Comes (outcomes.Held id value epoch)) = Makes id value epoch
  change_of claims (endings.Comes (outcomes.Shut id value error)) = Puts id value

  -- the view that is made, where none was used
  abbrev pub made_by : ℕ → Ending T → List (Option (Used T))
  made_by client (endings.Answers answer) = []
  made_by client (endings.Comes (outcomes.Viewed id value)) = Some (new_view client id value) ∷ []
  made_by client (endings.Comes (outcomes.Held id value epoch)) = []
  made_by client (endings.Comes (outcomes.Shut id value error)) = []

  -- the views after an operation has ended
  abbrev pub views_after : List (Option (Used T)) → ℕ → Option ℕ → Bool → Option (Ending T) → List (Option (Used T))
  views_after views client view claims None = views
  views_after views client None claims (Some ending) = views ++ made_by client ending
  views_after views client (Some number) claims (Some ending) = views_changed views (Some number) (change_of claims ending)

  abbrev pub answered : ℕ → Option ℕ → Option (Ending T) → Option (Answer T)
  answered count view ending = option_map (answer_of count view) ending

  -- what a step changes

  -- an operation, where it does this next
  abbrev pub doing_next : Operation T → Doing T → Operation T
  doing_next operation doing = record { client = operation.client; view = operation.view; claims = operation.claims; doing = doing }

  -- the operations, where one of them does this next
  abbrev pub with_doing : List (Operation T) → ℕ → Operation T → Doing T → List (Operation T)
  with_doing operations op operation doing = slice_set operations (op - 1) (doing_next operation doing)

  -- the answer of an operation that does this next, where it has one
  abbrev pub answer_next : State T → Operation T → Next T → Option (Answer T)
  answer_next s operation next = answered (length s.views) operation.view next.1

  -- An operation takes its turn: what it does next, what becomes of its view and its answer where it ends, and what it leaves of its client's caches. Every look, serve and failure changes the operations, the caches, the views and the answers so.
  abbrev pub acted : State T → ℕ → Operation T → Next T → Caches → State T
  acted s op operation next caches = record s {
    operations = with_doing s.operations op operation next.0;
    caches = slice_set s.caches (operation.client - 1) caches;
    views = views_after s.views operation.client operation.view operation.claims next.1;
    trace = s.trace ++ answer_rows op (answer_next s operation next);
  }

  -- an operation ends with no answer, and lets its view go
  abbrev pub given_up : State T → ℕ → Operation T → State T
  given_up s op operation = record s {
    operations = with_doing s.operations op operation ended;
    views = views_changed s.views operation.view (let_go operation.claims);
  }

  -- the operations, where those of a client have ended
  abbrev pub ended_by : ℕ → Operation T → Operation T
  ended_by client operation = if operation.client == client then doing_next operation ended else operation

  abbrev pub crashed : State T → ℕ → State T
  crashed s client = record s {
    operations = map (ended_by client) s.operations;
    caches = slice_set s.caches (client - 1) no_caches;
    views = map (view_without client) s.views;
    loose = s.loose ++ all_left_loose client 1 (seen_operations s.operations);
  }

  -- a new operation, which does this
  abbrev pub new_operation : ℕ → Call T → Doing T → Operation T
  new_operation client call doing = record { client = client; view = view_used call; claims = is_claim_call call; doing = doing }

  -- the views, where the one that a call uses is busy
  abbrev pub views_taken : List (Option (Used T)) → Option ℕ → ℕ → List (Option (Used T))
  views_taken views number op = with_used views number (option_map (with_busy (Some op)) (used_by views number))

  abbrev pub begun_as : State T → ℕ → Call T → Next T → State T
  begun_as s client call start = record s {
    operations = s.operations ++ new_operation client call start.0 ∷ [];
    views = views_after (views_taken s.views (view_used call) (next_op s)) client (view_used call) (is_claim_call call) start.1;
    trace = (s.trace ++ Begun (next_op s) call ∷ []) ++ answer_rows (next_op s) (answered (length s.views) (view_used call) start.1);
  }

  -- an operation that is there and asks for this, and what its client keeps
  abbrev pub Acts : State T → ℕ → Operation T → Ask → Caches → Type 0
  Acts = Asking seen_operation

  -- the view that a call uses, as it stands
  abbrev pub view_now : State T → Call T → Option (View T)
  view_now s call = seen_view (used_by s.views (view_used call))

  -- A failure before its effect, or of a request that becomes loose: nothing reaches the store.
  pub record FailsFirst (old : State T) (op : ℕ) (said : Told T) (looses : Bool) (new : State T) : Type 0 where
    pub operation : Operation T
    pub request : Request
    pub caches : Caches
    pub acts : Acts old op operation (Store request) caches
    pub tells : said ≡ told.Answered op (answers.Plain (plain_answers.Refused 2))
    pub state : new ≡ acted (failing (if looses then loosened old op (Store request) else old) op) op operation (refused 2) caches

  -- A call that is refused for memory before anything has reached the store: the operation ends refused, and nothing else changes.
  pub record Lacks (old : State T) (op : ℕ) (said : Told T) (new : State T) : Type 0 where
    pub operation : Operation T
    pub request : Request
    pub caches : Caches
    pub acts : Acts old op operation (Store request) caches
    pub tells : said ≡ told.Answered op (answers.Plain (plain_answers.Refused 9))
    pub state : new ≡ acted old op operation (refused 9) caches

  -- A failure after its effect: the request is served, and its reply is lost. Where the store finds no memory, there is no such event.
  pub record FailsAfter (old : State T) (op : ℕ) (said : Told T) (new : State T) : Type 0 where
    pub call : CallReaches seen_operation old op
    pub answered : lacks_memory call.reply ≡ false
    pub tells : said ≡ told.Answered op (answers.Plain (plain_answers.Refused 2))
    pub state : new ≡ acted (failing (effected old op call.request call.reply call.store) op) op call.operation (refused 2) call.caches

  -- a failure by its kind
  abbrev pub Fails : State T → ℕ → Failure → Told T → State T → Type 0
  Fails = FailsBy FailsFirst FailsAfter

  -- A give-up: the operation ends with no answer, and what it asked for may still reach the store.
  pub record GivesUp (old : State T) (op : ℕ) (said : Told T) (new : State T) : Type 0 where
    pub operation : Operation T
    pub ask : Ask
    pub found : numbered old.operations op ≡ Some operation
    pub asks : asked operation.doing ≡ Some ask
    pub tells : said ≡ told.GaveUp op
    pub state : new ≡ given_up (loosened old op ask) op operation

  -- A landing. Where the store finds no memory, there is no such event.
  pub record Lands (old : State T) (k : ℕ) (said : Told T) (new : State T) : Type 0 where
    pub loose : LooseReaches old k
    pub answered : lacks_memory loose.reply ≡ false
    pub tells : said ≡ told.Landed k (is_some (effect_of old.store.files loose.request loose.reply))
    pub state : new ≡ effected old loose.op loose.request loose.reply loose.store

  -- A crash: a client gives up all its operations, and keeps nothing, no view either.
  pub record Crashes (old : State T) (client : ℕ) (said : Told T) (new : State T) : Type 0 where
    pub tells : said ≡ told.Crashed client
    pub state : new ≡ crashed old client

module _ {T : Type 0} (encode : T → List ℕ) (decode : List ℕ → Option T) (get_epoch : T → ℕ) (set_epoch : T → ℕ → T) where
  -- A look: the operation looks at its client's caches.
  pub record Looks (old : State T) (op : ℕ) (said : Told T) (new : State T) : Type 0 where
    pub operation : Operation T
    pub caches : Caches
    pub acts : Acts old op operation Look caches
    pub next : Next T
    pub turns : Turns old.page encode decode get_epoch set_epoch operation.doing caches None next
    pub tells : said ≡ told_of (told.Went op) op (answer_next old operation next)
    pub state : new ≡ acted old op operation next (caches_after operation.doing caches next.1)

  -- A serve: the operation's request is served by the store, and the operation takes the reply.
  pub record Served (old : State T) (op : ℕ) (said : Told T) (new : State T) : Type 0 where
    pub call : CallReaches seen_operation old op
    pub next : Next T
    pub turns : Turns old.page encode decode get_epoch set_epoch call.operation.doing call.caches (Some call.reply) next
    pub tells : said ≡ told_of (told.Went op) op (answer_next old call.operation next)
    pub state : new ≡ acted (effected old op call.request call.reply call.store) op call.operation next (caches_after call.operation.doing call.caches next.1)

  -- A begin: its call's operation starts.
  pub record Begins (old : State T) (client : ℕ) (call : Call T) (said : Told T) (new : State T) : Type 0 where
    pub reads_back : ReadsBack encode decode call
    pub word : FitsWord call
    pub next : Next T
    pub starts : next ≡ started old.page encode get_epoch set_epoch call (view_now old call)
    pub made : IsMadeSo encode decode get_epoch next.0
    pub tells : said ≡ told_of (told.Began (next_op old)) (next_op old) (answered (length old.views) (view_used call) next.1)
    pub state : new ≡ begun_as old client call next

  abbrev pub Steps : State T → Event T → Told T → State T → Type 0
  Steps old (events.Begin client call) said new = Begins old client call said new
  Steps old (events.Look op) said new = Looks old op said new
  Steps old (events.Serve op) said new = Served old op said new
  Steps old (events.Fail op failure) said new = Fails old op failure said new
  Steps old (events.GiveUp op) said new = GivesUp old op said new
  Steps old (events.Land k) said new = Lands old k said new
  Steps old (events.Crash client) said new = Crashes old client said new

  -- why a state refuses an event, where it does
  abbrev pub refusal_of : State T → Event T → Option EventFault
  refusal_of s event = fault_of decode get_epoch (seen_of s) s.trace event

  -- From old the event may tell this, and lead to new.
  pub record Takes (old : State T) (event : Event T) (said : Told T) (new : State T) : Type 0 where
    pub allowed : refusal_of old event ≡ None
    pub step : Steps old event said new

  -- An event's outcome: it is taken, or it is refused as the trace and what stands beside it say, or for want of memory, and changes nothing.
  abbrev pub Meets : State T → Event T → Result (Told T) EventFault → State T → Type 0
  Meets old event (Ok said) new = Takes old event said new
  Meets old event (Err fault) new = (fault_met {A = Told T} (Err fault) ≡ refusal_of old event) × (new ≡ old)

  -- Events in order, each with its outcome.
  abbrev pub Outcomes : State T → List (Event T × Result (Told T) EventFault) → State T → Type 0
  Outcomes old [] new = new ≡ old
  Outcomes old (met ∷ rest) new = (middle : State T) × Meets old met.0 met.1 middle × Outcomes middle rest new

  -- These events in order, past those that are refused; so many were taken.
  pub record RunsPast (old : State T) (events : List (Event T)) (count : ℕ) (new : State T) : Type 0 where
    pub met : List (Event T × Result (Told T) EventFault)
    pub all : map (λ m. m.0) met ≡ events
    pub run : Outcomes old met new
    pub taken : count ≡ taken_count met

  -- a run: events in order, each with what it told
  abbrev pub Runs : State T → List (Event T × Told T) → State T → Type 0
  Runs old [] new = new ≡ old
  Runs old (taken ∷ rest) new = (middle : State T) × Takes old taken.0 taken.1 middle × Runs middle rest new

  -- Where clients share a store that is none of theirs, a serve may lack memory too.

  abbrev pub StepsOrLacks : State T → Event T → Told T → State T → Type 0
  StepsOrLacks old (events.Serve op) said new = Served old op said new ⊎ Lacks old op said new
  StepsOrLacks old event said new = Steps old event said new

  pub record TakesOrLacks (old : State T) (event : Event T) (said : Told T) (new : State T) : Type 0 where
    pub allowed : refusal_of old event ≡ None
    pub step : StepsOrLacks old event said new

  -- a run of such clients: events in order, each with what it told
  abbrev pub RunsOrLacks : State T → List (Event T × Told T) → State T → Type 0
  RunsOrLacks old [] new = new ≡ old
  RunsOrLacks old (taken ∷ rest) new = (middle : State T) × TakesOrLacks old taken.0 taken.1 middle × RunsOrLacks middle rest new

  -- some events lead here from a world in which nothing has happened, where a page has room for a file at least
  abbrev pub IsReached : State T → Type 0
  IsReached s = (taken : List (Event T × Told T)) × RunsOrLacks (opening s.clients s.page) taken s × (1 ≤ s.page)
