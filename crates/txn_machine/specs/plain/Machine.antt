-- The step where clients make plain calls, over the store's contract.
use Rattle.std.specs.Prelude.{◌≡◌, ℕ, List, [], ◌∷◌, ◌++◌, ◌+◌, ◌-◌, ◌^◌, ◌≤◌, ◌==◌, Bool, true, false, if◌then◌else◌, Option, Some, None, Result, Ok, Err, length, slice_set, is_some, is_ok, map, replicate}
use Rattle.std.specs.FinMap.{empty, get}
use Rattle.txn_store.specs.Store.{Files, State as StoreState}
use Rattle.txn_store.specs.Requests.{Serves}
use Rattle.txn_store.specs.declared.request.Request.{Request}
use Rattle.txn_store.specs.declared.request.Request.TheVariants as requests
use Rattle.txn_store.specs.declared.request.Reply.{Reply}
use Rattle.txn_store.specs.declared.request.Reply.TheVariants as replies
use Rattle.txn_steps.specs.declared.boundary.caches.Caches.{Caches}
use Rattle.txn_history.specs.declared.event.PlainCall.{PlainCall}
use Rattle.txn_history.specs.declared.event.PlainAnswer.{PlainAnswer}
use Rattle.txn_history.specs.declared.event.PlainAnswer.TheVariants as answers
use Rattle.txn_history.specs.declared.event.Failure.{Failure}
use Rattle.txn_history.specs.declared.event.Failure.TheVariants as failures
use Rattle.txn_history.specs.Trace.{PlainTold, PlainEvent}
use Rattle.txn_history.specs.declared.event.ToldOf.TheVariants as told
use Rattle.txn_history.specs.declared.event.EventOf.TheVariants as events
use Rattle.txn_history.specs.declared.event.EventFault.{EventFault}
use Rattle.txn_history.specs.declared.event.EventFault.TheVariants as faults
use Rattle.txn_history.specs.declared.trace.RowOf.{RowOf}
use Rattle.txn_history.specs.declared.trace.RowOf.TheVariants.{Begun}
use Rattle.txn_history.specs.Lists.{numbered}
use Rattle.txn_history.specs.Seen.{Ask, Store, Look, Operation as SeenOperation, Seen}
use Rattle.txn_history.specs.GoesOn.{left_loose, all_left_loose}
use Rattle.txn_machine.specs.plain.PlainAllowed.{fault_of}
use Rattle.txn_history.specs.Added.{told_of, answer_rows, effect_rows}
use Rattle.txn_machine.specs.declared.plain.doing.PlainDoing.{PlainDoing}
use Rattle.txn_machine.specs.declared.plain.doing.PlainDoing.TheVariants.{Ended}
use Rattle.txn_machine.specs.declared.plain.doing.PlainOperation.{PlainOperation}
use Rattle.txn_machine.specs.plain.Doing.{Next, started, asked, turned, plain_caches_after, ReadsBack, FitsWord}

-- All of a world but its codec and its allocator, whatever its operations, its views, its calls and their answers are. Each list is in the order of the numbers, from 1 on.
pub record StateOf (O V C A : Type 0) : Type 0 where
  pub clients : ℕ
  -- how many files a page of a listing has at most
  pub page : ℕ
  pub store : StoreState
  -- what each client keeps
  pub caches : List Caches
  pub operations : List O
  pub views : V
  -- requests that may still reach the store, each with its operation
  pub loose : List (ℕ × Request)
  -- the operations whose store call failed
  pub failed : List ℕ
  pub trace : List (RowOf C A)

-- the empty store, which gives the tokens 1, 2, 3 and so on
abbrev pub empty_store : StoreState
empty_store = record { files = empty; given = []; left = 2 ^ 64 - 1; calls = 0; failures = 0 }

-- what a client keeps at first
abbrev pub no_caches : Caches
no_caches = record { latest = []; boundary = None }

-- the reply says that a put or a removal was done
abbrev pub took : Reply → Bool
took (replies.Put (Ok token)) = true
took (replies.Put (Err error)) = false
took (replies.Get answer) = false
took (replies.List answer) = false
took (replies.Delete (Ok done)) = true
took (replies.Delete (Err error)) = false

-- a request that changes these files where it is done: a put, or the removal of a file that is there
abbrev pub may_change : Files → Request → Option Request
may_change files (requests.Put path bytes mode) = Some (requests.Put path bytes mode)
may_change files (requests.Get path known) = None
may_change files (requests.List prefix after limit) = None
may_change files (requests.Delete path) = if is_some (get files path) then Some (requests.Delete path) else None

-- the request that changed the store, by the files before it and its reply
abbrev pub effect_of : Files → Request → Reply → Option Request
effect_of files request reply = if took reply then may_change files request else None

module _ {O V C A : Type 0} where
  -- a world in which nothing has happened, with these views
  abbrev pub opening_with : V → ℕ → ℕ → StateOf O V C A
  opening_with views clients page = record { clients = clients; page = page; store = empty_store; caches = replicate clients no_caches; operations = []; views = views; loose = []; failed = []; trace = [] }

  -- the next operation's number
  abbrev pub next_op : StateOf O V C A → ℕ
  next_op s = length s.operations + 1

  -- A request reaches the store, which becomes this: its row, where it changed the files.
  abbrev pub effected : StateOf O V C A → ℕ → Request → Reply → StoreState → StateOf O V C A
  effected s op request reply store = record s { store = store; trace = s.trace ++ effect_rows op (effect_of s.store.files request reply) }

  -- what an operation asks for becomes loose, if it is a put or a delete
  abbrev pub loosened : StateOf O V C A → ℕ → Ask → StateOf O V C A
  loosened s op ask = record s { loose = s.loose ++ left_loose op (Some ask) }

  -- its store call failed
  abbrev pub failing : StateOf O V C A → ℕ → StateOf O V C A
  failing s op = record s { failed = s.failed ++ op ∷ [] }

  -- a request reaches the store, which never fails
  pub record Reaches (s : StateOf O V C A) (request : Request) (reply : Reply) (store : StoreState) : Type 0 where
    pub serves : Serves request s.store reply store
    pub honest : store.failures ≡ 0

  -- A loose request reaches the store, which replies. It stays loose.
  pub record LooseReaches (s : StateOf O V C A) (k : ℕ) : Type 0 where
    pub op : ℕ
    pub request : Request
    pub found : numbered s.loose k ≡ Some (op, request)
    pub reply : Reply
    pub store : StoreState
    pub reaches : Reaches s request reply store

-- `see` is what a machine shows of an operation
module _ {O V C A : Type 0} (see : O → SeenOperation) where
  abbrev pub seen_by : StateOf O V C A → Seen
  seen_by s = record { clients = s.clients; operations = map see s.operations; loose = s.loose; failed = s.failed }

  -- an operation that is there and asks for this, and what its client keeps
  pub record Asking (s : StateOf O V C A) (op : ℕ) (operation : O) (ask : Ask) (caches : Caches) : Type 0 where
    pub found : numbered s.operations op ≡ Some operation
    pub asks : (see operation).asks ≡ Some ask
    pub kept : numbered s.caches (see operation).client ≡ Some caches

  -- An operation's request reaches the store, which replies.
  pub record CallReaches (s : StateOf O V C A) (op : ℕ) : Type 0 where
    pub operation : O
    pub request : Request
    pub caches : Caches
    pub acts : Asking s op operation (Store request) caches
    pub reply : Reply
    pub store : StoreState
    pub reaches : Reaches s request reply store

-- A failure by its kind: before its effect, or where its request becomes loose, nothing reaches the store.
abbrev pub FailsBy : {S A : Type 0} → (S → ℕ → A → Bool → S → Type 0) → (S → ℕ → A → S → Type 0) → S → ℕ → Failure → A → S → Type 0
FailsBy First After old op failures.Before said new = First old op said false new
FailsBy First After old op failures.After said new = After old op said new
FailsBy First After old op failures.Loose said new = First old op said true new

-- A state of the machine of plain calls, which has no views.
abbrev pub State : Type 0 → Type 0
State T = StateOf (PlainOperation T) (Unit {0}) (PlainCall T) (PlainAnswer T)

module _ {T : Type 0} where
  -- a world in which nothing has happened
  abbrev pub opening : ℕ → ℕ → State T
  opening = opening_with tt

  -- what it shows beside its rows

  abbrev pub seen_operation : PlainOperation T → SeenOperation
  seen_operation operation = record { client = operation.client; asks = asked operation.doing }

  abbrev pub seen_operations : List (PlainOperation T) → List SeenOperation
  seen_operations operations = map seen_operation operations

  abbrev pub seen_of : State T → Seen
  seen_of = seen_by seen_operation

  -- what a step changes

  -- the operations, where one of them does this next
  abbrev pub with_doing : List (PlainOperation T) → ℕ → PlainOperation T → PlainDoing T → List (PlainOperation T)
  with_doing operations op operation doing = slice_set operations (op - 1) (record { client = operation.client; doing = doing })

  -- An operation takes its turn: what it does next, its answer where it has one, and what it leaves of its client's caches. Every look, serve, failure and give-up changes the operations, the caches and the answers so.
  abbrev pub acted : State T → ℕ → PlainOperation T → Next T → Caches → State T
  acted s op operation next caches = record s {
    operations = with_doing s.operations op operation next.0;
    caches = slice_set s.caches (operation.client - 1) caches;
    trace = s.trace ++ answer_rows op next.1;
  }

  -- an operation that ends with no answer
  abbrev pub given_up : Next T
  given_up = (Ended, None)

  -- an operation that is told that its store call failed
  abbrev pub told_failure : Next T
  told_failure = (Ended, Some (answers.Refused 2))

  -- the operations, where those of a client have ended
  abbrev pub ended_by : ℕ → PlainOperation T → PlainOperation T
  ended_by client operation = if operation.client == client then record { client = operation.client; doing = Ended } else operation

  abbrev pub crashed : State T → ℕ → State T
  crashed s client = record s {
    operations = map (ended_by client) s.operations;
    caches = slice_set s.caches (client - 1) no_caches;
    loose = s.loose ++ all_left_loose client 1 (seen_operations s.operations);
  }

  abbrev pub begun_as : State T → ℕ → PlainCall T → Next T → State T
  begun_as s client call start = record s {
    operations = s.operations ++ record { client = client; doing = start.0 } ∷ [];
    trace = (s.trace ++ Begun (next_op s) call ∷ []) ++ answer_rows (next_op s) start.1;
  }

-- the fault that an event met, want of memory aside
abbrev pub fault_met : {A : Type 0} → Result A EventFault → Option EventFault
fault_met (Ok told) = None
fault_met (Err faults.UnknownNumber) = Some faults.UnknownNumber
fault_met (Err faults.NotAsked) = Some faults.NotAsked
fault_met (Err faults.UnknownBase) = Some faults.UnknownBase
fault_met (Err faults.BoundaryTooHigh) = Some faults.BoundaryTooHigh
fault_met (Err faults.EpochLowered) = Some faults.EpochLowered
fault_met (Err faults.ViewBusy) = Some faults.ViewBusy
fault_met (Err faults.NoMemory) = None

-- of events, each with its outcome, how many were taken
abbrev pub taken_count : {E A : Type 0} → List (E × Result A EventFault) → ℕ
taken_count [] = 0
taken_count (met ∷ rest) = if is_ok met.1 then 1 + taken_count rest else taken_count rest

module _ {T : Type 0} where
  -- an operation that is there and asks for this, and what its client keeps
  abbrev pub Acts : State T → ℕ → PlainOperation T → Ask → Caches → Type 0
  Acts = Asking seen_operation

  -- A failure before its effect, or of a request that becomes loose: nothing reaches the store.
  pub record FailsFirst (old : State T) (op : ℕ) (said : PlainTold T) (looses : Bool) (new : State T) : Type 0 where
    pub operation : PlainOperation T
    pub request : Request
    pub caches : Caches
    pub acts : Acts old op operation (Store request) caches
    pub tells : said ≡ told.Answered op (answers.Refused 2)
    pub state : new ≡ acted (failing (if looses then loosened old op (Store request) else old) op) op operation told_failure caches

  -- A failure after its effect: the request is served, and its reply is lost.
  pub record FailsAfter (old : State T) (op : ℕ) (said : PlainTold T) (new : State T) : Type 0 where
    pub call : CallReaches seen_operation old op
    pub tells : said ≡ told.Answered op (answers.Refused 2)
    pub state : new ≡ acted (failing (effected old op call.request call.reply call.store) op) op call.operation told_failure call.caches

  -- A give-up: the operation ends with no answer, and what it asked for may still reach the store.
  pub record GivesUp (old : State T) (op : ℕ) (said : PlainTold T) (new : State T) : Type 0 where
    pub operation : PlainOperation T
    pub ask : Ask
    pub caches : Caches
    pub acts : Acts old op operation ask caches
    pub tells : said ≡ told.GaveUp op
    pub state : new ≡ acted (loosened old op ask) op operation given_up caches

  -- a landing
  pub record Lands (old : State T) (k : ℕ) (said : PlainTold T) (new : State T) : Type 0 where
    pub loose : LooseReaches old k
    pub tells : said ≡ told.Landed k (is_some (effect_of old.store.files loose.request loose.reply))
    pub state : new ≡ effected old loose.op loose.request loose.reply loose.store

  -- A crash: a client gives up all its operations, and keeps nothing.
  pub record Crashes (old : State T) (client : ℕ) (said : PlainTold T) (new : State T) : Type 0 where
    pub tells : said ≡ told.Crashed client
    pub state : new ≡ crashed old client

module _ {T : Type 0} (decode : List ℕ → Option T) where
  -- A look: the operation looks at its client's caches.
  pub record Looks (old : State T) (op : ℕ) (said : PlainTold T) (new : State T) : Type 0 where
    pub operation : PlainOperation T
    pub caches : Caches
    pub acts : Acts old op operation Look caches
    -- a growth of the operation was refused
    pub refused : Bool
    pub next : Next T
    pub turns : next ≡ turned old.page decode refused operation.doing caches None
    pub tells : said ≡ told_of (told.Went op) op next.1
    pub state : new ≡ acted old op operation next (plain_caches_after operation.doing caches next.1)

  -- A serve: the operation's request is served by the store, and the operation takes the reply.
  pub record Served (old : State T) (op : ℕ) (said : PlainTold T) (new : State T) : Type 0 where
    pub call : CallReaches seen_operation old op
    -- a growth of the operation was refused
    pub refused : Bool
    pub next : Next T
    pub turns : next ≡ turned old.page decode refused call.operation.doing call.caches (Some call.reply)
    pub tells : said ≡ told_of (told.Went op) op next.1
    pub state : new ≡ acted (effected old op call.request call.reply call.store) op call.operation next (plain_caches_after call.operation.doing call.caches next.1)

module _ {T : Type 0} (encode : T → List ℕ) (decode : List ℕ → Option T) where
  -- A begin: its call's operation starts.
  pub record PlainBegins (old : State T) (client : ℕ) (call : PlainCall T) (said : PlainTold T) (new : State T) : Type 0 where
    pub reads_back : ReadsBack encode decode call
    pub word : FitsWord call
    pub next : Next T
    pub starts : next ≡ started old.page encode call
    pub tells : said ≡ told_of (told.Began (next_op old)) (next_op old) next.1
    pub state : new ≡ begun_as old client call next

  abbrev pub Steps : State T → PlainEvent T → PlainTold T → State T → Type 0
  Steps old (events.Begin client call) said new = PlainBegins old client call said new
  Steps old (events.Look op) said new = Looks decode old op said new
  Steps old (events.Serve op) said new = Served decode old op said new
  Steps old (events.Fail op failure) said new = FailsBy FailsFirst FailsAfter old op failure said new
  Steps old (events.GiveUp op) said new = GivesUp old op said new
  Steps old (events.Land k) said new = Lands old k said new
  Steps old (events.Crash client) said new = Crashes old client said new

module _ {T : Type 0} (encode : T → List ℕ) (decode : List ℕ → Option T) (get_epoch : T → ℕ) where
  -- why a state refuses an event, where it does
  abbrev pub refusal_of : State T → PlainEvent T → Option EventFault
  refusal_of s event = fault_of decode get_epoch (seen_of s) s.trace event

  -- From old the event may tell this, and lead to new.
  pub record Takes (old : State T) (event : PlainEvent T) (said : PlainTold T) (new : State T) : Type 0 where
    pub allowed : refusal_of old event ≡ None
    pub step : Steps encode decode old event said new

  -- a run: events in order, each with what it told
  abbrev pub Runs : State T → List (PlainEvent T × PlainTold T) → State T → Type 0
  Runs old [] new = new ≡ old
  Runs old (taken ∷ rest) new = (middle : State T) × Takes old taken.0 taken.1 middle × Runs middle rest new

  -- some events lead here from a world in which nothing has happened, where a page has room for a file at least
  abbrev pub IsReached : State T → Type 0
  IsReached s = (taken : List (PlainEvent T × PlainTold T)) × Runs (opening s.clients s.page) taken s × (1 ≤ s.page)
