-- What ties a world of all calls to a machine of plain calls and to the layer of views. Each call without a view, and each
-- write or read inside a call on a view, is an operation of the machine with a number of its own: a fine operation. It is of one
-- operation of the world, its owner, which runs one fine operation at a time.
use Rattle.std.proofs.Common.{◌≡◌, ◌≢◌, ℕ, ◌+◌, ◌<◌, ◌≤◌, ◌⊎◌, List, length, Bool, true, nat_eq, Option, Some, None}
use Rattle.std.specs.List.{list_any}
use Rattle.txn_store.specs.declared.request.Request.{Request}
use Rattle.txn_steps.specs.declared.boundary.caches.Caches.{Caches}
use Rattle.txn_history.specs.declared.event.PlainAnswer.{PlainAnswer}
use Rattle.txn_history.specs.Lists.{numbered}
use Rattle.txn_history.specs.History.{boundary}
use Rattle.txn_machine.specs.plain.PlainHistory.{tells as plain_tells}
use Rattle.txn_history.specs.Calls as calls
use Rattle.txn_history.specs.Calls.{was_begun, IsCall, tells, view_used}
use Rattle.txn_history.specs.Facts.{Entered}
use Rattle.txn_history.specs.OneHistory as history
use Rattle.txn_machine.specs.declared.plain.doing.PlainDoing.{PlainDoing}
use Rattle.txn_machine.specs.declared.plain.doing.PlainOperation as machine_operation
use Rattle.txn_machine.specs.plain.Doing as plain
use Rattle.txn_machine.specs.plain.Machine as machine
use Rattle.txn_machine.proofs.plain.Stands as machine_stands
use Rattle.txn_history.specs.declared.event.Call.{Call}
use Rattle.txn_history.specs.declared.event.Call.TheVariants as any
use Rattle.txn_history.specs.declared.event.Answer.TheVariants as any_answers
use Rattle.txn_history.specs.Trace.{Row, PlainRow}
use Rattle.txn_machine.specs.views.Layer as layer
use Rattle.txn_machine.specs.views.Layer.{Used, Inner, Starts, Writes, Reads, Acts, Asked, Layer, look_up, local_of}
use Rattle.txn_machine.specs.views.Parts.{plain_inner, InsideFits, is_claim_call}
use Rattle.txn_machine.specs.views.Steps.{IsAsked, GoesOn}
use Rattle.txn_machine.proofs.views.Inside.{inside}
use Rattle.txn_machine.proofs.views.Stands as layer_stands
use Rattle.txn_machine.proofs.views.Tied.{Tied}
use Rattle.txn_machine.specs.declared.doing.Operation.{Operation}
use Rattle.txn_machine.specs.Doing.{ended}
use Rattle.txn_machine.specs.Machine.{State, used_by}
use Rattle.txn_machine.proofs.Matched.{fine_call, Matched}

-- an operation of the machine of plain calls
abbrev pub Fine : Type 0 → Type 0
Fine T = machine_operation.PlainOperation T

module _ {T : Type 0} where
  -- what the layer says of an operation that runs
  abbrev pub as_laid : ℕ → Call T → Inner T → layer.Operation T
  as_laid client call inner = record { client = client; call = call; inner = inner }

  abbrev pub as_fine : ℕ → PlainDoing T → Fine T
  as_fine client doing = record { client = client; doing = doing }

  -- a write was noted
  abbrev pub Noted : List (Asked T) → ℕ → Inner T → Type 0
  Noted asked op (Writes base value epoch) = IsAsked (record { op = op; base = base; value = value }) asked
  Noted asked op Reads = Unit {0}
  Noted asked op Starts = Unit {0}
  Noted asked op Acts = Unit {0}

  -- an id was told, whatever the test
  abbrev pub IsTold : List (PlainRow T) → ℕ → Type 0
  IsTold rows id = (test : ℕ → Bool) → test id ≡ true → list_any (plain_tells test) rows ≡ true

  -- what the rows tell, the fine rows tell
  abbrev pub ToldBy : List (PlainRow T) → List (Row T) → Type 0
  ToldBy fine rows = (test : ℕ → Bool) → list_any (tells test) rows ≡ true → list_any (plain_tells test) fine ≡ true

  -- the id at which a view stands was told
  abbrev pub ViewTold : List (PlainRow T) → Option (Used T) → Type 0
  ViewTold fine None = Unit {0}
  ViewTold fine (Some used) = IsTold fine used.view.id

  -- what an answer tells was told
  abbrev pub AnswerTold : List (PlainRow T) → PlainAnswer T → Type 0
  AnswerTold rows answer = (test : ℕ → Bool) → calls.plain_tells_id test answer ≡ true → list_any (plain_tells test) rows ≡ true

module _ {T : Type 0} where
  -- a call on a view writes, or reads
  abbrev pub IsAtWork : Inner T → Type 0
  IsAtWork (Writes base value epoch) = Unit {0}
  IsAtWork Reads = Unit {0}
  IsAtWork Starts = ⊥
  IsAtWork Acts = ⊥

module _ {T : Type 0} (get_epoch : T → ℕ) where
  -- what a call without a view does is settled by it
  abbrev pub DoesFirst : Call T → Inner T → Type 0
  DoesFirst (any.Plain call) inner = inner ≡ plain_inner get_epoch call
  DoesFirst (any.View call) inner = IsAtWork inner

  -- A fine operation does this for its owner's call.
  pub record Does (fine : List (PlainRow T)) (rows : List (Row T)) (asked : List (Asked T)) (n op : ℕ) (call : Call T) (inner : Inner T) : Type 0 where
    pub own : IsCall rows op call
    pub called : IsCall fine n (fine_call call inner)
    pub first : DoesFirst call inner
    pub noted : Noted asked op inner

module _ {T : Type 0} (decode : List ℕ → Option T) where
  -- what the other fine operations of an owner entered, the boundary has reached
  abbrev pub PastAt : (ℕ → ℕ) → List (PlainRow T) → ℕ → ℕ → Type 0
  PastAt owner fine op n = (m k : ℕ) (value : T) → owner m ≡ op → m ≢ n → Entered decode fine m k value → k ≤ boundary fine

module _ {T : Type 0} (decode : List ℕ → Option T) (get_epoch : T → ℕ) where
  -- An operation of the world that runs: the layer says what it does, and its fine operation does it.
  pub record Held (operations : List (Fine T)) (fine : List (PlainRow T)) (rows : List (Row T)) (owner now : ℕ → ℕ) (ops : ℕ → Option (layer.Operation T)) (views : ℕ → Option (Used T)) (asked : List (Asked T)) (op : ℕ) (operation : Operation T) : Type 0 where
    pub call : Call T
    pub inner : Inner T
    pub runs : ops op ≡ Some (as_laid operation.client call inner)
    pub view : operation.view ≡ view_used call
    pub claims : operation.claims ≡ is_claim_call call
    pub doing : PlainDoing T
    pub there : numbered operations (now op) ≡ Some (as_fine operation.client doing)
    pub matched : Matched get_epoch call (local_of (look_up views (view_used call))) inner operation.doing doing
    pub owned : owner (now op) ≡ op
    pub does : Does get_epoch fine rows asked (now op) op call inner
    pub past : PastAt decode owner fine op (now op)

  -- an operation of the world by its number: it has ended, or it runs
  abbrev pub At : List (Fine T) → List (PlainRow T) → List (Row T) → (ℕ → ℕ) → (ℕ → ℕ) → (ℕ → Option (layer.Operation T)) → (ℕ → Option (Used T)) → List (Asked T) → ℕ → Option (Operation T) → Type 0
  At operations fine rows owner now ops views asked op None = ops op ≡ None
  At operations fine rows owner now ops views asked op (Some operation) = ((operation.doing ≡ ended) × (ops op ≡ None)) ⊎ Held operations fine rows owner now ops views asked op operation

  -- A loose request is one of the machine, of a fine operation whose owner has ended.
  pub record LooseAt (loose : List (ℕ × Request)) (fine : List (PlainRow T)) (rows : List (Row T)) (owner : ℕ → ℕ) (ops : ℕ → Option (layer.Operation T)) (asked : List (Asked T)) (op : ℕ) (request : Request) : Type 0 where
    pub place : ℕ
    pub n : ℕ
    pub there : numbered loose place ≡ Some (n, request)
    pub owned : owner n ≡ op
    pub gone : ops op ≡ None
    pub call : Call T
    pub inner : Inner T
    pub does : Does get_epoch fine rows asked n op call inner

module _ {T : Type 0} where
  -- The rows of both say the same, and tell the same ids.
  pub record Core (fine : List (PlainRow T)) (fine_failed : List ℕ) (rows : List (Row T)) (views : ℕ → Option (Used T)) (failed : List ℕ) (owner : ℕ → ℕ) : Type 0 where
    pub tied : Tied owner fine rows
    pub told : ToldBy fine rows
    pub seen : (number : ℕ) → ViewTold fine (views number)
    pub noted : (n : ℕ) → list_any (nat_eq n) fine_failed ≡ true → (was_begun fine n ≡ true) × (list_any (nat_eq (owner n)) failed ≡ true)

  -- What the world, the machine and the layer have in common, caches and operations aside.
  pub record Tie (s : State T) (fine : machine.State T) (l : Layer T) : Type 0 where
    pub clients : fine.clients ≡ s.clients
    pub page : fine.page ≡ s.page
    pub store : fine.store ≡ s.store
    pub rows : l.rows ≡ s.trace
    pub failed : l.failed ≡ s.failed
    pub views : (number : ℕ) → l.views number ≡ used_by s.views (Some number)
    pub count : l.count ≡ length s.views
    pub next : l.next ≡ length s.operations + 1

module _ {T : Type 0} (decode : List ℕ → Option T) (get_epoch : T → ℕ) where
  -- what the answer of a fine operation owes
  abbrev pub Owes : List (Row T) → List ℕ → ℕ → Call T → Inner T → PlainAnswer T → Type 0
  Owes rows failed op (any.Plain call) inner answer = history.AnswerFits decode get_epoch failed rows op (any.Plain call) (any_answers.Plain answer)
  Owes rows failed op (any.View call) inner answer = InsideFits decode failed rows op inner (inside answer)

  abbrev pub OwesFor : List (PlainRow T) → List (Row T) → List ℕ → ℕ → Call T → Inner T → Option (PlainAnswer T) → Type 0
  OwesFor fine rows failed op call inner None = Unit {0}
  OwesFor fine rows failed op call inner (Some answer) = Owes rows failed op call inner answer × AnswerTold fine answer

-- the views of the layer at some time before, of which so many were made
pub record Past (T : Type 0) : Type 0 where
  pub views : ℕ → Option (Used T)
  pub count : ℕ

module _ {T : Type 0} where
  -- from then on each view has gone on
  abbrev pub GoesFrom : Past T → (ℕ → Option (Used T)) → Type 0
  GoesFrom past views = (number : ℕ) → number ≤ past.count → GoesOn (past.views number) (views number)

module _ {T : Type 0} (decode : List ℕ → Option T) (get_epoch : T → ℕ) (set_epoch : T → ℕ → T) where
  -- What stands of a world, whose views have gone on from some time before, where the machine's caches are these: of the machine, of the layer, of what ties them, and the rest.
  pub record Standing (past : Past T) (s : State T) (kept : List Caches) (Rest : machine.State T → Layer T → (ℕ → ℕ) → (ℕ → ℕ) → Type 0) : Type 0 where
    pub fine : machine.State T
    pub l : Layer T
    pub owner : ℕ → ℕ
    pub now : ℕ → ℕ
    pub stands : machine_stands.Stands decode get_epoch fine
    pub over : layer_stands.Stands decode get_epoch set_epoch l
    pub tie : Tie s fine l
    pub goes : GoesFrom past l.views
    pub grown : past.count ≤ l.count
    pub caches : fine.caches ≡ kept
    pub core : Core fine.trace fine.failed l.rows l.views l.failed owner
    pub rest : Rest fine l owner now

  -- every operation, and what is loose
  pub record AllStand (s : State T) (fine : machine.State T) (l : Layer T) (owner now : ℕ → ℕ) : Type 0 where
    pub each : (op : ℕ) → At decode get_epoch fine.operations fine.trace l.rows owner now l.ops l.views l.asked op (numbered s.operations op)
    pub loose : (k op : ℕ) (request : Request) → numbered s.loose k ≡ Some (op, request) → LooseAt decode get_epoch fine.loose fine.trace l.rows owner l.ops l.asked op request

  abbrev pub Joined : Past T → State T → Type 0
  Joined past s = Standing past s s.caches (AllStand s)

  -- the same of all but one operation, which takes its turn
  pub record OthersStand (s : State T) (op : ℕ) (operation : Operation T) (call : Call T) (inner : Inner T) (fine : machine.State T) (l : Layer T) (owner now : ℕ → ℕ) : Type 0 where
    pub found : numbered s.operations op ≡ Some operation
    pub runs : l.ops op ≡ Some (as_laid operation.client call inner)
    pub view : operation.view ≡ view_used call
    pub claims : operation.claims ≡ is_claim_call call
    pub others : (o : ℕ) → o ≢ op → At decode get_epoch fine.operations fine.trace l.rows owner now l.ops l.views l.asked o (numbered s.operations o)
    pub loose : (k o : ℕ) (request : Request) → numbered s.loose k ≡ Some (o, request) → LooseAt decode get_epoch fine.loose fine.trace l.rows owner l.ops l.asked o request
    pub client : (0 < operation.client) × (operation.client ≤ fine.clients)

  -- While an operation takes its turn: the machine and the layer have gone on with its look or its store call, and its caches are as it leaves them.
  abbrev pub Open : Past T → State T → ℕ → Operation T → Call T → Inner T → List Caches → Type 0
  Open past s op operation call inner left = Standing past s left (OthersStand s op operation call inner)

  -- Its fine operation has gone on so.
  pub record Mid (before : Past T) (s : State T) (op : ℕ) (operation : Operation T) (call : Call T) (inner : Inner T) (after : plain.Next T) (left : List Caches) : Type 0 where
    pub opened : Open before s op operation call inner left
    pub there : numbered opened.fine.operations (opened.now op) ≡ Some (as_fine operation.client after.0)
    pub owned : opened.owner (opened.now op) ≡ op
    pub does : Does get_epoch opened.fine.trace opened.l.rows opened.l.asked (opened.now op) op call inner
    pub past : PastAt decode opened.owner opened.fine.trace op (opened.now op)
    pub owes : OwesFor decode get_epoch opened.fine.trace opened.l.rows opened.l.failed op call inner after.1
