-- A client's journal: where it leads, and what it leaves. Rows stand newest first.
use Rattle.std.specs.Prelude.{◌≡◌, ◌≤◌, ℕ, List, [], ◌∷◌, ◌==◌, Bool, true, false, if◌then◌else◌, Option, Some, None, length, map}
use Rattle.txn_store.specs.declared.request.Request.{Request}
use Rattle.txn_store.specs.declared.request.Reply.{Reply}
use Rattle.txn_history.specs.Lists.{numbered}
use Rattle.txn_history.specs.Seen.{Ask, Store, Look}
use Rattle.txn_history.specs.GoesOn.{may_be_loose, all_left_loose}
use Rattle.txn_history.specs.declared.event.Call.{Call}
use Rattle.txn_history.specs.declared.event.Answer.{Answer}
use Rattle.txn_history.specs.Calls.{view_used}
use Rattle.txn_machine.specs.declared.doing.Operation.{Operation}
use Rattle.txn_machine.specs.Doing.{Next, refused, asked, started, ReadsBack, FitsWord, IsMadeSo, Turns}
use Rattle.txn_machine.specs.Machine.{seen_operations, seen_view, used_by, answered}
use Rattle.txn_client_journals.specs.declared.rows.Act.{Act}
use Rattle.txn_client_journals.specs.declared.rows.Act.TheVariants as acts
use Rattle.txn_client_journals.specs.declared.rows.Left.{Left}
use Rattle.txn_client_journals.specs.declared.rows.Step.{Step}
use Rattle.txn_client_journals.specs.declared.rows.Step.TheVariants as steps
use Rattle.txn_client_journals.specs.declared.rows.JournalRow.{JournalRow}
use Rattle.txn_client_journals.specs.Parts.{Part, no_part, client_begin_fault, begun, answer_in, turned_with, turned, given_up, killed}

-- an operation's number, and the request that it left
abbrev pub as_pair : Left → ℕ × Request
as_pair left = (left.op, left.request)

module _ {T : Type 0} where
  -- An operation is given up, and leaves what it asked for, if this is a put or a delete.
  pub record GivesUp (old : Part T) (op : ℕ) (left : Option Request) (answer : Option (Answer T)) (new : Part T) : Type 0 where
    pub operation : Operation T
    pub ask : Ask
    pub found : numbered old.operations op ≡ Some operation
    pub asks : asked operation.doing ≡ Some ask
    pub leaves : left ≡ may_be_loose ask
    pub tells : answer ≡ None
    pub part : new ≡ given_up old op operation

  -- A client is killed, and leaves the puts and deletes that its operations asked for.
  pub record IsKilled (client : ℕ) (old : Part T) (lefts : List Left) (answer : Option (Answer T)) (new : Part T) : Type 0 where
    pub some : 1 ≤ client
    pub leaves : map as_pair lefts ≡ all_left_loose client 1 (seen_operations old.operations)
    pub tells : answer ≡ None
    pub part : new ≡ killed client old

module _ {T : Type 0} (get_epoch : T → ℕ) where
  -- The store call of an operation failed, with no word whether it took effect: the operation ends refused, and the caches stay.
  pub record FailsAt (old : Part T) (op : ℕ) (request : Request) (answer : Option (Answer T)) (new : Part T) : Type 0 where
    pub operation : Operation T
    pub found : numbered old.operations op ≡ Some operation
    pub asks : asked operation.doing ≡ Some (Store request)
    pub tells : answer ≡ answer_in old operation (refused 2)
    pub part : new ≡ turned_with get_epoch old op operation (refused 2) old.caches

  -- The store call of an operation was refused for memory before it reached the store: the operation ends refused, and the caches stay.
  pub record LacksAt (old : Part T) (op : ℕ) (answer : Option (Answer T)) (new : Part T) : Type 0 where
    pub operation : Operation T
    pub request : Request
    pub found : numbered old.operations op ≡ Some operation
    pub asks : asked operation.doing ≡ Some (Store request)
    pub tells : answer ≡ answer_in old operation (refused 9)
    pub part : new ≡ turned_with get_epoch old op operation (refused 9) old.caches

module _ {T : Type 0} (page : ℕ) (encode : T → List ℕ) (decode : List ℕ → Option T) (get_epoch : T → ℕ) (set_epoch : T → ℕ → T) where
  -- A call begins, which the client permits.
  pub record BeginsCall (client : ℕ) (old : Part T) (call : Call T) (answer : Option (Answer T)) (new : Part T) : Type 0 where
    pub permits : client_begin_fault get_epoch client old call ≡ None
    pub reads_back : ReadsBack encode decode call
    pub word : FitsWord call
    pub next : Next T
    pub starts : next ≡ started page encode get_epoch set_epoch call (seen_view (used_by old.views (view_used call)))
    pub made : IsMadeSo encode decode get_epoch next.0
    pub tells : answer ≡ answered (length old.views) (view_used call) next.1
    pub part : new ≡ begun get_epoch client old call next

  -- An operation that asks for this takes its turn: a look, or the store's reply.
  pub record TakesTurn (old : Part T) (op : ℕ) (ask : Ask) (reply : Option Reply) (answer : Option (Answer T)) (new : Part T) : Type 0 where
    pub operation : Operation T
    pub found : numbered old.operations op ≡ Some operation
    pub asks : asked operation.doing ≡ Some ask
    pub next : Next T
    pub turns : Turns page encode decode get_epoch set_epoch operation.doing old.caches reply next
    pub tells : answer ≡ answer_in old operation next
    pub part : new ≡ turned get_epoch old op operation next

  -- a step, with the answer that it tells, leads from one part to another
  abbrev pub Follows : ℕ → Part T → Step T → Option (Answer T) → Part T → Type 0
  Follows client old (steps.Begin call) answer new = BeginsCall client old call answer new
  Follows client old (steps.Act op acts.Look) answer new = TakesTurn old op Look None answer new
  Follows client old (steps.Act op (acts.Receive receipt)) answer new = TakesTurn old op (Store receipt.request) (Some receipt.reply) answer new
  Follows client old (steps.Act op acts.Lacks) answer new = LacksAt get_epoch old op answer new
  Follows client old (steps.Act op (acts.GiveUp left)) answer new = GivesUp old op left answer new
  Follows client old (steps.Act op (acts.Fails request)) answer new = FailsAt get_epoch old op request answer new
  Follows client old (steps.Killed lefts) answer new = IsKilled client old lefts.items answer new

module _ {T : Type 0} where
  -- a step after which the client does more
  abbrev pub goes_on : Step T → Bool
  goes_on (steps.Killed lefts) = false
  goes_on _ = true

  -- the client was not killed
  abbrev pub Lives : List (JournalRow T) → Type 0
  Lives [] = Unit {0}
  Lives (row ∷ rows) = goes_on row.step ≡ true

module _ {T : Type 0} (page : ℕ) (encode : T → List ℕ) (decode : List ℕ → Option T) (get_epoch : T → ℕ) (set_epoch : T → ℕ → T) where
  -- A journal leads here from a client that has done nothing. Nothing comes after a kill.
  abbrev pub Replays : ℕ → List (JournalRow T) → Part T → Type 0
  Replays client [] part = part ≡ no_part
  Replays client (row ∷ rows) part = (before : Part T) × Replays client rows before × Follows page encode decode get_epoch set_epoch client before row.step row.answer part × Lives rows

-- What a journal leaves: the puts and deletes that may still reach the store, though their operations have ended.

-- the put or delete that an act leaves
abbrev pub left_by : Act → Option Request
left_by (acts.GiveUp left) = left
left_by (acts.Fails request) = may_be_loose (Store request)
left_by _ = None

-- what is left where it is this operation's, else what was left before
abbrev pub left_now : Bool → Option Request → Option Request → Option Request
left_now is None rest = rest
left_now is (Some request) rest = if is then Some request else rest

-- what this operation left of all that a kill left, else what it left before
abbrev pub left_among : ℕ → List Left → Option Request → Option Request
left_among op [] rest = rest
left_among op (left ∷ lefts) rest = if left.op == op then Some left.request else left_among op lefts rest

module _ {T : Type 0} where
  -- what this operation left by a step, else what it left before
  abbrev pub left_in : ℕ → Step T → Option Request → Option Request
  left_in op (steps.Begin call) rest = rest
  left_in op (steps.Act o act) rest = left_now (o == op) (left_by act) rest
  left_in op (steps.Killed lefts) rest = left_among op lefts.items rest

  -- the request of this operation that its client's journal left
  abbrev pub left_of : ℕ → List (JournalRow T) → Option Request
  left_of op [] = None
  left_of op (row ∷ rows) = left_in op row.step (left_of op rows)
