-- The steps of the layer, and its runs.
use Rattle.std.specs.Prelude.{◌≡◌, ℕ, zero, suc, ◌+◌, ◌≤◌, ◌==◌, ◌⊎◌, if◌then◌else◌, List, [], ◌∷◌, ◌++◌, true, false, Option, Some, None, is_some}
use Rattle.txn_store.specs.declared.request.Request.{Request}
use Rattle.txn_history.specs.declared.event.PlainAnswer.{PlainAnswer}
use Rattle.txn_history.specs.declared.trace.RowOf.TheVariants.{Effect}
use Rattle.txn_history.specs.History.{created, raised, removed, has_id, versions_of, newest, boundary, was_erased, is_stored}
use Rattle.txn_history.specs.Facts.{greatest}
use Rattle.txn_history.specs.declared.event.Call.{Call}
use Rattle.txn_history.specs.declared.event.Call.TheVariants as any
use Rattle.txn_history.specs.declared.event.Answer.TheVariants as answers
use Rattle.txn_history.specs.Trace.{Row}
use Rattle.txn_history.specs.Calls.{view_used, is_holders}
use Rattle.txn_history.specs.Views.{ViewGoesOn}
use Rattle.txn_history.specs.OneHistory as history
use Rattle.txn_history.specs.OneHistory.{AnswerFits}
use Rattle.txn_history.specs.Effects.{Raises, Erases}
use Rattle.txn_machine.specs.views.Layer.{Used, Inner, Writes, Operation, Asked, Layer, Keeps, Closes, Next, Ends, look_up, local_of, starting, views_changed, set_at, turned, opened, with_row}
use Rattle.txn_machine.specs.views.Parts.{Inside, InsideFits, is_claim_call, taken, started, HasEpoch, OrLacking}

module _ {T : Type 0} where
  -- The view that a call uses is there, is the client's, is free, and is a holder exactly where the call is a holder's.
  pub record MayUse (s : Layer T) (client : ℕ) (call : Call T) (number : ℕ) : Type 0 where
    pub used : Used T
    pub there : s.views number ≡ Some used
    pub own : used.view.client ≡ client
    pub free : used.busy ≡ None
    pub kind : is_some used.view.epoch ≡ is_holders call

  abbrev pub Allowed : Layer T → ℕ → Call T → Option ℕ → Type 0
  Allowed s client call None = Unit {0}
  Allowed s client call (Some number) = MayUse s client call number

  abbrev pub IsAsked : Asked T → List (Asked T) → Type 0
  IsAsked write [] = ⊥
  IsAsked write (other ∷ rest) = (other ≡ write) ⊎ IsAsked write rest

  -- a write is what its operation does now, or its operation has ended
  abbrev pub IsDue : Asked T → Option (Operation T) → Type 0
  IsDue write None = Unit {0}
  IsDue write (Some o) = (epoch : ℕ) × (o.inner ≡ Writes write.base write.value epoch)

  -- The id was created before, was erased and is free, and the boundary has reached it.
  pub record WasRemoved (rows : List (Row T)) (id : ℕ) : Type 0 where
    pub again : has_id (versions_of rows) id ≡ true
    pub erased : was_erased rows id ≡ true
    pub free : is_stored rows id ≡ false
    pub below : id ≤ boundary rows

  -- an operation that runs, of a call of this kind
  pub record Running {C : Type 0} (kind : C → Call T) (s : Layer T) : Type 0 where
    pub op : ℕ
    pub client : ℕ
    pub call : C
    pub inner : Inner T
    pub runs : s.ops op ≡ Some (record { client = client; call = kind call; inner = inner })

  abbrev pub operation_of : {C : Type 0} {kind : C → Call T} {s : Layer T} → Running kind s → Operation T
  operation_of {C} {kind} of = record { client = of.client; call = kind of.call; inner = of.inner }

module _ {T : Type 0} (decode : List ℕ → Option T) (get_epoch : T → ℕ) (set_epoch : T → ℕ → T) where
  -- an operation begins, and does first what its call does
  pub record LayerBegins (s after : Layer T) : Type 0 where
    pub client : ℕ
    pub call : Call T
    pub allowed : Allowed s client call (view_used call)
    pub opens : history.Opens decode get_epoch s.rows s.next call
    pub next : Next T
    pub first : OrLacking call (started get_epoch set_epoch call (look_up s.views (view_used call))) next
    pub has : HasEpoch get_epoch next
    pub new : after ≡ turned (opened s client call) s.next (starting client call) next

  -- the write or the read of a call on views is answered, and the call goes on
  pub record Takes (s after : Layer T) : Type 0 where
    pub of : Running any.View s
    pub answer : Inside T
    pub fits : InsideFits decode s.failed s.rows of.op of.inner answer
    pub next : Next T
    pub makes : OrLacking (any.View of.call) (taken get_epoch set_epoch (any.View of.call) (local_of (look_up s.views (view_used (any.View of.call)))) of.inner answer) next
    pub has : HasEpoch get_epoch next
    pub new : after ≡ turned s of.op (operation_of of) next

  -- a call without a view is answered
  pub record Tells (s after : Layer T) : Type 0 where
    pub of : Running any.Plain s
    pub answer : PlainAnswer T
    pub fits : AnswerFits decode get_epoch s.failed s.rows of.op (any.Plain of.call) (answers.Plain answer)
    pub new : after ≡ turned s of.op (operation_of of) (Ends (answers.Plain answer) Keeps)

  -- a write takes effect: it is due, and it makes the next entry, or creates again what was removed
  pub record Creates (s after : Layer T) : Type 0 where
    pub write : Asked T
    pub asked : IsAsked write s.asked
    pub due : IsDue write (s.ops write.op)
    pub request : Request
    pub bytes : List ℕ
    pub creates : created request ≡ Some (write.base + 1, bytes)
    pub reads : decode bytes ≡ Some write.value
    pub place : (write.base ≡ newest s.rows) ⊎ WasRemoved s.rows (write.base + 1)
    pub new : after ≡ with_row s (Effect write.op request)

module _ {T : Type 0} where
  -- a request that has a number so takes effect: the rows allow its operation that number
  pub record Affects (number_in : Request → Option ℕ) (Allows : List (Row T) → ℕ → ℕ → Type 0) (s after : Layer T) : Type 0 where
    pub op : ℕ
    pub number : ℕ
    pub request : Request
    pub has : number_in request ≡ Some number
    pub allows : Allows s.rows op number
    pub new : after ≡ with_row s (Effect op request)

  -- the boundary goes up
  abbrev pub Advances : Layer T → Layer T → Type 0
  Advances = Affects raised (Raises any.Plain)

  -- a version goes
  abbrev pub Removes : Layer T → Layer T → Type 0
  Removes = Affects removed (Erases any.Plain)

  -- a give-up frees the view, or ends that of a claim
  pub record GivesUp (s after : Layer T) : Type 0 where
    pub op : ℕ
    pub o : Operation T
    pub runs : s.ops op ≡ Some o
    pub new : after ≡ record s { views = views_changed s o.call (if is_claim_call o.call then Closes else Keeps); ops = set_at s.ops op None }

  abbrev pub view_without : ℕ → Option (Used T) → Option (Used T)
  view_without client None = None
  view_without client (Some used) = if used.view.client == client then None else Some used

  abbrev pub op_without : ℕ → Option (Operation T) → Option (Operation T)
  op_without client None = None
  op_without client (Some o) = if o.client == client then None else Some o

  -- a crash ends the operations and the views of a client
  pub record Crashes (s after : Layer T) : Type 0 where
    pub client : ℕ
    pub new : after ≡ record s { views = λ number. view_without client (s.views number); ops = λ op. op_without client (s.ops op) }

  -- a store call of an operation failed
  pub record LayerFails (s after : Layer T) : Type 0 where
    pub op : ℕ
    pub new : after ≡ record s { failed = s.failed ++ op ∷ [] }

module _ {T : Type 0} (decode : List ℕ → Option T) (get_epoch : T → ℕ) (set_epoch : T → ℕ → T) where
  abbrev pub Steps : Layer T → Layer T → Type 0
  Steps s after =
      LayerBegins decode get_epoch set_epoch s after
      ⊎ Takes decode get_epoch set_epoch s after
      ⊎ Tells decode get_epoch set_epoch s after
      ⊎ Creates decode get_epoch set_epoch s after
      ⊎ Advances s after
      ⊎ Removes s after
      ⊎ GivesUp s after
      ⊎ Crashes s after
      ⊎ LayerFails s after

  abbrev pub Runs : ℕ → Layer T → Layer T → Type 0
  Runs zero s after = after ≡ s
  Runs (suc n) s after = (middle : Layer T) × Steps s middle × Runs n middle after

module _ {T : Type 0} where
  -- From step to step a view keeps its client, its id never falls, and a holder stays one of the same epoch; an ended one stays ended.
  abbrev pub GoesOn : Option (Used T) → Option (Used T) → Type 0
  GoesOn None new = new ≡ None
  GoesOn (Some old) None = Unit {0}
  GoesOn (Some old) (Some new) = ViewGoesOn old.view new.view

module _ {T : Type 0} where
  -- The view of this number is a holder of this epoch.
  pub record IsHeld (s : Layer T) (number epoch : ℕ) : Type 0 where
    pub used : Used T
    pub there : s.views number ≡ Some used
    pub holder : used.view.epoch ≡ Some epoch

module _ {T : Type 0} (decode : List ℕ → Option T) (get_epoch : T → ℕ) (set_epoch : T → ℕ → T) where
  -- A value can be made the first version, and claimed: there is an epoch above its own, and what is written is read back.
  pub record Makeable (value : T) : Type 0 where
    pub first : Request
    pub bytes : List ℕ
    pub creates : created first ≡ Some (1, bytes)
    pub reads : decode bytes ≡ Some value
    pub room : (get_epoch value == greatest) ≡ false
    pub second : Request
    pub more : List ℕ
    pub creates_more : created second ≡ Some (2, more)
    pub reads_more : decode more ≡ Some (set_epoch value (get_epoch value + 1))
    pub reads_back : get_epoch (set_epoch value (get_epoch value + 1)) ≡ get_epoch value + 1
