-- A write of a version, step by step.
use Rattle.std.proofs.Common.{◌≡◌, ◌⊎◌, ℕ, ◌<◌, List, Option, Some, None, IsSome, Result, Ok, Err, refl, sym, ap, subst, ◌∙◌, inl, inr, arith}
use Rattle.std.specs.FinMap as map
use Rattle.txn_store.specs.Paths.{Segments}
use Rattle.txn_store.specs.Store.{State, Kept, Counted, TookPut, create_fault, Puts as StorePuts}
use Rattle.txn_store.specs.declared.store.Got.{Got}
use Rattle.txn_store.specs.declared.store.PutMode.TheVariants.{Create}
use Rattle.txn_store.specs.declared.store.StoreError.{StoreError}
use Rattle.txn_store.specs.declared.store.StoreError.TheVariants as errors
use Rattle.txn_store.specs.declared.request.Request.{Request}
use Rattle.txn_store.specs.declared.request.Reply.{Reply}
use Rattle.txn_store.specs.declared.request.Reply.TheVariants as replies
use Rattle.txn_store.specs.types.Errors.{error_of_store}
use Rattle.txn_store.specs.declared.types.error.TransactionalObjectError.{TransactionalObjectError}
use Rattle.txn_store.specs.declared.types.error.TransactionalObjectError.TheVariants as kinds
use Rattle.txn_steps.specs.declared.boundary.caches.Cached.{Cached}
use Rattle.txn_steps.specs.declared.boundary.turned.Turned.{Turned}
use Rattle.txn_steps.specs.declared.boundary.turned.Turned.TheVariants.{Goes, Done}
use Rattle.txn_steps.specs.boundary.Asking.{reply_told}
use Rattle.txn_steps.specs.boundary.Windows.{kept}
use Rattle.txn_steps.specs.boundary.Steps.{turned_by_number, error_in, TellsErrorOf}
use Rattle.txn_steps.specs.declared.write.WriteUncheckedOp.{WriteUncheckedOp}
use Rattle.txn_steps.specs.declared.write.WriteUncheckedOp.TheVariants.{Puts, Keeps, Ended}
use Rattle.txn_steps.specs.Writes.{unchecked_asked, unchecked_turned, unchecked_latest, put_answered, unchecked_kept}
use Rattle.txn_steps_driven.specs.Asked.{Replies}
use Rattle.txn_steps_driven.specs.Calls.{Spends}
use Rattle.txn_steps_driven.specs.WriteRuns.{Creates, WriteEnds, WriteRuns, write_rank, IsWriteStep}
use Rattle.txn_steps_driven.proofs.Refusals.{error_is, goes, answers, refuses, tells_store}

-- what it tells of the store's refusal of its put
abbrev put_error : StoreError → TransactionalObjectError
put_error errors.AlreadyExists = kinds.ObjectVersionExists
put_error e = error_of_store e

-- a create is refused only where a file stands
none_at : (now : Option Got) → create_fault now ≡ None → now ≡ None
none_at None is = refl
none_at (Some got) is = absurd (cc)

some_at : (now : Option Got) → create_fault now ≡ Some errors.AlreadyExists → IsSome now
some_at None is = absurd (cc)
some_at (Some got) is = refl

only_exists : (now : Option Got) (e : StoreError) → create_fault now ≡ Some e → e ≡ errors.AlreadyExists
only_exists None e is = absurd (cc)
only_exists (Some got) e is = cc

module _ (path : Segments) (bytes : List ℕ) (id base : ℕ) (old new : State) (latest : List Cached) where
  created : (token : ℕ) → StorePuts path bytes Create old (Ok token) new → Creates path bytes old new
  created token puts = record { free = none_at (map.get old.files path) puts.allowed; token = token; placed = puts.placed }

  took : TookPut path bytes Create old new → Creates path bytes old new
  took put = record { free = none_at (map.get old.files path) put.allowed; token = put.token; placed = put.placed }

  kept_spends : Counted old new → Kept old new → Spends 1 1 old new
  kept_spends counted kept =
      let calls = counted.calls in
      let left = kept.left in
      record { calls_rise = omega (arith, calls); calls_most = omega (arith, calls); failures_rise = counted.failures; left_falls = omega (arith, left); left_least = omega (arith, left) }

  created_spends : Counted old new → Creates path bytes old new → Spends 1 1 old new
  created_spends counted creates =
      let calls = counted.calls in
      let left = creates.placed.left in
      record { calls_rise = omega (arith, calls); calls_most = omega (arith, calls); failures_rise = counted.failures; left_falls = omega (arith, left); left_least = omega (arith, left) }

  -- after a put that was refused
  refused : (e : StoreError) → StorePuts path bytes Create old (Err e) new → WriteEnds path bytes id base old new latest latest (Err (put_error e))
  refused errors.AlreadyExists puts = record { leaves = (puts.err.1, refl); name = some_at (map.get old.files path) puts.err.0; spends = kept_spends puts.counted puts.err.1; cause = tt }
  refused errors.Failed puts =
      let effect : Kept old new ⊎ Creates path bytes old new = elim puts.err.1 [ inl kept ↦ inl kept | inr put ↦ inr (took put) ] in
      record { leaves = (effect, refl); name = tt; spends = elim effect [ inl kept ↦ kept_spends puts.counted kept | inr creates ↦ created_spends puts.counted creates ]; cause = puts.err.0 }
  refused errors.NoMemory puts = record { leaves = (puts.err.1, refl); name = tt; spends = kept_spends puts.counted puts.err.1; cause = tt }
  refused errors.TokensExhausted puts =
      let none : new.left ≡ 0 = puts.err.2.left ∙ puts.err.1 in
      record { leaves = (puts.err.2, refl); name = none_at (map.get old.files path) puts.err.0; spends = kept_spends puts.counted puts.err.2; cause = none }
  refused errors.NotFound puts = absurd (let is = only_exists (map.get old.files path) errors.NotFound puts.err.0 in cc)
  refused errors.Precondition puts = absurd (let is = only_exists (map.get old.files path) errors.Precondition puts.err.0 in cc)
  refused errors.NotModified puts = absurd (let is = only_exists (map.get old.files path) errors.NotModified puts.err.0 in cc)

-- it goes on with less to do, or has ended
abbrev pub WriteGoes : Segments → List ℕ → ℕ → ℕ → State → State → List Cached → List Cached → WriteUncheckedOp → WriteUncheckedOp → Turned (Result ℕ TransactionalObjectError) → Type 0
WriteGoes path bytes id base old new latest latest' op op' Goes = WriteRuns path bytes id old new latest latest' op' × (write_rank op' < write_rank op)
WriteGoes path bytes id base old new latest latest' op op' (Done result) = WriteEnds path bytes id base old new latest latest' result

-- the refusal that is told
refusal_told : (op op' : WriteUncheckedOp) (e : StoreError) (told : Turned (Result ℕ TransactionalObjectError)) → (op', turned_by_number told) ≡ put_answered op (Err e) → TellsErrorOf (Some e) told → told ≡ Done (Err (put_error e))
refusal_told op op' errors.AlreadyExists told turned own = let r = refuses told 5 (ap (λ p. p.1) turned) in r.1 ∙ ap (λ (k : TransactionalObjectError). Done (Err k)) (error_is kinds.ObjectVersionExists r.0 tt r.2)
refusal_told op op' errors.NotFound told turned own = tells_store told errors.NotFound (ap (λ p. p.1) turned) own
refusal_told op op' errors.Precondition told turned own = tells_store told errors.Precondition (ap (λ p. p.1) turned) own
refusal_told op op' errors.NotModified told turned own = tells_store told errors.NotModified (ap (λ p. p.1) turned) own
refusal_told op op' errors.Failed told turned own = tells_store told errors.Failed (ap (λ p. p.1) turned) own
refusal_told op op' errors.NoMemory told turned own = tells_store told errors.NoMemory (ap (λ p. p.1) turned) own
refusal_told op op' errors.TokensExhausted told turned own = tells_store told errors.TokensExhausted (ap (λ p. p.1) turned) own

module _ (path : Segments) (bytes : List ℕ) (id base : ℕ) (old new : State) (latest : List Cached) where
  -- after its put
  after_put : (version : Cached) (request : Request) (op' : WriteUncheckedOp) (told : Turned (Result ℕ TransactionalObjectError)) (answer : Result ℕ StoreError)
      → version ≡ record { id = id; bytes = bytes } → StorePuts path bytes Create old answer new
      → (op', turned_by_number told) ≡ put_answered (Puts version request) answer → TellsErrorOf (error_in answer) told
      → WriteGoes path bytes id base old new latest latest (Puts version request) op' told
  after_put version request op' told (Ok token) is puts turned own =
      let creates = created path bytes id base old new latest token puts in
      let next : op' ≡ Keeps version = ap (λ p. p.0) turned in
      subst (WriteGoes path bytes id base old new latest latest (Puts version request) op') (sym (goes told (ap (λ p. p.1) turned)))
      (subst (λ (op : WriteUncheckedOp). WriteRuns path bytes id old new latest latest op × (write_rank op < 2)) (sym next)
      ((is, creates, created_spends path bytes id base old new latest puts.counted creates, refl), omega arith))
  after_put version request op' told (Err e) is puts turned own =
      subst (WriteGoes path bytes id base old new latest latest (Puts version request) op') (sym (refusal_told (Puts version request) op' e told turned own)) (refused path bytes id base old new latest e puts)

  -- after its look
  after_look : (mid : State) (held latest' : List Cached) (version : Cached) (op' : WriteUncheckedOp) (told : Turned (Result ℕ TransactionalObjectError))
      → WriteRuns path bytes id old mid latest held (Keeps version) → new ≡ mid → (op', turned_by_number told) ≡ unchecked_kept (Keeps version) → latest' ≡ kept version held
      → WriteGoes path bytes id base old new latest latest' (Keeps version) op' told
  after_look mid held latest' version op' told (is, creates, spends, same) looked turned keeps =
      let number : version.id ≡ id = ap (λ (v : Cached). v.id) is in
      let window : latest' ≡ kept (record { id = id; bytes = bytes }) latest = keeps ∙ (ap (λ (v : Cached). kept v held) is ∙ ap (kept (record { id = id; bytes = bytes })) same) in
      subst (WriteGoes path bytes id base old new latest latest' (Keeps version) op') (sym (answers told version.id (ap (λ p. p.1) turned)))
      (record {
        leaves = (number, subst (λ (s : State). Creates path bytes old s) (sym looked) creates, window);
        name = creates.free;
        spends = subst (λ (s : State). Spends 1 1 old s) (sym looked) spends;
        cause = tt;
      })

  -- one step of a write that runs
  goes_by : (mid : State) (held latest' : List Cached) (op op' : WriteUncheckedOp) (reply : Option Reply) (told : Turned (Result ℕ TransactionalObjectError))
      → WriteRuns path bytes id old mid latest held op → Replies (unchecked_asked op) mid reply new → (op', turned_by_number told) ≡ unchecked_turned op reply → latest' ≡ unchecked_latest op held → TellsErrorOf (reply_told reply) told
      → WriteGoes path bytes id base old new latest latest' op op' told
  goes_by mid held latest' (Puts version request) op' (Some (replies.Put answer)) told (is, asks, same, window) served turned holds own =
      let puts : StorePuts path bytes Create mid answer new = rw asks at served in
      subst (λ (w : List Cached). WriteGoes path bytes id base old new latest w (Puts version request) op' told) (sym (holds ∙ window))
      (after_put version request op' told answer is (subst (λ (s : State). StorePuts path bytes Create s answer new) same puts) turned own)
  goes_by mid held latest' (Puts version request) op' None told runs served turned holds own = absurd served
  goes_by mid held latest' (Puts version request) op' (Some reply) told runs served turned holds own = absurd (rw runs.1 at served)
  goes_by mid held latest' (Keeps version) op' None told runs served turned holds own = after_look mid held latest' version op' told runs served turned holds
  goes_by mid held latest' (Keeps version) op' (Some reply) told runs served turned holds own = absurd served
  goes_by mid held latest' Ended op' reply told runs served turned holds own = absurd runs

  pub write_goes : (mid : State) (held latest' : List Cached) (op op' : WriteUncheckedOp) (told : Turned (Result ℕ TransactionalObjectError))
      → WriteRuns path bytes id old mid latest held op → IsWriteStep mid new held latest' op op' told → WriteGoes path bytes id base old new latest latest' op op' told
  write_goes mid held latest' op op' told runs step = goes_by mid held latest' op op' step.reply told runs step.replies step.turned step.held step.error
