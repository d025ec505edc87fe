-- An advance of the boundary: a step with its error named, and the loop.
use Rattle.std.proofs.Common.{◌≡◌, ◌⊎◌, ℕ, ◌+◌, ◌*◌, ◌<◌, ◌≤◌, max, Bool, true, false, Option, Some, Result, Ok, Err, OnOk, IfErr, IsErrOf, Contains, refl, sym, subst, ◌∙◌, inl, inr, arith}
use Rattle.std.specs.Fmt.{decimal}
use Rattle.txn_store.specs.Paths.{Segments}
use Rattle.txn_store.specs.Store.{State, Kept}
use Rattle.txn_store.specs.declared.store.StoreError.{StoreError}
use Rattle.txn_store.specs.declared.request.Reply.{Reply}
use Rattle.txn_store.specs.types.BoundaryText.{boundary_read}
use Rattle.txn_store.specs.types.Errors.{error_number}
use Rattle.txn_store.specs.declared.types.error.TransactionalObjectError.{TransactionalObjectError}
use Rattle.txn_store.specs.declared.types.error.TransactionalObjectError.TheVariants as kinds
use Rattle.txn_steps.specs.declared.boundary.caches.CachedBoundary.{CachedBoundary}
use Rattle.txn_steps.specs.declared.boundary.advance.BoundaryAdvance.{BoundaryAdvance}
use Rattle.txn_steps.specs.declared.boundary.advance.BoundaryAdvance.TheVariants.{Looks, Reads, Puts, Keeps}
use Rattle.txn_steps.specs.declared.boundary.turned.Turned.{Turned}
use Rattle.txn_steps.specs.declared.boundary.turned.Turned.TheVariants.{Goes, Done}
use Rattle.txn_steps.specs.boundary.Asking.{reply_told, unless_lacking}
use Rattle.txn_steps.specs.boundary.Steps.{turned_by_number, IsErrorOf, TellsErrorOf}
use Rattle.txn_steps.specs.boundary.Boundaries.{refused_by}
use Rattle.txn_steps.specs.boundary.BoundaryAdvances.{asks_put, boundary_advance_asked, boundary_advance_turned, boundary_advance_cached, IsBoundaryAdvanceReply}
use Rattle.txn_steps_driven.specs.Asked.{Replies}
use Rattle.txn_steps_driven.specs.Calls.{one_if, HasStoreCause, HasCauseOfAdvance}
use Rattle.txn_steps_driven.specs.Standing.{BoundaryStands}
use Rattle.txn_steps_driven.specs.AdvanceRuns.{advance_steps, advance_calls, advance_tokens, AdvanceFormed, FirstOrCurrent, AdvanceHolds, Moves, AdvanceSteps, AdvanceKeeps, IsAdvanceStep, AdvanceRunning}
use Rattle.txn_steps_driven.specs.Checking.{Unbounded, number_of}
use Rattle.txn_steps_driven.specs.Advancing.{Advanced, Written}
use Rattle.txn_steps_driven.proofs.BoundarySteps.{HasCauseAt, kept_on, read_rises, greater_rises, target_is}
use Rattle.txn_steps_driven.proofs.CheckSteps.{store_cause_on}
use Rattle.txn_steps_driven.proofs.AdvanceSteps.{Numbered, NumberedKeeps, one}

none_at : (told : Option StoreError) (old new : State) (number : ℕ) → HasCauseAt told old new number → (number ≡ 2 → ⊥) → (number ≡ 7 → ⊥) → (number ≡ 9 → ⊥) → ⊥
none_at told old new number (inl (two, why)) a b c = a two
none_at told old new number (inr (inl seven)) a b c = b seven
none_at told old new number (inr (inr nine)) a b c = c nine

-- the cause of an error, by its number and by the store's error that it holds
cause_of : (told : Option StoreError) (old new : State) (error : TransactionalObjectError) → IsErrorOf told error → HasCauseAt told old new (error_number error) → HasCauseOfAdvance (Unit {0}) 1 old new error
cause_of told old new kinds.InvalidObjectState is cause = tt
cause_of told old new kinds.NoMemory is cause = tt
cause_of told old new (kinds.ObjectStoreError error) is cause = by_cause cause
  where
    by_cause : HasCauseAt told old new 2 → HasStoreCause old new error
    by_cause (inl (two, why)) = why error is
    by_cause (inr (inl seven)) = absurd (omega (arith, seven))
    by_cause (inr (inr nine)) = absurd (omega (arith, nine))
cause_of told old new error is cause = absurd (none_at told old new (error_number error) cause (λ e. omega (arith, e)) (λ e. omega (arith, e)) (λ e. omega (arith, e)))

-- a cause of the last step is one of the whole call
cause_on : (unheld : Type 0) (left : ℕ) (old mid new : State) (error : TransactionalObjectError) → old.failures ≤ mid.failures → (error_number error ≡ 7 → unheld) → HasCauseOfAdvance (Unit {0}) 1 mid new error → HasCauseOfAdvance unheld left old new error
cause_on unheld left old mid new kinds.InvalidObjectState rise seven cause = seven refl
cause_on unheld left old mid new kinds.NoMemory rise seven cause = tt
cause_on unheld left old mid new (kinds.ObjectStoreError error) rise seven cause = store_cause_on old mid new error rise cause
cause_on unheld left old mid new kinds.TurnsExhausted rise seven cause = absurd (omega (arith, cause))
cause_on unheld left old mid new error rise seven cause = cause

tokens_most : (op : BoundaryAdvance) → advance_tokens op ≤ 1
tokens_most (Looks target) = omega arith
tokens_most (Reads target again r) = omega arith
tokens_most (Puts target request) = omega arith
tokens_most (Keeps target tk) = omega arith

module _ (path : Segments) (goal : ℕ) (cached : Option CachedBoundary) (store : State) (b spent : ℕ) where
  stands_at : (op : BoundaryAdvance) → AdvanceFormed path goal cached store op → AdvanceHolds path cached store b spent op → BoundaryStands path cached store b ⊎ BoundaryStands path cached store (max b goal)
  stands_at (Looks target) is at = inl at.0
  stands_at (Reads target true r) is at = inl at.0
  stands_at (Reads target false r) is at = inl at.0
  stands_at (Puts target request) is at = inl at.0
  stands_at (Keeps target tk) is (stands, le, at, twice) = inr (subst (BoundaryStands path cached store) (is ∙ sym (target_is b goal (omega (arith, le, is)))) stands)

  once : FirstOrCurrent path cached store b spent → spent ≤ 1
  once (inl none) = omega (arith, none)
  once (inr (one, at)) = omega (arith, one)

  twice_at : (op : BoundaryAdvance) → AdvanceHolds path cached store b spent op → spent ≤ 2
  twice_at (Looks target) at = let few = once at.1 in omega (arith, few)
  twice_at (Reads target true r) at = let few = at.2 in omega (arith, few)
  twice_at (Reads target false r) at = let few = at.2 in omega (arith, few)
  twice_at (Puts target request) at = let few = once at.1 in omega (arith, few)
  twice_at (Keeps target tk) at = at.3

module _ (path : Segments) (goal : ℕ) (old new : State) (cached cached' : Option CachedBoundary) where
  module _ (told : Option StoreError) (op : BoundaryAdvance) where
    calls_of : (x : BoundaryAdvance × Turned (Result (Unit {0}) ℕ)) → Numbered path goal old new cached cached' told op x → new.calls ≤ old.calls + advance_calls cached op + 2 * one_if (asks_put op)
    calls_of (s, Goes) steps = let c = steps.2 in omega (arith, c)
    calls_of (s, Done (Ok done)) steps = steps.0
    calls_of (s, Done (Err number)) steps = steps.0

    tokens_of : (x : BoundaryAdvance × Turned (Result (Unit {0}) ℕ)) → Numbered path goal old new cached cached' told op x → old.left + advance_tokens op ≤ new.left + 1
    tokens_of (s, Goes) steps = let l = steps.3 in let most = tokens_most s in omega (arith, l, most)
    tokens_of (s, Done (Ok done)) steps = steps.1
    tokens_of (s, Done (Err number)) steps = steps.1

    stands_of : (b spent : ℕ) (x : BoundaryAdvance × Turned (Result (Unit {0}) ℕ)) → Numbered path goal old new cached cached' told op x → NumberedKeeps path goal old new cached' b spent x → BoundaryStands path cached' new b ⊎ BoundaryStands path cached' new (max b goal)
    stands_of b spent (s, Goes) steps at = stands_at path goal cached' new b spent s steps.0 at
    stands_of b spent (s, Done (Ok done)) steps at = inr at.0
    stands_of b spent (s, Done (Err number)) steps at = at.0

    twice_of : (b spent : ℕ) (x : BoundaryAdvance × Turned (Result (Unit {0}) ℕ)) → NumberedKeeps path goal old new cached' b spent x → spent ≤ 2
    twice_of b spent (s, Goes) at = twice_at path goal cached' new b spent s at
    twice_of b spent (s, Done (Ok done)) at = at.1
    twice_of b spent (s, Done (Err number)) at = at.2

    -- a growth that is refused ends it where it is
    lacking_steps : (lacks : Bool) (x : BoundaryAdvance × Turned (Result (Unit {0}) ℕ)) → Numbered path goal old new cached cached' told op x → Numbered path goal old new cached cached' told op (unless_lacking lacks op x)
    lacking_steps true x steps = (calls_of x steps, tokens_of x steps, inr (inr refl))
    lacking_steps false x steps = steps

    lacking_keeps : (lacks : Bool) (b spent : ℕ) (x : BoundaryAdvance × Turned (Result (Unit {0}) ℕ)) → Numbered path goal old new cached cached' told op x → NumberedKeeps path goal old new cached' b spent x → NumberedKeeps path goal old new cached' b spent (unless_lacking lacks op x)
    lacking_keeps true b spent x steps keeps = (stands_of b spent x steps keeps, (λ e. cc), twice_of b spent x keeps)
    lacking_keeps false b spent x steps keeps = keeps

  named_steps : (error : Option StoreError) (op op' : BoundaryAdvance) (told : Turned (Result (Unit {0}) TransactionalObjectError)) → TellsErrorOf error told → Numbered path goal old new cached cached' error op (op', turned_by_number told) → AdvanceSteps path goal cached cached' old new op op' told
  named_steps error op op' Goes tells steps = steps
  named_steps error op op' (Done (Ok done)) tells steps = steps
  named_steps error op op' (Done (Err e)) tells steps = (steps.0, steps.1, cause_of error old new e tells steps.2)

  named_keeps : (b spent : ℕ) (op' : BoundaryAdvance) (told : Turned (Result (Unit {0}) TransactionalObjectError)) → NumberedKeeps path goal old new cached' b spent (op', turned_by_number told) → AdvanceKeeps path goal cached' new b spent op' told
  named_keeps b spent op' Goes keeps = keeps
  named_keeps b spent op' (Done (Ok done)) keeps = keeps
  named_keeps b spent op' (Done (Err e)) keeps = keeps

-- a step never lowers the cached boundary
advance_rises : (op : BoundaryAdvance) (cached : Option CachedBoundary) → number_of cached ≤ number_of (boundary_advance_cached op cached)
advance_rises (Looks target) cached = omega arith
advance_rises (Reads target again r) cached = read_rises r cached
advance_rises (Puts target request) cached = omega arith
advance_rises (Keeps target tk) cached = (greater_rises cached (record { number = target; token = tk })).0

-- one step
module _ (path : Segments) (goal : ℕ) (old new : State) (reads : boundary_read (decimal goal) ≡ Some goal) (op op' : BoundaryAdvance) (cached : Option CachedBoundary) (reply : Option Reply) where
  pub advance_asked : AdvanceFormed path goal cached old op → Replies (boundary_advance_asked op) old reply new → IsBoundaryAdvanceReply op reply
  advance_asked formed served = (one path goal old new reads op cached reply formed served).asked

  abbrev cached_after : Option CachedBoundary
  cached_after = boundary_advance_cached op cached

  step_after : (told : Turned (Result (Unit {0}) TransactionalObjectError)) (lacks : Bool) → AdvanceFormed path goal cached old op → Replies (boundary_advance_asked op) old reply new
      → (op', turned_by_number told) ≡ unless_lacking lacks op (boundary_advance_turned path op cached reply) → TellsErrorOf (reply_told reply) told → IsAdvanceStep path goal old new cached cached_after op op' told
  step_after told lacks formed served turned tells =
      let s = one path goal old new reads op cached reply formed served in
      record {
        moves = s.moves;
        unput = s.unput;
        written = s.written;
        rises = advance_rises op cached;
        steps = named_steps path goal old new cached cached_after (reply_told reply) op op' told tells
            (subst (Numbered path goal old new cached cached_after (reply_told reply) op) (sym turned) (lacking_steps path goal old new cached cached_after (reply_told reply) op lacks _ s.steps));
        holds = λ b spent at. named_keeps path goal old new cached cached_after b _ op' told
            (subst (NumberedKeeps path goal old new cached_after b (spent + one_if (asks_put op))) (sym turned) (lacking_keeps path goal old new cached cached_after (reply_told reply) op lacks b _ _ s.steps (s.keeps b spent _ refl at)));
      }

  pub advance_step : (cached' : Option CachedBoundary) (told : Turned (Result (Unit {0}) TransactionalObjectError)) (lacks : Bool) → AdvanceFormed path goal cached old op → Replies (boundary_advance_asked op) old reply new
      → (op', turned_by_number told) ≡ unless_lacking lacks op (boundary_advance_turned path op cached reply) → cached' ≡ cached_after → TellsErrorOf (reply_told reply) told → IsAdvanceStep path goal old new cached cached' op op' told
  advance_step cached' told lacks formed served turned cached_is tells = subst (λ k. IsAdvanceStep path goal old new cached k op op' told) (sym cached_is) (step_after told lacks formed served turned tells)

moves_on : (path : Segments) (a b c : State) → Moves path a b → Moves path b c → Moves path a c
moves_on path a b c first second =
    let f = first.calls_rise in
    let s = second.calls_rise in
    let g = first.failures_rise in
    let t = second.failures_rise in
    let l = first.left_falls in
    let m = second.left_falls in
    record {
      others = λ other apart. second.others other apart ∙ first.others other apart;
      given = λ t g. second.given t (first.given t g);
      calls_rise = omega (arith, f, s);
      failures_rise = omega (arith, g, t);
      left_falls = omega (arith, l, m);
    }

-- what was written at the last is what was written
written_on : (path : Segments) (goal : ℕ) (a b c : State) → ((token : ℕ) → Contains a.given token → Contains b.given token) → ((token : ℕ) → Contains b.given token → Contains c.given token) → Written path goal a b → Written path goal b c → Written path goal a c
written_on path goal a b c given after first (inr (token, is, fresh)) = inr (token, is, λ old. fresh (given token old))
written_on path goal a b c given after (inl same) (inl kept) = inl (kept ∙ same)
written_on path goal a b c given after (inr (token, is, fresh)) (inl kept) = inr (token, kept ∙ is, fresh)

module _ (path : Segments) (goal : ℕ) (old mid new : State) (turns turns' : ℕ) (first cached cached' : Option CachedBoundary) (op op' : BoundaryAdvance) (so_far : AdvanceRunning path goal old mid turns turns' first cached op) where
  abbrev Paid : ℕ → Type 0
  Paid turns'' = turns' ≡ turns'' + one_if (asks_put op)

  unput : (due : Bool) → (due ≡ false → Kept mid new) → so_far.spent + one_if due ≡ 0 → Kept old new
  unput true kept none = absurd (omega (arith, none))
  unput false kept none = kept_on old mid new (so_far.unspent (omega (arith, none))) (kept refl)

  pub advance_goes : (turns'' : ℕ) → Paid turns'' → IsAdvanceStep path goal mid new cached cached' op op' Goes → AdvanceRunning path goal old new turns turns'' first cached' op'
  advance_goes turns'' paid step =
      let s = so_far.spent_is in
      let c = so_far.calls_most in
      let d = step.steps.2 in
      let l = so_far.left_least in
      let m = step.steps.3 in
      record {
        formed = step.steps.0;
        moves = moves_on path old mid new so_far.moves step.moves;
        spent = so_far.spent + one_if (asks_put op);
        spent_is = omega (arith, s, paid);
        calls_most = omega (arith, c, d, paid);
        left_least = omega (arith, l, m);
        unspent = unput (asks_put op) step.unput;
        rises = (let f = so_far.rises in let s = step.rises in omega (arith, f, s));
        written = written_on path goal old mid new so_far.moves.given step.moves.given so_far.written step.written;
        holds = λ b stands. step.holds b so_far.spent (so_far.holds b stands);
      }

  pub advance_less : (turns'' : ℕ) → Paid turns'' → IsAdvanceStep path goal mid new cached cached' op op' Goes → 16 * turns'' + advance_steps op' < 16 * turns' + advance_steps op
  advance_less turns'' paid step = let s = step.steps.1 in omega (arith, s, paid)

  module _ (unreached : refused_by goal first ≡ false) where
    not_spent : (error : TransactionalObjectError) → HasCauseOfAdvance (Unit {0}) 1 mid new error → IsErrOf {T = Unit {0}} (Err error) kinds.TurnsExhausted → ⊥
    not_spent error cause is = let same : error ≡ kinds.TurnsExhausted = cc in let none : 1 ≡ 0 = subst (HasCauseOfAdvance (Unit {0}) 1 mid new) same cause in omega (arith, none)

    keeps : (told : Turned (Result (Unit {0}) TransactionalObjectError)) → IsAdvanceStep path goal mid new cached cached' op op' told → (b : ℕ) → BoundaryStands path first old b → AdvanceKeeps path goal cached' new b (so_far.spent + one_if (asks_put op)) op' told
    keeps told step b stands = step.holds b so_far.spent (so_far.holds b stands)

    -- an end, whatever it answers, from what its answer says
    ended_as : (turns'' : ℕ) → Paid turns'' → (answer : Result (Unit {0}) TransactionalObjectError) → IsAdvanceStep path goal mid new cached cached' op op' (Done answer)
        → new.calls ≤ mid.calls + advance_calls cached op + 2 * one_if (asks_put op) → mid.left + advance_tokens op ≤ new.left + 1 → OnOk answer (goal ≤ number_of cached') → IfErr answer (HasCauseOfAdvance (Unbounded path first old) turns'' old new)
        → OnOk answer ((b : ℕ) → BoundaryStands path first old b → BoundaryStands path cached' new (max b goal)) → IfErr answer (λ error. (b : ℕ) → BoundaryStands path first old b → BoundaryStands path cached' new b ⊎ BoundaryStands path cached' new (max b goal))
        → ((b : ℕ) → BoundaryStands path first old b → so_far.spent + one_if (asks_put op) ≤ 2) → (IsErrOf answer kinds.TurnsExhausted → ⊥) → Advanced path goal old new turns turns'' first cached' answer
    ended_as turns'' paid answer step calls tokens known cause raised kept few enough =
        let m = moves_on path old mid new so_far.moves step.moves in
        let s = so_far.spent_is in
        let c = so_far.calls_most in
        let l = so_far.left_least in
        record {
          others = m.others;
          given = m.given;
          spends = record { turns_fall = omega (arith, s, paid); calls_rise = m.calls_rise; calls_most = omega (arith, c, calls, paid); failures_rise = m.failures_rise; left_falls = m.left_falls; left_least = omega (arith, l, tokens) };
          unspent = λ e. unput (asks_put op) step.unput (omega (arith, e, s, paid));
          written = written_on path goal old mid new so_far.moves.given step.moves.given so_far.written step.written;
          rises = (let f = so_far.rises in let s = step.rises in omega (arith, f, s));
          known = known;
          reached = λ is. absurd (cc (unreached, is));
          cause = cause;
          raised = raised;
          kept = kept;
          few = λ b stands. (let most = few b stands in omega (arith, most, s, paid));
          enough = λ two b stands. enough;
        }

    pub advance_ended : (turns'' : ℕ) → Paid turns'' → (answer : Result (Unit {0}) TransactionalObjectError) → IsAdvanceStep path goal mid new cached cached' op op' (Done answer) → Advanced path goal old new turns turns'' first cached' answer
    advance_ended turns'' paid (Ok done) step =
        let at = keeps (Done (Ok done)) step in
        ended_as turns'' paid (Ok done) step step.steps.0 step.steps.1 step.steps.2 tt (λ b stands. (at b stands).0) tt (λ b stands. (at b stands).1) (λ is. absurd (cc))
    advance_ended turns'' paid (Err error) step =
        let at = keeps (Done (Err error)) step in
        let cause = cause_on (Unbounded path first old) turns'' old mid new error so_far.moves.failures_rise (λ seven b stands. (at b stands).1 seven) step.steps.2 in
        ended_as turns'' paid (Err error) step step.steps.0 step.steps.1 tt cause tt (λ b stands. (at b stands).0) (λ b stands. (at b stands).2) (not_spent error step.steps.2)
