-- An advance that runs alone from its start: what it leaves.
use Rattle.std.proofs.Common.{◌≡◌, ◌⊎◌, ℕ, ◌+◌, ◌*◌, ◌<◌, ◌≤◌, max, Bool, true, false, if◌then◌else◌, List, Option, Some, None, Result, Ok, Err, refl, sym, ap, subst, ◌∙◌, inl, inr, arith}
use Rattle.std.specs.Fmt.{decimal}
use Rattle.std.proofs.lemmas.Bool.{leb-true, le-ltb}
use Rattle.txn_store.specs.Paths.{Segments}
use Rattle.txn_store.specs.Store.{State}
use Rattle.txn_store.specs.declared.request.Reply.{Reply}
use Rattle.txn_store.specs.types.BoundaryText.{boundary_read}
use Rattle.txn_store.specs.types.Errors.{error_number}
use Rattle.txn_store.specs.declared.types.error.TransactionalObjectError.{TransactionalObjectError}
use Rattle.txn_store.specs.declared.types.error.TransactionalObjectError.TheVariants as kinds
use Rattle.txn_steps.specs.boundary.Advances.{advance_started, advance_asked, raises_turned, advance_turned, advance_caches}
use Rattle.txn_steps.specs.boundary.Asking.{reply_told, unless_lacking}
use Rattle.txn_steps.specs.boundary.Boundaries.{refused_by}
use Rattle.txn_steps.specs.boundary.BoundaryAdvances.{asks_put, advance_looked, boundary_advance_asked, boundary_advance_turned, boundary_advance_cached, putting}
use Rattle.txn_steps.specs.boundary.Steps.{turned_by_number, lacks_memory, IsErrorOf, TellsErrorOf}
use Rattle.txn_steps.specs.boundary.Windows.{above}
use Rattle.txn_steps.specs.declared.boundary.advance.AdvanceOp.{AdvanceOp}
use Rattle.txn_steps.specs.declared.boundary.advance.AdvanceOp.TheVariants.{Raises, Drops}
use Rattle.txn_steps.specs.declared.boundary.advance.BoundaryAdvance.{BoundaryAdvance}
use Rattle.txn_steps.specs.declared.boundary.advance.BoundaryAdvance.TheVariants.{Looks, Reads, Puts, Keeps}
use Rattle.txn_steps.specs.declared.boundary.caches.Cached.{Cached}
use Rattle.txn_steps.specs.declared.boundary.caches.CachedBoundary.{CachedBoundary}
use Rattle.txn_steps.specs.declared.boundary.caches.Caches.{Caches}
use Rattle.txn_steps.specs.declared.boundary.turned.Turned.{Turned}
use Rattle.txn_steps.specs.declared.boundary.turned.Turned.TheVariants.{Goes, Done}
use Rattle.txn_steps_driven.specs.AdvanceRuns.{look_calls, advance_steps, FirstOrCurrent, AdvanceHolds, IsAdvanceStep, AdvanceRunning}
use Rattle.txn_steps_driven.specs.Advancing.{Advanced}
use Rattle.txn_steps_driven.specs.Asked.{Replies}
use Rattle.txn_steps_driven.specs.Calls.{one_if}
use Rattle.txn_steps_driven.specs.DriveRuns.{Scene, GoesOn, Drives}
use Rattle.txn_steps_driven.specs.DriveSteps.{AdvanceSteps}
use Rattle.txn_steps_laws.specs.DrivenChecks.{AdvanceLeaves, LackedMemory, AdvancesBoundary, AdvanceDriven}
use Rattle.txn_steps_driven.specs.Standing.{BoundaryStands}
use Rattle.txn_steps_driven.proofs.DriveLemmas.{after_steps}
use Rattle.txn_steps_driven.proofs.AdvanceLoop.{advance_step, advance_goes, advance_less, advance_ended}
use Rattle.txn_steps_driven.proofs.CheckSteps.{refused_above, reached_by}
use Rattle.txn_steps_driven.proofs.LatestTurns.{asked_look}
use Rattle.txn_steps_driven.proofs.Refusals.{error_is}

-- what an advance is, and what it told
abbrev pair : AdvanceOp → Turned (Result (Unit {0}) ℕ) → AdvanceOp × Turned (Result (Unit {0}) ℕ)
pair op told = (op, told)

same_max : (b target : ℕ) → target ≤ b → b ≡ max b target
same_max b target le = omega (arith, le)

-- the cached boundary has reached the target, and nothing is done
reached_already : (path : Segments) (target left : ℕ) (store : State) (first : Option CachedBoundary) → refused_by target first ≡ true → Advanced path target store store (left + 0) left first first (Ok tt)
reached_already path target left store first is = record {
  others = λ other apart. refl;
  written = inl refl;
  given = λ token g. g;
  spends = record { turns_fall = omega arith; calls_rise = omega arith; calls_most = omega arith; failures_rise = omega arith; left_falls = omega arith; left_least = omega arith };
  unspent = λ e. record { files = refl; given = refl; left = refl };
  rises = omega arith;
  known = reached_by target first is;
  reached = λ e. record { done = refl; same_store = refl; same_turns = omega arith; same_cached = refl };
  cause = tt;
  raised = λ b stands. subst (BoundaryStands path first store) (same_max b target (refused_above path store target first b stands.fits is)) stands;
  kept = tt;
  few = λ b stands. omega arith;
  enough = λ two b stands e. absurd (cc);
}

-- the cached boundary has reached the target: a look ends the raise
looked_reached : (path : Segments) (target : ℕ) (first : Option CachedBoundary) → refused_by target first ≡ true → advance_looked path (Looks target) target first ≡ (Looks target, Done (Ok tt))
looked_reached path target None is = absurd (cc)
looked_reached path target (Some known) is =
    let le = leb-true target known.number is in
    ap (λ t. if t then (putting path target (Some known.token), Goes) else (Looks target, Done (Ok tt))) (le-ltb known.number target le)

-- memory that is refused after the raise leaves what the raise does
lacking_after : (path : Segments) (target : ℕ) (old new : State) (turns turns' : ℕ) (first cached : Option CachedBoundary) → refused_by target first ≡ false → Advanced path target old new turns turns' first cached (Ok tt) → Advanced path target old new turns turns' first cached (Err kinds.NoMemory)
lacking_after path target old new turns turns' first cached unreached r = record {
  others = r.others;
  written = r.written;
  given = r.given;
  spends = r.spends;
  unspent = r.unspent;
  rises = r.rises;
  known = tt;
  reached = λ is. absurd (cc (unreached, is));
  cause = tt;
  raised = tt;
  kept = λ b stands. inr (r.raised b stands);
  few = r.few;
  enough = λ two b stands e. absurd (cc);
}

-- any other error than of memory leaves what is held
others_left : (target : ℕ) (latest latest' : List Cached) (error : TransactionalObjectError) → latest' ≡ latest → AdvanceLeaves target (Err error) latest latest'
others_left target latest latest' kinds.NoMemory same = inl same
others_left target latest latest' error same = same

module _ (path : Segments) (target : ℕ) (a : Scene AdvanceOp) (Pending : ℕ → Scene AdvanceOp → BoundaryAdvance → Type 0) where
  abbrev Answers : Scene AdvanceOp → ℕ → Result (Unit {0}) TransactionalObjectError → Type 0
  Answers c spent answer = (left : ℕ) → Advanced path target a.store c.store (left + spent) left a.caches.boundary c.caches.boundary answer

  abbrev Ends : Scene AdvanceOp → Result (Unit {0}) TransactionalObjectError → Type 0
  Ends c answer = AdvancesBoundary path target a c answer ⊎ LackedMemory target a c answer

  abbrev At : ℕ → Scene AdvanceOp → AdvanceOp → Type 0
  At n b (Raises t raise) = (t ≡ target) × Pending n b raise × (b.caches.latest ≡ a.caches.latest)
  At n b (Drops t) = (t ≡ target) × (spent : ℕ) × Answers b spent (Ok tt) × (n ≤ 10 + 16 * spent) × (b.caches.latest ≡ a.caches.latest)

  abbrev After : ℕ → Scene AdvanceOp → AdvanceOp → Turned (Result (Unit {0}) TransactionalObjectError) → Type 0
  After n c op Goes = At n c op
  After n c op (Done answer) = Ends c answer × AdvanceLeaves target answer a.caches.latest c.caches.latest

  lacked : (t : Bool) → refused_by target a.caches.boundary ≡ t → (c : Scene AdvanceOp) (spent : ℕ) → Answers c spent (Ok tt) → Ends c (Err kinds.NoMemory)
  lacked true is c spent answers = let r = (answers 0).reached is in inr (record { refused = refl; reached = is; same_store = r.same_store; same_boundary = r.same_cached })
  lacked false is c spent answers = inl (spent, λ left. lacking_after path target a.store c.store (left + spent) left a.caches.boundary c.caches.boundary is (answers left))

  drops : (n : ℕ) (b c : Scene AdvanceOp) (t : ℕ) (lacks : Bool) (told : Turned (Result (Unit {0}) TransactionalObjectError)) → At n b (Drops t) → c.store ≡ b.store → (c.op, turned_by_number told) ≡ unless_lacking lacks (Drops t) (pair (Drops t) (Done (Ok tt))) → c.caches ≡ advance_caches (Drops t) b.caches → After (n + 1) c c.op told
  drops n b c t lacks told (is, spent, answers, count, latest) same takes leaves = by_told lacks told takes
    where
      boundary : c.caches.boundary ≡ b.caches.boundary
      boundary = ap (λ (k : Caches). k.boundary) leaves

      now : Answers c spent (Ok tt)
      now left = subst (λ s. Advanced path target a.store s (left + spent) left a.caches.boundary c.caches.boundary (Ok tt)) (sym same)
          (subst (λ k. Advanced path target a.store b.store (left + spent) left a.caches.boundary k (Ok tt)) (sym boundary) (answers left))

      dropped : c.caches.latest ≡ above target a.caches.latest
      dropped = ap (λ (k : Caches). k.latest) leaves ∙ (ap (λ i. above i b.caches.latest) is ∙ ap (above target) latest)

      by_told : (lacks : Bool) (told : Turned (Result (Unit {0}) TransactionalObjectError)) → (c.op, turned_by_number told) ≡ unless_lacking lacks (Drops t) (pair (Drops t) (Done (Ok tt))) → After (n + 1) c c.op told
      by_told true Goes takes = let e = ap (λ p. p.1) takes in absurd (cc)
      by_told true (Done (Ok done)) takes = let e = ap (λ p. p.1) takes in absurd (cc)
      by_told true (Done (Err error)) takes =
          let e = ap (λ p. p.1) takes in
          let nine : error_number error ≡ 9 = cc in
          subst (λ e. After (n + 1) c c.op (Done (Err e))) (sym (error_is kinds.NoMemory error tt nine)) (lacked (refused_by target a.caches.boundary) refl c spent now, inr dropped)
      by_told false Goes takes = let e = ap (λ p. p.1) takes in absurd (cc)
      by_told false (Done (Err error)) takes = let e = ap (λ p. p.1) takes in absurd (cc)
      by_told false (Done (Ok done)) takes = (inl (spent, now), dropped)

  module _ (raises : (n : ℕ) (b c : Scene AdvanceOp) (t : ℕ) (raise : BoundaryAdvance) (told : Turned (Result (Unit {0}) TransactionalObjectError)) (reply : Option Reply) → At n b (Raises t raise) → Replies (boundary_advance_asked raise) b.store reply c.store → (c.op, turned_by_number told) ≡ unless_lacking (lacks_memory (turned_by_number told)) (Raises t raise) (advance_turned path (Raises t raise) b.caches reply) → c.caches ≡ advance_caches (Raises t raise) b.caches → TellsErrorOf (reply_told reply) told → After (n + 1) c c.op told) where
    from_op : (n : ℕ) (b c : Scene AdvanceOp) (op : AdvanceOp) (told : Turned (Result (Unit {0}) TransactionalObjectError)) (reply : Option Reply) → At n b op → Replies (advance_asked op) b.store reply c.store → (c.op, turned_by_number told) ≡ unless_lacking (lacks_memory (turned_by_number told)) op (advance_turned path op b.caches reply) → c.caches ≡ advance_caches op b.caches → TellsErrorOf (reply_told reply) told → After (n + 1) c c.op told
    from_op n b c (Raises t raise) told reply at served takes leaves tells = raises n b c t raise told reply at served takes leaves tells
    from_op n b c (Drops t) told reply at served takes leaves tells = drops n b c t (lacks_memory (turned_by_number told)) told at (asked_look b.store c.store reply served).1 takes leaves

    stepped : (n : ℕ) (b c : Scene AdvanceOp) (told : Turned (Result (Unit {0}) TransactionalObjectError)) → At n b b.op → AdvanceSteps path b told c → After (n + 1) c c.op told
    stepped n b c told at step = from_op n b c b.op told step.reply at step.replies step.takes step.leaves step.error

    advance_on : At 0 a a.op → (n : ℕ) (b : Scene AdvanceOp) → GoesOn (AdvanceSteps path) n a b → At n b b.op
    advance_on start = after_steps (AdvanceSteps path) (λ n b. At n b b.op) a start (λ n b c at step. stepped n b c Goes at step)

    driven : At 0 a a.op → (few : (n : ℕ) (b : Scene AdvanceOp) (raise : BoundaryAdvance) → Pending n b raise → (stood : ℕ) → BoundaryStands path a.caches.boundary a.store stood → n < 43) → (steps : ℕ) (result : Option (Result (Unit {0}) TransactionalObjectError)) (b : Scene AdvanceOp) → Drives (AdvanceSteps path) steps a result b → AdvanceDriven path target steps a result b
    driven start few steps (Some answer) c (n, b, within, on, step) = stepped n b c (Done answer) (advance_on start n b on) step
    driven start few steps None b on = by_op b.op (advance_on start steps b on)
      where
        by_op : (op : AdvanceOp) → At steps b op → (stood : ℕ) → BoundaryStands path a.caches.boundary a.store stood → steps < 43
        by_op (Raises t raise) (is, pending, latest) stood stands = few steps b raise pending stood stands
        by_op (Drops t) (is, spent, answers, count, latest) stood stands = let two = (answers 0).few stood stands in omega (arith, count, two)

-- where the cached boundary has reached the target
module _ (path : Segments) (target : ℕ) (a : Scene AdvanceOp) (is : refused_by target a.caches.boundary ≡ true) where
  abbrev Idle : ℕ → Scene AdvanceOp → BoundaryAdvance → Type 0
  Idle n b raise = (raise ≡ Looks target) × (b.store ≡ a.store) × (b.caches.boundary ≡ a.caches.boundary) × (n ≡ 0)

  looks : (n : ℕ) (b c : Scene AdvanceOp) (t : ℕ) (raise : BoundaryAdvance) (told : Turned (Result (Unit {0}) TransactionalObjectError)) (reply : Option Reply) → At path target a Idle n b (Raises t raise) → Replies (boundary_advance_asked raise) b.store reply c.store → (c.op, turned_by_number told) ≡ unless_lacking (lacks_memory (turned_by_number told)) (Raises t raise) (advance_turned path (Raises t raise) b.caches reply) → c.caches ≡ advance_caches (Raises t raise) b.caches → TellsErrorOf (reply_told reply) told → After path target a Idle (n + 1) c c.op told
  looks n b c t raise told reply (is_target, (begun, store, boundary, none), latest) served takes leaves tells =
      let same : c.store ≡ b.store = (asked_look b.store c.store reply (subst (λ r. Replies (boundary_advance_asked r) b.store reply c.store) begun served)).1 in
      let ends : boundary_advance_turned path raise b.caches.boundary reply ≡ (Looks target, Done (Ok tt)) = ap (λ r. boundary_advance_turned path r b.caches.boundary reply) begun ∙ (ap (advance_looked path (Looks target) target) boundary ∙ looked_reached path target a.caches.boundary is) in
      let left : c.caches ≡ advance_caches (Raises t (Looks target)) b.caches = leaves ∙ ap (λ r. advance_caches (Raises t r) b.caches) begun in
      by_told (lacks_memory (turned_by_number told)) told (takes ∙ ap (λ x. unless_lacking (lacks_memory (turned_by_number told)) (Raises t raise) (raises_turned t x)) ends) (same ∙ store) (ap (λ (k : Caches). k.boundary) left ∙ boundary) (ap (λ (k : Caches). k.latest) left ∙ latest)
    where
      by_told : (lacks : Bool) (told : Turned (Result (Unit {0}) TransactionalObjectError)) → (c.op, turned_by_number told) ≡ unless_lacking lacks (Raises t raise) (pair (Drops t) Goes) → c.store ≡ a.store → c.caches.boundary ≡ a.caches.boundary → c.caches.latest ≡ a.caches.latest → After path target a Idle (n + 1) c c.op told
      by_told true Goes takes store boundary latest = let e = ap (λ p. p.1) takes in absurd (cc)
      by_told true (Done (Ok done)) takes store boundary latest = let e = ap (λ p. p.1) takes in absurd (cc)
      by_told true (Done (Err error)) takes store boundary latest =
          let e = ap (λ p. p.1) takes in
          let nine : error_number error ≡ 9 = cc in
          (inr (record { refused = ap Err (error_is kinds.NoMemory error tt nine); reached = is; same_store = store; same_boundary = boundary }), others_left target a.caches.latest c.caches.latest error latest)
      by_told false (Done (Ok done)) takes store boundary latest = let e = ap (λ p. p.1) takes in absurd (cc)
      by_told false (Done (Err error)) takes store boundary latest = let e = ap (λ p. p.1) takes in absurd (cc)
      by_told false Goes takes store boundary latest =
          subst (At path target a Idle (n + 1) c) (sym (ap (λ p. p.0) takes)) (
            is_target,
            0,
            λ left. subst (λ s. Advanced path target a.store s (left + 0) left a.caches.boundary c.caches.boundary (Ok tt)) (sym store)
                (subst (λ k. Advanced path target a.store a.store (left + 0) left a.caches.boundary k (Ok tt)) (sym boundary) (reached_already path target left a.store a.caches.boundary is)),
            omega (arith, none),
            latest,
          )

  reached_driven : a.op ≡ advance_started target → (steps : ℕ) (result : Option (Result (Unit {0}) TransactionalObjectError)) (b : Scene AdvanceOp) → Drives (AdvanceSteps path) steps a result b → AdvanceDriven path target steps a result b
  reached_driven starts = driven path target a Idle looks (subst (At path target a Idle 0 a) (sym starts) (refl, (refl, refl, refl, refl), refl)) (λ n b raise pending stood stands. let none = pending.3 in omega (arith, none))

-- where it has not
module _ (path : Segments) (target : ℕ) (reads : boundary_read (decimal target) ≡ Some target) (a : Scene AdvanceOp) (unreached : refused_by target a.caches.boundary ≡ false) where
  record Runs (n : ℕ) (b : Scene AdvanceOp) (raise : BoundaryAdvance) : Type 0 where
    turns : ℕ
    runs : AdvanceRunning path target a.store b.store turns 0 a.caches.boundary b.caches.boundary raise
    count : n + advance_steps raise ≤ 10 + 16 * turns

  module _ (n : ℕ) (b c : Scene AdvanceOp) (t : ℕ) (raise : BoundaryAdvance) (reply : Option Reply) (so_far : Runs n b raise) (is_target : t ≡ target) (latest : c.caches.latest ≡ a.caches.latest) (served : Replies (boundary_advance_asked raise) b.store reply c.store) (boundary : c.caches.boundary ≡ boundary_advance_cached raise b.caches.boundary) where
    abbrev spent : ℕ
    spent = so_far.runs.spent

    abbrev due : ℕ
    due = one_if (asks_put raise)

    -- as many turns are left as one likes
    here : (left : ℕ) → AdvanceRunning path target a.store b.store (left + spent) left a.caches.boundary b.caches.boundary raise
    here left =
        let r = so_far.runs in
        let most = r.calls_most in
        let all = r.spent_is in
        record {
          formed = r.formed;
          moves = r.moves;
          spent = r.spent;
          spent_is = refl;
          calls_most = omega (arith, most, all);
          left_least = r.left_least;
          unspent = r.unspent;
          rises = r.rises;
          written = r.written;
          holds = r.holds;
        }

    one : (next : BoundaryAdvance) (told : Turned (Result (Unit {0}) TransactionalObjectError)) (lacks : Bool) → (next, turned_by_number told) ≡ unless_lacking lacks raise (boundary_advance_turned path raise b.caches.boundary reply) → TellsErrorOf (reply_told reply) told → IsAdvanceStep path target b.store c.store b.caches.boundary c.caches.boundary raise next told
    one next told lacks turned tells = advance_step path target b.store c.store reads raise next b.caches.boundary reply c.caches.boundary told lacks so_far.runs.formed served turned boundary tells

    ended : (next : BoundaryAdvance) (answer : Result (Unit {0}) TransactionalObjectError) → IsAdvanceStep path target b.store c.store b.caches.boundary c.caches.boundary raise next (Done answer) → (left : ℕ) → Advanced path target a.store c.store (left + (due + spent)) left a.caches.boundary c.caches.boundary answer
    ended next answer step left =
        let sum : (left + due) + spent ≡ left + (due + spent) = omega arith in
        subst (λ k. Advanced path target a.store c.store k left a.caches.boundary c.caches.boundary answer) sum
        (advance_ended path target a.store b.store c.store ((left + due) + spent) (left + due) a.caches.boundary b.caches.boundary c.caches.boundary raise next (here (left + due)) unreached left refl answer step)

    goes : (next : BoundaryAdvance) → IsAdvanceStep path target b.store c.store b.caches.boundary c.caches.boundary raise next Goes → Runs (n + 1) c next
    goes next step =
        let less = advance_less path target a.store b.store c.store (due + spent) due a.caches.boundary b.caches.boundary c.caches.boundary raise next (here due) 0 (omega arith) step in
        let count = so_far.count in
        let all = so_far.runs.spent_is in
        record {
          turns = due + spent;
          runs = advance_goes path target a.store b.store c.store (due + spent) due a.caches.boundary b.caches.boundary c.caches.boundary raise next (here due) 0 (omega arith) step;
          count = omega (arith, less, count, all);
        }

    few_left : (op : BoundaryAdvance) → 1 ≤ advance_steps op
    few_left (Looks target) = omega arith
    few_left (Reads target true r) = omega arith
    few_left (Reads target false r) = omega arith
    few_left (Puts target request) = omega arith
    few_left (Keeps target token) = omega arith

    failed : (next : BoundaryAdvance) (error : TransactionalObjectError) (lacks : Bool) → (next, Done (Err (error_number error))) ≡ unless_lacking lacks raise (boundary_advance_turned path raise b.caches.boundary reply) → IsErrorOf (reply_told reply) error → After path target a Runs (n + 1) c c.op (Done (Err error))
    failed next error lacks turned tells = (inl (due + spent, ended next (Err error) (one next (Done (Err error)) lacks turned tells)), others_left target a.caches.latest c.caches.latest error latest)

    by_turn : (x : BoundaryAdvance × Turned (Result (Unit {0}) ℕ)) (lacks : Bool) (told : Turned (Result (Unit {0}) TransactionalObjectError)) → x ≡ boundary_advance_turned path raise b.caches.boundary reply → (c.op, turned_by_number told) ≡ unless_lacking lacks (Raises t raise) (raises_turned t x) → TellsErrorOf (reply_told reply) told → After path target a Runs (n + 1) c c.op told
    by_turn x true Goes turned takes tells = let e = ap (λ p. p.1) takes in absurd (cc)
    by_turn x true (Done (Ok done)) turned takes tells = let e = ap (λ p. p.1) takes in absurd (cc)
    by_turn x true (Done (Err error)) turned takes tells = failed raise error true (ap (λ p. (raise, p.1)) takes) tells
    by_turn (next, Goes) false Goes turned takes tells = subst (At path target a Runs (n + 1) c) (sym (ap (λ p. p.0) takes)) (is_target, goes next (one next Goes false turned tells), latest)
    by_turn (next, Goes) false (Done answer) turned takes tells = let e = ap (λ p. p.1) takes in absurd (cc)
    by_turn (next, Done (Ok done)) false Goes turned takes tells =
        let answers = ended next (Ok tt) (one next (Done (Ok tt)) false turned tt) in
        let some = few_left raise in
        let count = so_far.count in
        let all = so_far.runs.spent_is in
        subst (At path target a Runs (n + 1) c) (sym (ap (λ p. p.0) takes)) (is_target, due + spent, answers, omega (arith, some, count, all), latest)
    by_turn (next, Done (Ok done)) false (Done (Ok answer)) turned takes tells = let e = ap (λ p. p.1) takes in absurd (cc)
    by_turn (next, Done (Ok done)) false (Done (Err error)) turned takes tells = let e = ap (λ p. p.1) takes in absurd (cc)
    by_turn (next, Done (Err number)) false Goes turned takes tells = let e = ap (λ p. p.1) takes in absurd (cc)
    by_turn (next, Done (Err number)) false (Done (Ok answer)) turned takes tells = let e = ap (λ p. p.1) takes in absurd (cc)
    by_turn (next, Done (Err number)) false (Done (Err error)) turned takes tells = failed next error false (ap (λ p. (next, p.1)) takes ∙ turned) tells

  raises : (n : ℕ) (b c : Scene AdvanceOp) (t : ℕ) (raise : BoundaryAdvance) (told : Turned (Result (Unit {0}) TransactionalObjectError)) (reply : Option Reply) → At path target a Runs n b (Raises t raise) → Replies (boundary_advance_asked raise) b.store reply c.store → (c.op, turned_by_number told) ≡ unless_lacking (lacks_memory (turned_by_number told)) (Raises t raise) (advance_turned path (Raises t raise) b.caches reply) → c.caches ≡ advance_caches (Raises t raise) b.caches → TellsErrorOf (reply_told reply) told → After path target a Runs (n + 1) c c.op told
  raises n b c t raise told reply (is_target, so_far, latest) served takes leaves tells =
      by_turn n b c t raise reply so_far is_target (ap (λ (k : Caches). k.latest) leaves ∙ latest) served (ap (λ (k : Caches). k.boundary) leaves) (boundary_advance_turned path raise b.caches.boundary reply) (lacks_memory (turned_by_number told)) told refl takes tells

  begins : AdvanceRunning path target a.store a.store 0 0 a.caches.boundary a.caches.boundary (Looks target)
  begins = record {
    formed = refl;
    moves = record { others = λ other apart. refl; given = λ token g. g; calls_rise = omega arith; failures_rise = omega arith; left_falls = omega arith };
    spent = 0;
    spent_is = omega arith;
    calls_most = first_calls a.caches.boundary;
    left_least = omega arith;
    unspent = λ e. record { files = refl; given = refl; left = refl };
    rises = omega arith;
    written = inl refl;
    holds = λ b stands. (stands, inl refl);
  }
    where
      first_calls : (cached : Option CachedBoundary) → a.store.calls + look_calls cached + 2 * 0 ≤ a.store.calls + 1 + 2 * 0
      first_calls None = omega arith
      first_calls (Some known) = omega arith

  twice : (store : State) (cached : Option CachedBoundary) (stood spent : ℕ) → FirstOrCurrent path cached store stood spent → spent ≤ 2
  twice store cached stood spent (inl none) = omega (arith, none)
  twice store cached stood spent (inr (once, at)) = omega (arith, once)

  twice_at : (store : State) (cached : Option CachedBoundary) (stood spent : ℕ) (raise : BoundaryAdvance) → AdvanceHolds path cached store stood spent raise → (spent ≤ 2) × (1 ≤ advance_steps raise)
  twice_at store cached stood spent (Looks t) at = (twice store cached stood spent at.1, omega arith)
  twice_at store cached stood spent (Reads t true r) at = (let few = at.2 in omega (arith, few), omega arith)
  twice_at store cached stood spent (Reads t false r) at = (let few = at.2 in omega (arith, few), omega arith)
  twice_at store cached stood spent (Puts t request) at = (twice store cached stood spent at.1, omega arith)
  twice_at store cached stood spent (Keeps t token) at = (at.3, omega arith)

  few : (n : ℕ) (b : Scene AdvanceOp) (raise : BoundaryAdvance) → Runs n b raise → (stood : ℕ) → BoundaryStands path a.caches.boundary a.store stood → n < 43
  few n b raise so_far stood stands =
      let two = twice_at b.store b.caches.boundary stood so_far.runs.spent raise (so_far.runs.holds stood stands) in
      let most = two.0 in
      let some = two.1 in
      let count = so_far.count in
      let all = so_far.runs.spent_is in
      omega (arith, most, some, count, all)

  unreached_driven : a.op ≡ advance_started target → (steps : ℕ) (result : Option (Result (Unit {0}) TransactionalObjectError)) (b : Scene AdvanceOp) → Drives (AdvanceSteps path) steps a result b → AdvanceDriven path target steps a result b
  unreached_driven starts = driven path target a Runs raises (subst (At path target a Runs 0 a) (sym starts) (refl, record { turns = 0; runs = begins; count = omega arith }, refl)) few

module _ (path : Segments) (target : ℕ) (reads : boundary_read (decimal target) ≡ Some target) (a : Scene AdvanceOp) (starts : a.op ≡ advance_started target) where
  by_cache : (t : Bool) → refused_by target a.caches.boundary ≡ t → (steps : ℕ) (result : Option (Result (Unit {0}) TransactionalObjectError)) (b : Scene AdvanceOp) → Drives (AdvanceSteps path) steps a result b → AdvanceDriven path target steps a result b
  by_cache true is = reached_driven path target a is starts
  by_cache false is = unreached_driven path target reads a is starts

  pub advance_driven : (steps : ℕ) (result : Option (Result (Unit {0}) TransactionalObjectError)) (b : Scene AdvanceOp) → Drives (AdvanceSteps path) steps a result b → AdvanceDriven path target steps a result b
  advance_driven = by_cache (refused_by target a.caches.boundary) refl
