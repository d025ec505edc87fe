-- A check that runs alone from its start: what it leaves.
use Rattle.std.proofs.Common.{◌≡◌, ◌==◌, ℕ, ◌+◌, ◌≤◌, Bool, true, false, if◌then◌else◌, List, Option, Some, None, Result, Ok, Err, refl, sym, ap, subst, ◌∙◌, ◌⊎◌, inl, inr, arith}
use Rattle.std.proofs.lemmas.Bool.{eqb-true}
use Rattle.txn_store.specs.Paths.{Segments}
use Rattle.txn_store.specs.Store.{State, Kept}
use Rattle.txn_store.specs.declared.request.Reply.{Reply}
use Rattle.txn_store.specs.types.Errors.{error_number}
use Rattle.txn_store.specs.declared.types.error.TransactionalObjectError.{TransactionalObjectError}
use Rattle.txn_store.specs.declared.types.error.TransactionalObjectError.TheVariants as kinds
use Rattle.txn_steps.specs.boundary.Asking.{reply_told}
use Rattle.txn_steps.specs.boundary.Boundaries.{refused_by}
use Rattle.txn_steps.specs.boundary.BoundaryChecks.{boundary_check_started, reads_by, boundary_check_asked, boundary_check_turned, boundary_check_cached}
use Rattle.txn_steps.specs.boundary.Checks.{check_started, check_asked, checks_turned, check_turned, check_caches}
use Rattle.txn_steps.specs.boundary.Steps.{turned_by_number, TellsErrorOf}
use Rattle.txn_steps.specs.boundary.Windows.{above}
use Rattle.txn_steps.specs.declared.boundary.caches.Cached.{Cached}
use Rattle.txn_steps.specs.declared.boundary.caches.CachedBoundary.{CachedBoundary}
use Rattle.txn_steps.specs.declared.boundary.caches.Caches.{Caches}
use Rattle.txn_steps.specs.declared.boundary.check.BoundaryCheck.{BoundaryCheck}
use Rattle.txn_steps.specs.declared.boundary.check.CheckOp.{CheckOp}
use Rattle.txn_steps.specs.declared.boundary.check.CheckOp.TheVariants.{Checks, Drops}
use Rattle.txn_steps.specs.declared.boundary.turned.Turned.{Turned}
use Rattle.txn_steps.specs.declared.boundary.turned.Turned.TheVariants.{Goes, Done}
use Rattle.txn_steps_driven.specs.Asked.{Replies}
use Rattle.txn_steps_driven.specs.BoundaryRuns.{CheckRunning, IsCheckStep}
use Rattle.txn_steps_driven.specs.Checking.{Checked}
use Rattle.txn_steps_driven.specs.DriveRuns.{Scene, GoesOn, Drives}
use Rattle.txn_steps_driven.specs.DriveSteps.{CheckSteps}
use Rattle.txn_steps_laws.specs.DrivenChecks.{checked_latest, CheckDriven}
use Rattle.txn_steps_driven.specs.Standing.{BoundaryStands}
use Rattle.txn_steps_driven.proofs.DriveLemmas.{after_steps}
use Rattle.txn_steps_driven.proofs.CheckSteps.{refused_above, reached_by, check_step, check_leaves, check_goes, check_ended}
use Rattle.txn_steps_driven.proofs.DriveCounts.{check_within}
use Rattle.txn_steps_driven.proofs.Frames.{kept-trans}
use Rattle.txn_steps_driven.proofs.LatestTurns.{asked_look}
use Rattle.txn_steps_driven.proofs.Refusals.{error_is}

-- what a check is, and what it told
abbrev pair : CheckOp → Turned (Result (Unit {0}) ℕ) → CheckOp × Turned (Result (Unit {0}) ℕ)
pair op told = (op, told)

-- any other error than a conflict leaves what is held
others_left : (id : ℕ) (latest : List Cached) (error : TransactionalObjectError) → (error_number error ≡ 5 → ⊥) → latest ≡ checked_latest id (Err error) latest
others_left id latest kinds.ObjectVersionExists other = absurd (other refl)
others_left id latest error other = refl

-- the cached boundary alone is the answer
pub from_cache : (path : Segments) (id : ℕ) (store : State) (first : Option CachedBoundary) → refused_by id first ≡ true → Checked path id store store first first (Err kinds.ObjectVersionExists)
from_cache path id store first is = record {
  kept = record { files = refl; given = refl; left = refl };
  spends = record { calls_rise = omega arith; calls_most = omega arith; failures_rise = omega arith; left_falls = omega arith; left_least = omega arith };
  asked = tt;
  rises = omega arith;
  reached = λ _. reached_by id first is;
  from_cache = λ _. record { refused = refl; same_store = refl; same_cached = refl };
  accepts = tt;
  refuses = λ _. inl is;
  invalid = λ e. absurd (cc);
  cause = tt;
  stands = λ b stands. stands;
  above = tt;
  fenced = λ _ b stands. refused_above path store id first b stands.fits is;
  known = tt;
}

module _ (path : Segments) (id : ℕ) (a : Scene CheckOp) (Pending : Scene CheckOp → BoundaryCheck → Type 0) where
  abbrev Refused : Scene CheckOp → Type 0
  Refused b = Checked path id a.store b.store a.caches.boundary b.caches.boundary (Err kinds.ObjectVersionExists)

  -- where it is: the boundary is checked, or the id is refused
  abbrev At : Scene CheckOp → CheckOp → Type 0
  At b (Checks check) = Pending b check × (b.caches.latest ≡ a.caches.latest)
  At b (Drops i) = (i ≡ id) × Refused b × (b.caches.latest ≡ a.caches.latest)

  abbrev After : Scene CheckOp → CheckOp → Turned (Result (Unit {0}) TransactionalObjectError) → Type 0
  After c op Goes = At c op
  After c op (Done answer) = Checked path id a.store c.store a.caches.boundary c.caches.boundary answer × (c.caches.latest ≡ checked_latest id answer a.caches.latest)

  -- the versions that a refused id leaves behind are dropped
  drops : (b c : Scene CheckOp) (i : ℕ) (told : Turned (Result (Unit {0}) TransactionalObjectError)) → At b (Drops i) → c.store ≡ b.store → (c.op, turned_by_number told) ≡ pair (Drops i) (Done (Err 5)) → c.caches ≡ check_caches (Drops i) b.caches → After c c.op told
  drops b c i Goes at same takes leaves = let e = ap (λ p. p.1) takes in absurd (cc)
  drops b c i (Done (Ok accepted)) at same takes leaves = let e = ap (λ p. p.1) takes in absurd (cc)
  drops b c i (Done (Err error)) (is, refused, latest) same takes leaves =
      let e = ap (λ p. p.1) takes in
      let five : error_number error ≡ 5 = cc in
      let boundary : c.caches.boundary ≡ b.caches.boundary = ap (λ (k : Caches). k.boundary) leaves in
      subst (λ e. After c c.op (Done (Err e))) (sym (error_is kinds.ObjectVersionExists error tt five)) (
        subst (λ s. Checked path id a.store s a.caches.boundary c.caches.boundary (Err kinds.ObjectVersionExists)) (sym same)
            (subst (λ k. Checked path id a.store b.store a.caches.boundary k (Err kinds.ObjectVersionExists)) (sym boundary) refused),
        ap (λ (k : Caches). k.latest) leaves ∙ (ap (λ i. above i b.caches.latest) is ∙ ap (above id) latest),
      )

  module _ (checks : (b c : Scene CheckOp) (check : BoundaryCheck) (told : Turned (Result (Unit {0}) TransactionalObjectError)) (reply : Option Reply) → At b (Checks check) → Replies (boundary_check_asked check) b.store reply c.store → (c.op, turned_by_number told) ≡ check_turned (Checks check) b.caches reply → c.caches ≡ check_caches (Checks check) b.caches → TellsErrorOf (reply_told reply) told → After c c.op told) where
    from_op : (b c : Scene CheckOp) (op : CheckOp) (told : Turned (Result (Unit {0}) TransactionalObjectError)) (reply : Option Reply) → At b op → Replies (check_asked op) b.store reply c.store → (c.op, turned_by_number told) ≡ check_turned op b.caches reply → c.caches ≡ check_caches op b.caches → TellsErrorOf (reply_told reply) told → After c c.op told
    from_op b c (Checks check) told reply at served takes leaves tells = checks b c check told reply at served takes leaves tells
    from_op b c (Drops i) told reply at served takes leaves tells = drops b c i told at (asked_look b.store c.store reply served).1 takes leaves

    stepped : (b c : Scene CheckOp) (told : Turned (Result (Unit {0}) TransactionalObjectError)) → At b b.op → CheckSteps b told c → After c c.op told
    stepped b c told at step = from_op b c b.op told step.reply at step.replies step.takes step.leaves step.error

    check_on : At a a.op → (n : ℕ) (b : Scene CheckOp) → GoesOn CheckSteps n a b → At b b.op
    check_on start = after_steps CheckSteps (λ n b. At b b.op) a start (λ n b c at step. stepped b c Goes at step)

    ends : At a a.op → (n : ℕ) (b c : Scene CheckOp) (answer : Result (Unit {0}) TransactionalObjectError) → GoesOn CheckSteps n a b → CheckSteps b (Done answer) c → After c c.op (Done answer)
    ends start n b c answer on step = stepped b c (Done answer) (check_on start n b on) step

-- where the cached boundary refuses the id
module _ (path : Segments) (id : ℕ) (a : Scene CheckOp) (is : refused_by id a.caches.boundary ≡ true) where
  abbrev Unasked : Scene CheckOp → BoundaryCheck → Type 0
  Unasked b check = (check ≡ boundary_check_started path id) × (b.store ≡ a.store) × (b.caches.boundary ≡ a.caches.boundary)

  looks : (b c : Scene CheckOp) (check : BoundaryCheck) (told : Turned (Result (Unit {0}) TransactionalObjectError)) (reply : Option Reply) → At path id a Unasked b (Checks check) → Replies (boundary_check_asked check) b.store reply c.store → (c.op, turned_by_number told) ≡ check_turned (Checks check) b.caches reply → c.caches ≡ check_caches (Checks check) b.caches → TellsErrorOf (reply_told reply) told → After path id a Unasked c c.op told
  looks b c check told reply ((begun, store, boundary), latest) served takes leaves tells =
      let same : c.store ≡ b.store = (asked_look b.store c.store reply (subst (λ (k : BoundaryCheck). Replies (boundary_check_asked k) b.store reply c.store) begun served)).1 in
      let turned : (c.op, turned_by_number told) ≡ checks_turned id (boundary_check_turned (boundary_check_started path id) a.caches.boundary reply) = takes ∙ (ap (λ (k : BoundaryCheck). check_turned (Checks k) b.caches reply) begun ∙ ap (λ k. checks_turned id (boundary_check_turned (boundary_check_started path id) k reply)) boundary) in
      let left : c.caches ≡ check_caches (Checks (boundary_check_started path id)) b.caches = leaves ∙ ap (λ k. check_caches (Checks k) b.caches) begun in
      refuse told (turned ∙ ap (λ t. checks_turned id (if t then (boundary_check_started path id, Done (Err 5)) else (reads_by (boundary_check_started path id) (boundary_check_started path id).read, Goes))) is) (same ∙ store) (ap (λ (k : Caches). k.boundary) left ∙ boundary) (ap (λ (k : Caches). k.latest) left ∙ latest)
    where
      refuse : (told : Turned (Result (Unit {0}) TransactionalObjectError)) → (c.op, turned_by_number told) ≡ pair (Drops id) Goes → c.store ≡ a.store → c.caches.boundary ≡ a.caches.boundary → c.caches.latest ≡ a.caches.latest → After path id a Unasked c c.op told
      refuse (Done (Ok accepted)) turned store boundary latest = let e = ap (λ p. p.1) turned in absurd (cc)
      refuse (Done (Err error)) turned store boundary latest = let e = ap (λ p. p.1) turned in absurd (cc)
      refuse Goes turned store boundary latest =
          subst (At path id a Unasked c) (sym (ap (λ p. p.0) turned)) (
            refl,
            subst (λ s. Checked path id a.store s a.caches.boundary c.caches.boundary (Err kinds.ObjectVersionExists)) (sym store)
                (subst (λ k. Checked path id a.store a.store a.caches.boundary k (Err kinds.ObjectVersionExists)) (sym boundary) (from_cache path id a.store a.caches.boundary is)),
            latest,
          )

  pub reached_on : a.op ≡ check_started path id → (n : ℕ) (b : Scene CheckOp) → GoesOn CheckSteps n a b → At path id a Unasked b b.op
  reached_on starts = check_on path id a Unasked looks (subst (At path id a Unasked a) (sym starts) ((refl, refl, refl), refl))

  reached_ends : a.op ≡ check_started path id → (n : ℕ) (b c : Scene CheckOp) (answer : Result (Unit {0}) TransactionalObjectError) → GoesOn CheckSteps n a b → CheckSteps b (Done answer) c → After path id a Unasked c c.op (Done answer)
  reached_ends starts = ends path id a Unasked looks (subst (At path id a Unasked a) (sym starts) ((refl, refl, refl), refl))

-- where it does not
module _ (path : Segments) (id : ℕ) (a : Scene CheckOp) (unreached : refused_by id a.caches.boundary ≡ false) where
  abbrev Runs : Scene CheckOp → BoundaryCheck → Type 0
  Runs b check = CheckRunning path id a.store b.store a.caches.boundary b.caches.boundary check

  module _ (b c : Scene CheckOp) (check : BoundaryCheck) (reply : Option Reply) (runs : Runs b check) (latest : c.caches.latest ≡ a.caches.latest) (served : Replies (boundary_check_asked check) b.store reply c.store) (boundary : c.caches.boundary ≡ boundary_check_cached check b.caches.boundary) where
    one : (next : BoundaryCheck) (told : Turned (Result (Unit {0}) TransactionalObjectError)) → (next, turned_by_number told) ≡ boundary_check_turned check b.caches.boundary reply → TellsErrorOf (reply_told reply) told → IsCheckStep path id b.store c.store b.caches.boundary c.caches.boundary check next told
    one next told turned tells = check_step path id b.store c.store check next b.caches.boundary c.caches.boundary reply told runs.formed served turned boundary tells

    ended : (next : BoundaryCheck) (answer : Result (Unit {0}) TransactionalObjectError) → (next, turned_by_number (Done answer)) ≡ boundary_check_turned check b.caches.boundary reply → TellsErrorOf (reply_told reply) (Done answer) → Checked path id a.store c.store a.caches.boundary c.caches.boundary answer
    ended next answer turned tells = check_ended path id a.store b.store c.store a.caches.boundary b.caches.boundary c.caches.boundary check next runs unreached answer (one next (Done answer) turned tells)

    refuses : (next : BoundaryCheck) (number : ℕ) (t : Bool) → (number == 5) ≡ t → (told : Turned (Result (Unit {0}) TransactionalObjectError)) → (next, Done (Err number)) ≡ boundary_check_turned check b.caches.boundary reply → (c.op, turned_by_number told) ≡ (if t then pair (Drops check.id) Goes else pair (Checks next) (Done (Err number))) → TellsErrorOf (reply_told reply) told → After path id a Runs c c.op told
    refuses next number true is Goes turned takes tells =
        let five : 5 ≡ number = sym (eqb-true number 5 is) in
        subst (At path id a Runs c) (sym (ap (λ p. p.0) takes)) (runs.formed.id_is, ended next (Err kinds.ObjectVersionExists) (ap (λ n. (next, Done (Err n))) five ∙ turned) tt, latest)
    refuses next number true is (Done answer) turned takes tells = let e = ap (λ p. p.1) takes in absurd (cc)
    refuses next number false is Goes turned takes tells = let e = ap (λ p. p.1) takes in absurd (cc)
    refuses next number false is (Done (Ok accepted)) turned takes tells = let e = ap (λ p. p.1) takes in absurd (cc)
    refuses next number false is (Done (Err error)) turned takes tells =
        let e = ap (λ p. p.1) takes in
        let same : error_number error ≡ number = cc in
        (ended next (Err error) (ap (λ n. (next, Done (Err n))) same ∙ turned) tells, latest ∙ others_left id a.caches.latest error (λ five. (let at : (number == 5) ≡ true = ap (λ n. n == 5) (sym same ∙ five) in absurd (cc (at, is)))))

    by_turn : (x : BoundaryCheck × Turned (Result (Unit {0}) ℕ)) (told : Turned (Result (Unit {0}) TransactionalObjectError)) → x ≡ boundary_check_turned check b.caches.boundary reply → (c.op, turned_by_number told) ≡ checks_turned check.id x → TellsErrorOf (reply_told reply) told → After path id a Runs c c.op told
    by_turn (next, Goes) Goes turned takes tells =
        subst (At path id a Runs c) (sym (ap (λ p. p.0) takes)) (check_goes path id a.store b.store c.store a.caches.boundary b.caches.boundary c.caches.boundary check next runs (one next Goes turned tells), latest)
    by_turn (next, Goes) (Done answer) turned takes tells = let e = ap (λ p. p.1) takes in absurd (cc)
    by_turn (next, Done (Ok accepted)) Goes turned takes tells = let e = ap (λ p. p.1) takes in absurd (cc)
    by_turn (next, Done (Ok accepted)) (Done (Ok answer)) turned takes tells = (ended next (Ok answer) (ap (λ p. (next, p.1)) takes ∙ turned) tells, latest)
    by_turn (next, Done (Ok accepted)) (Done (Err error)) turned takes tells = let e = ap (λ p. p.1) takes in absurd (cc)
    by_turn (next, Done (Err number)) told turned takes tells = refuses next number (number == 5) refl told turned takes tells

  reads : (b c : Scene CheckOp) (check : BoundaryCheck) (told : Turned (Result (Unit {0}) TransactionalObjectError)) (reply : Option Reply) → At path id a Runs b (Checks check) → Replies (boundary_check_asked check) b.store reply c.store → (c.op, turned_by_number told) ≡ check_turned (Checks check) b.caches reply → c.caches ≡ check_caches (Checks check) b.caches → TellsErrorOf (reply_told reply) told → After path id a Runs c c.op told
  reads b c check told reply (runs, latest) served takes leaves tells =
      by_turn b c check reply runs (ap (λ (k : Caches). k.latest) leaves ∙ latest) served (ap (λ (k : Caches). k.boundary) leaves) (boundary_check_turned check b.caches.boundary reply) told refl takes tells

  begins : CheckRunning path id a.store a.store a.caches.boundary a.caches.boundary (boundary_check_started path id)
  begins = record {
    formed = record { id_is = refl; read = refl; begins = tt };
    reads = record { kept = record { files = refl; given = refl; left = refl }; calls_rise = omega arith; failures_rise = omega arith };
    calls_are = omega arith;
    rises = omega arith;
    cached_is = refl;
    tells = tt;
    holds = λ b stands. (stands, tt);
  }

  pub unreached_on : a.op ≡ check_started path id → (n : ℕ) (b : Scene CheckOp) → GoesOn CheckSteps n a b → At path id a Runs b b.op
  unreached_on starts = check_on path id a Runs reads (subst (At path id a Runs a) (sym starts) (begins, refl))

  unreached_ends : a.op ≡ check_started path id → (n : ℕ) (b c : Scene CheckOp) (answer : Result (Unit {0}) TransactionalObjectError) → GoesOn CheckSteps n a b → CheckSteps b (Done answer) c → After path id a Runs c c.op (Done answer)
  unreached_ends starts = ends path id a Runs reads (subst (At path id a Runs a) (sym starts) (begins, refl))

module _ (path : Segments) (id : ℕ) (a : Scene CheckOp) (starts : a.op ≡ check_started path id) where
  by_cache : (t : Bool) → refused_by id a.caches.boundary ≡ t → (n : ℕ) (b c : Scene CheckOp) (answer : Result (Unit {0}) TransactionalObjectError) → GoesOn CheckSteps n a b → CheckSteps b (Done answer) c → CheckDriven path id (n + 1) a (Some answer) c
  by_cache true is n b c answer on step = reached_ends path id a is starts n b c answer on step
  by_cache false is n b c answer on step = unreached_ends path id a is starts n b c answer on step

  pub check_driven : (steps : ℕ) (result : Option (Result (Unit {0}) TransactionalObjectError)) (b : Scene CheckOp) → Drives CheckSteps steps a result b → CheckDriven path id steps a result b
  check_driven steps None b on = check_within path id steps a b None starts on
  check_driven steps (Some answer) c (n, b, within, on, step) = by_cache (refused_by id a.caches.boundary) refl n b c answer on step

-- what a check leaves so far: files and tokens, the versions that are held or those above the id, and the boundary that stood
pub record Between (path : Segments) (id : ℕ) (a : Scene CheckOp) (store : State) (caches : Caches) : Type 0 where
  pub kept : Kept a.store store
  pub calls_rise : a.store.calls ≤ store.calls
  pub calls_most : store.calls ≤ a.store.calls + 1
  pub failures_rise : a.store.failures ≤ store.failures
  pub latest : (caches.latest ≡ a.caches.latest) ⊎ (caches.latest ≡ above id a.caches.latest)
  pub stands : (b : ℕ) → BoundaryStands path a.caches.boundary a.store b → BoundaryStands path caches.boundary store b

-- a check that goes on takes a reply, whatever it makes of that
module _ (path : Segments) (id : ℕ) (a : Scene CheckOp) (starts : a.op ≡ check_started path id) where
  module _ (b : Scene CheckOp) (reply : Option Reply) (store : State) (caches : Caches) where
    drops_between : (i : ℕ) (Pending : Scene CheckOp → BoundaryCheck → Type 0) → At path id a Pending b (Drops i) → Replies (check_asked (Drops i)) b.store reply store → caches ≡ check_caches (Drops i) b.caches → Between path id a store caches
    drops_between i Pending (is, refused, latest) served leaves =
        let same : store ≡ b.store = (asked_look b.store store reply served).1 in
        let boundary : caches.boundary ≡ b.caches.boundary = ap (λ (k : Caches). k.boundary) leaves in
        subst (λ s. Between path id a s caches) (sym same) (record {
          kept = refused.kept;
          calls_rise = refused.spends.calls_rise;
          calls_most = refused.spends.calls_most;
          failures_rise = refused.spends.failures_rise;
          latest = inr (ap (λ (k : Caches). k.latest) leaves ∙ (ap (λ i. above i b.caches.latest) is ∙ ap (above id) latest));
          stands = λ n stood. subst (λ k. BoundaryStands path k b.store n) (sym boundary) (refused.stands n stood);
        })

    looks_between : (is : refused_by id a.caches.boundary ≡ true) → (check : BoundaryCheck) → At path id a (Unasked path id a is) b (Checks check) → Replies (check_asked (Checks check)) b.store reply store → caches ≡ check_caches (Checks check) b.caches → Between path id a store caches
    looks_between is check ((begun, same, boundary), latest) served leaves =
        let unmoved : store ≡ a.store = (asked_look b.store store reply (subst (λ (k : BoundaryCheck). Replies (boundary_check_asked k) b.store reply store) begun served)).1 ∙ same in
        let left : caches ≡ check_caches (Checks (boundary_check_started path id)) b.caches = leaves ∙ ap (λ k. check_caches (Checks k) b.caches) begun in
        let known : caches.boundary ≡ a.caches.boundary = ap (λ (k : Caches). k.boundary) left ∙ boundary in
        subst (λ s. Between path id a s caches) (sym unmoved) (record {
          kept = record { files = refl; given = refl; left = refl };
          calls_rise = omega arith;
          calls_most = omega arith;
          failures_rise = omega arith;
          latest = inl (ap (λ (k : Caches). k.latest) left ∙ latest);
          stands = λ n stood. subst (λ k. BoundaryStands path k a.store n) (sym known) stood;
        })

    reads_between : (is : refused_by id a.caches.boundary ≡ false) → (check : BoundaryCheck) → At path id a (Runs path id a is) b (Checks check) → Replies (check_asked (Checks check)) b.store reply store → caches ≡ check_caches (Checks check) b.caches → Between path id a store caches
    reads_between is check (runs, latest) served leaves =
        let left = check_leaves path id b.store store check b.caches.boundary reply runs.formed served in
        let boundary : caches.boundary ≡ boundary_check_cached check b.caches.boundary = ap (λ (k : Caches). k.boundary) leaves in
        let so_far = runs.calls_are in
        let few = left.1 in
        let rise = runs.reads.calls_rise in
        let more = left.0.calls_rise in
        let failed = runs.reads.failures_rise in
        let fails = left.0.failures_rise in
        record {
          kept = kept-trans a.store b.store store runs.reads.kept left.0.kept;
          calls_rise = omega (arith, rise, more);
          calls_most = omega (arith, so_far, few);
          failures_rise = omega (arith, failed, fails);
          latest = inl (ap (λ (k : Caches). k.latest) leaves ∙ latest);
          stands = λ n stood. (let at = runs.holds n stood in subst (λ k. BoundaryStands path k store n) (sym boundary) (left.2 n at.0 at.1));
        }

    reached_between : (is : refused_by id a.caches.boundary ≡ true) → (op : CheckOp) → At path id a (Unasked path id a is) b op → Replies (check_asked op) b.store reply store → caches ≡ check_caches op b.caches → Between path id a store caches
    reached_between is (Checks check) at served leaves = looks_between is check at served leaves
    reached_between is (Drops i) at served leaves = drops_between i (Unasked path id a is) at served leaves

    unreached_between : (is : refused_by id a.caches.boundary ≡ false) → (op : CheckOp) → At path id a (Runs path id a is) b op → Replies (check_asked op) b.store reply store → caches ≡ check_caches op b.caches → Between path id a store caches
    unreached_between is (Checks check) at served leaves = reads_between is check at served leaves
    unreached_between is (Drops i) at served leaves = drops_between i (Runs path id a is) at served leaves

  between_by : (t : Bool) → refused_by id a.caches.boundary ≡ t → (n : ℕ) (b : Scene CheckOp) (reply : Option Reply) (store : State) (caches : Caches) → GoesOn CheckSteps n a b → Replies (check_asked b.op) b.store reply store → caches ≡ check_caches b.op b.caches → Between path id a store caches
  between_by true is n b reply store caches on served leaves = reached_between b reply store caches is b.op (reached_on path id a is starts n b on) served leaves
  between_by false is n b reply store caches on served leaves = unreached_between b reply store caches is b.op (unreached_on path id a is starts n b on) served leaves

  pub check_between : (n : ℕ) (b : Scene CheckOp) (reply : Option Reply) (store : State) (caches : Caches) → GoesOn CheckSteps n a b → Replies (check_asked b.op) b.store reply store → caches ≡ check_caches b.op b.caches → Between path id a store caches
  check_between = between_by (refused_by id a.caches.boundary) refl
