-- The passes of a read of the newest version that runs alone: what each part of one leaves.
use Rattle.std.proofs.Common.{◌≡◌, ◌⊎◌, ℕ, ◌+◌, ◌*◌, ◌<◌, ◌≤◌, ◌^◌, List, [], ◌∷◌, nat_lt, Option, Some, None, IsSome, IfSome, Result, Ok, Err, IfOk, IfErr, refl, sym, subst, inl, inr, arith}
use Rattle.std.proofs.lemmas.Bool.{cases_Bool}
use Rattle.txn_store.specs.Paths.{Segments}
use Rattle.txn_store.specs.VersionName.{Names}
use Rattle.txn_store.specs.Store.{State, Kept}
use Rattle.txn_store.specs.types.Errors.{error_number}
use Rattle.txn_store.specs.declared.types.error.TransactionalObjectError.{TransactionalObjectError}
use Rattle.txn_store.specs.declared.types.error.TransactionalObjectError.TheVariants as kinds
use Rattle.txn_steps.specs.boundary.Checks.{check_started}
use Rattle.txn_steps.specs.boundary.Windows.{Ascends, held, greatest_held, above}
use Rattle.txn_steps.specs.declared.boundary.caches.Cached.{Cached}
use Rattle.txn_steps.specs.declared.boundary.caches.Caches.{Caches}
use Rattle.txn_steps.specs.declared.boundary.check.CheckOp.{CheckOp}
use Rattle.txn_steps.specs.declared.boundary.turned.Turned.{Turned}
use Rattle.txn_steps.specs.declared.boundary.turned.Turned.TheVariants.{Goes, Done}
use Rattle.txn_steps.specs.declared.latest.LatestOp.{LatestOp}
use Rattle.txn_steps.specs.declared.latest.LatestOp.TheVariants as latest
use Rattle.txn_steps.specs.declared.read.ReadOp.{ReadOp}
use Rattle.txn_steps.specs.Latest.{latest_window_after}
use Rattle.txn_steps_driven.specs.Calls.{HasCause, HasCauseOfRead, HasCauseOfCheck}
use Rattle.txn_steps_driven.specs.Checking.{Unbounded}
use Rattle.txn_steps_driven.specs.DriveRuns.{Scene, GoesOn}
use Rattle.txn_steps_driven.specs.DriveSteps.{LatestSteps}
use Rattle.txn_steps_laws.specs.DrivenReads.{HasCauseOfNewest, IsNewest, IsHeldAnswer, IsOver, AllStand, ReadEnds}
use Rattle.txn_steps_driven.specs.LatestReads.{HasPages, Every, IsStored, IsHeldOrStored, IsRefused, NoneStored, IsAnswer, IsLatest, AnswersOf}
use Rattle.txn_steps_driven.specs.PageCount.{pages_below}
use Rattle.txn_steps_driven.specs.Standing.{Carried, WindowFits, BoundaryStands}
use Rattle.txn_steps_driven.proofs.CheckSteps.{store_cause_on}
use Rattle.txn_steps_laws.proofs.DrivenCheck.{Between}
use Rattle.txn_steps_laws.proofs.DrivenLatest.{latest_driven}
use Rattle.txn_steps_driven.proofs.Frames.{kept-trans, FilesStand-kept, BoundaryStands-kept}
use Rattle.txn_steps_driven.proofs.LatestStands.{stored_carried}
use Rattle.txn_steps_driven.proofs.LatestWindows.{every_carried, every_one, every_as, grown_every}
use Rattle.txn_steps_driven.proofs.NextPages.{has_pages}
use Rattle.txn_steps_driven.proofs.Windows.{above_fits}

-- causes of a part are causes of the whole

cause_of_read : (unheld : Type 0) (old mid new : State) (error : TransactionalObjectError) → old.failures ≤ mid.failures → HasCauseOfRead 1 mid new error → HasCauseOfNewest unheld old new error
cause_of_read unheld old mid new (kinds.ObjectStoreError e) rise cause = store_cause_on old mid new e rise cause
cause_of_read unheld old mid new kinds.InvalidObjectState rise cause = absurd cause
cause_of_read unheld old mid new (kinds.CallbackError e) rise cause = tt
cause_of_read unheld old mid new kinds.NoMemory rise cause = tt
cause_of_read unheld old mid new kinds.TurnsExhausted rise cause = absurd (omega (arith, cause))
cause_of_read unheld old mid new error rise cause = cause

pub cause_of_check : (unheld unheld' : Type 0) (old mid new : State) (error : TransactionalObjectError) → old.failures ≤ mid.failures → (unheld → unheld') → (error_number error ≡ 5 → ⊥) → HasCauseOfCheck unheld mid new error → HasCauseOfNewest unheld' old new error
cause_of_check unheld unheld' old mid new (kinds.ObjectStoreError e) rise on other cause = store_cause_on old mid new e rise cause
cause_of_check unheld unheld' old mid new kinds.ObjectVersionExists rise on other cause = absurd (other refl)
cause_of_check unheld unheld' old mid new kinds.InvalidObjectState rise on other cause = on cause
cause_of_check unheld unheld' old mid new (kinds.CallbackError e) rise on other cause = tt
cause_of_check unheld unheld' old mid new kinds.NoMemory rise on other cause = tt
cause_of_check unheld unheld' old mid new error rise on other cause = cause

-- a check never answers that a codec refused
pub check_reads_none : (unheld : Type 0) (old new : State) (error : TransactionalObjectError) → HasCauseOfCheck unheld old new error → error_number error ≡ 8 → ⊥
check_reads_none unheld old new (kinds.CallbackError e) cause is = absurd cause
check_reads_none unheld old new error cause is = omega (arith, is)

module _ {T : Type 0} where
  -- an answer leaves of what is held what going on does
  pub found_leaves : (op : LatestOp T) (held : List Cached) (found : Option (ℕ × T)) → latest_window_after op held Goes ≡ latest_window_after op held (Done (Ok found))
  found_leaves latest.Looks held found = refl
  found_leaves (latest.Probes hand n next request) held found = refl
  found_leaves (latest.Finds successor n) held found = refl
  found_leaves (latest.Lists n request) held found = refl
  found_leaves (latest.Chooses greatest) held found = refl
  found_leaves (latest.Gets id request) held found = refl
  found_leaves (latest.Keeps version value) held found = refl
  found_leaves (latest.Drops id) held found = refl
  found_leaves latest.Ended held found = refl

module _ {T : Type 0} (names : Names) (path : Segments) (page : ℕ) (room : 1 ≤ page) (decode : List ℕ → Option T) (a : Scene (ReadOp T)) where
  abbrev pub LSteps : Scene (LatestOp T) → Turned (Result (Option (ℕ × T)) TransactionalObjectError) → Scene (LatestOp T) → Type 0
  LSteps = LatestSteps names page decode

  -- how many pages a listing has
  abbrev pub pages : ℕ
  pages = pages_below names page a.store.files

  -- a version was held as it began, or is stored
  abbrev pub Known : Cached → Type 0
  Known = IsHeldOrStored names a.store.files a.caches.latest

  abbrev pub Stood : List T → ℕ → Type 0
  Stood h n = AllStand names decode path a.store a.caches h n

  abbrev reading : Scene (ReadOp T) → LatestOp T → Scene (LatestOp T)
  reading s op = record { op = op; caches = s.caches; store = s.store }

  abbrev checking : Scene (ReadOp T) → CheckOp → Scene CheckOp
  checking s op = record { op = op; caches = s.caches; store = s.store }

  abbrev pub check_begun : Scene (LatestOp T) → ℕ → Scene CheckOp
  check_begun m id = record { op = check_started path id; caches = m.caches; store = m.store }

  -- what every part leaves
  pub record Leaves (store : State) (caches : Caches) : Type 0 where
    pub kept : Kept a.store store
    pub calls_rise : a.store.calls ≤ store.calls
    pub failures_rise : a.store.failures ≤ store.failures
    pub held : Every Known caches.latest
    pub bounded : (n : ℕ) → BoundaryStands path a.caches.boundary a.store n → BoundaryStands path caches.boundary store n

  -- the first pass, or the second, which begins with nothing held
  abbrev Pass : ℕ → Scene (LatestOp T) → Type 0
  Pass before s = ((before ≡ 0) × (s.store.calls ≡ a.store.calls)) ⊎ ((before ≤ 20 + pages) × (s.store.calls ≤ a.store.calls + 6 + pages) × (s.caches.latest ≡ []))

  -- a pass that begins after so many steps
  pub record Began (before : ℕ) (s : Scene (LatestOp T)) : Type 0 where
    pub is : s.op ≡ latest.Looks
    pub leaves : Leaves s.store s.caches
    pub ascends : Ascends s.caches.latest
    pub small : IfSome (greatest_held s.caches.latest) (λ version. version.id < 2 ^ 64)
    pub stands : (h : List T) (n : ℕ) → Stood h n → AllStand names decode path s.store s.caches h n × Pass before s

  -- an unchecked read of a pass that ended
  pub record Found (before : ℕ) (s : Scene (LatestOp T)) (answer : Result (Option (ℕ × T)) TransactionalObjectError) (store : State) (caches : Caches) : Type 0 where
    pub leaves : Leaves store caches
    pub answers : IfOk answer (IsHeldAnswer names decode a.store.files caches.latest)
    pub cause : IfErr answer (HasCauseOfNewest (Unbounded path a.caches.boundary a.store) a.store store)
    pub refused : IfErr answer (λ error. error_number error ≡ 8 → IsRefused names decode a.store.files a.caches.latest)
    pub stands : (h : List T) (n : ℕ) → Stood h n → AllStand names decode path store caches h n × Pass before s × IfOk answer (AnswersOf h n s.caches.latest caches.latest)
    pub calls : store.calls + 1 ≤ s.store.calls + 6 + pages

  lift : (s : Scene (LatestOp T)) → Leaves s.store s.caches → (version : Cached) → IsHeldOrStored names s.store.files s.caches.latest version → Known version
  lift s leaves version (inl one) = every_one Known s.caches.latest version leaves.held one
  lift s leaves version (inr stored) = inr (subst (λ f. IsStored names f version) leaves.kept.files stored)

  none_stored : (s : Scene (LatestOp T)) → Leaves s.store s.caches → NoneStored names s.store.files → NoneStored names a.store.files
  none_stored s leaves none = subst (NoneStored names) leaves.kept.files none

  pub found : (before : ℕ) (s m : Scene (LatestOp T)) (answer : Result (Option (ℕ × T)) TransactionalObjectError) (k : ℕ) (w : Scene (LatestOp T)) → Began before s → GoesOn LSteps k s w → LSteps w (Done answer) m → Found before s answer m.store m.caches
  found before s m answer k w began on step =
      let driven = latest_driven names page room decode s began.is began.ascends began.small (k + 1) (Some answer) m (k, w, omega arith, on, step) in
      let e = driven.1 1 in
      let kept = began.leaves.kept in
      let rise = began.leaves.calls_rise in
      let more = e.spends.calls_rise in
      let most = e.spends.calls_most in
      let failed = began.leaves.failures_rise in
      let fails = e.spends.failures_rise in
      let files : s.store.files ≡ a.store.files = kept.files in
      let few = e.pages pages (subst (λ f. HasPages names page f pages) (sym files) (has_pages names page a.store.files room)) in
      record {
        leaves = record {
          kept = kept-trans a.store s.store m.store kept e.kept;
          calls_rise = omega (arith, rise, more);
          failures_rise = omega (arith, failed, fails);
          held = every_as (IsHeldOrStored names s.store.files s.caches.latest) Known m.caches.latest (lift s began.leaves) (grown_every names s.store.files s.caches.latest m.caches.latest e.grown);
          bounded = λ n stood. bounded_on n (began.leaves.bounded n stood) driven.2 e.kept;
        };
        answers = answers_by answer e.spent e.calls e.answer;
        cause = cause_by answer e.cause;
        refused = refused_by answer e.refused;
        stands = λ h n stood. (
            let at = began.stands h n stood in
            let stands = e.stands h n at.0.files at.0.window in
            (record { files = stands.files; window = stands.window; boundary = bounded_on n at.0.boundary driven.2 e.kept }, at.1, stands.answer)
            );
        calls = omega (arith, most, few);
      }
    where
      bounded_on : (n : ℕ) → BoundaryStands path s.caches.boundary s.store n → m.caches.boundary ≡ s.caches.boundary → Kept s.store m.store → BoundaryStands path m.caches.boundary m.store n
      bounded_on n stands same kept = subst (λ k. BoundaryStands path k m.store n) (sym same) (BoundaryStands-kept path s.caches.boundary s.store m.store n kept stands)

      answers_by : (answer : Result (Option (ℕ × T)) TransactionalObjectError) (spent calls : ℕ) → IfOk answer (IsAnswer names decode s.store.files s.caches.latest spent calls m.caches.latest) → IfOk answer (IsHeldAnswer names decode a.store.files m.caches.latest)
      answers_by (Ok None) spent calls is = none_stored s began.leaves is.1
      answers_by (Ok (Some read)) spent calls is = (is.1, is.2)
      answers_by (Err error) spent calls is = tt

      cause_by : (answer : Result (Option (ℕ × T)) TransactionalObjectError) → IfErr answer (HasCauseOfRead 1 s.store m.store) → IfErr answer (HasCauseOfNewest (Unbounded path a.caches.boundary a.store) a.store m.store)
      cause_by (Ok x) cause = tt
      cause_by (Err error) cause = cause_of_read (Unbounded path a.caches.boundary a.store) a.store s.store m.store error began.leaves.failures_rise cause

      refused_by : (answer : Result (Option (ℕ × T)) TransactionalObjectError) → IfErr answer (λ error. error_number error ≡ 8 → IsRefused names decode s.store.files s.caches.latest) → IfErr answer (λ error. error_number error ≡ 8 → IsRefused names decode a.store.files a.caches.latest)
      refused_by (Ok x) refused = tt
      refused_by (Err error) refused = λ is. (let r = refused is in (r.0, lift s began.leaves r.0 r.1, r.2))

  -- where all stood, the codec refuses no version, and the boundary's file says one
  none_refused : (h : List T) (n : ℕ) → Stood h n → IsRefused names decode a.store.files a.caches.latest → ⊥
  none_refused h n stood (version, inl one, none) =
      let c = every_one (Carried decode h n) a.caches.latest version (every_carried decode h n a.caches.latest stood.window) one in
      let some = subst IsSome none c.decodes in
      absurd (cc some)
  none_refused h n stood (version, inr stored, none) =
      let c = stored_carried names decode a.store.files h n stood.files version stored in
      let some = subst IsSome none c.decodes in
      absurd (cc some)

  sure_cause : (h : List T) (n : ℕ) → Stood h n → (new : State) (error : TransactionalObjectError) → HasCauseOfNewest (Unbounded path a.caches.boundary a.store) a.store new error → (error_number error ≡ 8 → IsRefused names decode a.store.files a.caches.latest) → HasCause a.store new error
  sure_cause h n stood new kinds.InvalidObjectState cause refused = absurd (cause n stood.boundary)
  sure_cause h n stood new (kinds.CallbackError e) cause refused = absurd (none_refused h n stood (refused refl))
  sure_cause h n stood new kinds.NoMemory cause refused = tt
  sure_cause h n stood new error cause refused = cause

  sure_by : (h : List T) (n : ℕ) → Stood h n → (new : State) (answer : Result (Option (ℕ × T)) TransactionalObjectError) → IfErr answer (HasCauseOfNewest (Unbounded path a.caches.boundary a.store) a.store new) → IfErr answer (λ error. error_number error ≡ 8 → IsRefused names decode a.store.files a.caches.latest) → IfErr answer (HasCause a.store new)
  sure_by h n stood new (Ok found) cause refused = tt
  sure_by h n stood new (Err error) cause refused = sure_cause h n stood new error cause refused

  -- a pass begins early
  pub early_pass : (before : ℕ) (s : Scene (LatestOp T)) → Pass before s → before ≤ 20 + pages
  early_pass before s (inl (none, same)) = omega (arith, none)
  early_pass before s (inr (early, most, cold)) = early

  -- the calls of two passes
  few_calls : (before : ℕ) (s : Scene (LatestOp T)) (calls : ℕ) → Pass before s → calls ≤ s.store.calls + 6 + pages → calls ≤ a.store.calls + 12 + 2 * pages
  few_calls before s calls (inl (none, same)) few = omega (arith, same, few)
  few_calls before s calls (inr (early, most, empty)) few = omega (arith, most, few)

  -- an unchecked read that found no version ends the read
  pub ends_unchecked : (before : ℕ) (s : Scene (LatestOp T)) (c : Scene (ReadOp T)) (answer : Result (Option (ℕ × T)) TransactionalObjectError) → ((h : List T) (n : ℕ) → IfOk answer (AnswersOf h n s.caches.latest c.caches.latest) → IfOk answer (IsNewest h)) → IfOk answer (λ found. (n : ℕ) → BoundaryStands path a.caches.boundary a.store n → IsOver n found) → Found before s answer c.store c.caches → ReadEnds names decode path page a c answer
  ends_unchecked before s c answer newest over f = record {
    kept = f.leaves.kept;
    calls_rise = f.leaves.calls_rise;
    failures_rise = f.leaves.failures_rise;
    held = f.leaves.held;
    answer = f.answers;
    above = over;
    cause = f.cause;
    refused = f.refused;
    stands = λ h n stood. (let at = f.stands h n stood in let few = f.calls in record { stands = at.0; answer = newest h n at.2; cause = sure_by h n stood c.store answer f.cause f.refused; calls = few_calls before s c.store.calls at.1 (omega (arith, few)) });
  }

  every_above : (id : ℕ) (versions : List Cached) → Every Known versions → Every Known (above id versions)
  every_above id [] each = tt
  every_above id (version ∷ versions) each = elim (cases_Bool (nat_lt id version.id)) [ inl lt ↦ rw lt (each.0, every_above id versions each.1) | inr ge ↦ rw ge (every_above id versions each.1) ]

  -- a version was found, and its id is checked
  module _ (before : ℕ) (s m : Scene (LatestOp T)) (id : ℕ) (value : T) (f : Found before s (Ok (Some (id, value))) m.store m.caches) (c : Scene (ReadOp T)) (between : Between path id (check_begun m id) c.store c.caches) where
    checked_leaves : Leaves c.store c.caches
    checked_leaves =
        let rise = f.leaves.calls_rise in
        let more = between.calls_rise in
        let failed = f.leaves.failures_rise in
        let fails = between.failures_rise in
        record {
          kept = kept-trans a.store m.store c.store f.leaves.kept between.kept;
          calls_rise = omega (arith, rise, more);
          failures_rise = omega (arith, failed, fails);
          held = elim between.latest [ inl same ↦ subst (Every Known) (sym same) f.leaves.held | inr less ↦ subst (Every Known) (sym less) (every_above id m.caches.latest f.leaves.held) ];
          bounded = λ n stood. between.stands n (f.leaves.bounded n stood);
        }

    checked_stands : (h : List T) (n : ℕ) → AllStand names decode path m.store m.caches h n → AllStand names decode path c.store c.caches h n
    checked_stands h n at = record {
      files = FilesStand-kept names decode h n m.store c.store between.kept at.files;
      window = elim between.latest [ inl same ↦ subst (WindowFits decode h n) (sym same) at.window | inr less ↦ subst (WindowFits decode h n) (sym less) (above_fits decode h n id m.caches.latest at.window) ];
      boundary = between.stands n at.boundary;
    }

    checked_calls : c.store.calls ≤ s.store.calls + 6 + pages
    checked_calls = let few = f.calls in let most = between.calls_most in omega (arith, few, most)

    pub check_fails : (error : TransactionalObjectError) → HasCauseOfNewest (Unbounded path a.caches.boundary a.store) a.store c.store error → (error_number error ≡ 8 → ⊥) → ReadEnds names decode path page a c (Err error)
    check_fails error cause reads = record {
      kept = checked_leaves.kept;
      calls_rise = checked_leaves.calls_rise;
      failures_rise = checked_leaves.failures_rise;
      held = checked_leaves.held;
      answer = tt;
      above = tt;
      cause = cause;
      refused = λ is. absurd (reads is);
      stands = λ h n stood. (let at = f.stands h n stood in record { stands = checked_stands h n at.0; answer = tt; cause = sure_cause h n stood c.store error cause (λ is. absurd (reads is)); calls = few_calls before s c.store.calls at.1 checked_calls });
    }

    -- above the boundary it is the newest
    newest : (h : List T) (n : ℕ) → n < id → AnswersOf h n s.caches.latest m.caches.latest (Some (id, value)) → IsLatest h id value
    newest h n over (inl is) = is
    newest h n over (inr (warm, fenced, up)) = absurd (omega (arith, over, fenced))

    pub accepts : ((n : ℕ) → BoundaryStands path m.caches.boundary m.store n → n < id) → c.caches.latest ≡ m.caches.latest → ReadEnds names decode path page a c (Ok (Some (id, value)))
    accepts over same = record {
      kept = checked_leaves.kept;
      calls_rise = checked_leaves.calls_rise;
      failures_rise = checked_leaves.failures_rise;
      held = checked_leaves.held;
      answer = subst (λ l. IsHeldAnswer names decode a.store.files l (Some (id, value))) (sym same) f.answers;
      above = λ n stood. over n (f.leaves.bounded n stood);
      cause = tt;
      refused = tt;
      stands = λ h n stood. (let at = f.stands h n stood in record { stands = checked_stands h n at.0; answer = newest h n (over n at.0.boundary) at.2; cause = tt; calls = few_calls before s c.store.calls at.1 checked_calls });
    }

    -- a version that is refused leaves nothing held, and only the first pass finds one
    module _ (fenced : (n : ℕ) → BoundaryStands path m.caches.boundary m.store n → id ≤ n) (empty : c.caches.latest ≡ []) (steps : ℕ) (few : steps ≤ before + 20 + pages) where
      next_pass : (h : List T) (n : ℕ) → AllStand names decode path m.store m.caches h n → Pass before s → AnswersOf h n s.caches.latest m.caches.latest (Some (id, value)) → Pass steps (reading c latest.Looks)
      next_pass h n at (inl (none, same)) answers = let calls = checked_calls in inr (omega (arith, few, none), omega (arith, calls, same), empty)
      next_pass h n at (inr (early, most, cold)) (inl is) =
          let le = fenced n at.boundary in
          let lt = at.files.newest is.some in
          let at_end = is.id_is in
          absurd (omega (arith, le, lt, at_end))
      next_pass h n at (inr (early, most, cold)) (inr (warm, low, up)) = absurd (warm cold)

      pub restarts : Began steps (reading c latest.Looks)
      restarts = record {
        is = refl;
        leaves = checked_leaves;
        ascends = subst Ascends (sym empty) tt;
        small = subst (λ l. IfSome (greatest_held l) (λ version. version.id < 2 ^ 64)) (sym empty) tt;
        stands = λ h n stood. (let at = f.stands h n stood in (checked_stands h n at.0, next_pass h n at.0 at.1 at.2));
      }
