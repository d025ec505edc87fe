-- A check of an id against the boundary: one step, and the loop.
use Rattle.std.proofs.Common.{◌≡◌, ◌⊎◌, ℕ, ◌+◌, ◌<◌, ◌≤◌, true, false, nat_lt, Option, Some, None, Result, Ok, Err, IsErrOf, refl, sym, ap, subst, ◌∙◌, inl, inr, arith}
use Rattle.std.proofs.lemmas.Bool.{leb-true, ltb-true, ltb-false}
use Rattle.std.specs.FinMap as map
use Rattle.txn_store.specs.Paths.{Segments}
use Rattle.txn_store.specs.Store.{State, Kept}
use Rattle.txn_store.specs.declared.store.StoreError.{StoreError}
use Rattle.txn_store.specs.declared.store.StoreError.TheVariants as errors
use Rattle.txn_store.specs.declared.request.Reply.{Reply}
use Rattle.txn_store.specs.types.Errors.{error_number}
use Rattle.txn_store.specs.declared.types.error.TransactionalObjectError.{TransactionalObjectError}
use Rattle.txn_store.specs.declared.types.error.TransactionalObjectError.TheVariants as kinds
use Rattle.txn_steps.specs.declared.boundary.caches.CachedBoundary.{CachedBoundary}
use Rattle.txn_steps.specs.declared.boundary.boundary_read.BoundaryRead.{BoundaryRead}
use Rattle.txn_steps.specs.declared.boundary.boundary_read.BoundaryRead.TheVariants as read
use Rattle.txn_steps.specs.declared.boundary.check.BoundaryStep.{BoundaryStep}
use Rattle.txn_steps.specs.declared.boundary.check.BoundaryStep.TheVariants as step
use Rattle.txn_steps.specs.declared.boundary.check.BoundaryCheck.{BoundaryCheck}
use Rattle.txn_steps.specs.declared.boundary.turned.Turned.{Turned}
use Rattle.txn_steps.specs.declared.boundary.turned.Turned.TheVariants.{Goes, Done}
use Rattle.txn_steps.specs.boundary.Asking.{reply_told}
use Rattle.txn_steps.specs.boundary.Steps.{turned_by_number, IsErrorOf, TellsErrorOf}
use Rattle.txn_steps.specs.boundary.Boundaries.{Known, refused_by}
use Rattle.txn_steps.specs.boundary.BoundaryReads.{boundary_held, boundary_turned, boundary_cached}
use Rattle.txn_steps.specs.boundary.BoundaryChecks.{boundary_check_asked, boundary_check_turned, boundary_check_cached, asked_at, turned_at, cached_at, reads_by, reads_turned, IsReplyAt, IsBoundaryCheckReply}
use Rattle.txn_steps_driven.specs.Asked.{Replies}
use Rattle.txn_steps_driven.specs.Calls.{Spends, HasStoreCause, HasCauseOfCheck}
use Rattle.txn_steps_driven.specs.Standing.{BoundaryFits, BoundaryStands}
use Rattle.txn_steps_driven.specs.BoundaryRuns.{ReadTells, CheckTells, Reads, ReadFormed, ReadHolds, check_steps, check_calls, FormedAt, CheckFormed, CheckSteps, CheckHolds, IsCheckStep, CheckRunning}
use Rattle.txn_steps_driven.specs.Checking.{Unbounded, Checked, MissingOrCurrent, number_of, read_says}
use Rattle.txn_steps_driven.proofs.BoundarySteps.{branch, stands_kept, reads_on, looked_reply, HasCauseAt, ReadEnds, read_rises, ReadSays, read_says_on, ReadSteps, ReadKeeps, read_replied, read_steps_on, read_keeps_on}

-- a conflict is no failure
abbrev CauseAt : Option StoreError → State → State → ℕ → Type 0
CauseAt told old new number = (number ≡ 5) ⊎ HasCauseAt told old new number

none_at : (told : Option StoreError) (old new : State) (number : ℕ) → CauseAt told old new number → (number ≡ 5 → ⊥) → (number ≡ 2 → ⊥) → (number ≡ 7 → ⊥) → (number ≡ 9 → ⊥) → ⊥
none_at told old new number (inl five) a b c d = a five
none_at told old new number (inr (inl (two, why))) a b c d = b two
none_at told old new number (inr (inr (inl seven))) a b c d = c seven
none_at told old new number (inr (inr (inr nine))) a b c d = d nine

-- the cause of an error, by its number and by the store's error that it holds
cause_of : (told : Option StoreError) (old new : State) (error : TransactionalObjectError) → IsErrorOf told error → CauseAt told old new (error_number error) → HasCauseOfCheck (Unit {0}) old new error
cause_of told old new kinds.ObjectVersionExists is cause = tt
cause_of told old new kinds.InvalidObjectState is cause = tt
cause_of told old new kinds.NoMemory is cause = tt
cause_of told old new (kinds.ObjectStoreError error) is cause = by_cause cause
  where
    by_cause : CauseAt told old new 2 → HasStoreCause old new error
    by_cause (inl five) = absurd (omega (arith, five))
    by_cause (inr (inl (two, why))) = why error is
    by_cause (inr (inr (inl seven))) = absurd (omega (arith, seven))
    by_cause (inr (inr (inr nine))) = absurd (omega (arith, nine))
cause_of told old new error is cause = absurd (none_at told old new (error_number error) cause (λ e. omega (arith, e)) (λ e. omega (arith, e)) (λ e. omega (arith, e)) (λ e. omega (arith, e)))

-- a cause of the last step is one of the whole call
pub store_cause_on : (old mid new : State) (error : StoreError) → old.failures ≤ mid.failures → HasStoreCause mid new error → HasStoreCause old new error
store_cause_on old mid new errors.Failed rise cause = omega (arith, rise, cause)
store_cause_on old mid new error rise cause = cause

cause_on : (unheld : Type 0) (old mid new : State) (error : TransactionalObjectError) → old.failures ≤ mid.failures → (error_number error ≡ 7 → unheld) → HasCauseOfCheck (Unit {0}) mid new error → HasCauseOfCheck unheld old new error
cause_on unheld old mid new kinds.ObjectVersionExists rise seven cause = tt
cause_on unheld old mid new kinds.InvalidObjectState rise seven cause = seven refl
cause_on unheld old mid new kinds.NoMemory rise seven cause = tt
cause_on unheld old mid new (kinds.ObjectStoreError error) rise seven cause = store_cause_on old mid new error rise cause
cause_on unheld old mid new error rise seven cause = cause

-- a cached boundary that refuses an id has reached it
pub refused_above : (path : Segments) (store : State) (id : ℕ) (cached : Option CachedBoundary) (b : ℕ) → BoundaryFits path store.files store.given b cached → refused_by id cached ≡ true → id ≤ b
refused_above path store id None b fits is = absurd (cc)
refused_above path store id (Some known) b fits is = let le = leb-true id known.number is in let most = fits.at_most in omega (arith, le, most)

pub reached_by : (id : ℕ) (cached : Option CachedBoundary) → refused_by id cached ≡ true → id ≤ number_of cached
reached_by id None is = absurd (cc)
reached_by id (Some known) is = leb-true id known.number is

module _ (path : Segments) (goal : ℕ) (old new : State) where
  -- by the number of the error
  abbrev Numbered : Option CachedBoundary → Option StoreError → BoundaryCheck → BoundaryCheck × Turned (Result (Unit {0}) ℕ) → Type 0
  Numbered cached told op (next, Goes) = CheckFormed path cached goal next × (check_steps next < check_steps op) × (new.calls + check_calls next ≡ old.calls + check_calls op)
  Numbered cached told op (next, Done (Ok accepted)) = new.calls ≡ old.calls + check_calls op
  Numbered cached told op (next, Done (Err number)) = (new.calls ≤ old.calls + check_calls op) × CauseAt told old new number × (number ≡ 5 → goal ≤ number_of cached)

  abbrev NumberedHolds : Option CachedBoundary → ℕ → BoundaryCheck × Turned (Result (Unit {0}) ℕ) → Type 0
  NumberedHolds cached b (next, Goes) = BoundaryStands path cached new b × ReadHolds path cached new b next.read
  NumberedHolds cached b (next, Done (Ok accepted)) = BoundaryStands path cached new b × (b < goal) × MissingOrCurrent path cached new b
  NumberedHolds cached b (next, Done (Err number)) = BoundaryStands path cached new b × (number ≡ 5 → goal ≤ b) × (number ≡ 7 → ⊥)

  abbrev NumberedTells : Option CachedBoundary → Option CachedBoundary → BoundaryCheck × Turned (Result (Unit {0}) ℕ) → Type 0
  NumberedTells cached cached' (next, Goes) = (cached' ≡ cached) × ReadTells cached (map.get old.files path) next.read
  NumberedTells cached cached' (next, Done (Ok accepted)) = (n : ℕ) × (read_says cached (map.get old.files path) ≡ Some n) × (n < goal)
  NumberedTells cached cached' (next, Done (Err number)) = (number ≡ 5 → (refused_by goal cached ≡ true) ⊎ ((n : ℕ) × (read_says cached (map.get old.files path) ≡ Some n) × (goal ≤ n))) × (number ≡ 7 → read_says cached (map.get old.files path) ≡ None)

  named_tells : (cached cached' : Option CachedBoundary) (op' : BoundaryCheck) (told : Turned (Result (Unit {0}) TransactionalObjectError)) → NumberedTells cached cached' (op', turned_by_number told) → CheckTells cached cached' (map.get old.files path) goal op' told
  named_tells cached cached' op' Goes tells = tells
  named_tells cached cached' op' (Done (Ok accepted)) tells = tells
  named_tells cached cached' op' (Done (Err e)) tells = tells

  named_steps : (cached : Option CachedBoundary) (error : Option StoreError) (op op' : BoundaryCheck) (told : Turned (Result (Unit {0}) TransactionalObjectError)) → TellsErrorOf error told → Numbered cached error op (op', turned_by_number told) → CheckSteps path cached goal old new op op' told
  named_steps cached error op op' Goes tells steps = steps
  named_steps cached error op op' (Done (Ok accepted)) tells steps = steps
  named_steps cached error op op' (Done (Err e)) tells steps = (steps.0, cause_of error old new e tells steps.1, steps.2)

  named_holds : (cached : Option CachedBoundary) (b : ℕ) (op' : BoundaryCheck) (told : Turned (Result (Unit {0}) TransactionalObjectError)) → NumberedHolds cached b (op', turned_by_number told) → CheckHolds path cached goal new b op' told
  named_holds cached b op' Goes holds = holds
  named_holds cached b op' (Done (Ok accepted)) holds = holds
  named_holds cached b op' (Done (Err e)) holds = holds

  -- a read that ends leaves what it says cached, but for a missing file
  ends_at : (r : BoundaryRead) (cached : Option CachedBoundary) (known : Known) → ReadEnds path old new r cached known → known.0 ≤ number_of cached
  ends_at (read.Looks p) cached known ends = absurd ends
  ends_at (read.Gets request) cached known (missing, is) = let none : known.0 ≡ 0 = ap (λ k. k.0) is in omega (arith, none)
  ends_at (read.Holds held) cached known (kept, is, pair) = rw is (let same : known.0 ≡ kept.number = ap (λ k. k.0) pair in omega (arith, same))

  -- the look that caches ends a read
  held_ends : (held cached : Option CachedBoundary) (r : BoundaryRead) → (boundary_held r held cached).1 ≡ Goes → ⊥
  held_ends (Some known) cached r goes = cc
  held_ends None (Some cached) r goes = cc
  held_ends None None r goes = cc

  goes_same : (r : BoundaryRead) (cached : Option CachedBoundary) (reply : Option Reply) → (boundary_turned r cached reply).1 ≡ Goes → boundary_cached r cached ≡ cached
  goes_same (read.Looks p) cached reply goes = refl
  goes_same (read.Gets request) cached reply goes = refl
  goes_same (read.Holds held) cached reply goes = absurd (held_ends held cached (read.Holds held) goes)

  module _ (op : BoundaryCheck) (id_is : op.id ≡ goal) where
    -- a read of the boundary never says that it conflicts
    no_five : (told : Option StoreError) (number : ℕ) → HasCauseAt told old new number → number ≡ 5 → ⊥
    no_five told number (inl (two, why)) five = omega (arith, two, five)
    no_five told number (inr (inl seven)) five = omega (arith, seven, five)
    no_five told number (inr (inr nine)) five = omega (arith, nine, five)

    read_steps_of : (cached' : Option CachedBoundary) (told : Option StoreError) (at : op.step ≡ step.Reads) (x : BoundaryRead × Turned (Result Known ℕ)) → ReadSteps path old new cached' told op.read x → Numbered cached' told op (reads_turned op x)
    read_steps_of cached' told at (s, Goes) (formed, less, calls) = (record { id_is = id_is; read = formed; begins = tt }, rw at (less), calls)
    read_steps_of cached' told at (s, Done (Ok known)) (calls, ends) = branch (λ a. Numbered cached' told op (reads_by op s, Done a)) (nat_lt known.0 op.id) (Ok tt) (Err 5) (λ t. calls)
        (λ t. (omega (arith, calls), inl refl, λ five. let most = ltb-false known.0 op.id t in let cached_is = ends_at op.read cached' known ends in omega (arith, most, cached_is, id_is)))
    read_steps_of cached' told at (s, Done (Err number)) (calls, cause) = (omega (arith, calls), inr cause, λ five. absurd (no_five told number cause five))

    read_holds_of : (cached' : Option CachedBoundary) (told : Option StoreError) (b : ℕ) (x : BoundaryRead × Turned (Result Known ℕ)) → ReadSteps path old new cached' told op.read x → ReadKeeps path old new cached' b x → NumberedHolds cached' b (reads_turned op x)
    read_holds_of cached' told b (s, Goes) steps (stands, at) = (stands, at)
    read_holds_of cached' told b (s, Done (Ok known)) steps (stands, known_is, file) = branch (λ a. NumberedHolds cached' b (reads_by op s, Done a)) (nat_lt known.0 op.id) (Ok tt) (Err 5)
        (λ t. let less = ltb-true known.0 op.id t in (stands, omega (arith, less, known_is, id_is), file))
        (λ t. let most = ltb-false known.0 op.id t in (stands, (λ e. omega (arith, most, known_is, id_is)), λ e. cc))
    read_holds_of cached' told b (s, Done (Err number)) (calls, cause) (stands, seven) = (stands, (λ e. absurd (no_five told number cause e)), seven)

    replied_at : (at : BoundaryStep) (cached : Option CachedBoundary) (reply : Option Reply) → ReadFormed path cached op.read → Replies (asked_at at op.read) old reply new → IsReplyAt at op.read reply × Reads old new
    replied_at step.Looks cached reply formed told = looked_reply path old new reply told
    replied_at step.Reads cached reply formed told = read_replied path old new op.read cached reply formed told

    look_steps : (cached : Option CachedBoundary) (reply : Option Reply) → op.step ≡ step.Looks → ReadFormed path cached op.read → (r : BoundaryRead) → op.read ≡ r → FormedAt step.Looks r → Replies None old reply new → Numbered cached (reply_told reply) op (turned_at step.Looks op cached reply)
    look_steps cached None at formed (read.Looks p) is begins same =
        let calls : new.calls ≡ old.calls = ap (λ s. s.calls) same in
        branch (Numbered cached None op) (refused_by op.id cached) _ _
        (λ t. (omega (arith, calls), inl refl, λ five. let le = reached_by op.id cached t in omega (arith, le, id_is)))
        (λ t. (record { id_is = id_is; read = formed; begins = tt }, rw (at, is) (omega arith), omega (arith, calls)))
    look_steps cached None at formed (read.Gets request) is begins same = absurd begins
    look_steps cached None at formed (read.Holds known) is begins same = absurd begins
    look_steps cached (Some reply) at formed r is begins same = absurd same

    steps_by : (at : BoundaryStep) → op.step ≡ at → (cached : Option CachedBoundary) (reply : Option Reply) → ReadFormed path cached op.read → FormedAt at op.read → IsReplyAt at op.read reply → Replies (asked_at at op.read) old reply new
        → Numbered (cached_at at op.read cached) (reply_told reply) op (turned_at at op cached reply)
    steps_by step.Looks is cached reply formed begins replied told = look_steps cached reply is formed op.read refl begins told
    steps_by step.Reads is cached reply formed begins replied told = read_steps_of _ _ is _ (read_steps_on path old new op.read cached reply formed replied told)

    holds_by : (at : BoundaryStep) (cached : Option CachedBoundary) (reply : Option Reply) (b : ℕ) → Kept old new → ReadFormed path cached op.read → FormedAt at op.read → IsReplyAt at op.read reply → Replies (asked_at at op.read) old reply new
        → BoundaryStands path cached old b → ReadHolds path cached old b op.read → NumberedHolds (cached_at at op.read cached) b (turned_at at op cached reply)
    holds_by step.Looks cached reply b kept formed begins replied told stands holds = branch (NumberedHolds cached b) (refused_by op.id cached) _ _
        (λ t. let le = refused_above path old op.id cached b stands.fits t in (stands_kept path cached old new b kept stands, (λ e. omega (arith, le, id_is)), λ e. cc))
        (λ t. (stands_kept path cached old new b kept stands, begun op.read begins))
      where
        begun : (r : BoundaryRead) → FormedAt step.Looks r → ReadHolds path cached new b r
        begun (read.Looks p) begins = tt
        begun (read.Gets request) begins = absurd begins
        begun (read.Holds known) begins = absurd begins
    holds_by step.Reads cached reply b kept formed begins replied told stands holds =
        read_holds_of _ _ b _ (read_steps_on path old new op.read cached reply formed replied told) (read_keeps_on path old new b kept op.read cached reply formed replied told stands holds)

    read_tells_of : (cached cached' : Option CachedBoundary) (told : Option StoreError) (x : BoundaryRead × Turned (Result Known ℕ)) → (x.1 ≡ Goes → cached' ≡ cached) → ReadSteps path old new cached' told op.read x → ReadSays path old new cached x → NumberedTells cached cached' (reads_turned op x)
    read_tells_of cached cached' told (s, Goes) same steps says = (same refl, says)
    read_tells_of cached cached' told (s, Done (Ok known)) same steps says = branch (λ a. NumberedTells cached cached' (reads_by op s, Done a)) (nat_lt known.0 op.id) (Ok tt) (Err 5)
        (λ t. let less = ltb-true known.0 op.id t in (known.0, says, omega (arith, less, id_is)))
        (λ t. let most = ltb-false known.0 op.id t in ((λ five. inr (known.0, says, omega (arith, most, id_is))), λ e. absurd (cc)))
    read_tells_of cached cached' told (s, Done (Err number)) same (calls, cause) says = ((λ five. absurd (no_five told number cause five)), says)

    tells_by : (at : BoundaryStep) (cached : Option CachedBoundary) (reply : Option Reply) → ReadFormed path cached op.read → FormedAt at op.read → IsReplyAt at op.read reply → Replies (asked_at at op.read) old reply new
        → ReadTells cached (map.get old.files path) op.read → NumberedTells cached (cached_at at op.read cached) (turned_at at op cached reply)
    tells_by step.Looks cached reply formed begins replied told tells = branch (NumberedTells cached cached) (refused_by op.id cached) _ _
        (λ t. ((λ five. inl (ap (λ id. refused_by id cached) (sym id_is) ∙ t)), λ e. absurd (cc)))
        (λ t. (refl, tells))
    tells_by step.Reads cached reply formed begins replied told tells =
        read_tells_of cached _ _ _ (goes_same op.read cached reply) (read_steps_on path old new op.read cached reply formed replied told) (read_says_on path old new op.read cached reply formed replied told tells)

  pub check_replied : (op : BoundaryCheck) (cached : Option CachedBoundary) (reply : Option Reply) → CheckFormed path cached goal op → Replies (boundary_check_asked op) old reply new → IsBoundaryCheckReply op reply × Reads old new
  check_replied op cached reply formed told = replied_at op formed.id_is op.step cached reply formed.read told

  -- whatever it makes of a reply, at most its call is made, and what stood stands
  calls_few : (cached : Option CachedBoundary) (told : Option StoreError) (op : BoundaryCheck) (x : BoundaryCheck × Turned (Result (Unit {0}) ℕ)) → Numbered cached told op x → new.calls ≤ old.calls + check_calls op
  calls_few cached told op (next, Goes) (formed, less, calls) = omega (arith, calls)
  calls_few cached told op (next, Done (Ok accepted)) calls = omega (arith, calls)
  calls_few cached told op (next, Done (Err number)) (calls, why, reached) = calls

  still_stands : (cached : Option CachedBoundary) (b : ℕ) (x : BoundaryCheck × Turned (Result (Unit {0}) ℕ)) → NumberedHolds cached b x → BoundaryStands path cached new b
  still_stands cached b (next, Goes) holds = holds.0
  still_stands cached b (next, Done (Ok accepted)) holds = holds.0
  still_stands cached b (next, Done (Err number)) holds = holds.0

  pub check_leaves : (op : BoundaryCheck) (cached : Option CachedBoundary) (reply : Option Reply) → CheckFormed path cached goal op → Replies (boundary_check_asked op) old reply new
      → Reads old new × (new.calls ≤ old.calls + check_calls op) × ((b : ℕ) → BoundaryStands path cached old b → ReadHolds path cached old b op.read → BoundaryStands path (boundary_check_cached op cached) new b)
  check_leaves op cached reply formed served =
      let r = check_replied op cached reply formed served in (
        r.1,
        calls_few (boundary_check_cached op cached) (reply_told reply) op (boundary_check_turned op cached reply) (steps_by op formed.id_is op.step refl cached reply formed.read formed.begins r.0 served),
        λ b stands at. still_stands (boundary_check_cached op cached) b (boundary_check_turned op cached reply) (holds_by op formed.id_is op.step cached reply b r.1.kept formed.read formed.begins r.0 served stands at),
      )

  check_rises : (at : BoundaryStep) (r : BoundaryRead) (cached : Option CachedBoundary) → number_of cached ≤ number_of (cached_at at r cached)
  check_rises step.Looks r cached = omega arith
  check_rises step.Reads r cached = read_rises r cached

  -- one step
  pub check_step : (op op' : BoundaryCheck) (cached cached' : Option CachedBoundary) (reply : Option Reply) (told : Turned (Result (Unit {0}) TransactionalObjectError)) → CheckFormed path cached goal op → Replies (boundary_check_asked op) old reply new
      → (op', turned_by_number told) ≡ boundary_check_turned op cached reply → cached' ≡ boundary_check_cached op cached → TellsErrorOf (reply_told reply) told → IsCheckStep path goal old new cached cached' op op' told
  check_step op op' cached cached' reply told formed served turned cached_is tells =
      let r = check_replied op cached reply formed served in
      let steps = steps_by op formed.id_is op.step refl cached reply formed.read formed.begins r.0 served in
      record {
        reads = r.1;
        rises = rw cached_is (check_rises op.step op.read cached);
        steps =
            let at : Numbered (boundary_check_cached op cached) (reply_told reply) op (op', turned_by_number told) = subst (Numbered (boundary_check_cached op cached) (reply_told reply) op) (sym turned) steps in
            named_steps cached' (reply_told reply) op op' told tells (subst (λ k. Numbered k (reply_told reply) op (op', turned_by_number told)) (sym cached_is) at);
        tells = λ so_far.
            let says = tells_by op formed.id_is op.step cached reply formed.read formed.begins r.0 served so_far in
            let now : NumberedTells cached (boundary_check_cached op cached) (op', turned_by_number told) = subst (NumberedTells cached (boundary_check_cached op cached)) (sym turned) says in
            named_tells cached cached' op' told (subst (λ k. NumberedTells cached k (op', turned_by_number told)) (sym cached_is) now);
        holds = λ b stands at.
            let holds = holds_by op formed.id_is op.step cached reply b r.1.kept formed.read formed.begins r.0 served stands at in
            let now : NumberedHolds (boundary_check_cached op cached) b (op', turned_by_number told) = subst (NumberedHolds (boundary_check_cached op cached) b) (sym turned) holds in
            named_holds cached' b op' told (subst (λ k. NumberedHolds k b (op', turned_by_number told)) (sym cached_is) now);
      }

module _ (path : Segments) (goal : ℕ) (old mid new : State) (first cached cached' : Option CachedBoundary) (op op' : BoundaryCheck) (so_far : CheckRunning path goal old mid first cached op) where
  -- what the last step tells is told of the first cached boundary and the first files
  told_of : (next : BoundaryCheck) (told : Turned (Result (Unit {0}) TransactionalObjectError)) → IsCheckStep path goal mid new cached cached' op next told → CheckTells first cached' (map.get old.files path) goal next told
  told_of next told step =
      let same : map.get mid.files path ≡ map.get old.files path = ap (λ f. map.get f path) so_far.reads.kept.files in
      let before : ReadTells cached (map.get mid.files path) op.read = subst (λ k. ReadTells k (map.get mid.files path) op.read) (sym so_far.cached_is) (subst (λ f. ReadTells first f op.read) (sym same) so_far.tells) in
      subst (λ f. CheckTells first cached' f goal next told) same (subst (λ k. CheckTells k cached' (map.get mid.files path) goal next told) so_far.cached_is (step.tells before))

  -- what is left after a further step, whatever it tells
  module _ (told : Turned (Result (Unit {0}) TransactionalObjectError)) (step : IsCheckStep path goal mid new cached cached' op op' told) where
    reads_then : Reads old new
    reads_then = reads_on old mid new so_far.reads step.reads

    spends_then : new.calls ≤ mid.calls + check_calls op → Spends 1 0 old new
    spends_then few =
        let so_many = so_far.calls_are in
        let left = reads_then.kept.left in
        record { calls_rise = reads_then.calls_rise; calls_most = omega (arith, so_many, few); failures_rise = reads_then.failures_rise; left_falls = omega (arith, left); left_least = omega (arith, left) }

    rises_then : number_of first ≤ number_of cached'
    rises_then = let before = so_far.rises in let now = step.rises in omega (arith, before, now)

    holds_then : (b : ℕ) → BoundaryStands path first old b → CheckHolds path cached' goal new b op' told
    holds_then b stands = let at = so_far.holds b stands in step.holds b at.0 at.1

  pub check_goes : IsCheckStep path goal mid new cached cached' op op' Goes → CheckRunning path goal old new first cached' op'
  check_goes step = record {
    formed = step.steps.0;
    reads = reads_then Goes step;
    rises = rises_then Goes step;
    cached_is = (told_of op' Goes step).0;
    tells = (told_of op' Goes step).1;
    calls_are = (let f = so_far.calls_are in let s = step.steps.2 in omega (arith, f, s));
    holds = holds_then Goes step;
  }

  pub check_less : IsCheckStep path goal mid new cached cached' op op' Goes → check_steps op' < check_steps op
  check_less step = step.steps.1

  seven_is : (error : TransactionalObjectError) → IsErrOf {T = Unit {0}} (Err error) kinds.InvalidObjectState → error_number error ≡ 7
  seven_is error is = let same : error ≡ kinds.InvalidObjectState = cc in ap error_number same

  five_is : (error : TransactionalObjectError) → IsErrOf {T = Unit {0}} (Err error) kinds.ObjectVersionExists → error_number error ≡ 5
  five_is error is = let same : error ≡ kinds.ObjectVersionExists = cc in ap error_number same

  -- how a check ends where the cached boundary does not refuse the id
  pub check_ended : refused_by goal first ≡ false → (answer : Result (Unit {0}) TransactionalObjectError) → IsCheckStep path goal mid new cached cached' op op' (Done answer) → Checked path goal old new first cached' answer
  check_ended unreached (Ok accepted) step =
      let so_many = so_far.calls_are in
      let calls = step.steps in
      record {
        kept = (reads_then (Done (Ok accepted)) step).kept;
        spends = spends_then (Done (Ok accepted)) step (omega (arith, calls));
        asked = omega (arith, so_many, calls);
        rises = rises_then (Done (Ok accepted)) step;
        reached = λ is. absurd (cc);
        from_cache = λ is. absurd (cc (unreached, is));
        accepts = told_of op' (Done (Ok accepted)) step;
        refuses = λ is. absurd (cc);
        invalid = λ is. absurd (cc);
        cause = tt;
        stands = λ b stands. (holds_then (Done (Ok accepted)) step b stands).0;
        above = λ b stands. (holds_then (Done (Ok accepted)) step b stands).1;
        known = λ b stands. (holds_then (Done (Ok accepted)) step b stands).2;
        fenced = λ is. absurd (cc);
      }
  check_ended unreached (Err error) step = record {
    kept = (reads_then (Done (Err error)) step).kept;
    spends = spends_then (Done (Err error)) step step.steps.0;
    asked = tt;
    rises = rises_then (Done (Err error)) step;
    reached = λ is. step.steps.2 (five_is error is);
    from_cache = λ is. absurd (cc (unreached, is));
    accepts = tt;
    refuses = λ is. (told_of op' (Done (Err error)) step).0 (five_is error is);
    invalid = λ is. (told_of op' (Done (Err error)) step).1 (seven_is error is);
    cause = cause_on (Unbounded path first old) old mid new error so_far.reads.failures_rise (λ seven b stands. (holds_then (Done (Err error)) step b stands).2 seven) step.steps.1;
    stands = λ b stands. (holds_then (Done (Err error)) step b stands).0;
    above = tt;
    known = tt;
    fenced = λ is b stands. (holds_then (Done (Err error)) step b stands).1 (five_is error is);
  }
