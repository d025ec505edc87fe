-- How many looks and serves of an operation a run takes: by what it has left as the run begins, and by how often it is disturbed.
use Rattle.std.proofs.Common.{◌≡◌, ℕ, ◌+◌, ◌*◌, ◌-◌, ◌<◌, ◌≤◌, ◌==◌, ◌||◌, ◌&&◌, not, List, [], ◌∷◌, set, map, Bool, true, false, if◌then◌else◌, Option, Some, None, Result, Ok, Err, ◌⊎◌, inl, inr, refl, sym, ◌∙◌, ap, subst, arith}
use Rattle.std.proofs.lemmas.Bool.{cases_Bool, and_parts, eqb-true, eqb-false}
use Rattle.std.proofs.lemmas.Option.{same_Some}
use Rattle.txn_store.specs.Store.{Files}
use Rattle.txn_steps.specs.declared.boundary.caches.Caches.{Caches}
use Rattle.txn_steps.specs.boundary.Counts.{Budget}
use Rattle.txn_steps.specs.Requests.{version_page}
use Rattle.txn_history.specs.declared.event.PlainCall.TheVariants as calls
use Rattle.txn_history.specs.declared.event.ViewCall.TheVariants as view_calls
use Rattle.txn_history.specs.declared.event.Call.{Call}
use Rattle.txn_history.specs.declared.event.Call.TheVariants as any
use Rattle.txn_history.specs.declared.event.EventFault.TheVariants as faults
use Rattle.txn_history.specs.declared.event.EventOf.TheVariants as events
use Rattle.txn_history.specs.declared.event.Failure.{Failure}
use Rattle.txn_history.specs.declared.event.Failure.TheVariants as failures
use Rattle.txn_history.specs.Allowed.{is_client, ask_fault, may_use, is_busy, base_seen}
use Rattle.txn_history.specs.Calls.{view_used, is_holders}
use Rattle.txn_history.specs.Lists.{numbered}
use Rattle.txn_history.specs.Names.{world_names, world_boundary}
use Rattle.txn_history.specs.OneHistory.{is_known_base, has_low_boundary, keeps_epoch}
use Rattle.txn_history.specs.Seen.{Ask, Store, Look, asks_in, asks_of}
use Rattle.txn_history.specs.Trace.{PlainRow, Event, Told}
use Rattle.txn_history.specs.Views.{View}
use Rattle.txn_history.proofs.Lists.{numbered_kept}
use Rattle.txn_machine.specs.declared.plain.doing.PlainDoing.TheVariants as doings
use Rattle.txn_machine.specs.plain.Machine.{next_op}
use Rattle.txn_machine.proofs.plain.Lists.{within, numbered_here, numbered_other, numbered_of_map, numbered_new, numbered_there}
use Rattle.txn_machine.proofs.plain.States.{at_place}
use Rattle.txn_machine.proofs.plain.World.{first_true, client_within}
use Rattle.txn_store.specs.declared.types.error.TransactionalObjectError.{TransactionalObjectError}
use Rattle.txn_store.specs.types.Epochs.{claimed_epoch}
use Rattle.txn_steps.specs.declared.write.WriteUncheckedOp.{WriteUncheckedOp}
use Rattle.txn_steps.specs.declared.write.WriteUncheckedOp.TheVariants as unchecked
use Rattle.txn_steps.specs.declared.write.WriteStep.{WriteStep}
use Rattle.txn_steps.specs.declared.write.WriteStep.TheVariants as writes
use Rattle.txn_steps.specs.declared.write.WriteOp.{WriteOp}
use Rattle.txn_steps.specs.CallsLeft.{one_of_each, unchecked_budget, write_budget_at}
use Rattle.txn_steps_views.specs.declared.claiming.Claiming.{Claiming}
use Rattle.txn_steps_views.specs.declared.claiming.Claiming.TheVariants as claiming
use Rattle.txn_steps_views.specs.Attempts.{IsClaimingInRange, entered_with}
use Rattle.txn_steps_views.specs.Claims.{as_claim}
use Rattle.txn_steps_views.specs.Lacking.{started_as}
use Rattle.txn_steps_views.specs.declared.op.ViewOp.TheVariants as ops
use Rattle.txn_steps_views.specs.declared.view_read.Purpose.TheVariants as purposes
use Rattle.txn_machine.specs.declared.doing.Doing.{Doing}
use Rattle.txn_machine.specs.declared.doing.Doing.TheVariants as does
use Rattle.txn_machine.specs.declared.doing.Operation.{Operation}
use Rattle.txn_machine.specs.CallsLeft.{five_and_two, most_of}
use Rattle.txn_machine.specs.Doing.{Next, ended, asked, started, first_next, reads_for, with_local, InRange}
use Rattle.txn_machine.specs.Machine.{State, seen_operation, seen_calls, seen_of, asked_event, next_event, refusal_of, doing_next, with_doing, ended_by, new_operation, view_now, Fails, Takes, IsReached}
use Rattle.txn_machine.proofs.Joined.{as_fine}
use Rattle.txn_machine.proofs.Joining.{nothing, reached_joins}
use Rattle.txn_machine.proofs.Reached.{reached_wide, reached_range}
use Rattle.txn_machine.proofs.Runs.{taken_reached, takes_same}
use Rattle.txn_machine.proofs.Serving.{held_of}
use Rattle.txn_world.specs.finishing.Progress.{Cost, at_most, reading, claiming as claiming_cost, sum_of, cost_of, most_left, is_own, own_count, caches_by, caches_of, LeavesAlone, FewPages, Disturbed}
use Rattle.txn_world.proofs.finishing.Moves.{listings_of, rows_same, bounds_same, Has, GoesOn, look_goes, serve_goes}
use Rattle.txn_world.proofs.finishing.Paged.{ClaimPaged, AnyPaged, reached_paged}
use Rattle.txn_machine.proofs.Spending.{call_starts}
use Rattle.txn_world.proofs.finishing.Tries.{check_small}
use Rattle.txn_world.proofs.finishing.Work.{Listings, pages_from, any_left_of, first_left, ClaimLeft, WorkLeft, as_bounded, again_of, bounded_again, work_same}

or_false : (b : Bool) → (b || false) ≡ false → b ≡ false
or_false true e = cc
or_false false e = refl

pub or_true : (b : Bool) → (b || false) ≡ true → b ≡ true
or_true true e = refl
or_true false e = cc

-- an advance goes another way

module _ {T : Type 0} where
  abbrev pub IsNoAdvance : Call T → Type 0
  IsNoAdvance (any.Plain (calls.Write base value)) = Unit {0}
  IsNoAdvance (any.Plain (calls.WriteUnchecked base value)) = Unit {0}
  IsNoAdvance (any.Plain calls.Read) = Unit {0}
  IsNoAdvance (any.Plain (calls.ReadUnchecked id)) = Unit {0}
  IsNoAdvance (any.Plain (calls.ReadSeen id)) = Unit {0}
  IsNoAdvance (any.Plain (calls.ListIds from to)) = Unit {0}
  IsNoAdvance (any.Plain (calls.Delete id)) = Unit {0}
  IsNoAdvance (any.Plain (calls.Check id)) = Unit {0}
  IsNoAdvance (any.Plain (calls.Advance to)) = ⊥
  IsNoAdvance (any.View call) = Unit {0}

  abbrev pub IsNoRaise : Doing T → Type 0
  IsNoRaise (does.Plain (doings.Write op)) = Unit {0}
  IsNoRaise (does.Plain (doings.WriteUnchecked op)) = Unit {0}
  IsNoRaise (does.Plain (doings.Read op)) = Unit {0}
  IsNoRaise (does.Plain (doings.ReadUnchecked op)) = Unit {0}
  IsNoRaise (does.Plain (doings.ReadSeen op)) = Unit {0}
  IsNoRaise (does.Plain (doings.ListIds op)) = Unit {0}
  IsNoRaise (does.Plain (doings.Delete op)) = Unit {0}
  IsNoRaise (does.Plain (doings.Check op)) = Unit {0}
  IsNoRaise (does.Plain (doings.Advance op)) = ⊥
  IsNoRaise (does.Plain doings.Ended) = Unit {0}
  IsNoRaise (does.View op) = Unit {0}

-- what others leave of an operation

module _ {T : Type 0} where
  -- it is as it was, or it has ended
  abbrev StaysIn : List (Operation T) → ℕ → Operation T → Type 0
  StaysIn operations op o = (numbered operations op ≡ Some o) ⊎ (numbered operations op ≡ Some (doing_next o ended))

  other_set : (operations : List (Operation T)) (op other : ℕ) (o was now : Operation T) → numbered operations op ≡ Some o → numbered operations other ≡ Some was → (other == op) ≡ false → numbered (set operations (other - 1) now) op ≡ Some o
  other_set operations op other o was now found there differ = numbered_other operations other op now (within operations other was there).0 (λ same. eqb-false other op differ (sym same)) ∙ found

  one_ends : (operations : List (Operation T)) (op other : ℕ) (o was : Operation T) → numbered operations op ≡ Some o → numbered operations other ≡ Some was → StaysIn (with_doing operations other was ended) op o
  one_ends operations op other o was found there =
      elim (cases_Bool (other == op)) [
        | inr differ ↦ inl (other_set operations op other o was (doing_next was ended) found there differ)
        | inl same ↦
            let is : other ≡ op = eqb-true other op same in
            let was_is : was ≡ o = same_Some was o (sym there ∙ (ap (λ (n : ℕ). numbered operations n) is ∙ found)) in
            let here : numbered (with_doing operations other was ended) other ≡ Some (doing_next was ended) = numbered_here operations other (doing_next was ended) was there in
            inr (subst (λ (n : ℕ). numbered (with_doing operations other was ended) n ≡ Some (doing_next was ended)) is here ∙ ap (λ (x : Operation T). Some (doing_next x ended)) was_is)
      ]

  fails_stay : (failure : Failure) (old : State T) (other : ℕ) (said : Told T) (new : State T) (op : ℕ) (o : Operation T) → Fails old other failure said new → numbered old.operations op ≡ Some o → StaysIn new.operations op o
  fails_stay failures.Before old other said new op o v found = subst (λ (s : State T). StaysIn s.operations op o) (sym v.state) (one_ends old.operations op other o v.operation found v.acts.found)
  fails_stay failures.After old other said new op o v found = subst (λ (s : State T). StaysIn s.operations op o) (sym v.state) (one_ends old.operations op other o v.call.operation found v.call.acts.found)
  fails_stay failures.Loose old other said new op o v found = subst (λ (s : State T). StaysIn s.operations op o) (sym v.state) (one_ends old.operations op other o v.operation found v.acts.found)

  crash_stays : (client : ℕ) (operations : List (Operation T)) (op : ℕ) (o : Operation T) → numbered operations op ≡ Some o → StaysIn (map (ended_by client) operations) op o
  crash_stays client operations op o found = by (o.client == client) refl
    where
      by : (b : Bool) → (o.client == client) ≡ b → StaysIn (map (ended_by client) operations) op o
      by true e = inr (numbered_of_map (ended_by client) operations op o found ∙ ap (λ (b : Bool). Some (if◌then◌else◌ {A = Operation T} b (doing_next o ended) o)) e)
      by false e = inl (numbered_of_map (ended_by client) operations op o found ∙ ap (λ (b : Bool). Some (if◌then◌else◌ {A = Operation T} b (doing_next o ended) o)) e)

module _ {T : Type 0} (encode : T → List ℕ) (decode : List ℕ → Option T) (get_epoch : T → ℕ) (set_epoch : T → ℕ → T) where
  abbrev Reached : State T → Type 0
  Reached s = IsReached encode decode get_epoch set_epoch s

  abbrev Takes' : State T → Event T → Told T → State T → Type 0
  Takes' old event said new = Takes encode decode get_epoch set_epoch old event said new

  abbrev Has' : State T → ℕ → ℕ → ℕ → ℕ → Type 0
  Has' s op g again n = Has encode decode get_epoch set_epoch s op g again n

  pub others_stay : (old : State T) (event : Event T) (said : Told T) (new : State T) (op : ℕ) (o : Operation T) → Takes' old event said new → is_own op event ≡ false → numbered old.operations op ≡ Some o → StaysIn new.operations op o
  others_stay old (events.Begin client call) said new op o t other found = subst (λ (s : State T). StaysIn s.operations op o) (sym t.step.state) (inl (numbered_kept old.operations (new_operation client call t.step.next.0 ∷ []) op o found))
  others_stay old (events.Look n) said new op o t other found = (let v = t.step in subst (λ (s : State T). StaysIn s.operations op o) (sym v.state) (inl (other_set old.operations op n o v.operation (doing_next v.operation v.next.0) found v.acts.found (or_false (n == op) other))))
  others_stay old (events.Serve n) said new op o t other found = (let v = t.step in subst (λ (s : State T). StaysIn s.operations op o) (sym v.state) (inl (other_set old.operations op n o v.call.operation (doing_next v.call.operation v.next.0) found v.call.acts.found other)))
  others_stay old (events.Fail n failure) said new op o t other found = fails_stay failure old n said new op o t.step found
  others_stay old (events.GiveUp n) said new op o t other found = (let v = t.step in subst (λ (s : State T). StaysIn s.operations op o) (sym v.state) (one_ends old.operations op n o v.operation found v.found))
  others_stay old (events.Land k) said new op o t other found = subst (λ (s : State T). StaysIn s.operations op o) (sym t.step.state) (inl found)
  others_stay old (events.Crash client) said new op o t other found = subst (λ (s : State T). StaysIn s.operations op o) (sym t.step.state) (crash_stays client old.operations op o found)

  -- its own
  pub own_goes : (old : State T) (event : Event T) (said : Told T) (new : State T) (op g again n : ℕ) → Reached old → Takes' old event said new → is_own op event ≡ true → Listings new.store.files old.page g → Has' old op g again n → GoesOn encode decode get_epoch set_epoch new op g again n
  own_goes old (events.Look m) said new op g again n r t own now h = (let same : m ≡ op = eqb-true m op (or_true (m == op) own) in look_goes encode decode get_epoch set_epoch old op g again n said new r (subst (λ (k : ℕ). Takes' old (events.Look k) said new) same t) now h)
  own_goes old (events.Serve m) said new op g again n r t own now h = (let same : m ≡ op = eqb-true m op own in serve_goes encode decode get_epoch set_epoch old op g again n said new r (subst (λ (k : ℕ). Takes' old (events.Serve k) said new) same t) now h)
  own_goes old (events.Begin client call) said new op g again n r t own now h = absurd (let clash : false ≡ true = own in cc)
  own_goes old (events.Fail m failure) said new op g again n r t own now h = absurd (let clash : false ≡ true = own in cc)
  own_goes old (events.GiveUp m) said new op g again n r t own now h = absurd (let clash : false ≡ true = own in cc)
  own_goes old (events.Land k) said new op g again n r t own now h = absurd (let clash : false ≡ true = own in cc)
  own_goes old (events.Crash client) said new op g again n r t own now h = absurd (let clash : false ≡ true = own in cc)

  -- what leaves it alone
  pub calm_keeps : (old : State T) (event : Event T) (said : Told T) (new : State T) (op g again n : ℕ) → Reached old → Takes' old event said new → is_own op event ≡ false → LeavesAlone op old new → Has' old op g again n → Has' new op g again n
  calm_keeps old event said new op g again n r t other calm h =
      let r' = taken_reached encode decode get_epoch set_epoch old event said new r t in
      let j' = reached_joins encode decode get_epoch set_epoch new r' in
      let page = (takes_same encode decode get_epoch set_epoch old event said new t).1 in
      let before : caches_of old op ≡ Some h.caches = ap (caches_by old) h.there ∙ h.kept in
      elim (others_stay old event said new op h.operation t other h.there) [
        | inl there ↦ record {
          operation = h.operation;
          there = there;
          caches = h.caches;
          kept = sym (ap (caches_by new) there) ∙ (calm.kept ∙ before);
          joined = j';
          left = subst (λ (p : ℕ). WorkLeft j'.fine.trace new.store.files p g h.operation.doing h.caches n) (sym page)
              (subst (λ (files : Files). WorkLeft j'.fine.trace files old.page g h.operation.doing h.caches n) (sym calm.files)
              (work_same h.joined.fine.trace j'.fine.trace old.store.files old.page g (rows_same encode decode get_epoch set_epoch old new h.joined j' calm.files) (bounds_same encode decode get_epoch set_epoch old new h.joined j' calm.files) h.operation.doing h.caches n h.left));
          adds = h.adds;
        }
        | inr there ↦ record { operation = doing_next h.operation ended; there = there; caches = h.caches; kept = sym (ap (caches_by new) there) ∙ (calm.kept ∙ before); joined = j'; left = tt; adds = omega arith }
      ]

pub unchecked_small : (write : WriteUncheckedOp) → (unchecked_budget write).looks + (unchecked_budget write).calls ≤ 2
unchecked_small (unchecked.Puts version request) = omega arith
unchecked_small (unchecked.Keeps version) = omega arith
unchecked_small unchecked.Ended = omega arith

pub write_small_at : (step : WriteStep) (write : WriteOp) → (write_budget_at step write).looks + (write_budget_at step write).calls ≤ 7
write_small_at writes.Writes write = (let a = unchecked_small write.write in let b = check_small write.check in omega (arith, a, b))
write_small_at writes.Checks write = (let b = check_small write.check in omega (arith, b))

-- a claim, wherever it is
any_claim : {T : Type 0} (rows : List (PlainRow T)) (files : Files) (page g : ℕ) (l : Listings files page g) (n : ℕ) (claim : Claiming T) (caches : Caches) → IsClaimingInRange claim → ClaimPaged page claim → (77 + 3 * g) ≤ n → ClaimLeft rows files page g claim caches n
any_claim rows files page g l n (claiming.Writes write value epoch) caches range paged enough = (7, write_small_at write.step write, inr (omega (arith, enough)))
any_claim rows files page g l n (claiming.Reads read) caches range paged enough = (l, (40 + 2 * g), any_left_of files page g l rows read caches.latest ((40 + 2 * g)) range paged (omega arith), inr (omega (arith, enough)))
any_claim rows files page g l n claiming.Ended caches range paged enough = tt

module _ {T : Type 0} (rows after : List (PlainRow T)) (files now : Files) (page g again n : ℕ) (l : Listings now page g) where
  -- whatever was disturbed, so much is left
  disturbed_left : (doing : Doing T) (before versions : Caches) → InRange doing → AnyPaged page doing → again_of g doing ≤ again → WorkLeft rows files page g doing before n → WorkLeft after now page g doing versions (n + again)
  disturbed_left (does.Plain (doings.Read read)) before versions range paged adds w = (l, any_left_of now page g l after read versions.latest (n + again) range paged (omega (arith, adds)))
  disturbed_left (does.Plain (doings.ListIds list)) before versions range paged adds w = (l, g, pages_from now page g list.request l paged, omega (arith, adds))
  disturbed_left (does.Plain (doings.Write op)) before versions range paged adds w = (w.0, w.1, (let le = w.2 in omega (arith, le)))
  disturbed_left (does.Plain (doings.WriteUnchecked op)) before versions range paged adds w = (w.0, w.1, (let le = w.2 in omega (arith, le)))
  disturbed_left (does.Plain (doings.ReadUnchecked op)) before versions range paged adds w = (w.0, w.1, (let le = w.2 in omega (arith, le)))
  disturbed_left (does.Plain (doings.ReadSeen op)) before versions range paged adds w = (w.0, w.1, (let le = w.2 in omega (arith, le)))
  disturbed_left (does.Plain (doings.Delete op)) before versions range paged adds w = (w.0, w.1, (let le = w.2 in omega (arith, le)))
  disturbed_left (does.Plain (doings.Check op)) before versions range paged adds w = (w.0, w.1, (let le = w.2 in omega (arith, le)))
  disturbed_left (does.Plain (doings.Advance op)) before versions range paged adds w = absurd w
  disturbed_left (does.Plain doings.Ended) before versions range paged adds w = tt
  disturbed_left (does.View (ops.Reads op)) before versions range paged adds w = (l, any_left_of now page g l after op.read versions.latest (n + again) range paged (omega (arith, adds)))
  disturbed_left (does.View (ops.Enters op)) before versions range paged adds w = (w.0, w.1, (let le = w.2 in omega (arith, le)))
  disturbed_left (does.View (ops.Claims op)) before versions range paged adds w = any_claim after now page g l (n + again) op.claiming versions range paged (omega (arith, adds))

module _ {T : Type 0} (encode : T → List ℕ) (decode : List ℕ → Option T) (get_epoch : T → ℕ) (set_epoch : T → ℕ → T) where
  -- what a client keeps is there
  pub client_keeps : (s : State T) (client : ℕ) → Reached encode decode get_epoch set_epoch s → 0 < client → client ≤ s.clients → (caches : Caches) × (numbered s.caches client ≡ Some caches)
  client_keeps s client r some most = (let wide = reached_wide encode decode get_epoch set_epoch s r in numbered_there s.caches client some (omega (arith, most, wide)))

  -- what disturbs it
  pub disturbed_keeps : (old : State T) (event : Event T) (said : Told T) (new : State T) (op g again n : ℕ) → Reached encode decode get_epoch set_epoch old → Takes encode decode get_epoch set_epoch old event said new → is_own op event ≡ false → FewPages g new → Has encode decode get_epoch set_epoch old op g again n → Has encode decode get_epoch set_epoch new op g again (n + again)
  disturbed_keeps old event said new op g again n r t other few h =
      let r' = taken_reached encode decode get_epoch set_epoch old event said new r t in
      let j' = reached_joins encode decode get_epoch set_epoch new r' in
      let same = takes_same encode decode get_epoch set_epoch old event said new t in
      let page = same.1 in
      let clients = same.0 in
      let place = within old.caches h.operation.client h.caches h.kept in
      let wide = reached_wide encode decode get_epoch set_epoch old r in
      let now = client_keeps new h.operation.client r' place.0 (let le = place.1 in omega (arith, le, wide, clients)) in
      elim (others_stay encode decode get_epoch set_epoch old event said new op h.operation t other h.there) [
        | inl there ↦ record {
          operation = h.operation;
          there = there;
          caches = now.0;
          kept = now.1;
          joined = j';
          left = disturbed_left h.joined.fine.trace j'.fine.trace old.store.files new.store.files new.page g again n (listings_of new.store.files new.page g r'.2 few) h.operation.doing h.caches now.0
              (reached_range encode decode get_epoch set_epoch new r' op h.operation there) (reached_paged encode decode get_epoch set_epoch new r' op h.operation there) h.adds
              (subst (λ (p : ℕ). WorkLeft h.joined.fine.trace old.store.files p g h.operation.doing h.caches n) (sym page) h.left);
          adds = h.adds;
        }
        | inr there ↦ record { operation = doing_next h.operation ended; there = there; caches = now.0; kept = now.1; joined = j'; left = tt; adds = omega arith }
      ]

  -- in a run
  pub run_bound : (taken : List (Event T × Told T)) (times n : ℕ) (old new : State T) (op g again : ℕ) → Reached encode decode get_epoch set_epoch old → Disturbed encode decode get_epoch set_epoch op g times old taken new → Has encode decode get_epoch set_epoch old op g again n → own_count op taken ≤ n + times * again
  run_bound [] times n old new op g again r d h = omega arith
  run_bound (one ∷ rest) times n old new op g again r d h =
      let t = d.1 in
      let r' = taken_reached encode decode get_epoch set_epoch old one.0 one.1 d.0 r t in
      elim (cases_Bool (is_own op one.0)) [
        | inl own ↦ rw own (
            let now : Listings d.0.store.files old.page g = subst (λ (p : ℕ). Listings d.0.store.files p g) (takes_same encode decode get_epoch set_epoch old one.0 one.1 d.0 t).1 (listings_of d.0.store.files d.0.page g r'.2 d.2) in
            let on = own_goes encode decode get_epoch set_epoch old one.0 one.1 d.0 op g again n r t own now h in
            let less = on.1 in
            elim d.3 [
              | inl calm ↦ (let bound = run_bound rest times on.0 d.0 new op g again r' calm.1 on.2 in omega (arith, bound, less))
              | inr hit ↦ (
                  let bound = run_bound rest hit.0 on.0 d.0 new op g again r' hit.2 on.2 in
                  let times_is : times * again ≡ hit.0 * again + again = ap (λ (k : ℕ). k * again) hit.1 ∙ more_times hit.0 again in
                  omega (arith, bound, less, times_is)
                  )
            ]
            )
        | inr other ↦ rw other (
            elim d.3 [
              | inl calm ↦ elim calm.0 [
                | inl own ↦ absurd (let clash : true ≡ false = sym own ∙ other in cc)
                | inr alone ↦ (let bound = run_bound rest times n d.0 new op g again r' calm.1 (calm_keeps encode decode get_epoch set_epoch old one.0 one.1 d.0 op g again n r t other alone h) in omega (arith, bound))
              ]
              | inr hit ↦ (
                  let bound = run_bound rest hit.0 (n + again) d.0 new op g again r' hit.2 (disturbed_keeps old one.0 one.1 d.0 op g again n r t other d.2 h) in
                  let times_is : times * again ≡ hit.0 * again + again = ap (λ (k : ℕ). k * again) hit.1 ∙ more_times hit.0 again in
                  omega (arith, bound, times_is)
                  )
            ]
            )
      ]
    where
      more_times : (k again : ℕ) → (k + 1) * again ≡ k * again + again
      more_times k again = grind arith

  -- from any state in which it runs
  here_left : (s : State T) (g : ℕ) (doing : Doing T) (rows : List (PlainRow T)) (versions : Caches) → Listings s.store.files s.page g → IsNoRaise doing → InRange doing → AnyPaged s.page doing → WorkLeft rows s.store.files s.page g doing versions (most_left doing g)
  here_left s g (does.Plain (doings.Read read)) rows versions l fits range paged = (l, any_left_of s.store.files s.page g l rows read versions.latest (40 + 2 * g) range paged (omega arith))
  here_left s g (does.Plain (doings.ListIds list)) rows versions l fits range paged = (l, g, pages_from s.store.files s.page g list.request l paged, omega arith)
  here_left s g (does.Plain (doings.Write op)) rows versions l fits range paged = as_bounded rows s.store.files s.page g (does.Plain (doings.Write op)) versions (most_left {T = T} (does.Plain (doings.Write op)) g) _ refl (omega arith)
  here_left s g (does.Plain (doings.WriteUnchecked op)) rows versions l fits range paged = as_bounded rows s.store.files s.page g (does.Plain (doings.WriteUnchecked op)) versions (most_left {T = T} (does.Plain (doings.WriteUnchecked op)) g) _ refl (omega arith)
  here_left s g (does.Plain (doings.ReadUnchecked op)) rows versions l fits range paged = as_bounded rows s.store.files s.page g (does.Plain (doings.ReadUnchecked op)) versions (most_left {T = T} (does.Plain (doings.ReadUnchecked op)) g) _ refl (omega arith)
  here_left s g (does.Plain (doings.ReadSeen op)) rows versions l fits range paged = as_bounded rows s.store.files s.page g (does.Plain (doings.ReadSeen op)) versions (most_left {T = T} (does.Plain (doings.ReadSeen op)) g) _ refl (omega arith)
  here_left s g (does.Plain (doings.Delete op)) rows versions l fits range paged = as_bounded rows s.store.files s.page g (does.Plain (doings.Delete op)) versions (most_left {T = T} (does.Plain (doings.Delete op)) g) _ refl (omega arith)
  here_left s g (does.Plain (doings.Check op)) rows versions l fits range paged = as_bounded rows s.store.files s.page g (does.Plain (doings.Check op)) versions (most_left {T = T} (does.Plain (doings.Check op)) g) _ refl (omega arith)
  here_left s g (does.Plain (doings.Advance op)) rows versions l fits range paged = absurd fits
  here_left s g (does.Plain doings.Ended) rows versions l fits range paged = tt
  here_left s g (does.View (ops.Reads op)) rows versions l fits range paged = (l, any_left_of s.store.files s.page g l rows op.read versions.latest (40 + 2 * g) range paged (omega arith))
  here_left s g (does.View (ops.Enters op)) rows versions l fits range paged = as_bounded rows s.store.files s.page g (does.View (ops.Enters op)) versions (most_left {T = T} (does.View (ops.Enters op)) g) _ refl (omega arith)
  here_left s g (does.View (ops.Claims op)) rows versions l fits range paged = any_claim rows s.store.files s.page g l (77 + 3 * g) op.claiming versions range paged (omega arith)

  pub alone_bound : (s : State T) (op g : ℕ) (o : Operation T) (ask : Ask) (taken : List (Event T × Told T)) (new : State T) → Reached encode decode get_epoch set_epoch s → numbered s.operations op ≡ Some o → asked o.doing ≡ Some ask → IsNoRaise o.doing → FewPages g s →
      Disturbed encode decode get_epoch set_epoch op g 0 s taken new → own_count op taken ≤ most_left o.doing g
  alone_bound s op g o ask taken new r found asks fits few d =
      let j = reached_joins encode decode get_epoch set_epoch s r in
      let held = held_of encode decode get_epoch set_epoch nothing s j op o ask found asks in
      let at = at_place decode get_epoch j.fine (j.now op) (as_fine o.client held.doing) j.stands held.there in
      let h : Has encode decode get_epoch set_epoch s op g (again_of g o.doing) (most_left o.doing g) = record {
        operation = o;
        there = found;
        caches = at.0;
        kept = ap (λ (cs : List Caches). numbered cs o.client) (sym j.caches) ∙ at.1;
        joined = j;
        left = here_left s g o.doing j.fine.trace at.0 (listings_of s.store.files s.page g r.2 few) fits (reached_range encode decode get_epoch set_epoch s r op o found) (reached_paged encode decode get_epoch set_epoch s r op o found);
        adds = omega arith;
      } in
      let bound = run_bound taken 0 (most_left o.doing g) s new op g (again_of g o.doing) r d h in
      let none : 0 * again_of g o.doing ≡ 0 = grind arith in
      omega (arith, bound, none)

  -- what it asks for is never refused
  pub next_allowed : (s : State T) (op : ℕ) (o : Operation T) (ask : Ask) → numbered s.operations op ≡ Some o → asked o.doing ≡ Some ask → refusal_of encode decode get_epoch set_epoch s (next_event s op) ≡ None
  next_allowed s op o ask found asks =
      let seen : asks_of (seen_calls s) op ≡ Some ask = ap asks_in (numbered_of_map seen_operation s.operations op o found) ∙ asks in
      ap (λ (a : Option Ask). refusal_of encode decode get_epoch set_epoch s (asked_event op a)) seen ∙ by ask seen
    where
      by : (a : Ask) → asks_of (seen_calls s) op ≡ Some a → refusal_of encode decode get_epoch set_epoch s (asked_event op (Some a)) ≡ None
      by Look e = ap (ask_fault false) e
      by (Store request) e = ap (ask_fault true) e

-- as a call begins

module _ {T : Type 0} (rows : List (PlainRow T)) (files : Files) (page g : ℕ) (l : Listings files page g) (versions : Caches) (encode : T → List ℕ) (get_epoch : T → ℕ) (set_epoch : T → ℕ → T) where
  abbrev Start : Call T → Option (View T) → Next T
  Start call view = started page encode get_epoch set_epoch call view

  abbrev Begun : Next T → Cost → Type 0
  Begun next cost = WorkLeft rows files page g next.0 versions cost.alone × (again_of g next.0 ≤ cost.again)

  gone_begins : (next : Next T) (cost : Cost) → next.0 ≡ ended → Begun next cost
  gone_begins next cost e = (subst (λ (d : Doing T). WorkLeft rows files page g d versions cost.alone) (sym e) tt, (let none : again_of g next.0 ≡ 0 = ap (again_of g) e in omega (arith, none)))

  bounded_begins : (call : Call T) (view : Option (View T)) (most : Budget) → most_of call ≡ Some most → Begun (Start call view) (at_most (sum_of most))
  bounded_begins call view most e =
      elim (call_starts page encode get_epoch set_epoch call view most e) [
        | inl left ↦ (as_bounded rows files page g (Start call view).0 versions (sum_of most) most left (omega arith), (let none = bounded_again g (Start call view).0 most left in omega (arith, none)))
        | inr gone ↦ gone_begins (Start call view) (at_most (sum_of most)) gone
      ]

  local_begins : (local : Option ℕ) (next : ℕ → Next T) (cost : Cost) → ((own : ℕ) → Begun (next own) cost) → Begun (with_local local next) cost
  local_begins None next cost h = gone_begins (with_local None next) cost refl
  local_begins (Some own) next cost h = h own

  claim_begins : (asks : Option ℕ) (epoch : Result ℕ TransactionalObjectError) (id : ℕ) (value : T) → Begun (first_next ops.Claims (started_as (as_claim asks) (entered_with world_names world_boundary encode set_epoch epoch id value))) (claiming_cost g)
  claim_begins asks (Err error) id value = gone_begins (first_next ops.Claims (started_as (as_claim {T = T} asks) (entered_with world_names world_boundary encode set_epoch (Err error) id value))) (claiming_cost g) refl
  claim_begins asks (Ok epoch) id value =
      elim (cases_Bool (id == 18446744073709551615)) [
        | inl last ↦ rw last (tt, omega arith)
        | inr next ↦ rw next ((7, omega arith, inr (omega arith)), omega arith)
      ]

  call_begins : (call : Call T) (view : Option (View T)) → IsNoAdvance call → Begun (Start call view) (cost_of call g)
  call_begins (any.Plain (calls.Write base value)) view fits = bounded_begins (any.Plain (calls.Write base value)) view five_and_two refl
  call_begins (any.Plain (calls.WriteUnchecked base value)) view fits = bounded_begins (any.Plain (calls.WriteUnchecked base value)) view one_of_each refl
  call_begins (any.Plain calls.Read) view fits = ((l, first_left files page g l rows versions.latest), omega arith)
  call_begins (any.Plain (calls.ReadUnchecked id)) view fits = bounded_begins (any.Plain (calls.ReadUnchecked id)) view (record { looks = 0; calls = 1 }) refl
  call_begins (any.Plain (calls.ReadSeen id)) view fits = bounded_begins (any.Plain (calls.ReadSeen id)) view (record { looks = 2; calls = 1 }) refl
  call_begins (any.Plain (calls.ListIds from to)) view fits = ((l, g, pages_from files page g (version_page world_names None page) l (None, refl), omega arith), omega arith)
  call_begins (any.Plain (calls.Delete id)) view fits = bounded_begins (any.Plain (calls.Delete id)) view five_and_two refl
  call_begins (any.Plain (calls.Check id)) view fits = bounded_begins (any.Plain (calls.Check id)) view (record { looks = 4; calls = 1 }) refl
  call_begins (any.Plain (calls.Advance to)) view fits = absurd fits
  call_begins (any.View (view_calls.Init value)) view fits = bounded_begins (any.View (view_calls.Init value)) view five_and_two refl
  call_begins (any.View view_calls.Load) view fits = ((l, first_left files page g l rows versions.latest), omega arith)
  call_begins (any.View (view_calls.Refresh number)) view fits = ((l, first_left files page g l rows versions.latest), omega arith)
  call_begins (any.View (view_calls.Update number value)) view fits = bounded_begins (any.View (view_calls.Update number value)) view five_and_two refl
  call_begins (any.View (view_calls.HolderUpdate number value)) view fits = bounded_begins (any.View (view_calls.HolderUpdate number value)) view five_and_two refl
  call_begins (any.View (view_calls.Claim number)) None fits = gone_begins (Start (any.View (view_calls.Claim number)) None) (claiming_cost g) refl
  call_begins (any.View (view_calls.Claim number)) (Some view) fits = claim_begins None (claimed_epoch None (get_epoch view.object)) view.id view.object
  call_begins (any.View (view_calls.ClaimAt number epoch)) None fits = gone_begins (Start (any.View (view_calls.ClaimAt number epoch)) None) (claiming_cost g) refl
  call_begins (any.View (view_calls.ClaimAt number epoch)) (Some view) fits = claim_begins (Some epoch) (claimed_epoch (Some epoch) (get_epoch view.object)) view.id view.object
  call_begins (any.View (view_calls.HolderRefresh number)) None fits = gone_begins (Start (any.View (view_calls.HolderRefresh number)) None) (reading g) refl
  call_begins (any.View (view_calls.HolderRefresh number)) (Some view) fits = local_begins view.epoch (λ own. reads_for (purposes.HolderRefresh own)) (reading g) (λ own. ((l, first_left files page g l rows versions.latest), omega arith))

module _ {T : Type 0} (encode : T → List ℕ) (decode : List ℕ → Option T) (get_epoch : T → ℕ) (set_epoch : T → ℕ → T) where
  pub known_client : (s : State T) (client : ℕ) (call : Call T) → refusal_of encode decode get_epoch set_epoch s (events.Begin client call) ≡ None → is_client s.clients client ≡ true
  known_client s client call allowed =
      let is = is_client s.clients client in
      let may = may_use (seen_of s) client (is_holders call) (view_used call) in
      let later = (not (is_busy (seen_of s) s.trace (view_used call)), faults.ViewBusy) ∷ (is_known_base s.trace (base_seen (seen_of s) call), faults.UnknownBase) ∷ (has_low_boundary s.trace call, faults.BoundaryTooHigh) ∷ (keeps_epoch decode get_epoch s.trace (base_seen (seen_of s) call) call, faults.EpochLowered) ∷ [] in
      (and_parts is may (first_true (is && may) faults.UnknownNumber later allowed)).0

  -- what an operation has left as its call begins
  pub call_has : (old : State T) (client : ℕ) (call : Call T) (said : Told T) (first : State T) (g : ℕ) → IsReached encode decode get_epoch set_epoch old → Takes encode decode get_epoch set_epoch old (events.Begin client call) said first →
      IsNoAdvance call → FewPages g first → Has encode decode get_epoch set_epoch first (next_op old) g (cost_of call g).again (cost_of call g).alone
  call_has old client call said first g r t fits few =
      let v = t.step in
      let r' = taken_reached encode decode get_epoch set_epoch old (events.Begin client call) said first r t in
      let j' = reached_joins encode decode get_epoch set_epoch first r' in
      let same = takes_same encode decode get_epoch set_epoch old (events.Begin client call) said first t in
      let page = same.1 in
      let clients = same.0 in
      let is = client_within old.clients client (known_client old client call t.allowed) in
      let now = client_keeps encode decode get_epoch set_epoch first client r' is.0 (let le = is.1 in omega (arith, le, clients)) in
      let one : Operation T = new_operation client call v.next.0 in
      let there : numbered first.operations (next_op old) ≡ Some one = ap (λ (s : State T). numbered s.operations (next_op old)) v.state ∙ numbered_new old.operations one in
      let l = listings_of first.store.files first.page g r'.2 few in
      let begun = call_begins j'.fine.trace first.store.files first.page g l now.0 encode get_epoch set_epoch call (view_now old call) fits in
      let begun' : Begun j'.fine.trace first.store.files first.page g l now.0 encode get_epoch set_epoch v.next (cost_of call g) =
      subst (λ (x : Next T). Begun j'.fine.trace first.store.files first.page g l now.0 encode get_epoch set_epoch x (cost_of call g)) (ap (λ (p : ℕ). started p encode get_epoch set_epoch call (view_now old call)) page ∙ sym v.starts) begun in
      record { operation = one; there = there; caches = now.0; kept = now.1; joined = j'; left = begun'.0; adds = begun'.1 }

  pub call_bound : (old : State T) (client : ℕ) (call : Call T) (said : Told T) (first : State T) (g times : ℕ) (taken : List (Event T × Told T)) (new : State T) → IsReached encode decode get_epoch set_epoch old → Takes encode decode get_epoch set_epoch old (events.Begin client call) said first →
      IsNoAdvance call → FewPages g first → Disturbed encode decode get_epoch set_epoch (next_op old) g times first taken new → own_count (next_op old) taken ≤ (cost_of call g).alone + times * (cost_of call g).again
  call_bound old client call said first g times taken new r t fits few d =
      run_bound encode decode get_epoch set_epoch taken times (cost_of call g).alone first new (next_op old) g (cost_of call g).again (taken_reached encode decode get_epoch set_epoch old (events.Begin client call) said first r t) d (call_has old client call said first g r t fits few)
