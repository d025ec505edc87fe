-- Each event keeps what stands of a world's state.
use Rattle.std.proofs.Common.{◌≡◌, ◌≢◌, nat_eq, ℕ, ◌<◌, ◌≤◌, List, [], ◌∷◌, ◌++◌, length, Bool, true, false, Option, Some, None, ◌⊎◌, inl, inr, refl, sym, ◌∙◌, ap, subst, arith}
use Rattle.std.specs.List.{list_any}
use Rattle.std.proofs.lemmas.List.{append-nil}
use Rattle.std.proofs.lemmas.Bool.{cases_lt, both_ways, eq-eqb}
use Rattle.std.proofs.lemmas.Option.{same_Some}
use Rattle.txn_store.specs.Store.{State as StoreState}
use Rattle.txn_store.specs.declared.request.Request.{Request}
use Rattle.txn_store.specs.declared.request.Request.TheVariants as requests
use Rattle.txn_store.specs.declared.request.Reply.{Reply}
use Rattle.txn_steps.specs.declared.boundary.caches.CachedBoundary.{CachedBoundary}
use Rattle.txn_steps.specs.declared.boundary.caches.Caches.{Caches}
use Rattle.txn_history.specs.declared.event.PlainCall.{PlainCall}
use Rattle.txn_history.specs.declared.event.PlainAnswer.TheVariants as answers
use Rattle.txn_history.specs.declared.event.Failure.{Failure}
use Rattle.txn_history.specs.declared.event.Failure.TheVariants as failures
use Rattle.txn_history.specs.Trace.{PlainTold, PlainRow}
use Rattle.txn_history.specs.declared.trace.RowOf.TheVariants.{Effect}
use Rattle.txn_history.specs.Lists.{numbered}
use Rattle.txn_history.specs.Seen.{Ask, Store, Look}
use Rattle.txn_history.specs.GoesOn.{may_be_loose}
use Rattle.txn_history.specs.Calls.{was_begun, begun_count}
use Rattle.txn_history.specs.Added.{effect_rows}
use Rattle.txn_history.proofs.Lists.{any_last}
use Rattle.txn_machine.specs.declared.plain.doing.PlainDoing.{PlainDoing}
use Rattle.txn_machine.specs.declared.plain.doing.PlainDoing.TheVariants.{Write, WriteUnchecked, Read, ReadUnchecked, ReadSeen, ListIds, Delete, Check, Advance, Ended}
use Rattle.txn_machine.specs.declared.plain.doing.PlainOperation.{PlainOperation}
use Rattle.txn_machine.specs.plain.Doing.{Next, asked, plain_caches_after}
use Rattle.txn_machine.specs.plain.Machine.{State, effect_of, with_doing, acted, effected, failing, given_up, told_failure, Acts, Reaches, FailsFirst, FailsAfter, GivesUp, Lands, Looks, Served, FailsBy}
use Rattle.txn_machine.proofs.plain.Lists.{within, numbered_here}
use Rattle.txn_history.proofs.More.{begun_count-more}
use Rattle.txn_machine.proofs.plain.Stands.{AreOthers, CachesStand, Runs, RunStands, OpStands, TurnStands, Asks, StandsBut, Stands}
use Rattle.txn_machine.proofs.plain.Turns.{stays, LooksTo, fails_with}
use Rattle.txn_machine.proofs.plain.Effects.{answered_frame}
use Rattle.txn_machine.proofs.plain.Failed.{failed_know}
use Rattle.txn_machine.proofs.plain.Frames.{begun_more, caches_more, asks_more}
use Rattle.txn_machine.proofs.plain.States.{framed_by, but, close, at_place, framed_but, turn_keeps, own_turn, loosen_keeps}
use Rattle.txn_machine.proofs.plain.Reaches.{Reached, reaches}
use Rattle.txn_machine.proofs.plain.WriteServes.{runs_kept}
use Rattle.txn_machine.proofs.plain.Operations.{asks_of, keeps_caches, serve_turn, look_turn}

-- rows of an operation's effect are none of another's
effect_others : (T : Type 0) (op n : ℕ) (effect : Option Request) → n ≢ op → AreOthers {T = T} n (effect_rows op effect)
effect_others T op n None ne = tt
effect_others T op n (Some request) ne = ((λ e. ne (sym e)), tt)

-- and no begin
effect_quiet : {T : Type 0} (rows : List (PlainRow T)) (op : ℕ) (effect : Option Request) → begun_count (rows ++ effect_rows op effect) ≡ begun_count rows
effect_quiet rows op None = ap begun_count (append-nil rows)
effect_quiet rows op (Some request) = begun_count-more rows (Effect op request) refl

-- what becomes loose is what was asked
pub loose_is : (ask : Ask) (request : Request) → may_be_loose ask ≡ Some request → ask ≡ Store request
loose_is (Store (requests.Put path bytes mode)) request e = ap Store (same_Some (requests.Put path bytes mode) request e)
loose_is (Store (requests.Delete path)) request e = ap Store (same_Some (requests.Delete path) request e)
loose_is (Store (requests.Get path known)) request e = cc
loose_is (Store (requests.List prefix after limit)) request e = cc
loose_is Look request e = cc

module _ {T : Type 0} (decode : List ℕ → Option T) (get_epoch : T → ℕ) where
  -- an operation that asks runs
  pub run_of : (rows : List (PlainRow T)) (store : StoreState) (cached : Option CachedBoundary) (op : ℕ) (doing : PlainDoing T) (ask : Ask) → asked doing ≡ Some ask → OpStands decode get_epoch rows store cached op doing → (call : PlainCall T) × RunStands decode get_epoch rows store cached op call doing
  run_of rows store cached op (Write write) ask e h = h
  run_of rows store cached op (WriteUnchecked write) ask e h = h
  run_of rows store cached op (Read read) ask e h = h
  run_of rows store cached op (ReadUnchecked read) ask e h = h
  run_of rows store cached op (ReadSeen read) ask e h = h
  run_of rows store cached op (ListIds list) ask e h = h
  run_of rows store cached op (Delete delete) ask e h = h
  run_of rows store cached op (Check check) ask e h = h
  run_of rows store cached op (Advance advance) ask e h = h
  run_of rows store cached op Ended ask e h = cc

  -- the operation that acts, and its call
  pub acts_run : (s : State T) (op : ℕ) (o : PlainOperation T) (ask : Ask) (caches : Caches) → Acts s op o ask caches → Stands decode get_epoch s → (call : PlainCall T) × RunStands decode get_epoch s.trace s.store caches.boundary op call o.doing
  acts_run s op o ask caches a st =
      let at = at_place decode get_epoch s op o st a.found in
      let is : at.0 ≡ caches = same_Some at.0 caches (sym at.1 ∙ a.kept) in
      run_of s.trace s.store caches.boundary op o.doing ask a.asks (subst (λ (c : Caches). OpStands decode get_epoch s.trace s.store c.boundary op o.doing) is at.2)

  -- looks

  pub look_keeps : (old : State T) (op : ℕ) (said : PlainTold T) (new : State T) → Looks decode old op said new → Stands decode get_epoch old → Stands decode get_epoch new
  look_keeps old op said new v st =
      let a = v.acts in
      let c = v.caches in
      let doing = v.operation.doing in
      let run = acts_run old op v.operation Look c a st in
      let l' = look_turn decode get_epoch old.page st.paged v.refused old.failed old.trace old.store c op run.0 st.know (st.caches v.operation.client c a.kept) doing run.1 a.asks in
      let l = subst (λ (n : Next T). LooksTo decode get_epoch old.failed old.trace old.store c (plain_caches_after doing c n.1) op run.0 n) (sym v.turns) l' in
      subst (λ (s : State T). Stands decode get_epoch s) (sym v.state)
      (turn_keeps decode get_epoch old op v.operation Look run.0 v.next.0 v.next.1 c (plain_caches_after doing c v.next.1) a.found a.asks a.kept l.fits l.more
      (own_turn decode get_epoch old.failed old.trace old.store (plain_caches_after doing c v.next.1).boundary op run.0 v.next.0 v.next.1 l.turn) (but decode get_epoch old op st))

  -- a request of an operation reaches the store

  pub reached : (s : State T) (op : ℕ) (request : Request) (reply : Reply) (store : StoreState) → Asks decode get_epoch s.trace s.store op request → Reaches s request reply store → Stands decode get_epoch s → Reached decode get_epoch s.failed s.trace s.store op request reply store
  reached s op request reply store asks r st = reaches decode get_epoch s.failed s.trace s.store store op request reply st.know asks r.serves r.honest

  pub effected_but : (s : State T) (op : ℕ) (request : Request) (reply : Reply) (store : StoreState) → 0 < op → op ≤ length s.operations → Reached decode get_epoch s.failed s.trace s.store op request reply store → StandsBut decode get_epoch s op →
      StandsBut decode get_epoch (effected s op request reply store) op
  effected_but s op request reply store some most r st =
      let effect = effect_of s.store.files request reply in
      framed_but decode get_epoch s op s.failed (s.trace ++ effect_rows op effect) store (framed_by (effect_rows op effect) r.frame) (λ n ne. effect_others T op n effect ne) (effect_quiet s.trace op effect) some most r.know st

  -- serves

  pub serve_keeps : (old : State T) (op : ℕ) (said : PlainTold T) (new : State T) → Served decode old op said new → Stands decode get_epoch old → Stands decode get_epoch new
  serve_keeps old op said new v st =
      let a = v.call.acts in
      let c = v.call.caches in
      let doing = v.call.operation.doing in
      let run = acts_run old op v.call.operation (Store v.call.request) c a st in
      let asks = asks_of decode get_epoch old.trace old.store c.boundary op run.0 v.call.request run.1.runs doing run.1.stands a.asks in
      let r = reached old op v.call.request v.call.reply v.call.store asks v.call.reaches st in
      let bound = within old.operations op v.call.operation a.found in
      let s' = effected old op v.call.request v.call.reply v.call.store in
      let turn' = serve_turn decode get_epoch old.page st.paged v.refused old.failed old.trace old.store v.call.store c op run.0 v.call.request v.call.reply st.know r.know r.frame v.call.reaches.serves v.call.reaches.honest run.1.runs doing run.1 a.asks in
      let turn = subst (λ (n : Next T). TurnStands decode get_epoch old.failed s'.trace v.call.store c.boundary op run.0 n) (sym v.turns) turn' in
      let fits = caches_more decode get_epoch old.trace old.store s'.trace v.call.store r.frame c (st.caches v.call.operation.client c a.kept) in
      let kept = turn_keeps decode get_epoch s' op v.call.operation (Store v.call.request) run.0 v.next.0 v.next.1 c c a.found a.asks a.kept fits (stays c.boundary)
      (own_turn decode get_epoch old.failed s'.trace v.call.store c.boundary op run.0 v.next.0 v.next.1 turn) (effected_but old op v.call.request v.call.reply v.call.store bound.0 bound.1 r (but decode get_epoch old op st)) in
      let same = keeps_caches decode get_epoch c v.call.request doing v.next.1 a.asks in
      subst (λ (s : State T). Stands decode get_epoch s) (sym v.state) (subst (λ (d : Caches). Stands decode get_epoch (acted s' op v.call.operation v.next d)) (sym same) kept)

  -- failures

  failing_but : (s : State T) (op : ℕ) → StandsBut decode get_epoch s op → StandsBut decode get_epoch (failing s op) op
  failing_but s op st =
      record {
        paged = st.paged;
        know = failed_know decode get_epoch s.failed op s.trace s.store st.know;
        wide = st.wide;
        caches = st.caches;
        count = st.count;
        zero = st.zero;
        fresh = λ n h. (let f = st.fresh n h in record { begun = f.begun; answered = f.answered; none = f.none });
        loose = λ k n request e. (let l = st.loose k n request e in record { asks = l.asks; begun = l.begun; ended = l.ended });
        each = st.each;
      }

  -- an operation of an open state is told that its store call failed
  failed_keeps : (s : State T) (op : ℕ) (o : PlainOperation T) (ask : Ask) (call : PlainCall T) (caches : Caches) → Acts s op o ask caches → RunStands decode get_epoch s.trace s.store caches.boundary op call o.doing ⊎ Runs decode get_epoch s.trace op call → CachesStand decode s.trace s.store caches → StandsBut decode get_epoch s op →
      Stands decode get_epoch (acted (failing s op) op o told_failure caches)
  failed_keeps s op o ask call caches a run fits st =
      let r : Runs decode get_epoch s.trace op call = elim run [ inl h ↦ h.runs | inr h ↦ h ] in
      let there : list_any (nat_eq op) (s.failed ++ op ∷ []) ≡ true = any_last (nat_eq op) s.failed op (eq-eqb op op refl) in
      turn_keeps decode get_epoch (failing s op) op o ask call Ended (Some (answers.Refused 2)) caches caches a.found a.asks a.kept fits (stays caches.boundary)
      (fails_with decode get_epoch (s.failed ++ op ∷ []) s.trace s.store caches.boundary op call 2 r (inl (refl, there))) (failing_but s op st)

  ended_here : (s : State T) (op : ℕ) (o o' : PlainOperation T) → numbered s.operations op ≡ Some o → numbered (with_doing s.operations op o Ended) op ≡ Some o' → o'.doing ≡ Ended
  ended_here s op o o' found e =
      let next : PlainOperation T = record { client = o.client; doing = Ended } in
      let is : next ≡ o' = same_Some next o' (sym (numbered_here s.operations op next o found) ∙ e) in
      sym (ap (λ (x : PlainOperation T). x.doing) is)

  fails_first_keeps : (looses : Bool) (old : State T) (op : ℕ) (said : PlainTold T) (new : State T) → FailsFirst old op said looses new → Stands decode get_epoch old → Stands decode get_epoch new
  fails_first_keeps false old op said new v st =
      let a = v.acts in
      let run = acts_run old op v.operation (Store v.request) v.caches a st in
      subst (λ (s : State T). Stands decode get_epoch s) (sym v.state) (failed_keeps old op v.operation (Store v.request) run.0 v.caches a (inl run.1) (st.caches v.operation.client v.caches a.kept) (but decode get_epoch old op st))
  fails_first_keeps true old op said new v st =
      let a = v.acts in
      let run = acts_run old op v.operation (Store v.request) v.caches a st in
      let failed' = failed_keeps old op v.operation (Store v.request) run.0 v.caches a (inl run.1) (st.caches v.operation.client v.caches a.kept) (but decode get_epoch old op st) in
      let s' = acted (failing old op) op v.operation told_failure v.caches in
      let f = answered_frame old.trace old.store op (answers.Refused 2) in
      let asks = asks_of decode get_epoch old.trace old.store v.caches.boundary op run.0 v.request run.1.runs v.operation.doing run.1.stands a.asks in
      let asks' = asks_more decode get_epoch old.trace old.store s'.trace old.store f op v.request asks in
      subst (λ (s : State T). Stands decode get_epoch s) (sym v.state)
      (loosen_keeps decode get_epoch s' op (Store v.request) failed' (begun_more decode get_epoch old.trace old.store s'.trace old.store f op run.1.runs.begun) (λ o' e. ended_here old op v.operation o' a.found e)
      (λ request e. subst (λ (q : Request). Asks decode get_epoch s'.trace old.store op q) (let is = loose_is (Store v.request) request e in cc) asks'))

  fails_after_keeps : (old : State T) (op : ℕ) (said : PlainTold T) (new : State T) → FailsAfter old op said new → Stands decode get_epoch old → Stands decode get_epoch new
  fails_after_keeps old op said new v st =
      let a = v.call.acts in
      let run = acts_run old op v.call.operation (Store v.call.request) v.call.caches a st in
      let asks = asks_of decode get_epoch old.trace old.store v.call.caches.boundary op run.0 v.call.request run.1.runs v.call.operation.doing run.1.stands a.asks in
      let r = reached old op v.call.request v.call.reply v.call.store asks v.call.reaches st in
      let bound = within old.operations op v.call.operation a.found in
      let s' = effected old op v.call.request v.call.reply v.call.store in
      let effect = effect_of old.store.files v.call.request v.call.reply in
      let runs = runs_kept decode get_epoch old.trace op run.0 effect run.1.runs in
      let fits = caches_more decode get_epoch old.trace old.store s'.trace v.call.store r.frame v.call.caches (st.caches v.call.operation.client v.call.caches a.kept) in
      subst (λ (s : State T). Stands decode get_epoch s) (sym v.state)
      (failed_keeps s' op v.call.operation (Store v.call.request) run.0 v.call.caches (record { found = a.found; asks = a.asks; kept = a.kept }) (inr runs) fits (effected_but old op v.call.request v.call.reply v.call.store bound.0 bound.1 r (but decode get_epoch old op st)))

  pub fail_keeps : (failure : Failure) (old : State T) (op : ℕ) (said : PlainTold T) (new : State T) → FailsBy FailsFirst FailsAfter old op failure said new → Stands decode get_epoch old → Stands decode get_epoch new
  fail_keeps failures.Before old op said new v st = fails_first_keeps false old op said new v st
  fail_keeps failures.After old op said new v st = fails_after_keeps old op said new v st
  fail_keeps failures.Loose old op said new v st = fails_first_keeps true old op said new v st

  -- give-ups

  pub give_up_keeps : (old : State T) (op : ℕ) (said : PlainTold T) (new : State T) → GivesUp old op said new → Stands decode get_epoch old → Stands decode get_epoch new
  give_up_keeps old op said new v st =
      let a = v.acts in
      let c = v.caches in
      let run = acts_run old op v.operation v.ask c a st in
      let s' = acted old op v.operation given_up c in
      let same : s'.trace ≡ old.trace = append-nil old.trace in
      let ended' = turn_keeps decode get_epoch old op v.operation v.ask run.0 Ended None c c a.found a.asks a.kept (st.caches v.operation.client c a.kept) (stays c.boundary) run.1.runs.begun (but decode get_epoch old op st) in
      subst (λ (s : State T). Stands decode get_epoch s) (sym v.state)
      (loosen_keeps decode get_epoch s' op v.ask ended' (subst (λ (rs : List (PlainRow T)). was_begun rs op ≡ true) (sym same) run.1.runs.begun) (λ o' e. ended_here old op v.operation o' a.found e)
      (λ request e. subst (λ (rs : List (PlainRow T)). Asks decode get_epoch rs old.store op request) (sym same)
      (asks_of decode get_epoch old.trace old.store c.boundary op run.0 request run.1.runs v.operation.doing run.1.stands (a.asks ∙ ap Some (loose_is v.ask request e)))))

  -- landings

  place_of : (s : State T) (op : ℕ) → Stands decode get_epoch s → was_begun s.trace op ≡ true → (0 < op) × (op ≤ length s.operations)
  place_of s op st begun = (
    elim (cases_lt 0 op) [ inl some ↦ some | inr none ↦ absurd (let zero : op ≡ 0 = omega (arith, none) in both_ways _ st.zero (subst (λ (n : ℕ). was_begun s.trace n ≡ true) zero begun)) ],
    elim (cases_lt (length s.operations) op) [ inr most ↦ most | inl past ↦ absurd (both_ways _ (st.fresh op past).begun begun) ],
  )

  pub land_keeps : (old : State T) (k : ℕ) (said : PlainTold T) (new : State T) → Lands old k said new → Stands decode get_epoch old → Stands decode get_epoch new
  land_keeps old k said new v st =
      let lands = v.loose in
      let l = st.loose k lands.op lands.request lands.found in
      let r = reached old lands.op lands.request lands.reply lands.store l.asks lands.reaches st in
      let bound = place_of old lands.op st l.begun in
      let s' = effected old lands.op lands.request lands.reply lands.store in
      subst (λ (s : State T). Stands decode get_epoch s) (sym v.state)
      (close decode get_epoch s' lands.op (effected_but old lands.op lands.request lands.reply lands.store bound.0 bound.1 r (but decode get_epoch old lands.op st))
      (λ o e. (
      let at = at_place decode get_epoch old lands.op o st e in
      let begun = begun_more decode get_epoch old.trace old.store s'.trace lands.store r.frame lands.op l.begun in
      (at.0, at.1, subst (λ (d : PlainDoing T). OpStands decode get_epoch s'.trace lands.store at.0.boundary lands.op d) (sym (l.ended o e)) begun)
      )))
