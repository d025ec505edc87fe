-- Reads of one version: what they answer and leave.
use Rattle.std.proofs.Common.{◌≡◌, ℕ, ◌+◌, ◌-◌, ◌<◌, ◌≤◌, ◌^◌, Bool, true, false, is_some, List, length, slice_get, Option, Some, None, Result, Ok, Err, refl, sym, ap, subst, ◌∙◌, inl, inr, arith}
use Rattle.std.proofs.lemmas.Bool.{cases_lt}
use Rattle.std.proofs.lemmas.Option.{same_Some, slice_get_past}
use Rattle.std.specs.FinMap as map
use Rattle.txn_store.specs.VersionName.{Names, version_path}
use Rattle.txn_store.specs.Store.{Files, State, Kept, Gets as StoreGets}
use Rattle.txn_store.specs.declared.store.Got.{Got}
use Rattle.txn_store.specs.declared.store.StoreError.{StoreError}
use Rattle.txn_store.specs.declared.store.StoreError.TheVariants as errors
use Rattle.txn_store.specs.declared.request.Request.{Request}
use Rattle.txn_store.specs.declared.request.Reply.{Reply}
use Rattle.txn_store.specs.declared.request.Reply.TheVariants as replies
use Rattle.txn_store.specs.types.Errors.{error_number}
use Rattle.txn_store.specs.declared.types.error.TransactionalObjectError.{TransactionalObjectError}
use Rattle.txn_store.specs.declared.types.error.TransactionalObjectError.TheVariants as kinds
use Rattle.txn_steps.specs.declared.boundary.caches.Cached.{Cached}
use Rattle.txn_steps.specs.declared.boundary.turned.Turned.{Turned}
use Rattle.txn_steps.specs.declared.boundary.turned.Turned.TheVariants.{Goes, Done}
use Rattle.txn_steps.specs.boundary.Asking.{reply_told, unless_lacking}
use Rattle.txn_steps.specs.boundary.Steps.{by_number, turned_by_number, IsErrorOf, HasErrorOf}
use Rattle.txn_steps.specs.boundary.Windows.{held, kept}
use Rattle.txn_steps.specs.declared.seen.ReadSeenOp.{ReadSeenOp}
use Rattle.txn_steps.specs.declared.seen.ReadSeenOp.TheVariants.{Looks, Gets, Keeps, Ended}
use Rattle.txn_steps.specs.Requests.{version_got}
use Rattle.txn_steps.specs.SeenSteps.{or_lacks_memory, value_read, as_found, value_got, unchecked_turned, seen_asked, seen_looked, seen_keeping, seen_got, seen_turned, seen_latest}
use Rattle.txn_steps_driven.specs.Asked.{Replies}
use Rattle.txn_steps_driven.specs.Calls.{Spends, HasCauseOfRead, HasCauseOfGet}
use Rattle.txn_steps_driven.specs.Standing.{FilesStand, WindowFits}
use Rattle.txn_steps_driven.specs.LatestReads.{IsStored, HasGrown, IsRefused}
use Rattle.txn_steps_driven.specs.VersionReads.{IsValueOf, AreRefused, VersionRead, IsSeen, SeenRead, IsSeenStep, HasGot, HoldsSeen, RunningSeen, seen_steps}
use Rattle.txn_steps_driven.proofs.Windows.{held_fits}
use Rattle.txn_steps_driven.proofs.LatestWindows.{one_held, grown_none, grown_kept, grown_every}
use Rattle.txn_steps_driven.proofs.LatestTurns.{Reads, look_reads, get_reads, NumberCause, get_failed, gone_in, asked_get, asked_look}
use Rattle.txn_steps_driven.proofs.LatestStands.{window_stands}
use Rattle.txn_steps_driven.proofs.LatestDriver.{cause_of}

-- a cause of a read that spends no turn
pub cause_of_get : (old mid new : State) (told : Option StoreError) (error : TransactionalObjectError) → old.failures ≤ mid.failures → NumberCause mid new told (error_number error) → IsErrorOf told error → HasCauseOfGet old new error
cause_of_get old mid new told error rise cause of = by_kind error (cause_of 1 old mid new told error rise cause of)
  where
    by_kind : (error : TransactionalObjectError) → HasCauseOfRead 1 old new error → HasCauseOfGet old new error
    by_kind kinds.IoError c = c
    by_kind (kinds.ObjectStoreError e) c = c
    by_kind (kinds.ObjectUpdateTimeout timeout) c = c
    by_kind kinds.LatestRecordMissing c = c
    by_kind kinds.ObjectVersionExists c = c
    by_kind kinds.Fenced c = c
    by_kind kinds.InvalidObjectState c = c
    by_kind (kinds.CallbackError error) c = c
    by_kind kinds.NoMemory c = c
    by_kind kinds.IdExhausted c = c
    by_kind kinds.TurnsExhausted c = absurd (omega (arith, c))

module _ {T : Type 0} (names : Names) (decode : List ℕ → Option T) where
  -- what stands as a version above the boundary is the entry
  pub value_stands : (files : Files) (h : List T) (b id : ℕ) → FilesStand names decode files h b → id < 2 ^ 64 → (answer : Option T) → IsValueOf names decode files id answer → b < id → answer ≡ slice_get h (id - 1)
  value_stands files h b id stand small None none above =
      elim (cases_lt (length h) id) [
        | inl over ↦ sym (slice_get_past h (id - 1) (omega (arith, over)))
        | inr within ↦ (let s = stand.stored id above within in let clash = sym none ∙ s.1 in cc)
      ]
  value_stands files h b id stand small (Some value) (got, is, reads) above =
      let known = stand.known id got small is in
      let s = stand.stored id above known.1 in
      let same : s.0 ≡ got = same_Some s.0 got (sym s.1 ∙ is) in
      sym reads ∙ (sym (ap (λ g. decode g.bytes) same) ∙ s.2)

  -- what a get tells of a version
  abbrev ValueTold : State → State → Option StoreError → ℕ → Turned (Result (Option T) ℕ) → Type 0
  ValueTold old new told id Goes = Unit {0}
  ValueTold old new told id (Done (Ok answer)) = IsValueOf names decode old.files id answer
  ValueTold old new told id (Done (Err number)) = NumberCause old new told number × (number ≡ 8 → AreRefused names decode old.files id)

  read_told : (old new : State) (told : Option StoreError) (id : ℕ) (got : Got) → map.get old.files (version_path names id) ≡ Some got → (value : Option T) → decode got.bytes ≡ value → ValueTold old new told id (Done (as_found (value_read value)))
  read_told old new told id got is None reads = (inr (inl refl), λ e. (got, is, reads))
  read_told old new told id got is (Some value) reads = (got, is, reads)

  failed_told : (old new : State) (id : ℕ) (e : StoreError) (number : ℕ) → NumberCause old new (Some e) number → (number ≡ 8 → ⊥) → ValueTold old new (Some e) id (Done (Err number))
  failed_told old new id e number cause other = (cause, λ is. absurd (other is))

  got_told : (old new : State) (id : ℕ) (answer : Result Got StoreError) → StoreGets (version_path names id) None old answer new → ValueTold old new (reply_told (Some (replies.Get answer))) id (Done (value_got decode answer))
  got_told old new id (Ok got) g = read_told old new None id got g.found (decode got.bytes) refl
  got_told old new id (Err errors.NotFound) g = gone_in old.files (version_path names id) old new (Err errors.NotFound) refl g refl
  got_told old new id (Err errors.AlreadyExists) g = failed_told old new id errors.AlreadyExists 2 (get_failed (map.get old.files (version_path names id)) old new errors.AlreadyExists (λ e. cc) g.err) (λ e. omega (arith, e))
  got_told old new id (Err errors.Precondition) g = failed_told old new id errors.Precondition 2 (get_failed (map.get old.files (version_path names id)) old new errors.Precondition (λ e. cc) g.err) (λ e. omega (arith, e))
  got_told old new id (Err errors.NotModified) g = failed_told old new id errors.NotModified 2 (get_failed (map.get old.files (version_path names id)) old new errors.NotModified (λ e. cc) g.err) (λ e. omega (arith, e))
  got_told old new id (Err errors.Failed) g = failed_told old new id errors.Failed 2 (get_failed (map.get old.files (version_path names id)) old new errors.Failed (λ e. cc) g.err) (λ e. omega (arith, e))
  got_told old new id (Err errors.NoMemory) g = failed_told old new id errors.NoMemory 9 (get_failed (map.get old.files (version_path names id)) old new errors.NoMemory (λ e. cc) g.err) (λ e. omega (arith, e))
  got_told old new id (Err errors.TokensExhausted) g = failed_told old new id errors.TokensExhausted 2 (get_failed (map.get old.files (version_path names id)) old new errors.TokensExhausted (λ e. cc) g.err) (λ e. omega (arith, e))

  lacking_told : (old new : State) (told : Option StoreError) (id : ℕ) (lacks : Bool) (x : Turned (Result (Option T) ℕ)) → ValueTold old new told id x → ValueTold old new told id (or_lacks_memory lacks x)
  lacking_told old new told id true x h = (inr (inr refl), λ e. absurd (omega (arith, e)))
  lacking_told old new told id false x h = h

  read_spends : (calls : ℕ) (old new : State) → calls ≤ 1 → Reads calls old new → Spends 1 0 old new
  read_spends calls old new few r = let c = r.calls_are in let l = r.kept.left in record { calls_rise = omega (arith, c); calls_most = omega (arith, c, few); failures_rise = r.failures_rise; left_falls = omega (arith, l); left_least = omega (arith, l) }

  version_read : (old new : State) (id : ℕ) (told : Option StoreError) → id < 2 ^ 64 → Reads 1 old new → (result : Result (Option T) TransactionalObjectError) → ValueTold old new told id (Done (by_number result)) → HasErrorOf told result → VersionRead names decode old new id result
  version_read old new id told small r (Ok answer) h of = record {
    kept = r.kept;
    spends = read_spends 1 old new (omega arith) r;
    one_call = r.calls_are;
    value = h;
    cause = tt;
    refused = tt;
    stands = λ h' b stand. (subst (λ f. FilesStand names decode f h' b) (sym r.kept.files) stand, value_stands old.files h' b id stand small answer h);
  }
  version_read old new id told small r (Err error) h of = record {
    kept = r.kept;
    spends = read_spends 1 old new (omega arith) r;
    one_call = tt;
    value = tt;
    cause = cause_of_get old old new told error (omega arith) h.0 of;
    refused = h.1;
    stands = λ h' b stand. (subst (λ f. FilesStand names decode f h' b) (sym r.kept.files) stand, tt);
  }

  -- a read of one version
  pub reads_version : (old new : State) (id : ℕ) (request : Request) (reply : Option Reply) (lacks : Bool) (result : Result (Option T) TransactionalObjectError) → id < 2 ^ 64 → request ≡ version_got names id → Replies (Some request) old reply new
      → turned_by_number (Done result) ≡ or_lacks_memory lacks (unchecked_turned decode reply) → HasErrorOf (reply_told reply) result → VersionRead names decode old new id result
  reads_version old new id request reply lacks result small is replied turned of =
      let got = asked_get (version_path names id) request old new reply is replied in
      let told : ValueTold old new (reply_told reply) id (unchecked_turned decode reply) = rw got.1 (got_told old new id got.0 got.2) in
      version_read old new id (reply_told reply) small (get_reads (version_path names id) None old new got.0 got.2) result (subst (ValueTold old new (reply_told reply) id) (sym turned) (lacking_told old new (reply_told reply) id lacks (unchecked_turned decode reply) told)) of

  -- a read of a version that was perhaps seen

  -- what a step leaves: it goes on with less to do, or ends
  abbrev SeenLeaves : State → State → List Cached → List Cached → ℕ → Option StoreError → ℕ → ReadSeenOp T × Turned (Result (Option T) ℕ) → Type 0
  SeenLeaves old new first latest id told steps (next, Goes) = HoldsSeen names decode old new first latest id next × (seen_steps next < steps)
  SeenLeaves old new first latest id told steps (next, Done (Ok answer)) = IsSeen names decode old new first latest id (held id first) answer
  SeenLeaves old new first latest id told steps (next, Done (Err number)) = NumberCause old new told number × (number ≡ 8 → IsRefused names decode old.files first)

  seen_failed : (old new : State) (first : List Cached) (e : StoreError) (number : ℕ) → NumberCause old new (Some e) number → (number ≡ 8 → ⊥) → NumberCause old new (Some e) number × (number ≡ 8 → IsRefused names decode old.files first)
  seen_failed old new first e number cause other = (cause, λ is. absurd (other is))

  looked_value : (old new : State) (first : List Cached) (id : ℕ) (op : ReadSeenOp T) (cached : Cached) (value : Option T) → new ≡ old → held id first ≡ Some cached → decode cached.bytes ≡ value → SeenLeaves old new first first id None 3 (op, Done (as_found (value_read value)))
  looked_value old new first id op cached None same is reads = (inr (inl refl), λ e. (cached, inl (one_held id first cached is), reads))
  looked_value old new first id op cached (Some value) same is reads = rw is (reads, refl, refl, ap (λ (s : State). s.calls) same)

  looked : (old new : State) (first : List Cached) (id : ℕ) (o : Option Cached) → held id first ≡ o → new ≡ old → SeenLeaves old new first first id None 3 (seen_looked names decode (Looks id) id o)
  looked old new first id None is same = ((refl, same, refl, is, refl), omega arith)
  looked old new first id (Some cached) is same = looked_value old new first id (Looks id) cached (decode cached.bytes) same is refl

  kept_value : (old new : State) (first : List Cached) (id : ℕ) (request : Request) (got : Got) (value : Option T) → id < 2 ^ 64 → held id first ≡ None → map.get old.files (version_path names id) ≡ Some got → Reads 1 old new → decode got.bytes ≡ value → SeenLeaves old new first first id None 2 (seen_keeping names decode (Gets id request) (record { id = id; bytes = got.bytes }) value)
  kept_value old new first id request got None small is at r reads = (inr (inl refl), λ e. (record { id = id; bytes = got.bytes }, inr (record { small = small; file = got; is_file = at; bytes = refl }), reads))
  kept_value old new first id request got (Some value) small is at r reads = ((refl, is, record { got = got; is_file = at; version_is = refl; reads = reads; kept = r.kept; calls = r.calls_are; failures = r.failures_rise }), omega arith)

  got_seen : (old new : State) (first : List Cached) (id : ℕ) (request : Request) (answer : Result Got StoreError) → id < 2 ^ 64 → held id first ≡ None → StoreGets (version_path names id) None old answer new → Reads 1 old new → SeenLeaves old new first first id (reply_told (Some (replies.Get answer))) 2 (seen_got names decode (Gets id request) id answer)
  got_seen old new first id request (Ok got) small is g r = kept_value old new first id request got (decode got.bytes) small is g.found r refl
  got_seen old new first id request (Err errors.NotFound) small is g r = rw is (gone_in old.files (version_path names id) old new (Err errors.NotFound) refl g refl, refl, r.calls_are)
  got_seen old new first id request (Err errors.AlreadyExists) small is g r = seen_failed old new first errors.AlreadyExists 2 (get_failed (map.get old.files (version_path names id)) old new errors.AlreadyExists (λ e. cc) g.err) (λ e. omega (arith, e))
  got_seen old new first id request (Err errors.Precondition) small is g r = seen_failed old new first errors.Precondition 2 (get_failed (map.get old.files (version_path names id)) old new errors.Precondition (λ e. cc) g.err) (λ e. omega (arith, e))
  got_seen old new first id request (Err errors.NotModified) small is g r = seen_failed old new first errors.NotModified 2 (get_failed (map.get old.files (version_path names id)) old new errors.NotModified (λ e. cc) g.err) (λ e. omega (arith, e))
  got_seen old new first id request (Err errors.Failed) small is g r = seen_failed old new first errors.Failed 2 (get_failed (map.get old.files (version_path names id)) old new errors.Failed (λ e. cc) g.err) (λ e. omega (arith, e))
  got_seen old new first id request (Err errors.NoMemory) small is g r = seen_failed old new first errors.NoMemory 9 (get_failed (map.get old.files (version_path names id)) old new errors.NoMemory (λ e. cc) g.err) (λ e. omega (arith, e))
  got_seen old new first id request (Err errors.TokensExhausted) small is g r = seen_failed old new first errors.TokensExhausted 2 (get_failed (map.get old.files (version_path names id)) old new errors.TokensExhausted (λ e. cc) g.err) (λ e. omega (arith, e))

  kept_seen : (old new : State) (first : List Cached) (id : ℕ) (version : Cached) (value : T) → held id first ≡ None → HasGot names decode old new id version value → SeenLeaves old new first (kept version first) id None 1 (Ended, Done (Ok (Some value)))
  kept_seen old new first id version value is g = rw is (g.got, g.is_file, ap (λ (v : Cached). decode v.bytes) (sym g.version_is) ∙ g.reads, ap (λ v. kept v first) g.version_is, g.calls)

  -- what a step makes of the store and of the held versions
  record SeenMoved (old new : State) (first latest : List Cached) : Type 0 where
    kept_all : Kept old new
    rise : old.calls ≤ new.calls
    most : new.calls ≤ old.calls + 1
    failures : old.failures ≤ new.failures
    grown : HasGrown names old.files first latest

  moved_by : (calls : ℕ) (old new : State) (first latest : List Cached) → calls ≤ 1 → Reads calls old new → HasGrown names old.files first latest → SeenMoved old new first latest
  moved_by calls old new first latest few r grown = let c = r.calls_are in record { kept_all = r.kept; rise = omega (arith, c); most = omega (arith, c, few); failures = r.failures_rise; grown = grown }

  abbrev SeenMove : State → State → List Cached → List Cached → ℕ → ReadSeenOp T → Option Reply → Type 0
  SeenMove old new first latest id op reply = SeenMoved old new first (seen_latest op latest) × SeenLeaves old new first (seen_latest op latest) id (reply_told reply) (seen_steps op) (seen_turned names decode op latest reply) × SeenLeaves old new first (seen_latest op latest) id (reply_told reply) (seen_steps op) (op, Done (Err 9))

  got_stored : (old new : State) (id : ℕ) (version : Cached) (value : T) → id < 2 ^ 64 → HasGot names decode old new id version value → IsStored names old.files version
  got_stored old new id version value small g = subst (λ v. IsStored names old.files v) (sym g.version_is) (record { small = small; file = g.got; is_file = g.is_file; bytes = refl })

  seen_move : (old mid new : State) (first latest : List Cached) (id : ℕ) (op : ReadSeenOp T) (reply : Option Reply) → id < 2 ^ 64 → HoldsSeen names decode old mid first latest id op → Replies (seen_asked op) mid reply new → SeenMove old new first latest id op reply
  seen_move old mid new first latest id (Looks sought) reply small (at, same, window) replied =
      let look = asked_look mid new reply replied in
      rw (at, window, look.0) (moved_by 0 old new first first (omega arith) (look_reads old new (look.1 ∙ same)) (grown_none names old.files first), looked old new first id (held id first) refl (look.1 ∙ same), (inr (inr refl), λ e. absurd (omega (arith, e))))
  seen_move old mid new first latest id (Gets sought request) reply small (at, same, window, none, asks) replied =
      let got = asked_get (version_path names id) request old new reply asks (subst (λ m. Replies (Some request) m reply new) same replied) in
      let r = get_reads (version_path names id) None old new got.0 got.2 in
      rw (at, window, got.1) (moved_by 1 old new first first (omega arith) r (grown_none names old.files first), got_seen old new first id request got.0 small none got.2 r, (inr (inr refl), λ e. absurd (omega (arith, e))))
  seen_move old mid new first latest id (Keeps version value) reply small (window, none, g) replied =
      let look = asked_look mid new reply replied in
      let g' : HasGot names decode old new id version value = subst (λ m. HasGot names decode old m id version value) (sym look.1) g in
      let c = g'.calls in
      rw (window, look.0) (record { kept_all = g'.kept; rise = omega (arith, c); most = omega (arith, c); failures = g'.failures; grown = grown_kept names old.files first version first (got_stored old new id version value small g') (grown_none names old.files first) }, kept_seen old new first id version value none g', (inr (inr refl), λ e. absurd (omega (arith, e))))
  seen_move old mid new first latest id Ended reply small at replied = absurd at

  -- where the version is held, no step calls the store
  seen_unasked : (old mid new : State) (first latest : List Cached) (id : ℕ) (op : ReadSeenOp T) (reply : Option Reply) → HoldsSeen names decode old mid first latest id op → Replies (seen_asked op) mid reply new → is_some (held id first) ≡ true → new ≡ old
  seen_unasked old mid new first latest id (Looks sought) reply (at, same, window) replied is = (asked_look mid new reply replied).1 ∙ same
  seen_unasked old mid new first latest id (Gets sought request) reply (at, same, window, none, asks) replied is = absurd (let not : is_some (held id first) ≡ false = ap is_some none in cc)
  seen_unasked old mid new first latest id (Keeps version value) reply (window, none, g) replied is = absurd (let not : is_some (held id first) ≡ false = ap is_some none in cc)
  seen_unasked old mid new first latest id Ended reply at replied is = absurd at

  lifted : {X A : Type 0} (P : X × Turned (Result A ℕ) → Type 0) (lacks : Bool) (old : X) (x : X × Turned (Result A ℕ)) → P (old, Done (Err 9)) → P x → P (unless_lacking lacks old x)
  lifted P true old x err told = err
  lifted P false old x err told = told

  seen_stands : (old new : State) (first latest : List Cached) (id : ℕ) (h : List T) (b : ℕ) → id < 2 ^ 64 → FilesStand names decode old.files h b → WindowFits decode h b first → (o : Option Cached) → held id first ≡ o → (answer : Option T) → IsSeen names decode old new first latest id o answer → b < id → answer ≡ slice_get h (id - 1)
  seen_stands old new first latest id h b small stand fits (Some version) is answer seen above =
      let c = held_fits decode h b id first version fits is in
      let at = c.1 in
      sym seen.0 ∙ (c.0.entry (omega (arith, at, above)) ∙ ap (λ k. slice_get h (k - 1)) at)
  seen_stands old new first latest id h b small stand fits None is None seen above = value_stands old.files h b id stand small None seen.0 above
  seen_stands old new first latest id h b small stand fits None is (Some value) seen above = value_stands old.files h b id stand small (Some value) (seen.0, seen.1, seen.2) above

  module _ (old mid new : State) (first latest latest' : List Cached) (id : ℕ) (op op' : ReadSeenOp T) (r : RunningSeen names decode old mid first latest id op) where
    module _ (told : Turned (Result (Option T) TransactionalObjectError)) (s : IsSeenStep names decode mid new latest latest' op op' told) where
      move : SeenMove old new first latest id op s.reply
      move = seen_move old mid new first latest id op s.reply r.small r.holds s.replied

      abbrev After : ReadSeenOp T × Turned (Result (Option T) ℕ) → Type 0
      After = SeenLeaves old new first (seen_latest op latest) id (reply_told s.reply) (seen_steps op)

      leaves : SeenLeaves old new first latest' id (reply_told s.reply) (seen_steps op) (op', turned_by_number told)
      leaves = subst (λ window. SeenLeaves old new first window id (reply_told s.reply) (seen_steps op) (op', turned_by_number told)) (sym s.left) (subst After (sym s.turned) (lifted After s.lacks op (seen_turned names decode op latest s.reply) move.2 move.1))

      seen_grown : HasGrown names old.files first latest'
      seen_grown = subst (HasGrown names old.files first) (sym s.left) move.0.grown

      seen_spends : Spends 1 0 old new
      seen_spends = let m = move.0 in let l = m.kept_all.left in record { calls_rise = m.rise; calls_most = m.most; failures_rise = m.failures; left_falls = omega (arith, l); left_least = omega (arith, l) }

    pub seen_goes : IsSeenStep names decode mid new latest latest' op op' Goes → RunningSeen names decode old new first latest' id op'
    seen_goes s = record { small = r.small; holds = (leaves Goes s).0 }

    files_on : (result : Result (Option T) TransactionalObjectError) (s : IsSeenStep names decode mid new latest latest' op op' (Done result)) (h : List T) (b : ℕ) → FilesStand names decode old.files h b → FilesStand names decode new.files h b
    files_on result s h b stand = subst (λ f. FilesStand names decode f h b) (sym (move (Done result) s).0.kept_all.files) stand

    pub seen_ends : (result : Result (Option T) TransactionalObjectError) → IsSeenStep names decode mid new latest latest' op op' (Done result) → SeenRead names decode old new first latest' id result
    seen_ends (Ok answer) s = record {
      kept = (move (Done (Ok answer)) s).0.kept_all;
      spends = seen_spends (Done (Ok answer)) s;
      answer = leaves (Done (Ok answer)) s;
      unasked = seen_unasked old mid new first latest id op s.reply r.holds s.replied;
      cause = tt;
      refused = tt;
      grown = seen_grown (Done (Ok answer)) s;
      stands = λ h b stand fits. (files_on (Ok answer) s h b stand, window_stands names decode old.files h b stand first fits latest' (grown_every names old.files first latest' (seen_grown (Done (Ok answer)) s)), seen_stands old new first latest' id h b r.small stand fits (held id first) refl answer (leaves (Done (Ok answer)) s));
    }
    seen_ends (Err error) s = record {
      kept = (move (Done (Err error)) s).0.kept_all;
      spends = seen_spends (Done (Err error)) s;
      answer = tt;
      unasked = seen_unasked old mid new first latest id op s.reply r.holds s.replied;
      cause = cause_of_get old old new (reply_told s.reply) error (omega arith) (leaves (Done (Err error)) s).0 s.store_error;
      refused = (leaves (Done (Err error)) s).1;
      grown = seen_grown (Done (Err error)) s;
      stands = λ h b stand fits. (files_on (Err error) s h b stand, window_stands names decode old.files h b stand first fits latest' (grown_every names old.files first latest' (seen_grown (Done (Err error)) s)), tt);
    }

  pub seen_begins : (store : State) (first : List Cached) (id : ℕ) (op : ReadSeenOp T) → id < 2 ^ 64 → op ≡ Looks id → RunningSeen names decode store store first first id op
  seen_begins store first id op small is = rw is (record { small = small; holds = (refl, refl, refl) })
