-- A claim that runs alone: two attempts at most, where all stood.
use Rattle.std.proofs.Common.{◌≡◌, ◌⊎◌, ℕ, ◌+◌, ◌-◌, ◌*◌, ◌^◌, ◌<◌, ◌≤◌, ◌==◌, if◌then◌else◌, nat_le, Bool, true, false, List, [], ◌∷◌, ◌++◌, length, slice_get, Option, Some, None, IfSome, Result, Ok, Err, refl, sym, ap, subst, ◌∙◌, inl, inr, arith}
use Rattle.txn_store.specs.Paths.{Segments}
use Rattle.txn_store.specs.VersionName.{Names, version_path}
use Rattle.txn_store.specs.Store.{State}
use Rattle.txn_store.specs.types.Errors.{error_number}
use Rattle.txn_store.specs.types.Numbers.{number_of}
use Rattle.txn_store.specs.types.Epochs.{claimed_epoch}
use Rattle.txn_store.specs.declared.types.error.TransactionalObjectError.{TransactionalObjectError}
use Rattle.txn_store.specs.declared.types.error.TransactionalObjectError.TheVariants as kinds
use Rattle.txn_steps.specs.declared.boundary.caches.Cached.{Cached}
use Rattle.txn_steps.specs.declared.boundary.caches.Caches.{Caches}
use Rattle.txn_steps.specs.declared.boundary.turned.Turned.{Turned}
use Rattle.txn_steps.specs.declared.boundary.turned.Turned.TheVariants.{Goes, Done}
use Rattle.txn_steps.specs.boundary.Steps.{by_number}
use Rattle.txn_steps.specs.boundary.Windows.{Ascends, greatest_held, held, kept_beside}
use Rattle.txn_steps.proofs.boundary.WindowLemmas.{added_ascends, above_ascends}
use Rattle.txn_steps.specs.declared.read.ReadOp.{ReadOp}
use Rattle.txn_steps.specs.declared.write.WriteOp.{WriteOp}
use Rattle.txn_steps.specs.Reads.{read_started}
use Rattle.txn_steps.specs.Writes.{write_started}
use Rattle.txn_steps_driven.specs.Calls.{HasCause}
use Rattle.txn_steps_driven.specs.DriveRuns.{Scene, GoesOn, Drives}
use Rattle.txn_steps_driven.specs.DriveSteps.{WriteSteps, ReadSteps}
use Rattle.txn_steps_laws.specs.DrivenChecks.{checked_latest}
use Rattle.txn_steps_laws.specs.DrivenReads.{AllStand, IsNewest, NewestRead}
use Rattle.txn_steps_laws.specs.DrivenWrites.{WriteFailed, WriteChecked}
use Rattle.txn_steps_driven.specs.LatestReads.{IsLatest}
use Rattle.txn_steps_driven.specs.PageCount.{pages_below}
use Rattle.txn_steps_driven.specs.WriteRuns.{WriteLeaves}
use Rattle.txn_steps_driven.proofs.DriveLemmas.{after_steps, Since, since_now, since_goes}
use Rattle.txn_steps_laws.proofs.DrivenRead.{read_driven}
use Rattle.txn_steps_laws.proofs.DrivenWrite.{checked_write_driven}
use Rattle.txn_steps_driven.proofs.PageCounts.{pages_written}
use Rattle.txn_steps_driven.proofs.Refusals.{error_is}
use Rattle.txn_steps_driven.proofs.Windows.{greatest_fits}
use Rattle.txn_steps_views.specs.declared.claiming.Claiming.{Claiming}
use Rattle.txn_steps_views.specs.declared.claiming.Claiming.TheVariants.{Writes, Reads, Ended}
use Rattle.txn_steps_views.specs.declared.outcome.Outcome.{Outcome}
use Rattle.txn_steps_views.specs.Attempts.{attempted, attempted_again, IsMade}
use Rattle.txn_steps_laws.specs.Claimed.{IsAt, NotClaimed, HasCauseOfClaim, ClaimStood, ClaimRan}
use Rattle.txn_steps_laws.specs.ClaimLaws.{Begun, NotBegun, begun, not_begun}
use Rattle.txn_steps_laws.specs.ClaimLayers.{HeldAs, AttemptLed, EndsRead, ReadLed, ClaimLed, claim_led}
use Rattle.txn_steps_laws.specs.ClaimSteps.{AttemptStepped}
use Rattle.txn_steps_laws.specs.Entering.{IsApart, HasCauseOfEntry, EntryStood, EntryAnswers}
use Rattle.txn_steps_laws.specs.Layers.{part_of}
use Rattle.txn_steps_laws.proofs.EntryRuns.{cause_since, write_answers, write_spends}
use Rattle.txn_steps_laws.specs.Seen.{entry_seen, seen_as}

-- what a checked write leaves of the window ascends

kept_ascends_by : (same : Option Cached) (version : Cached) (latest : List Cached) → held version.id latest ≡ same → Ascends latest → Ascends (kept_beside same version latest)
kept_ascends_by (Some same) version latest is ascending = ascending
kept_ascends_by None version latest is ascending = added_ascends version latest ascending is

checked_ascends : (id : ℕ) (checked : Result (Unit {0}) TransactionalObjectError) (latest : List Cached) → Ascends latest → Ascends (checked_latest id checked latest)
checked_ascends id (Ok accepted) latest ascending = ascending
checked_ascends id (Err kinds.ObjectVersionExists) latest ascending = above_ascends id latest ascending
checked_ascends id (Err error) latest ascending = ascending

-- the refusals of a next epoch

claimed_error_next : (last : Bool) (stored : ℕ) (error : TransactionalObjectError) → (if◌then◌else◌ {A = Result ℕ TransactionalObjectError} last (Err kinds.IdExhausted) (Ok (stored + 1))) ≡ Err error → (error ≡ kinds.Fenced) ⊎ (error ≡ kinds.IdExhausted)
claimed_error_next true stored error is = inr (cc)
claimed_error_next false stored error is = absurd (cc)

claimed_error_asked : (low : Bool) (epoch : ℕ) (error : TransactionalObjectError) → (if◌then◌else◌ {A = Result ℕ TransactionalObjectError} low (Err kinds.Fenced) (Ok epoch)) ≡ Err error → (error ≡ kinds.Fenced) ⊎ (error ≡ kinds.IdExhausted)
claimed_error_asked true epoch error is = inl (cc)
claimed_error_asked false epoch error is = absurd (cc)

claimed_error : (asked : Option ℕ) (stored : ℕ) (error : TransactionalObjectError) → claimed_epoch asked stored ≡ Err error → (error ≡ kinds.Fenced) ⊎ (error ≡ kinds.IdExhausted)
claimed_error None stored error is = claimed_error_next (stored == 18446744073709551615) stored error is
claimed_error (Some epoch) stored error is = claimed_error_asked (nat_le epoch stored) epoch error is

-- the newest version is a version
at_latest : {T : Type 0} (h : List T) (id : ℕ) (value : T) → IsLatest h id value → IsAt h id value
at_latest h id value latest = let some = latest.some in let is = latest.id_is in record { positive = omega (arith, some, is); within = omega (arith, is); entry = latest.entry }

latest_at : {T : Type 0} (h : List T) (id : ℕ) (value : T) → IsAt h id value → id ≡ length h → IsLatest h (length h) value
latest_at h id value at is = let positive = at.positive in record { some = omega (arith, positive, is); id_is = refl; entry = subst (λ n. slice_get h (n - 1) ≡ Some value) is at.entry }

-- what a write that was overtaken leaves

module _ {T : Type 0} (names : Names) (decode : List ℕ → Option T) (path : Segments) (page : ℕ) (room : 1 ≤ page) (base : Option ℕ) (bytes : List ℕ) (value : T) (a b : Scene WriteOp) (ascending : Ascends a.caches.latest) where
  abbrev Wrote : Result ℕ TransactionalObjectError → Type 0
  Wrote told = WriteFailed names decode path base bytes value a b told ⊎ WriteChecked names decode path base bytes value a b told

  failed_same : (error : TransactionalObjectError) → (path' : Segments) (id : ℕ) → error ≡ kinds.ObjectVersionExists → WriteLeaves path' bytes id a.store b.store a.caches.latest b.caches.latest (Err error) → b.caches.latest ≡ a.caches.latest
  failed_same kinds.ObjectVersionExists path' id is leaves = leaves.1
  failed_same error path' id is leaves = absurd (cc)

  same_error : (told : Result ℕ TransactionalObjectError) (error : TransactionalObjectError) → told ≡ Err kinds.ObjectVersionExists → told ≡ Err error → error ≡ kinds.ObjectVersionExists
  same_error told error is here = let e : ◌≡◌ {A = Result ℕ TransactionalObjectError} (Err error) (Err kinds.ObjectVersionExists) = sym here ∙ is in cc

  pub conflict_ascends : (told : Result ℕ TransactionalObjectError) → told ≡ Err kinds.ObjectVersionExists → Wrote told → Ascends b.caches.latest
  conflict_ascends told is (inl failed) = subst Ascends (sym (failed_same failed.error (version_path names (number_of base + 1)) (number_of base + 1) (same_error told failed.error is failed.answer_is) failed.written.ends.leaves)) ascending
  conflict_ascends told is (inr done) = subst Ascends (sym done.held) (checked_ascends (number_of base + 1) done.checked done.latest (subst Ascends (sym done.written.ends.leaves.2) (kept_ascends_by (held (number_of base + 1) a.caches.latest) (record { id = number_of base + 1; bytes = bytes }) a.caches.latest refl ascending)))

  pub conflict_pages : (told : Result ℕ TransactionalObjectError) → Wrote told → pages_below names page b.store.files ≤ pages_below names page a.store.files + 1
  conflict_pages told (inl failed) = pages_written names page decode base bytes value a.store b.store a.caches.latest b.caches.latest (Err failed.error) room failed.written
  conflict_pages told (inr done) = subst (λ files. pages_below names page files ≤ pages_below names page a.store.files + 1) (sym done.check.kept.files) (pages_written names page decode base bytes value a.store done.store a.caches.latest done.latest (Ok done.id) room done.written)

module _ {T : Type 0} (names : Names) (path : Segments) (page : ℕ) (room : 1 ≤ page) (encode : T → List ℕ) (decode : List ℕ → Option T) (epoch_of : T → ℕ) (with_epoch : T → ℕ → T) (asked : Option ℕ) (a : Scene (Claiming T)) (apart : IsApart names path) (h : List T) (b : ℕ) where
  abbrev pages : ℕ
  pages = pages_below names page a.store.files

  abbrev Stands : State → Caches → Type 0
  Stands store caches = AllStand names decode path store caches h b

  abbrev Ends : Scene (Claiming T) → Result (Outcome T) TransactionalObjectError → Type 0
  Ends c answer = ClaimStood names decode path epoch_of with_epoch asked page h b a.store c.store c.caches answer

  -- the first attempt, or the second, which is on the newest version
  abbrev Which : ℕ → Scene (Claiming T) → ℕ → Type 0
  Which before s base = ((before ≡ 0) × (s.store ≡ a.store) × Ascends s.caches.latest) ⊎ ((before ≤ 49 + 2 * pages) × (s.store.calls ≤ a.store.calls + 16 + 2 * pages) × (base ≡ length h))

  -- an attempt on a version of the history, as it began
  record Attempt (value : T) (epoch : ℕ) : Type 0 where
    s : Scene (Claiming T)
    base : ℕ
    from : T
    at : IsAt h base from
    next : claimed_epoch asked (epoch_of from) ≡ Ok epoch
    value_is : value ≡ with_epoch from epoch
    own : epoch_of value ≡ epoch
    reads : decode (encode value) ≡ Some value
    small : base + 1 < 2 ^ 64
    stands : Stands s.store s.caches
    failures : a.store.failures ≤ s.store.failures
    before : ℕ
    which : Which before s base

  -- so many steps later
  record Attempting (n : ℕ) (c : Scene (Claiming T)) (write : WriteOp) (value : T) (epoch : ℕ) : Type 0 where
    began : Attempt value epoch
    since : Since WriteSteps (part_of (write_started names path (Some began.base) (encode value)) began.s) began.before n (part_of write c)

  -- the read after the first attempt, as it began
  record ReadBegun : Type 0 where
    s : Scene (Claiming T)
    stands : Stands s.store s.caches
    ascends : Ascends s.caches.latest
    failures : a.store.failures ≤ s.store.failures
    calls : s.store.calls ≤ a.store.calls + 2
    few : pages_below names page s.store.files ≤ pages + 1
    before : ℕ
    early : before ≤ 7

  -- so many steps later
  record Reading (n : ℕ) (c : Scene (Claiming T)) (read : ReadOp T) : Type 0 where
    began : ReadBegun
    since : Since (ReadSteps names path page decode) (part_of (read_started path) began.s) began.before n (part_of read c)

  abbrev At : ℕ → Scene (Claiming T) → Claiming T → Type 0
  At n c (Writes write value epoch) = Attempting n c write value epoch
  At n c (Reads read) = Reading n c read
  At n c Ended = ⊥

  abbrev After : ℕ → Scene (Claiming T) → Turned (Result (Outcome T) TransactionalObjectError) → Type 0
  After n c Goes = At (n + 1) c c.op
  After n c (Done answer) = Ends c answer

  -- an attempt that begins
  attempt_begins : (n : ℕ) (c : Scene (Claiming T)) (id : ℕ) (value : T) → IsAt h id value → Begun names path encode epoch_of with_epoch asked id value c.op → IsMade encode decode epoch_of c.op → Stands c.store c.caches → a.store.failures ≤ c.store.failures → Which n c id → At n c c.op
  attempt_begins n c id value at begin made stands failures which =
      let made' = subst (IsMade encode decode epoch_of) begin.is made in
      let last = made'.last in
      subst (At n c) (sym begin.is) (record {
        began = record {
          s = c;
          base = id;
          from = value;
          at = at;
          next = begin.next;
          value_is = refl;
          own = made'.own;
          reads = made'.reads_back;
          small = last;
          stands = stands;
          failures = failures;
          before = n;
          which = which;
        };
        since = since_now WriteSteps (part_of (write_started names path (Some id) (encode (with_epoch value begin.epoch))) c) n;
      })

  -- a failure since the claim began
  plain_cause : (mid : Scene (Claiming T)) (c : Scene (Claiming T)) (error : TransactionalObjectError) → a.store.failures ≤ mid.store.failures → HasCause mid.store c.store error → HasCauseOfClaim names decode path epoch_of with_epoch asked h a.store c.store error
  plain_cause mid c kinds.Fenced rise cause = absurd cause
  plain_cause mid c kinds.IdExhausted rise cause = absurd cause
  plain_cause mid c error rise cause = cause_since a.store mid.store c.store error rise cause

  module _ (n : ℕ) (x c : Scene (Claiming T)) (write : WriteOp) (value : T) (epoch : ℕ) (at : Attempting n x write value epoch) where
    abbrev start : Scene WriteOp
    start = part_of (write_started names path (Some at.began.base) (encode value)) at.began.s

    wrote : (next : WriteOp) (told : Result ℕ TransactionalObjectError) → WriteSteps (part_of write x) (Done told) (part_of next c) → WriteFailed names decode path (Some at.began.base) (encode value) value start (part_of next c) told ⊎ WriteChecked names decode path (Some at.began.base) (encode value) value start (part_of next c) told
    wrote next told step = checked_write_driven names decode path (Some at.began.base) (encode value) value at.began.reads at.began.small start refl (at.since.k + 1) (Some told) (part_of next c) (at.since.k, part_of write x, omega arith, at.since.on, step)

    soon : at.since.k < 7
    soon = checked_write_driven names decode path (Some at.began.base) (encode value) value at.began.reads at.began.small start refl at.since.k None (part_of write x) at.since.on

    entered : (next : WriteOp) (told : Result ℕ TransactionalObjectError) → WriteSteps (part_of write x) (Done told) (part_of next c) → EntryStood names decode path h b at.began.base value at.began.s.store c.store c.caches (seen_as (entry_seen value) told)
    entered next told step = write_answers names decode path (Some at.began.base) (encode value) value start (part_of next c) at.began.small apart h b at.began.stands at.began.at.within told (wrote next told step)

    on_writing : (next : WriteOp) → WriteSteps (part_of write x) Goes (part_of next c) → c.op ≡ Writes next value epoch → At (n + 1) c c.op
    on_writing next step is =
        subst (At (n + 1) c) (sym is) (record { began = at.began; since = since_goes WriteSteps start (part_of write x) (part_of next c) at.began.before n at.since step })

    -- a conflict leads to the read, but never in the second attempt
    overtaken : (next : WriteOp) → WriteSteps (part_of write x) (Done (Err kinds.ObjectVersionExists)) (part_of next c) → c.op ≡ Reads (read_started path) → At (n + 1) c c.op
    overtaken next step is =
        let stood = (entered next (Err kinds.ObjectVersionExists) step).answers in
        let less = stood.0 in
        let spends = write_spends names decode path (Some at.began.base) (encode value) value start (part_of next c) at.began.small (Err kinds.ObjectVersionExists) (wrote next (Err kinds.ObjectVersionExists) step) in
        let rise = spends.failures_rise in
        let failed = at.began.failures in
        let most = spends.calls_most in
        let count = at.since.count in
        let few = soon in
        elim at.began.which [
          | inl first ↦
              let none = first.0 in
              let same = first.1 in
              let calls : at.began.s.store.calls ≡ a.store.calls = ap (λ (st : State). st.calls) same in
              subst (At (n + 1) c) (sym is) (record {
                began = record {
                  s = c;
                  stands = stood.1;
                  ascends = conflict_ascends names decode path page room (Some at.began.base) (encode value) value start (part_of next c) first.2 (Err kinds.ObjectVersionExists) refl (wrote next (Err kinds.ObjectVersionExists) step);
                  failures = omega (arith, rise, failed);
                  calls = omega (arith, most, calls);
                  few = subst (λ (st : State). pages_below names page c.store.files ≤ pages_below names page st.files + 1) same (conflict_pages names decode path page room (Some at.began.base) (encode value) value start (part_of next c) first.2 (Err kinds.ObjectVersionExists) (wrote next (Err kinds.ObjectVersionExists) step));
                  before = n + 1;
                  early = omega (arith, count, few, none);
                };
                since = since_now (ReadSteps names path page decode) (part_of (read_started path) c) (n + 1);
              })
          | inr second ↦ let last = second.2 in absurd (omega (arith, less, last))
        ]

    few_calls : (next : WriteOp) (told : Result ℕ TransactionalObjectError) → WriteSteps (part_of write x) (Done told) (part_of next c) → c.store.calls ≤ a.store.calls + 18 + 2 * pages
    few_calls next told step =
        let spends = write_spends names decode path (Some at.began.base) (encode value) value start (part_of next c) at.began.small told (wrote next told step) in
        let most = spends.calls_most in
        elim at.began.which [ inl first ↦ let calls : at.began.s.store.calls ≡ a.store.calls = ap (λ (st : State). st.calls) first.1 in omega (arith, most, calls) | inr second ↦ let calls = second.1 in omega (arith, most, calls) ]

    not_claimed : (error : TransactionalObjectError) → (error_number error ≡ 5 → ⊥) → EntryAnswers names decode path h b at.began.base value c.store c.caches (Err error) → NotClaimed names decode path epoch_of with_epoch asked h b c.store c.caches
    not_claimed kinds.ObjectVersionExists other answers = absurd (other refl)
    not_claimed error other (inl stays) = inl stays
    not_claimed error other (inr grown) = inr (at.began.from, epoch, latest_at h at.began.base at.began.from at.began.at grown.0, at.began.next, subst (λ (v : T). AllStand names decode path c.store c.caches (h ++ v ∷ []) b) at.began.value_is grown.1)

    entry_cause : (error : TransactionalObjectError) → (error_number error ≡ 5 → ⊥) → HasCauseOfEntry at.began.s.store c.store error → HasCauseOfClaim names decode path epoch_of with_epoch asked h a.store c.store error
    entry_cause kinds.ObjectVersionExists other cause = absurd (other refl)
    entry_cause error other cause = plain_cause at.began.s c error at.began.failures cause

    held_as : (next : WriteOp) (told : Result ℕ TransactionalObjectError) (answer : Result (Outcome T) TransactionalObjectError) → WriteSteps (part_of write x) (Done told) (part_of next c) → HeldAs value epoch told answer → Ends c answer
    held_as next (Ok id) answer step is =
        let on_base = (entered next (Ok id) step).answers in
        subst (Ends c) (sym is) (record {
          answers = record {
            newest = at.began.from;
            latest = latest_at h at.began.base at.began.from at.began.at on_base.newest;
            next = at.began.next;
            value = at.began.value_is;
            own = at.began.own;
            stands = on_base.stands;
            at = on_base.at;
          };
          cause = tt;
          calls = few_calls next (Ok id) step;
        })
    held_as next (Err error) answer step is =
        let e = entered next (Err error) step in
        subst (Ends c) (sym is.0) (record { answers = not_claimed error is.1 e.answers; cause = entry_cause error is.1 e.cause; calls = few_calls next (Err error) step })

    short : (next : WriteOp) (told : Result ℕ TransactionalObjectError) (answer : Result (Outcome T) TransactionalObjectError) → WriteSteps (part_of write x) (Done told) (part_of next c) → told ≡ Err kinds.ObjectVersionExists → answer ≡ Err kinds.NoMemory → Ends c answer
    short next told answer step is lacks =
        let step' = subst (λ (t : Result ℕ TransactionalObjectError). WriteSteps (part_of write x) (Done t) (part_of next c)) is step in
        let e = entered next (Err kinds.ObjectVersionExists) step' in
        subst (Ends c) (sym lacks) (record { answers = inl e.answers.1; cause = tt; calls = few_calls next told step })

    after_write : (told : Turned (Result (Outcome T) TransactionalObjectError)) → AttemptLed path value epoch (part_of write x) told c → After n c told
    after_write Goes (inl on) = on_writing on.0 on.1 on.2
    after_write Goes (inr over) = overtaken over.0 over.1 over.2
    after_write (Done answer) (next, told, step, inl held) = held_as next told answer step held
    after_write (Done answer) (next, told, step, inr lacks) = short next told answer step lacks.0 lacks.1

  module _ (view : 1 ≤ length h) (n : ℕ) (x c : Scene (Claiming T)) (read : ReadOp T) (at : Reading n x read) where
    abbrev begin : Scene (ReadOp T)
    begin = part_of (read_started path) at.began.s

    small_by : (found : Option Cached) → greatest_held at.began.s.caches.latest ≡ found → IfSome found (λ version. version.id < 2 ^ 64)
    small_by None is = tt
    small_by (Some version) is =
        let carried = greatest_fits decode h b at.began.s.caches.latest version at.began.stands.window is in
        let within = carried.within in
        let fits = at.began.stands.files.fits in
        omega (arith, within, fits)

    was_read : (next : ReadOp T) (told : Result (Option (ℕ × T)) TransactionalObjectError) → ReadSteps names path page decode (part_of read x) (Done told) (part_of next c) → NewestRead names decode path page h b at.began.s.store c.store c.caches told
    was_read next told step = (read_driven names path page room decode begin refl at.began.ascends (small_by (greatest_held at.began.s.caches.latest) refl) (at.since.k + 1) (Some told) (part_of next c) (at.since.k, part_of read x, omega arith, at.since.on, step)).stands h b at.began.stands

    soon_read : at.since.k < 40 + 2 * pages_below names page at.began.s.store.files
    soon_read = read_driven names path page room decode begin refl at.began.ascends (small_by (greatest_held at.began.s.caches.latest) refl) at.since.k None (part_of read x) at.since.on h b at.began.stands

    few_reads : (next : ReadOp T) (told : Result (Option (ℕ × T)) TransactionalObjectError) → ReadSteps names path page decode (part_of read x) (Done told) (part_of next c) → c.store.calls ≤ a.store.calls + 16 + 2 * pages
    few_reads next told step =
        let most = (was_read next told step).calls in
        let calls = at.began.calls in
        let few = at.began.few in
        omega (arith, most, calls, few)

    on_reading : (next : ReadOp T) → ReadSteps names path page decode (part_of read x) Goes (part_of next c) → c.op ≡ Reads next → At (n + 1) c c.op
    on_reading next step is =
        subst (At (n + 1) c) (sym is) (record { began = at.began; since = since_goes (ReadSteps names path page decode) begin (part_of read x) (part_of next c) at.began.before n at.since step })

    -- the second attempt
    again_on : (id : ℕ) (value : T) → IsLatest h id value → Begun names path encode epoch_of with_epoch asked id value c.op → IsMade encode decode epoch_of c.op → Stands c.store c.caches → a.store.failures ≤ c.store.failures → c.store.calls ≤ a.store.calls + 16 + 2 * pages → n + 1 ≤ 49 + 2 * pages → At (n + 1) c c.op
    again_on id value latest begin made stands failures calls early = attempt_begins (n + 1) c id value (at_latest h id value latest) begin made stands failures (inr (early, calls, latest.id_is))

    rises : (next : ReadOp T) (told : Result (Option (ℕ × T)) TransactionalObjectError) → ReadSteps names path page decode (part_of read x) (Done told) (part_of next c) → a.store.failures ≤ c.store.failures
    rises next told step =
        let ended = read_driven names path page room decode begin refl at.began.ascends (small_by (greatest_held at.began.s.caches.latest) refl) (at.since.k + 1) (Some told) (part_of next c) (at.since.k, part_of read x, omega arith, at.since.on, step) in
        let rise = ended.failures_rise in
        let failed = at.began.failures in
        omega (arith, rise, failed)

    found_on : (next : ReadOp T) (found : Option (ℕ × T)) → ReadSteps names path page decode (part_of read x) (Done (Ok found)) (part_of next c) → IsNewest h found → attempted_again names path encode epoch_of with_epoch asked found ≡ Ok c.op → IsMade encode decode epoch_of c.op → At (n + 1) c c.op
    found_on next None step newest again made = absurd (cc)
    found_on next (Some found) step newest again made =
        let soon = soon_read in
        let few = at.began.few in
        let early = at.began.early in
        let count = at.since.count in
        again_on found.0 found.1 newest (begun names path encode epoch_of with_epoch asked found.0 found.1 c.op again) made (was_read next (Ok (Some found)) step).stands (rises next (Ok (Some found)) step) (few_reads next (Ok (Some found)) step) (omega (arith, soon, few, early, count))

    refused_as : (found : ℕ × T) (error blocked : TransactionalObjectError) → IsLatest h found.0 found.1 → claimed_epoch asked (epoch_of found.1) ≡ Err blocked → error_number error ≡ error_number blocked → (blocked ≡ kinds.Fenced) ⊎ (blocked ≡ kinds.IdExhausted) → HasCauseOfClaim names decode path epoch_of with_epoch asked h a.store c.store error
    refused_as found error blocked latest is same (inl fenced) =
        let six : error_number error ≡ 6 = same ∙ ap error_number fenced in
        subst (HasCauseOfClaim names decode path epoch_of with_epoch asked h a.store c.store) (sym (error_is kinds.Fenced error tt six)) (found.1, latest_at h found.0 found.1 (at_latest h found.0 found.1 latest) latest.id_is, is ∙ ap Err fenced)
    refused_as found error blocked latest is same (inr exhausted) =
        let ten : error_number error ≡ 10 = same ∙ ap error_number exhausted in
        subst (HasCauseOfClaim names decode path epoch_of with_epoch asked h a.store c.store) (sym (error_is kinds.IdExhausted error tt ten)) (inl (found.1, latest_at h found.0 found.1 (at_latest h found.0 found.1 latest) latest.id_is, is ∙ ap Err exhausted))

    refused_by : (found : ℕ × T) (error : TransactionalObjectError) (number : ℕ) → IsLatest h found.0 found.1 → error_number error ≡ number → NotBegun names path encode epoch_of with_epoch asked found.0 found.1 number → HasCauseOfClaim names decode path epoch_of with_epoch asked h a.store c.store error
    refused_by found error number latest is (inl blocked) = refused_as found error blocked.0 latest blocked.1 (is ∙ blocked.2) (claimed_error asked (epoch_of found.1) blocked.0 blocked.1)
    refused_by found error number latest is (inr full) =
        let ten : error_number error ≡ 10 = is ∙ full.1 in
        let last = full.0 in
        let newest = latest.id_is in
        subst (HasCauseOfClaim names decode path epoch_of with_epoch asked h a.store c.store) (sym (error_is kinds.IdExhausted error tt ten)) (inr (omega (arith, last, newest)))

    refused : (next : ReadOp T) (found : Option (ℕ × T)) (answer : Result (Outcome T) TransactionalObjectError) (number : ℕ) → ReadSteps names path page decode (part_of read x) (Done (Ok found)) (part_of next c) → IsNewest h found → attempted_again names path encode epoch_of with_epoch asked found ≡ Err number → by_number answer ≡ Err number → Ends c answer
    refused next None answer number step newest again is = let none : length h ≡ 0 = ap length newest in absurd (omega (arith, view, none))
    refused next (Some found) (Ok outcome) number step newest again is = absurd (cc)
    refused next (Some found) (Err error) number step newest again is =
        let same : error_number error ≡ number = cc in
        let calls = few_reads next (Ok (Some found)) step in
        record {
          answers = inl (was_read next (Ok (Some found)) step).stands;
          cause = refused_by found error number newest same (not_begun names path encode epoch_of with_epoch asked found.0 found.1 number again);
          calls = omega (arith, calls);
        }

    read_ended : (next : ReadOp T) (told : Result (Option (ℕ × T)) TransactionalObjectError) (answer : Result (Outcome T) TransactionalObjectError) → ReadSteps names path page decode (part_of read x) (Done told) (part_of next c) → EndsRead names path page encode decode epoch_of with_epoch asked told answer → Ends c answer
    read_ended next (Ok found) answer step (number, again, is) = refused next found answer number step (was_read next (Ok found) step).answer again is
    read_ended next (Err error) answer step is =
        let newest = was_read next (Err error) step in
        let calls = few_reads next (Err error) step in
        subst (Ends c) (sym is) (record { answers = inl newest.stands; cause = plain_cause at.began.s c error at.began.failures newest.cause; calls = omega (arith, calls) })

    after_read : (told : Turned (Result (Outcome T) TransactionalObjectError)) → ReadLed names path page encode decode epoch_of with_epoch asked (part_of read x) told c → IsMade encode decode epoch_of c.op → After n c told
    after_read Goes (inl on) made = on_reading on.0 on.1 on.2
    after_read Goes (inr found) made = found_on found.0 found.1 found.2 (was_read found.0 (Ok found.1) found.2).answer found.3 made
    after_read (Done answer) (next, told, step, ends) made = read_ended next told answer step ends

  module _ (id : ℕ) (object : T) (ascending : Ascends a.caches.latest) (starts : attempted names path encode epoch_of with_epoch asked id object ≡ Ok a.op) (made : IsMade encode decode epoch_of a.op) (stood : Stands a.store a.caches) (view : IsAt h id object) where
    some : 1 ≤ length h
    some = let positive = view.positive in let within = view.within in omega (arith, positive, within)

    after : (n : ℕ) (op : Claiming T) (x c : Scene (Claiming T)) (told : Turned (Result (Outcome T) TransactionalObjectError)) → At n x op → ClaimLed names path page encode decode epoch_of with_epoch asked op x told c → After n c told
    after n (Writes write value epoch) x c told at led = after_write n x c write value epoch at told led
    after n (Reads read) x c told at led = after_read some n x c read at told led.0 led.1
    after n Ended x c told at led = absurd at

    first : At 0 a a.op
    first = attempt_begins 0 a id object view (begun names path encode epoch_of with_epoch asked id object a.op starts) made stood (omega arith) (inl (refl, refl, ascending))

    abbrev Steps : Scene (Claiming T) → Turned (Result (Outcome T) TransactionalObjectError) → Scene (Claiming T) → Type 0
    Steps = AttemptStepped names path page encode decode epoch_of with_epoch asked

    claim_on : (n : ℕ) (c : Scene (Claiming T)) → GoesOn Steps n a c → At n c c.op
    claim_on = after_steps Steps (λ n c. At n c c.op) a first (λ n x c at step. after n x.op x c Goes at (claim_led names path page encode decode epoch_of with_epoch asked x c Goes step))

    soon_ends : (n : ℕ) (c : Scene (Claiming T)) (op : Claiming T) → At n c op → n < 56 + 2 * pages
    soon_ends n c (Writes write value epoch) at =
        let few = soon n c c write value epoch at in
        let count = at.since.count in
        elim at.began.which [ inl first ↦ let none = first.0 in omega (arith, few, count, none) | inr second ↦ let early = second.0 in omega (arith, few, count, early) ]
    soon_ends n c (Reads read) at =
        let few = soon_read some n c c read at in
        let count = at.since.count in
        let early = at.began.early in
        let grown = at.began.few in
        omega (arith, few, count, early, grown)
    soon_ends n c Ended at = absurd at

    pub claim_ran : (steps : ℕ) (answer : Option (Result (Outcome T) TransactionalObjectError)) (c : Scene (Claiming T)) → Drives Steps steps a answer c → ClaimRan names decode path epoch_of with_epoch asked page h b steps a.store answer c.store c.caches
    claim_ran steps None c on = soon_ends steps c c.op (claim_on steps c on)
    claim_ran steps (Some answer) c (n, x, within, on, step) = after n x.op x c (Done answer) (claim_on n x on) (claim_led names path page encode decode epoch_of with_epoch asked x c (Done answer) step)
