-- Each client keeps at most eight versions, with ascending ids.
use Rattle.std.proofs.Common.{◌≡◌, ℕ, zero, suc, ◌+◌, ◌-◌, ◌≤◌, List, [], ◌∷◌, length, filter, set, slice_get, replicate, not, nat_lt, ◌==◌, Bool, true, false, Option, Some, None, Ok, Err, inl, inr, refl, sym, subst, arith}
use Rattle.std.proofs.lemmas.Bool.{cases_Bool, ltb-true}
use Rattle.std.proofs.lemmas.Option.{same_Some}
use Rattle.txn_steps.specs.declared.boundary.caches.Cached.{Cached}
use Rattle.txn_steps.specs.declared.boundary.caches.Caches.{Caches}
use Rattle.txn_steps.specs.declared.boundary.check.CheckOp.{CheckOp}
use Rattle.txn_steps.specs.declared.boundary.check.CheckOp.TheVariants as checks
use Rattle.txn_steps.specs.declared.boundary.advance.AdvanceOp.{AdvanceOp}
use Rattle.txn_steps.specs.declared.boundary.advance.AdvanceOp.TheVariants as advances
use Rattle.txn_steps.specs.declared.boundary.turned.Turned.{Turned}
use Rattle.txn_steps.specs.declared.boundary.turned.Turned.TheVariants.{Goes, Done}
use Rattle.txn_steps.specs.boundary.Windows.{held, placed, replaced, kept_beside, kept, without, above}
use Rattle.txn_steps.specs.boundary.Checks.{check_caches}
use Rattle.txn_steps.specs.boundary.Advances.{advance_caches}
use Rattle.txn_steps.proofs.boundary.WindowLemmas.{without_ascends, above_ascends, added_ascends}
use Rattle.txn_steps.specs.declared.write.WriteUncheckedOp.{WriteUncheckedOp}
use Rattle.txn_steps.specs.declared.write.WriteUncheckedOp.TheVariants as unchecked
use Rattle.txn_steps.specs.declared.write.WriteStep.{WriteStep}
use Rattle.txn_steps.specs.declared.write.WriteStep.TheVariants as writes
use Rattle.txn_steps.specs.declared.write.WriteOp.{WriteOp}
use Rattle.txn_steps.specs.declared.latest.LatestOp.{LatestOp}
use Rattle.txn_steps.specs.declared.latest.LatestOp.TheVariants as latest
use Rattle.txn_steps.specs.declared.read.ReadOp.{ReadOp}
use Rattle.txn_steps.specs.declared.read.ReadOp.TheVariants as reads
use Rattle.txn_steps.specs.declared.seen.ReadSeenOp.{ReadSeenOp}
use Rattle.txn_steps.specs.declared.seen.ReadSeenOp.TheVariants as seen
use Rattle.txn_steps.specs.declared.delete.RemovalStep.{RemovalStep}
use Rattle.txn_steps.specs.declared.delete.RemovalStep.TheVariants as removals
use Rattle.txn_steps.specs.declared.delete.DeleteStep.{DeleteStep}
use Rattle.txn_steps.specs.declared.delete.DeleteStep.TheVariants as deletes
use Rattle.txn_steps.specs.declared.delete.DeleteOp.{DeleteOp}
use Rattle.txn_steps.specs.Latest.{ReadAnswer, latest_window_after, found_kept}
use Rattle.txn_steps.specs.Reads.{read_caches_after}
use Rattle.txn_steps.specs.Writes.{unchecked_latest, write_caches_at}
use Rattle.txn_steps.specs.SeenSteps.{seen_latest}
use Rattle.txn_steps.specs.Deletes.{removal_latest_at, delete_caches_at}
use Rattle.txn_history.specs.declared.event.PlainAnswer.{PlainAnswer}
use Rattle.txn_history.specs.Trace.{PlainEvent, PlainTold}
use Rattle.txn_history.specs.declared.event.EventOf.TheVariants as events
use Rattle.txn_history.specs.declared.event.Failure.{Failure}
use Rattle.txn_history.specs.declared.event.Failure.TheVariants as failures
use Rattle.txn_history.specs.Lists.{numbered}
use Rattle.txn_machine.specs.declared.plain.doing.PlainDoing.{PlainDoing}
use Rattle.txn_machine.specs.declared.plain.doing.PlainDoing.TheVariants.{Write, WriteUnchecked, Read, ReadUnchecked, ReadSeen, ListIds, Delete, Check, Advance, Ended}
use Rattle.txn_machine.specs.plain.Doing.{said_of, plain_caches_after}
use Rattle.txn_machine.specs.plain.Machine.{State, no_caches, opening, FailsFirst, Takes, Runs, FailsAfter, FailsBy}
use Rattle.txn_machine.specs.plain.Alone.{IsWindow}

-- the rules of a window

placed_more : (version : Cached) (versions : List Cached) → length (placed version versions) ≡ length versions + 1
placed_more version [] = refl
placed_more version (first ∷ versions) = elim (cases_Bool (nat_lt first.id version.id)) [ inl lt ↦ rw lt (let more = placed_more version versions in omega (arith, more)) | inr ge ↦ rw ge (omega arith) ]

replaced_as_many : (version : Cached) (versions : List Cached) → length (replaced version versions) ≡ length versions
replaced_as_many version [] = refl
replaced_as_many version (first ∷ versions) = elim (cases_Bool (nat_lt first.id version.id)) [ inl lt ↦ rw lt (let more = placed_more version versions in omega (arith, more)) | inr ge ↦ rw ge refl ]

kept_few : (same : Option Cached) (version : Cached) (versions : List Cached) → length versions ≤ 8 → length (kept_beside same version versions) ≤ 8
kept_few (Some same) version versions few = few
kept_few None version versions few =
    elim (cases_Bool (nat_lt (length versions) 8)) [
      | inl lt ↦ rw lt (let more = placed_more version versions in let room = ltb-true (length versions) 8 lt in omega (arith, more, room))
      | inr ge ↦ rw ge (let as_many = replaced_as_many version versions in omega (arith, as_many, few))
    ]

kept_ascends : (same : Option Cached) (version : Cached) (versions : List Cached) → held version.id versions ≡ same → IsWindow versions → IsWindow (kept_beside same version versions)
kept_ascends (Some same) version versions e w = w
kept_ascends None version versions e w = record { few = kept_few None version versions w.few; ascending = added_ascends version versions w.ascending e }

kept_window : (version : Cached) (versions : List Cached) → IsWindow versions → IsWindow (kept version versions)
kept_window version versions w = kept_ascends (held version.id versions) version versions refl w

fewer : (p : Cached → Bool) (versions : List Cached) → length (filter p versions) ≤ length versions
fewer p [] = omega arith
fewer p (version ∷ versions) = elim (cases_Bool (p version)) [ inl e ↦ rw e (let less = fewer p versions in omega (arith, less)) | inr e ↦ rw e (let less = fewer p versions in omega (arith, less)) ]

without_window : (id : ℕ) (versions : List Cached) → IsWindow versions → IsWindow (without id versions)
without_window id versions w = record { few = (let less = fewer (λ version. not (version.id == id)) versions in let few = w.few in omega (arith, less, few)); ascending = without_ascends id versions w.ascending }

pub above_window : (id : ℕ) (versions : List Cached) → IsWindow versions → IsWindow (above id versions)
above_window id versions w = record { few = (let less = fewer (λ version. nat_lt id version.id) versions in let few = w.few in omega (arith, less, few)); ascending = above_ascends id versions w.ascending }

-- what operations leave of it

check_window : (check : CheckOp) (caches : Caches) → IsWindow caches.latest → IsWindow (check_caches check caches).latest
check_window (checks.Checks check) caches w = w
check_window (checks.Drops id) caches w = above_window id caches.latest w

advance_window : (advance : AdvanceOp) (caches : Caches) → IsWindow caches.latest → IsWindow (advance_caches advance caches).latest
advance_window (advances.Raises target raise) caches w = w
advance_window (advances.Drops target) caches w = above_window target caches.latest w

unchecked_window : (write : WriteUncheckedOp) (versions : List Cached) → IsWindow versions → IsWindow (unchecked_latest write versions)
unchecked_window (unchecked.Puts version request) versions w = w
unchecked_window (unchecked.Keeps version) versions w = kept_window version versions w
unchecked_window unchecked.Ended versions w = w

pub write_window : (step : WriteStep) (write : WriteOp) (caches : Caches) → IsWindow caches.latest → IsWindow (write_caches_at step write caches).latest
write_window writes.Writes write caches w = unchecked_window write.write caches.latest w
write_window writes.Checks write caches w = check_window write.check caches w

removal_window : (step : RemovalStep) (id : ℕ) (versions : List Cached) → IsWindow versions → IsWindow (removal_latest_at step id versions)
removal_window removals.Removes id versions w = w
removal_window removals.Drops id versions w = without_window id versions w

delete_window : (step : DeleteStep) (delete : DeleteOp) (caches : Caches) → IsWindow caches.latest → IsWindow (delete_caches_at step delete caches).latest
delete_window deletes.Checks delete caches w = check_window delete.check caches w
delete_window deletes.Removes delete caches w = removal_window delete.removal.step delete.removal.id caches.latest w

module _ {T : Type 0} where
  found_window : (versions : List Cached) (successor : Cached) (said : Turned (ReadAnswer T)) → IsWindow versions → IsWindow (found_kept versions successor said)
  found_window versions successor Goes w = kept_window successor versions w
  found_window versions successor (Done (Ok answer)) w = kept_window successor versions w
  found_window versions successor (Done (Err number)) w = w

  latest_window : (read : LatestOp T) (versions : List Cached) (said : Turned (ReadAnswer T)) → IsWindow versions → IsWindow (latest_window_after read versions said)
  latest_window latest.Looks versions said w = w
  latest_window (latest.Probes hand found next request) versions said w = w
  latest_window (latest.Finds successor found) versions said w = found_window versions successor said w
  latest_window (latest.Lists found request) versions said w = w
  latest_window (latest.Chooses greatest) versions said w = w
  latest_window (latest.Gets id request) versions said w = w
  latest_window (latest.Keeps version value) versions said w = kept_window version versions w
  latest_window (latest.Drops id) versions said w = above_window id versions w
  latest_window latest.Ended versions said w = w

  pub read_window : (read : ReadOp T) (caches : Caches) (said : Turned (ReadAnswer T)) → IsWindow caches.latest → IsWindow (read_caches_after read caches said).latest
  read_window (reads.Reads latest boundary) caches said w = latest_window latest caches.latest said w
  read_window (reads.Checks id value check) caches said w = check_window check caches w
  read_window reads.Ended caches said w = w

  seen_window : (read : ReadSeenOp T) (versions : List Cached) → IsWindow versions → IsWindow (seen_latest read versions)
  seen_window (seen.Looks id) versions w = w
  seen_window (seen.Gets id request) versions w = w
  seen_window (seen.Keeps version value) versions w = kept_window version versions w
  seen_window seen.Ended versions w = w

  pub left_window : (doing : PlainDoing T) (caches : Caches) (answer : Option (PlainAnswer T)) → IsWindow caches.latest → IsWindow (plain_caches_after doing caches answer).latest
  left_window (Write write) caches answer w = write_window write.step write caches w
  left_window (WriteUnchecked write) caches answer w = unchecked_window write caches.latest w
  left_window (Read read) caches answer w = read_window read caches (said_of answer) w
  left_window (ReadUnchecked read) caches answer w = w
  left_window (ReadSeen read) caches answer w = seen_window read caches.latest w
  left_window (ListIds list) caches answer w = w
  left_window (Delete delete) caches answer w = delete_window delete.step delete caches w
  left_window (Check check) caches answer w = check_window check caches w
  left_window (Advance advance) caches answer w = advance_window advance caches w
  left_window Ended caches answer w = w

-- all the clients' windows

abbrev pub AllWindows : List Caches → Type 0
AllWindows [] = Unit {0}
AllWindows (caches ∷ rest) = IsWindow caches.latest × AllWindows rest

pub set_windows : (all : List Caches) (k : ℕ) (caches : Caches) → AllWindows all → IsWindow caches.latest → AllWindows (set all k caches)
set_windows [] k caches h w = h
set_windows (first ∷ rest) zero caches h w = (w, h.1)
set_windows (first ∷ rest) (suc k) caches h w = (h.0, set_windows rest k caches h.1 w)

get_window : (all : List Caches) (k : ℕ) (caches : Caches) → slice_get all k ≡ Some caches → AllWindows all → IsWindow caches.latest
get_window [] k caches e h = cc
get_window (first ∷ rest) zero caches e h = subst (λ (c : Caches). IsWindow c.latest) (same_Some first caches e) h.0
get_window (first ∷ rest) (suc k) caches e h = get_window rest k caches e h.1

pub numbered_window : (all : List Caches) (client : ℕ) (caches : Caches) → numbered all client ≡ Some caches → AllWindows all → IsWindow caches.latest
numbered_window all zero caches e h = cc
numbered_window all (suc client) caches e h = get_window all client caches e h

pub no_window : IsWindow []
no_window = record { few = omega arith; ascending = tt }

pub empty_windows : (clients : ℕ) → AllWindows (replicate clients no_caches)
empty_windows zero = tt
empty_windows (suc clients) = (no_window, empty_windows clients)

module _ {T : Type 0} (encode : T → List ℕ) (decode : List ℕ → Option T) (get_epoch : T → ℕ) where
  abbrev Windowed : State T → Type 0
  Windowed s = AllWindows s.caches

  windowed_as : (old new : State T) → new ≡ old → Windowed old → Windowed new
  windowed_as old new is h = subst Windowed (sym is) h

  -- an operation's client keeps these caches now
  pub left_windows : (all : List Caches) (client : ℕ) (caches after : Caches) → numbered all client ≡ Some caches → AllWindows all → (IsWindow caches.latest → IsWindow after.latest) → AllWindows (set all (client - 1) after)
  left_windows all client caches after e h w = set_windows all (client - 1) after h (w (numbered_window all client caches e h))

  first_windowed : (looses : Bool) (old : State T) (op : ℕ) (said : PlainTold T) (new : State T) → FailsFirst old op said looses new → Windowed old → Windowed new
  first_windowed false old op said new v h = subst Windowed (sym v.state) (left_windows old.caches v.operation.client v.caches v.caches v.acts.kept h (λ w. w))
  first_windowed true old op said new v h = subst Windowed (sym v.state) (left_windows old.caches v.operation.client v.caches v.caches v.acts.kept h (λ w. w))

  fail_windowed : (failure : Failure) (old : State T) (op : ℕ) (said : PlainTold T) (new : State T) → FailsBy FailsFirst FailsAfter old op failure said new → Windowed old → Windowed new
  fail_windowed failures.Before old op said new v h = first_windowed false old op said new v h
  fail_windowed failures.After old op said new v h = subst Windowed (sym v.state) (left_windows old.caches v.call.operation.client v.call.caches v.call.caches v.call.acts.kept h (λ w. w))
  fail_windowed failures.Loose old op said new v h = first_windowed true old op said new v h

  pub takes_windowed : (old : State T) (event : PlainEvent T) (said : PlainTold T) (new : State T) → Takes encode decode get_epoch old event said new → Windowed old → Windowed new
  takes_windowed old (events.Begin client call) said new t h = subst Windowed (sym t.step.state) h
  takes_windowed old (events.Look op) said new t h =
      let v = t.step in
      subst Windowed (sym v.state) (left_windows old.caches v.operation.client v.caches (plain_caches_after v.operation.doing v.caches v.next.1) v.acts.kept h (left_window v.operation.doing v.caches v.next.1))
  takes_windowed old (events.Serve op) said new t h =
      let v = t.step in
      subst Windowed (sym v.state) (left_windows old.caches v.call.operation.client v.call.caches (plain_caches_after v.call.operation.doing v.call.caches v.next.1) v.call.acts.kept h (left_window v.call.operation.doing v.call.caches v.next.1))
  takes_windowed old (events.Fail op failure) said new t h = fail_windowed failure old op said new t.step h
  takes_windowed old (events.GiveUp op) said new t h =
      let v = t.step in
      subst Windowed (sym v.state) (left_windows old.caches v.operation.client v.caches v.caches v.acts.kept h (λ w. w))
  takes_windowed old (events.Land k) said new t h = subst Windowed (sym t.step.state) h
  takes_windowed old (events.Crash client) said new t h = subst Windowed (sym t.step.state) (set_windows old.caches (client - 1) no_caches h no_window)

  pub runs_windowed : (old : State T) (taken : List (PlainEvent T × PlainTold T)) (new : State T) → Runs encode decode get_epoch old taken new → Windowed old → Windowed new
  runs_windowed old [] new r h = windowed_as old new r h
  runs_windowed old (t ∷ taken) new r h = runs_windowed r.0 taken new r.2 (takes_windowed old t.0 t.1 r.0 r.1 h)

  pub opening_windowed : (clients page : ℕ) → Windowed (opening clients page)
  opening_windowed clients page = empty_windows clients
