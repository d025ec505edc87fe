-- An operation that knows no boundary: it caches none, and over a store without the file of one it goes on to know none.
use Rattle.std.proofs.Common.{◌≡◌, ℕ, ◌==◌, nat_lt, true, false, Option, Some, None, Result, Ok, Err, is_some, inl, inr, refl, sym, ◌∙◌, ap, subst}
use Rattle.std.specs.FinMap.{get}
use Rattle.std.proofs.lemmas.Bool.{cases_Bool}
use Rattle.txn_store.specs.Paths.{Segments}
use Rattle.txn_store.specs.Store.{Files, State as StoreState, Gets, Puts, create_fault}
use Rattle.txn_store.specs.Requests.{Serves}
use Rattle.txn_store.specs.declared.store.Got.{Got}
use Rattle.txn_store.specs.declared.store.PutMode.TheVariants.{Create}
use Rattle.txn_store.specs.declared.store.StoreError.{StoreError}
use Rattle.txn_store.specs.declared.store.StoreError.TheVariants as errors
use Rattle.txn_store.specs.declared.request.Request.{Request}
use Rattle.txn_store.specs.declared.request.Request.TheVariants as requests
use Rattle.txn_store.specs.declared.request.Reply.{Reply}
use Rattle.txn_store.specs.declared.request.Reply.TheVariants as replies
use Rattle.txn_store.proofs.FileLemmas.{get-insert_same}
use Rattle.std.specs.Fmt.{decimal}
use Rattle.txn_steps.specs.declared.boundary.advance.AdvanceOp.{AdvanceOp}
use Rattle.txn_steps.specs.declared.boundary.advance.AdvanceOp.TheVariants as advances
use Rattle.txn_steps.specs.declared.boundary.advance.BoundaryAdvance.{BoundaryAdvance}
use Rattle.txn_steps.specs.declared.boundary.advance.BoundaryAdvance.TheVariants as raising
use Rattle.txn_steps.specs.declared.boundary.boundary_read.BoundaryRead.{BoundaryRead}
use Rattle.txn_steps.specs.declared.boundary.boundary_read.BoundaryRead.TheVariants as reading
use Rattle.txn_steps.specs.declared.boundary.caches.CachedBoundary.{CachedBoundary}
use Rattle.txn_steps.specs.declared.boundary.caches.Caches.{Caches}
use Rattle.txn_steps.specs.declared.boundary.check.BoundaryCheck.{BoundaryCheck}
use Rattle.txn_steps.specs.declared.boundary.check.BoundaryStep.{BoundaryStep}
use Rattle.txn_steps.specs.declared.boundary.check.BoundaryStep.TheVariants as boundary_step
use Rattle.txn_steps.specs.declared.boundary.check.CheckOp.{CheckOp}
use Rattle.txn_steps.specs.declared.boundary.check.CheckOp.TheVariants as checks
use Rattle.txn_steps.specs.declared.boundary.turned.Turned.{Turned}
use Rattle.txn_steps.specs.declared.boundary.turned.Turned.TheVariants.{Goes, Done}
use Rattle.txn_steps.specs.boundary.Advances.{advance_asked, advance_turned, advance_caches, raises_turned}
use Rattle.txn_steps.specs.boundary.Boundaries.{Known, token_of, refused_by, decided}
use Rattle.txn_steps.specs.boundary.BoundaryAdvances.{raise_known, advance_looked, put_answered, advance_read, boundary_advance_asked, boundary_advance_turned, boundary_advance_cached}
use Rattle.txn_steps.specs.boundary.BoundaryChecks.{reads_by, reads_turned as boundary_reads_turned, turned_at, cached_at, asked_at}
use Rattle.txn_steps.specs.boundary.BoundaryReads.{boundary_got, boundary_read_asked, boundary_turned, boundary_cached}
use Rattle.txn_steps.specs.boundary.Checks.{check_asked, check_turned, check_caches, checks_turned as check_told}
use Rattle.txn_steps.specs.declared.delete.DeleteOp.{DeleteOp}
use Rattle.txn_steps.specs.declared.delete.DeleteUncheckedOp.{DeleteUncheckedOp}
use Rattle.txn_steps.specs.declared.delete.DeleteStep.{DeleteStep}
use Rattle.txn_steps.specs.declared.delete.DeleteStep.TheVariants as deletes
use Rattle.txn_steps.specs.declared.read.ReadOp.{ReadOp}
use Rattle.txn_steps.specs.declared.read.ReadOp.TheVariants as reads
use Rattle.txn_steps.specs.declared.write.WriteOp.{WriteOp}
use Rattle.txn_steps.specs.declared.write.WriteStep.{WriteStep}
use Rattle.txn_steps.specs.declared.write.WriteStep.TheVariants as writes
use Rattle.txn_steps.specs.declared.write.WriteUncheckedOp.{WriteUncheckedOp}
use Rattle.txn_steps.specs.Deletes.{checks_turned as delete_told, removes_turned, removal_turned, delete_asked_at, delete_turned_at, delete_caches_at}
use Rattle.txn_steps.specs.Latest.{ReadAnswer}
use Rattle.txn_steps.specs.Reads.{read_caches_after}
use Rattle.txn_steps.specs.Writes.{unchecked_turned, written_turned, checked_turned, write_asked_at, write_turned_at, write_caches_at}
use Rattle.txn_history.specs.Names.{world_boundary}
use Rattle.txn_machine.specs.declared.plain.doing.PlainDoing.{PlainDoing}
use Rattle.txn_machine.specs.declared.plain.doing.PlainDoing.TheVariants as doings
use Rattle.txn_machine.proofs.plain.Faults.{get_same}
use Rattle.txn_machine.proofs.plain.Stands.{get_boundary, raise}
use Rattle.txn_steps_views.specs.declared.claiming.Claiming.{Claiming}
use Rattle.txn_steps_views.specs.declared.claiming.Claiming.TheVariants as claiming
use Rattle.txn_steps_views.specs.declared.entry.EntryOp.{EntryOp}
use Rattle.txn_steps_views.specs.declared.entry.EntryOp.TheVariants as entries
use Rattle.txn_steps_views.specs.declared.op.ViewOp.TheVariants as ops
use Rattle.txn_steps_views.specs.declared.outcome.Outcome.{Outcome}
use Rattle.txn_steps_views.specs.Attempts.{claiming_caches_after}
use Rattle.txn_machine.specs.declared.doing.Doing.{Doing}
use Rattle.txn_machine.specs.declared.doing.Doing.TheVariants as does
use Rattle.txn_machine.specs.declared.doing.Ending.{Ending}
use Rattle.txn_machine.specs.Doing.{caches_after}
use Rattle.txn_world.proofs.finishing.Moves.{IsServed}

-- an operation that knows no boundary

abbrev pub UnheldRead : BoundaryRead → Type 0
UnheldRead (reading.Looks path) = path ≡ world_boundary
UnheldRead (reading.Gets request) = request ≡ get_boundary None
UnheldRead (reading.Holds known) = ⊥

abbrev pub UnheldCheck : CheckOp → Type 0
UnheldCheck (checks.Checks check) = UnheldRead check.read
UnheldCheck (checks.Drops id) = Unit {0}

-- nor has a put of its own come too late
abbrev pub UnheldRaise : BoundaryAdvance → Type 0
UnheldRaise (raising.Looks target) = Unit {0}
UnheldRaise (raising.Reads target true read) = ⊥
UnheldRaise (raising.Reads target false read) = UnheldRead read
UnheldRaise (raising.Puts target request) = request ≡ raise target None
UnheldRaise (raising.Keeps target token) = ⊥

abbrev pub UnheldAdvance : AdvanceOp → Type 0
UnheldAdvance (advances.Raises target raise) = UnheldRaise raise
UnheldAdvance (advances.Drops target) = Unit {0}

abbrev pub UnheldDelete : DeleteStep → DeleteOp → Type 0
UnheldDelete deletes.Checks op = UnheldCheck op.check
UnheldDelete deletes.Removes op = Unit {0}

module _ {T : Type 0} where
  abbrev pub UnheldReads : ReadOp T → Type 0
  UnheldReads (reads.Reads op ahead) = UnheldRead ahead
  UnheldReads (reads.Checks id value check) = UnheldCheck check
  UnheldReads reads.Ended = Unit {0}

  abbrev pub UnheldPlain : PlainDoing T → Type 0
  UnheldPlain (doings.Write op) = UnheldCheck op.check
  UnheldPlain (doings.WriteUnchecked op) = Unit {0}
  UnheldPlain (doings.Read read) = UnheldReads read
  UnheldPlain (doings.ReadUnchecked op) = Unit {0}
  UnheldPlain (doings.ReadSeen op) = Unit {0}
  UnheldPlain (doings.ListIds op) = Unit {0}
  UnheldPlain (doings.Delete op) = UnheldDelete op.step op
  UnheldPlain (doings.Check check) = UnheldCheck check
  UnheldPlain (doings.Advance op) = UnheldAdvance op
  UnheldPlain doings.Ended = Unit {0}

  abbrev pub UnheldEntry : EntryOp T → Type 0
  UnheldEntry (entries.Writes write value) = UnheldCheck write.check
  UnheldEntry entries.Ended = Unit {0}

  abbrev pub UnheldClaim : Claiming T → Type 0
  UnheldClaim (claiming.Writes write value epoch) = UnheldCheck write.check
  UnheldClaim (claiming.Reads read) = UnheldReads read
  UnheldClaim claiming.Ended = Unit {0}

  abbrev pub Unheld : Doing T → Type 0
  Unheld (does.Plain doing) = UnheldPlain doing
  Unheld (does.View (ops.Reads op)) = UnheldReads op.read
  Unheld (does.View (ops.Enters op)) = UnheldEntry op
  Unheld (does.View (ops.Claims op)) = UnheldClaim op.claiming

-- it caches none

read_keeps : (read : BoundaryRead) (cached : Option CachedBoundary) → cached ≡ None → UnheldRead read → boundary_cached read cached ≡ None
read_keeps (reading.Looks path) cached e h = e
read_keeps (reading.Gets request) cached e h = e
read_keeps (reading.Holds known) cached e h = absurd h

check_keeps_at : (step : BoundaryStep) (read : BoundaryRead) (cached : Option CachedBoundary) → cached ≡ None → UnheldRead read → cached_at step read cached ≡ None
check_keeps_at boundary_step.Looks read cached e h = e
check_keeps_at boundary_step.Reads read cached e h = read_keeps read cached e h

check_keeps : (check : CheckOp) (caches : Caches) → caches.boundary ≡ None → UnheldCheck check → (check_caches check caches).boundary ≡ None
check_keeps (checks.Checks check) caches e h = check_keeps_at check.step check.read caches.boundary e h
check_keeps (checks.Drops id) caches e h = e

raise_keeps : (op : BoundaryAdvance) (cached : Option CachedBoundary) → cached ≡ None → UnheldRaise op → boundary_advance_cached op cached ≡ None
raise_keeps (raising.Looks target) cached e h = e
raise_keeps (raising.Reads target true read) cached e h = absurd h
raise_keeps (raising.Reads target false read) cached e h = read_keeps read cached e h
raise_keeps (raising.Puts target request) cached e h = e
raise_keeps (raising.Keeps target token) cached e h = absurd h

advance_keeps : (op : AdvanceOp) (caches : Caches) → caches.boundary ≡ None → UnheldAdvance op → (advance_caches op caches).boundary ≡ None
advance_keeps (advances.Raises target raise) caches e h = raise_keeps raise caches.boundary e h
advance_keeps (advances.Drops target) caches e h = e

write_keeps : (step : WriteStep) (op : WriteOp) (caches : Caches) → caches.boundary ≡ None → UnheldCheck op.check → (write_caches_at step op caches).boundary ≡ None
write_keeps writes.Writes op caches e h = e
write_keeps writes.Checks op caches e h = check_keeps op.check caches e h

delete_keeps : (step : DeleteStep) (op : DeleteOp) (caches : Caches) → caches.boundary ≡ None → UnheldDelete step op → (delete_caches_at step op caches).boundary ≡ None
delete_keeps deletes.Checks op caches e h = check_keeps op.check caches e h
delete_keeps deletes.Removes op caches e h = e

module _ {T : Type 0} where
  reads_keep : (read : ReadOp T) (caches : Caches) (told : Turned (ReadAnswer T)) → caches.boundary ≡ None → UnheldReads read → (read_caches_after read caches told).boundary ≡ None
  reads_keep (reads.Reads op ahead) caches told e h = e
  reads_keep (reads.Checks id value check) caches told e h = check_keeps check caches e h
  reads_keep reads.Ended caches told e h = e

  claim_keeps : (op : Claiming T) (caches : Caches) (told : Turned (Result (Outcome T) ℕ)) → caches.boundary ≡ None → UnheldClaim op → (claiming_caches_after op caches told).boundary ≡ None
  claim_keeps (claiming.Writes write value epoch) caches told e h = write_keeps write.step write caches e h
  claim_keeps (claiming.Reads read) caches told e h = reads_keep read caches _ e h
  claim_keeps claiming.Ended caches told e h = e

  pub any_keeps : (doing : Doing T) (caches : Caches) (ending : Option (Ending T)) → caches.boundary ≡ None → Unheld doing → (caches_after doing caches ending).boundary ≡ None
  any_keeps (does.Plain (doings.Write op)) caches ending e h = write_keeps op.step op caches e h
  any_keeps (does.Plain (doings.WriteUnchecked op)) caches ending e h = e
  any_keeps (does.Plain (doings.Read read)) caches ending e h = reads_keep read caches _ e h
  any_keeps (does.Plain (doings.ReadUnchecked op)) caches ending e h = e
  any_keeps (does.Plain (doings.ReadSeen op)) caches ending e h = e
  any_keeps (does.Plain (doings.ListIds op)) caches ending e h = e
  any_keeps (does.Plain (doings.Delete op)) caches ending e h = delete_keeps op.step op caches e h
  any_keeps (does.Plain (doings.Check check)) caches ending e h = check_keeps check caches e h
  any_keeps (does.Plain (doings.Advance op)) caches ending e h = advance_keeps op caches e h
  any_keeps (does.Plain doings.Ended) caches ending e h = e
  any_keeps (does.View (ops.Reads op)) caches ending e h = reads_keep op.read caches _ e h
  any_keeps (does.View (ops.Enters (entries.Writes write value))) caches ending e h = write_keeps write.step write caches e h
  any_keeps (does.View (ops.Enters entries.Ended)) caches ending e h = e
  any_keeps (does.View (ops.Claims op)) caches ending e h = claim_keeps op.claiming caches _ e h

-- what it makes of a look or a reply, over a store without the file before and after

abbrev pub ReadTold : BoundaryRead × Turned (Result Known ℕ) → Type 0
ReadTold (read, Goes) = UnheldRead read
ReadTold (read, Done (Ok known)) = known.1 ≡ None
ReadTold (read, Done (Err number)) = Unit {0}

abbrev pub CheckTold : CheckOp × Turned (Result (Unit {0}) ℕ) → Type 0
CheckTold (check, Goes) = UnheldCheck check
CheckTold (check, Done answer) = Unit {0}

abbrev pub RaiseTold : BoundaryAdvance × Turned (Result (Unit {0}) ℕ) → Type 0
RaiseTold (op, Goes) = UnheldRaise op
RaiseTold (op, Done answer) = Unit {0}

abbrev pub AdvanceTold : AdvanceOp × Turned (Result (Unit {0}) ℕ) → Type 0
AdvanceTold (op, Goes) = UnheldAdvance op
AdvanceTold (op, Done answer) = Unit {0}

abbrev pub WriteTold : WriteOp × Turned (Result ℕ ℕ) → Type 0
WriteTold (op, Goes) = UnheldCheck op.check
WriteTold (op, Done answer) = Unit {0}

abbrev pub DeleteTold : DeleteOp × Turned (Result (Unit {0}) ℕ) → Type 0
DeleteTold (op, Goes) = UnheldDelete op.step op
DeleteTold (op, Done answer) = Unit {0}

refused_told : (id number : ℕ) (check : BoundaryCheck) → CheckTold (check_told id (check, Done (Err number)))
refused_told id number check = elim (cases_Bool (number == 5)) [ inl five ↦ rw five tt | inr other ↦ rw other tt ]

decided_told : (id : ℕ) (op check : BoundaryCheck) (known : Known) → CheckTold (check_told id (check, Done (decided op.id (Ok known))))
decided_told id op check known = elim (cases_Bool (nat_lt known.0 op.id)) [ inl less ↦ rw less tt | inr not ↦ rw not tt ]

reads_told : (id : ℕ) (op : BoundaryCheck) (told : BoundaryRead × Turned (Result Known ℕ)) → ReadTold told → CheckTold (check_told id (boundary_reads_turned op told))
reads_told id op (read, Goes) h = h
reads_told id op (read, Done (Ok known)) h = decided_told id op (reads_by op read) known
reads_told id op (read, Done (Err number)) h = refused_told id number (reads_by op read)

known_told : (op : BoundaryAdvance) (target : ℕ) (known : Known) → known.1 ≡ None → RaiseTold (raise_known world_boundary op target known)
known_told op target known h = elim (cases_Bool (nat_lt known.0 target)) [ inl less ↦ rw less (ap (raise target) h) | inr not ↦ rw not tt ]

looked_told : (op : BoundaryAdvance) (target : ℕ) (cached : Option CachedBoundary) → cached ≡ None → RaiseTold (advance_looked world_boundary op target cached)
looked_told op target None e = refl
looked_told op target (Some known) e = cc

raised_told : (target : ℕ) (told : BoundaryAdvance × Turned (Result (Unit {0}) ℕ)) → RaiseTold told → AdvanceTold (raises_turned target told)
raised_told target (raise, Goes) h = h
raised_told target (raise, Done (Ok done)) h = tt
raised_told target (raise, Done (Err number)) h = tt

written_told : (op : WriteOp) (told : WriteUncheckedOp × Turned (Result ℕ ℕ)) → UnheldCheck op.check → WriteTold (written_turned op told)
written_told op (write, Goes) h = h
written_told op (write, Done (Ok id)) h = h
written_told op (write, Done (Err number)) h = tt

checked_told : (op : WriteOp) (told : CheckOp × Turned (Result (Unit {0}) ℕ)) → CheckTold told → WriteTold (checked_turned op told)
checked_told op (check, Goes) h = h
checked_told op (check, Done (Ok accepted)) h = tt
checked_told op (check, Done (Err number)) h = tt

delete_checked : (op : DeleteOp) (told : CheckOp × Turned (Result (Unit {0}) ℕ)) → op.step ≡ deletes.Checks → CheckTold told → DeleteTold (delete_told op told)
delete_checked op (check, Goes) e h = rw e h
delete_checked op (check, Done (Ok accepted)) e h = tt
delete_checked op (check, Done (Err number)) e h = elim (cases_Bool (number == 5)) [ inl five ↦ rw five tt | inr other ↦ rw other tt ]

delete_removed : (op : DeleteOp) (told : DeleteUncheckedOp × Turned (Result (Unit {0}) ℕ)) → op.step ≡ deletes.Removes → DeleteTold (removes_turned op told)
delete_removed op (removal, Goes) e = rw e tt
delete_removed op (removal, Done answer) e = tt

-- a create where there is no file is not refused
pub create_fair : (found : Option Got) (error : StoreError) → found ≡ None → create_fault found ≡ Some error → ⊥
create_fair None error e fault = cc
create_fair (Some got) error e fault = cc

module _ (store new : StoreState) (none : get store.files world_boundary ≡ None) (still : get new.files world_boundary ≡ None) where
  got_told : (op : BoundaryRead) (answer : Result Got StoreError) → Gets world_boundary None store answer new → ReadTold (boundary_got op answer)
  got_told op (Ok got) s = absurd (let clash : None ≡ Some got = sym none ∙ s.found in cc)
  got_told op (Err errors.NotFound) s = refl
  got_told op (Err errors.NotModified) s = absurd (let same = get_same None (get store.files world_boundary) s.err.0 in let clash : None ≡ Some same.got.token = same.sent in cc)
  got_told op (Err errors.Failed) s = tt
  got_told op (Err errors.NoMemory) s = tt
  got_told op (Err errors.TokensExhausted) s = tt
  got_told op (Err errors.AlreadyExists) s = tt
  got_told op (Err errors.Precondition) s = tt

  -- a put that is done leaves the file, and one that is none of an update does not come too late
  put_told : (target : ℕ) (request : Request) (answer : Result ℕ StoreError) → Puts world_boundary (decimal target) Create store answer new → RaiseTold (put_answered world_boundary (raising.Puts target request) target answer)
  put_told target request (Ok token) s =
      absurd (
      let stands : is_some (get new.files world_boundary) ≡ true = ap is_some (ap (λ (files : Files). get files world_boundary) s.placed.files ∙ get-insert_same store.files world_boundary (record { bytes = decimal target; token = token })) in
      let clash : true ≡ false = sym stands ∙ ap is_some still in
      cc
      )
  put_told target request (Err errors.AlreadyExists) s = absurd (create_fair (get store.files world_boundary) errors.AlreadyExists none s.err.0)
  put_told target request (Err errors.Precondition) s = absurd (create_fair (get store.files world_boundary) errors.Precondition none s.err.0)
  put_told target request (Err errors.NotFound) s = tt
  put_told target request (Err errors.NotModified) s = tt
  put_told target request (Err errors.Failed) s = tt
  put_told target request (Err errors.NoMemory) s = tt
  put_told target request (Err errors.TokensExhausted) s = tt

  module _ (reply : Option Reply) where
    read_turns : (read : BoundaryRead) (cached : Option CachedBoundary) → cached ≡ None → UnheldRead read → IsServed (boundary_read_asked read) reply store new → ReadTold (boundary_turned read cached reply)
    read_turns (reading.Looks path) cached e h serves = ap (λ (p : Segments). requests.Get p (token_of cached)) h ∙ ap (λ (c : Option CachedBoundary). requests.Get world_boundary (token_of c)) e
    read_turns (reading.Gets request) cached e h serves = by reply serves
      where
        by : (r : Option Reply) → IsServed (Some request) r store new → ReadTold (boundary_turned (reading.Gets request) cached r)
        by (Some (replies.Get answer)) served = got_told (reading.Gets request) answer (subst (λ (r : Request). Serves r store (replies.Get answer) new) h (served request (replies.Get answer) refl refl))
        by (Some (replies.Put answer)) served = h
        by (Some (replies.List answer)) served = h
        by (Some (replies.Delete answer)) served = h
        by None served = h
    read_turns (reading.Holds known) cached e h serves = absurd h

    check_turns_at : (step : BoundaryStep) (op : BoundaryCheck) (cached : Option CachedBoundary) → cached ≡ None → UnheldRead op.read → IsServed (asked_at step op.read) reply store new → CheckTold (check_told op.id (turned_at step op cached reply))
    check_turns_at boundary_step.Looks op cached e h serves = elim (cases_Bool (refused_by op.id cached)) [ inl refused ↦ rw refused tt | inr open' ↦ rw open' h ]
    check_turns_at boundary_step.Reads op cached e h serves = reads_told op.id op (boundary_turned op.read cached reply) (read_turns op.read cached e h serves)

    pub check_turns : (check : CheckOp) (caches : Caches) → caches.boundary ≡ None → UnheldCheck check → IsServed (check_asked check) reply store new → CheckTold (check_turned check caches reply)
    check_turns (checks.Checks check) caches e h serves = check_turns_at check.step check caches.boundary e h serves
    check_turns (checks.Drops id) caches e h serves = tt

    after_told : (target : ℕ) (told : BoundaryRead × Turned (Result Known ℕ)) → ReadTold told → RaiseTold (advance_read world_boundary target false told)
    after_told target (read, Goes) h = h
    after_told target (read, Done (Ok known)) h = known_told (raising.Reads target false read) target known h
    after_told target (read, Done (Err number)) h = tt

    raise_turns : (op : BoundaryAdvance) (cached : Option CachedBoundary) → cached ≡ None → UnheldRaise op → IsServed (boundary_advance_asked op) reply store new → RaiseTold (boundary_advance_turned world_boundary op cached reply)
    raise_turns (raising.Looks target) cached e h serves = looked_told (raising.Looks target) target cached e
    raise_turns (raising.Reads target true read) cached e h serves = absurd h
    raise_turns (raising.Reads target false read) cached e h serves = after_told target (boundary_turned read cached reply) (read_turns read cached e h serves)
    raise_turns (raising.Puts target request) cached e h serves = by reply serves
      where
        by : (r : Option Reply) → IsServed (Some request) r store new → RaiseTold (boundary_advance_turned world_boundary (raising.Puts target request) cached r)
        by (Some (replies.Put answer)) served = put_told target request answer (subst (λ (r : Request). Serves r store (replies.Put answer) new) h (served request (replies.Put answer) refl refl))
        by (Some (replies.Get answer)) served = h
        by (Some (replies.List answer)) served = h
        by (Some (replies.Delete answer)) served = h
        by None served = h
    raise_turns (raising.Keeps target token) cached e h serves = absurd h

    pub advance_turns : (op : AdvanceOp) (caches : Caches) → caches.boundary ≡ None → UnheldAdvance op → IsServed (advance_asked op) reply store new → AdvanceTold (advance_turned world_boundary op caches reply)
    advance_turns (advances.Raises target raise) caches e h serves = raised_told target (boundary_advance_turned world_boundary raise caches.boundary reply) (raise_turns raise caches.boundary e h serves)
    advance_turns (advances.Drops target) caches e h serves = tt

    pub write_turns : (step : WriteStep) (op : WriteOp) (caches : Caches) → caches.boundary ≡ None → UnheldCheck op.check → IsServed (write_asked_at step op) reply store new → WriteTold (write_turned_at step op caches reply)
    write_turns writes.Writes op caches e h serves = written_told op (unchecked_turned op.write reply) h
    write_turns writes.Checks op caches e h serves = checked_told op (check_turned op.check caches reply) (check_turns op.check caches e h serves)

    pub delete_turns : (step : DeleteStep) (op : DeleteOp) (caches : Caches) → op.step ≡ step → caches.boundary ≡ None → UnheldDelete step op → IsServed (delete_asked_at step op) reply store new → DeleteTold (delete_turned_at step op caches reply)
    delete_turns deletes.Checks op caches is e h serves = delete_checked op (check_turned op.check caches reply) is (check_turns op.check caches e h serves)
    delete_turns deletes.Removes op caches is e h serves = delete_removed op (removal_turned op.removal reply) is
